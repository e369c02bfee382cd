-- The numbers so far, and those of the postings that are left, are all; and there is room.
use Rattle.std.proofs.Common.{◌≡◌, ◌≤◌, ◌++◌, length, map}
use Rattle.value_index.specs.Holders.{most_holders, numbers_under}
use Rattle.value_index.proofs.holders.put_numbers.Given as goal

abbrev pub invariant-loop-posting : goal.invariant-loop-posting
invariant-loop-posting l = record {
  exact : map (λ number. number.0) l.numbers.items ++ map (λ posting. posting.number) l.posting-iterator
      ≡ map (λ number. number.0) l.fn.numbers.items ++ numbers_under l.hash l.postings.keys;
  fits : length l.numbers.items ≤ most_holders;
}
