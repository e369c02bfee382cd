use Rattle.std.proofs.Common.{◌≡◌, ◌+◌, ◌-◌, ◌≤◌, length}
use Rattle.sample_input.specs.Counting.{is_entry, is_hidden, such_in, such_of}
use Rattle.sample_input.proofs.counting.count_found.Given as goal

-- what was counted so far, and what is left, is all; no more was counted than there were turns
abbrev pub invariant-loop-left : goal.invariant-loop-left
invariant-loop-left l = record {
  found : l.counts.found + such_of is_entry (length l.stream - l._left) l.rest ≡ such_in is_entry l.stream;
  hidden : l.counts.hidden + such_of is_hidden (length l.stream - l._left) l.rest ≡ such_in is_hidden l.stream;
  few_found : l.counts.found ≤ l._left;
  few_hidden : l.counts.hidden ≤ l._left;
}
