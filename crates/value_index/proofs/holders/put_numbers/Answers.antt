-- Those of the range are those under the hash.
use Rattle.std.proofs.Common.{rules, ◌≡◌, ◌++◌, List, length, map, sym, ap, ◌∙◌}
use Rattle.std.proofs.lemmas.List.Elements.{filter_agree}
use Rattle.dir_tree.specs.tree.Trees.{most_entries}
use Rattle.value_index.specs.declared.index.Posting.{Posting}
use Rattle.value_index.specs.Holders.{is_under, numbers_under}
use Rattle.value_index.proofs.holders.NumberLemmas.{between-is_under, full-count}
use Rattle.value_index.proofs.holders.put_numbers.Goals as goal

pub loop-posting-init : goal.loop-posting-init
loop-posting-init c =
    let hash = c.args.hash in
    record {
      exact =
          ap (λ (postings : List Posting). map (λ number. number.0) c.args.numbers.now.items ++ map (λ posting. posting.number) postings)
          (c.into_iter-posting-iterator.ensures.into_iter_gives
          ∙ c.range-posting-items.ensures.between tt
          ∙ filter_agree _ (is_under hash) (λ posting. between-is_under hash most_entries posting) c.args.postings.now.keys);
      fits = c.requires.fits;
    }

-- there was one more than there may be
pub returns-then-len-eq-MOST_HOLDERS-clause-full :
    goal.returns-then-len-eq-MOST_HOLDERS-clause-full
returns-then-len-eq-MOST_HOLDERS-clause-full c =
    let numbers = c.loop-posting.numbers.items in
    let full : 128 ≡ length numbers = search rules in
    full-count numbers c.args.numbers.now.items c.in-Some.posting.now c.next.new.self (numbers_under c.args.hash c.args.postings.now.keys)
    (ap (λ (postings : List Posting). map (λ number. number.0) numbers ++ map (λ posting. posting.number) postings) (sym c.in-Some.ensures.steps) ∙ c.loop-posting.invariant.exact)
    128 full
