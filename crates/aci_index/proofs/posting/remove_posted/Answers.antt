-- The postings of the others stay.
use Rattle.std.proofs.Common.{List, [], sym, subst}
use Rattle.dir_tree.specs.tree.Numbered.{Numbered}
use Rattle.value_index.specs.Hashes.{hashes_of}
use Rattle.value_index.specs.Postings.{IsIndexed}
use Rattle.value_index.proofs.Theorems.{indexed-without, IsDropped-others}
use Rattle.aci_index.proofs.posting.remove_posted.Goals as goal

pub returns-clause-kept : goal.returns-clause-kept
returns-clause-kept c =
    let number = c.args.number.0 in
    let done = c.in_ok-entry.ensures in
    record {
      held = done.held;
      indexed =
          subst (λ (rows : List Numbered). IsIndexed c.forget.new.self rows) (sym done.exact.0.left)
          (indexed-without c.args.index.now c.forget.new.self number c.args.tree.now c.requires.kept.indexed
          (IsDropped-others number (hashes_of c.in_ok-entry.entry) [] c.args.index.now c.forget.new.self c.forget.ensures.exact));
    }
