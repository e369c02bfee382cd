-- The entry of the number that is found for a name is that of the name.
use Rattle.std.proofs.Common.{ℕ, Option, ap, ◌∙◌}
use Rattle.std.specs.Option.{option_and_then}
use Rattle.dir_tree.specs.tree.Numbered.{entry_of}
use Rattle.dir_tree.proofs.TreeTheorems.{entry_of-found}
use Rattle.acdf_filters.proofs.users.entry_named.Goals as goal

pub returns-in-Some : goal.returns-in-Some
returns-in-Some c = record {
  exact =
      c.at.ensures.exact
      ∙ ap (λ (found : Option ℕ). option_and_then (λ id. entry_of id c.args.tree.now) found) c.in-Some.ensures.exact
      ∙ entry_of-found c.args.name.now c.args.tree.now c.entries_form_a_tree.ensures.exact.distinct;
}

pub returns-in-None : goal.returns-in-None
returns-in-None c = record {
  exact =
      ap (λ (found : Option ℕ). option_and_then (λ id. entry_of id c.args.tree.now) found) c.in-None.ensures.exact
      ∙ entry_of-found c.args.name.now c.args.tree.now c.entries_form_a_tree.ensures.exact.distinct;
}
