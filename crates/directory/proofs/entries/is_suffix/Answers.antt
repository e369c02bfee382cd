-- The number is that of the first entry, or of another.
use Rattle.std.proofs.Common.{◌∙◌, sym, ap}
use Rattle.dir_tree.specs.Scope.{is_number}
use Rattle.directory.proofs.entries.EntryLemmas.{is_suffix-number}
use Rattle.directory.proofs.entries.is_suffix.Goals as goal

pub returns-in-Some : goal.returns-in-Some
returns-in-Some c = record {
  exact = ap (is_number c.args.target.number.0) c.in-Some.ensures.exact
      ∙ sym (is_suffix-number c.args.target.number.0 c.args.target.entry.now c.args.tree.now c.entries_form_a_tree.ensures.exact c.requires.found);
}
