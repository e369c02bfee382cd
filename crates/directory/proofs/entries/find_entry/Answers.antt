-- The entry of the number that is found for the name.
use Rattle.std.proofs.Common.{◌≡◌, List, Option, Some, None, sym, ap, ◌∙◌}
use Rattle.std.specs.Option.{option_map}
use Rattle.dir_tree.specs.dn_names.name.Names.{RdnSequence}
use Rattle.dir_tree.specs.tree.Numbered.{Numbered, IsNumberedTree, entries_of, entry_of, find_name}
use Rattle.dir_tree.specs.tree.Trees.{named_in}
use Rattle.dir_tree.specs.declared.number.EntryNo.{EntryNo}
use Rattle.dir_tree.proofs.TreeTheorems.{named-found, named-none}
use Rattle.directory.proofs.entries.EntryLemmas.{in-use}
use Rattle.directory.proofs.entries.find_entry.Goals as goal

found : (name : RdnSequence) (rows : List Numbered) → IsNumberedTree rows → (answer : Option EntryNo) (number : EntryNo) → option_map (λ no. no.0) answer ≡ find_name name rows → answer ≡ Some number → named_in name (entries_of rows) ≡ entry_of number.0 rows
found name rows tree answer number e is = named-found name rows tree.distinct number.0 (sym e ∙ ap (option_map (λ (no : EntryNo). no.0)) is)

absent : (name : RdnSequence) (rows : List Numbered) → IsNumberedTree rows → (answer : Option EntryNo) → option_map (λ no. no.0) answer ≡ find_name name rows → answer ≡ None → named_in name (entries_of rows) ≡ None
absent name rows tree answer e is = named-none name rows tree.distinct (sym e ∙ ap (option_map (λ (no : EntryNo). no.0)) is)

pub returns-in_err-number-clause-exact : goal.returns-in_err-number-clause-exact
returns-in_err-number-clause-exact c =
    rw c.from_residual.ensures (sym (absent c.args.name.now c.args.tree.now c.entries_form_a_tree.ensures.exact c.find.result c.find.ensures.exact c.in_err-number.was))

pub returns-in-Some-clause-exact : goal.returns-in-Some-clause-exact
returns-in-Some-clause-exact c =
    c.in-Some.ensures.exact ∙ sym (found c.args.name.now c.args.tree.now c.entries_form_a_tree.ensures.exact c.find.result c.in_ok-number.number c.find.ensures.exact c.in_ok-number.was)

pub returns-in-None-clause-exact : goal.returns-in-None-clause-exact
returns-in-None-clause-exact c =
    c.in-None.ensures.exact ∙ sym (found c.args.name.now c.args.tree.now c.entries_form_a_tree.ensures.exact c.find.result c.in_ok-number.number c.find.ensures.exact c.in_ok-number.was)

pub returns-in-None-clause-number : goal.returns-in-None-clause-number
returns-in-None-clause-number c =
    let used = in-use c.args.tree.now c.entries_form_a_tree.ensures.exact c.args.name.now c.in_ok-number.number.0 (sym c.find.ensures.exact ∙ ap (option_map (λ (no : EntryNo). no.0)) c.in_ok-number.was) in
    let lost : None ≡ Some used.0 = c.in-None.ensures.exact ∙ used.1 in
    absurd cc
