-- How a change of an entry is taken step by step: what a call answers for each step.
use Rattle.std.specs.Prelude.{◌≡◌, ℕ, true, not, List, [], ◌∷◌, Option, Some}
use Rattle.dir_tree.specs.Entry.{EntryInformation}
use Rattle.dir_tree.specs.tree.Trees.{has_name, has_below, put_in, taken_out}
use Rattle.dir_tree.specs.tree.Numbered.{Numbered, entries_of, entry_of, is_called}
use Rattle.acdf_filters.specs.aci_item.Rules.{broken_rule}
use Rattle.acdf_filters.specs.declared.asking.Requester.{Requester}
use Rattle.ldap_msg.specs.plain_values.Refusals.{when}
use Rattle.ldap_msg.specs.declared.operations.ResultCode.TheVariants as code
use Rattle.ldap_msg.specs.declared.kinds.LdapResult.{LdapResult}
use Rattle.read_model.specs.Views.{view_of, hidden, no_such_object, result_of}
use Rattle.op_add_delete.specs.directory.Targets.{not_leaf}
use Rattle.op_add_delete.specs.adding.Adding.{rule_refusal}
use Rattle.op_add_delete.specs.adding.Updates.{Changed, Refused, Made}
use Rattle.op_modify.specs.declared.replacing.Checked.{Checked}
use Rattle.op_modify.specs.declared.replacing.Checked.TheVariants as checked
use Rattle.op_modify.specs.ReadRenames.{above}
use Rattle.op_modify.specs.Renames.{other_named, taken_refusal, is_withheld, is_unmovable, is_unwelcome}
use Rattle.op_modify.specs.declared.renaming.Renaming.{Renaming}

-- the change puts the entry into the place of that of the number
pub record IsInPlace (changed : Changed) (rows : List Numbered) (id : ℕ) (entry : EntryInformation) : Type 0 where
  pub target : EntryInformation
  pub found : entry_of id rows ≡ Some target
  pub leaves : changed ≡ Made (put_in entry (taken_out target.name (entries_of rows)))

-- the entry is among those after in the place of that of the number among those before, which is in use
abbrev pub ComesInPlace : List Numbered → ℕ → EntryInformation → List Numbered → Type 0
ComesInPlace rows id entry new =
    (target : EntryInformation) → entry_of id rows ≡ Some target
    → entries_of new ≡ put_in entry (taken_out target.name (entries_of rows))

-- an entry that may come has the name of the one whose place it takes
abbrev pub KeepsName : List Numbered → Checked → Type 0
KeepsName rows (checked.Refused refusal) = Unit {0}
KeepsName rows (checked.Allowed number entry) = is_called number.0 entry.name rows ≡ true

-- what came of the checks is what the change comes to
abbrev pub IsChecked : Changed → List Numbered → Checked → Type 0
IsChecked changed rows (checked.Refused refusal) = changed ≡ Refused refusal
IsChecked changed rows (checked.Allowed number entry) = IsInPlace changed rows number.0 entry

-- the rows of a rename's table that the target and the new superior decide
abbrev pub leaving_rows : List EntryInformation → Requester → Renaming → EntryInformation → List (Option LdapResult)
leaving_rows entries who renaming target =
    when (is_withheld entries who renaming target) (hidden (view_of entries who) renaming.name)
    ∷ when (is_unmovable entries renaming target) (result_of code.UnwillingToPerform)
    ∷ when (has_below target.name entries) (not_leaf entries who renaming.name target)
    ∷ when (not (has_name (above renaming) entries)) (no_such_object (view_of entries who) (above renaming))
    ∷ []

-- those that the renamed entry decides
abbrev pub coming_rows : List EntryInformation → Requester → Renaming → EntryInformation → EntryInformation → List (Option LdapResult)
coming_rows entries who renaming target entry =
    taken_refusal entries who (other_named entries target entry.name)
    ∷ when (is_unwelcome entries who renaming entry) (result_of code.InsufficientAccessRights)
    ∷ rule_refusal (broken_rule (Some target) (taken_out target.name entries) entry)
    ∷ []
