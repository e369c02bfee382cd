-- How a change is applied step by step: what is to be done with the tree, and what a call answers for it.
use Rattle.std.specs.Prelude.{◌≡◌, ◌≢◌, ℕ, true, List, [], Option, Some, None, Result, Ok, Err}
use Rattle.dir_tree.specs.plain_values.Answers.{IsFaultOf}
use Rattle.dir_tree.specs.Entry.{EntryInformation}
use Rattle.dir_tree.specs.tree.Trees.{put_in, taken_out}
use Rattle.dir_tree.specs.tree.Numbered.{Numbered, entries_of, entry_of, is_called}
use Rattle.change_laws.specs.op_modify.ldap_msg.declared.operations.ResultCode.{ResultCode}
use Rattle.op_add_delete.specs.declared.fault.Fault.{Fault}
use Rattle.op_add_delete.specs.reading.Reading.{cause_of}
use Rattle.change_replay.specs.declared.making.Step.{Step}
use Rattle.change_replay.specs.declared.making.Step.TheVariants.{TakeOut, PutIn, Replace, Revise}

-- the change takes out the entry of the number
pub record TakesOut (rows : List Numbered) (id : ℕ) (expected : Result (List EntryInformation) ResultCode) : Type 0 where
  pub target : EntryInformation
  pub found : entry_of id rows ≡ Some target
  pub leaves : expected ≡ Ok (taken_out target.name (entries_of rows))

-- it puts the entry into the place of that of the number
pub record Replaces (rows : List Numbered) (id : ℕ) (entry : EntryInformation) (expected : Result (List EntryInformation) ResultCode) : Type 0 where
  pub target : EntryInformation
  pub found : entry_of id rows ≡ Some target
  pub leaves : expected ≡ Ok (put_in entry (taken_out target.name (entries_of rows)))

-- what is to be done is what the change leaves
abbrev pub IsStep : List Numbered → Step → Result (List EntryInformation) ResultCode → Type 0
IsStep rows (TakeOut number) expected = TakesOut rows number.0 expected
IsStep rows (PutIn entry) expected = expected ≡ Ok (put_in entry (entries_of rows))
IsStep rows (Replace number entry) expected = Replaces rows number.0 entry expected
IsStep rows (Revise number entry) expected = Replaces rows number.0 entry expected

-- an entry that is put in has a name, and one that keeps the name of that of the number has it
abbrev pub HasName : List Numbered → Step → Type 0
HasName rows (TakeOut number) = Unit {0}
HasName rows (PutIn entry) = entry.name ≢ []
HasName rows (Replace number entry) = Unit {0}
HasName rows (Revise number entry) = is_called number.0 entry.name rows ≡ true

-- what a call answers: a step that is what the change leaves, or the fault of the change
abbrev pub Leads : List Numbered → Result Step Fault → Result (List EntryInformation) ResultCode → Type 0
Leads rows (Ok step) expected = IsStep rows step expected
Leads rows (Err fault) expected = IsFaultOf (cause_of fault) expected
