-- The entries change as the rows do.
use Rattle.std.proofs.Common.{◌≡◌, ◌∙◌, ℕ, List, Result, Ok, ap, sym}
use Rattle.dir_tree.specs.Entry.{EntryInformation}
use Rattle.dir_tree.specs.tree.Trees.{put_in}
use Rattle.dir_tree.specs.tree.Numbered.{Numbered, IsNumberedTree, entries_of, put_entry, without}
use Rattle.dir_tree.proofs.TreeTheorems.{entries_of-put_row, entries_of-without}
use Rattle.change_laws.specs.op_modify.ldap_msg.declared.operations.ResultCode.{ResultCode}
use Rattle.change_replay.specs.Steps.{TakesOut, Replaces}

pub taken-rows :
    (rows new : List Numbered) (id : ℕ) (expected : Result (List EntryInformation) ResultCode) → IsNumberedTree rows → new ≡ without id rows
    → TakesOut rows id expected → expected ≡ Ok (entries_of new)
taken-rows rows new id expected tree is out =
    out.leaves ∙ ap Ok (sym (ap entries_of is ∙ entries_of-without id out.target rows tree out.found))

pub put-rows :
    (rows new : List Numbered) (id : ℕ) (entry : EntryInformation) (expected : Result (List EntryInformation) ResultCode) → new ≡ put_entry id entry rows
    → expected ≡ Ok (put_in entry (entries_of rows)) → expected ≡ Ok (entries_of new)
put-rows rows new id entry expected is leaves =
    leaves ∙ ap Ok (sym (ap entries_of is ∙ entries_of-put_row (record { id = id; entry = entry }) rows))

pub replaced-rows :
    (rows new : List Numbered) (id : ℕ) (entry : EntryInformation) (expected : Result (List EntryInformation) ResultCode) → IsNumberedTree rows
    → new ≡ put_entry id entry (without id rows) → Replaces rows id entry expected → expected ≡ Ok (entries_of new)
replaced-rows rows new id entry expected tree is place =
    place.leaves
    ∙ ap Ok (sym (ap entries_of is
    ∙ entries_of-put_row (record { id = id; entry = entry }) (without id rows)
    ∙ ap (put_in entry) (entries_of-without id place.target rows tree place.found)))
