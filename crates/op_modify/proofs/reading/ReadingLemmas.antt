-- The changes of a request, read one after the other.
use Rattle.std.proofs.Common.{◌≡◌, ℕ, ◌+◌, List, [], ◌∷◌, ◌++◌, drop, Result, Ok, Err, ap, ◌∙◌}
use Rattle.std.proofs.lemmas.List.{append-nil}
use Rattle.ldap_msg.specs.plain_values.Results.{◌>>=◌}
use Rattle.ldap_msg.specs.plain_values.Answers.{IsFaultOf}
use Rattle.entry_changes.specs.Change.{Modification}
use Rattle.ldap_msg.specs.declared.operations.ResultCode.{ResultCode}
use Rattle.ldap_msg.specs.declared.kinds.Change.{Change}
use Rattle.op_add_delete.specs.declared.fault.Fault.{Fault}
use Rattle.op_add_delete.specs.declared.fault.Fault.TheVariants as fault
use Rattle.op_add_delete.specs.reading.Reading.{cause_of}
use Rattle.op_add_delete.proofs.Theorems.{put_before, before-more}
use Rattle.op_modify.specs.ReadChanges.{read_change, read_each}

-- one change more
pub changes-step : (done : List Modification) (given : List Change) (index : ℕ) (item : Change) (change : Modification) → drop index given ≡ item ∷ drop (index + 1) given → read_change item ≡ Ok change
    → put_before done (read_each (drop index given)) ≡ put_before (done ++ change ∷ []) (read_each (drop (index + 1) given))
unfolding read_each
changes-step done given index item change left good =
    ap (λ given. put_before done (read_each given)) left
    ∙ ap (λ first. put_before done (first >>= λ change. read_each (drop (index + 1) given) >>= λ changes. Ok (change ∷ changes))) good
    ∙ before-more done change (read_each (drop (index + 1) given))

-- one that is none decides
changes-stop : (done : List Modification) (given : List Change) (index : ℕ) (item : Change) (code : ResultCode) → drop index given ≡ item ∷ drop (index + 1) given → read_change item ≡ Err code
    → put_before done (read_each (drop index given)) ≡ Err code
unfolding read_each
changes-stop done given index item code left bad =
    ap (λ given. put_before done (read_each given)) left
    ∙ ap (λ first. put_before done (first >>= λ change. read_each (drop (index + 1) given) >>= λ changes. Ok (change ∷ changes))) bad

pub changes-fault : (done : List Modification) (given : List Change) (index : ℕ) (item : Change) (all : Result (List Modification) ResultCode) (bad : Fault)
    → drop index given ≡ item ∷ drop (index + 1) given → all ≡ put_before done (read_each (drop index given)) → IsFaultOf (cause_of bad) (read_change item) → IsFaultOf (cause_of bad) all
changes-fault done given index item all fault.NoMemory left is says = tt
changes-fault done given index item all (fault.Refused code) left is says = is ∙ changes-stop done given index item code left says

pub changes-done : (done : List Modification) (given : List Change) → given ≡ [] → put_before done (read_each given) ≡ Ok done
unfolding read_each
changes-done done given none = ap (λ given. put_before done (read_each given)) none ∙ ap (λ items. Ok items) (append-nil done)
