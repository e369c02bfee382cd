-- Tables of refusals: what the first part of one says of the whole.
use Rattle.std.proofs.Common.{◌≡◌, List, [], ◌∷◌, ◌++◌, Option, Some, None, Result, Ok, refl, ap, ◌∙◌}
use Rattle.ldap_msg.specs.plain_values.Answers.{IsFaultOf}
use Rattle.ldap_msg.specs.plain_values.Results.{◌>>=◌}
use Rattle.dir_tree.specs.Entry.{EntryInformation}
use Rattle.ldap_msg.specs.declared.operations.ResultCode.{ResultCode}
use Rattle.entry_changes.specs.declared.fault.ChangeFault.{ChangeFault}
use Rattle.entry_changes.specs.declared.fault.ChangeFault.TheVariants as fault
use Rattle.ldap_msg.specs.plain_values.Refusals.{first_some}
use Rattle.entry_changes.specs.Change.{Asker, Modification, changed, changed_by, cause_of}

-- ---- two tables, one behind the other

pub first_some-decided : {A : Type 0} (rows more : List (Option A)) (refusal : A) → Some refusal ≡ first_some rows → Some refusal ≡ first_some (rows ++ more)
first_some-decided [] more refusal e = absurd cc
first_some-decided (None ∷ rows) more refusal e = first_some-decided rows more refusal e
first_some-decided (Some other ∷ rows) more refusal e = e

pub first_some-open : {A : Type 0} (rows more : List (Option A)) → None ≡ first_some rows → first_some (rows ++ more) ≡ first_some more
first_some-open [] more e = refl
first_some-open (None ∷ rows) more e = first_some-open rows more e
first_some-open (Some other ∷ rows) more e = absurd cc

-- ---- changes in their order

-- one change more
pub changes-step : (asker : Asker) (entry left : EntryInformation) (all : List Modification) (change : Modification) (changes : List Modification) → all ≡ change ∷ changes → changed asker entry change ≡ Ok left
    → changed_by asker entry all ≡ changed_by asker left changes
unfolding changed_by
changes-step asker entry left all change changes is made =
    ap (changed_by asker entry) is ∙ ap (λ (first : Result EntryInformation ResultCode). first >>= λ left. changed_by asker left changes) made

-- the first that is refused decides
pub changes-fault : (asker : Asker) (entry : EntryInformation) (all : List Modification) (change : Modification) (changes : List Modification) (bad : ChangeFault) → all ≡ change ∷ changes
    → IsFaultOf (cause_of bad) (changed asker entry change) → IsFaultOf (cause_of bad) (changed_by asker entry all)
unfolding changed_by
changes-fault asker entry all change changes fault.NoMemory is says = tt
changes-fault asker entry all change changes (fault.Refused refusal) is says =
    ap (changed_by asker entry) is ∙ ap (λ (first : Result EntryInformation ResultCode). first >>= λ left. changed_by asker left changes) says

pub changes-done : (asker : Asker) (entry : EntryInformation) (changes : List Modification) → changes ≡ [] → changed_by asker entry changes ≡ Ok entry
unfolding changed_by
changes-done asker entry changes none = ap (changed_by asker entry) none
