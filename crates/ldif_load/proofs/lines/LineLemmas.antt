-- Lines put in one after the other.
use Rattle.std.proofs.Common.{◌≡◌, List, [], ◌∷◌, Result, Ok, Err, ap, ◌∙◌}
use Rattle.std.specs.Prelude.{IfErr}
use Rattle.dir_tree.specs.Entry.{EntryInformation}
use Rattle.ldif_records.specs.declared.types.RecordLine.{RecordLine}
use Rattle.ldif_load.specs.declared.fault.LoadFault.{LoadFault}
use Rattle.ldif_load.specs.declared.fault.LoadFault.TheVariants as load_fault
use Rattle.dir_tree.specs.plain_values.Answers.{Answers, IsFaultOf}
use Rattle.ldif_load.specs.load.Loading.{◌>>=◌, RecordFault, with_line, with_lines, fault_of}

-- a good line goes in
pub lines-step : (entry more : EntryInformation) (lines : List RecordLine) (line : RecordLine) (rest : List RecordLine) → lines ≡ line ∷ rest → with_line entry line ≡ Ok more
    → with_lines entry lines ≡ with_lines more rest
unfolding with_lines
lines-step entry more lines line rest left good = ap (with_lines entry) left ∙ ap (λ first. first >>= λ more. with_lines more rest) good

-- a bad line decides
pub lines-stop : (entry : EntryInformation) (lines : List RecordLine) (line : RecordLine) (rest : List RecordLine) (fault : LoadFault) → lines ≡ line ∷ rest → IsFaultOf (fault_of fault) (with_line entry line)
    → IsFaultOf (fault_of fault) (with_lines entry lines)
unfolding with_lines
lines-stop entry lines line rest load_fault.NoMemory left bad = tt
lines-stop entry lines line rest (load_fault.Bad number cause) left bad = ap (with_lines entry) left ∙ ap (λ first. first >>= λ more. with_lines more rest) bad

pub lines-done : (entry : EntryInformation) (lines : List RecordLine) → lines ≡ [] → with_lines entry lines ≡ Ok entry
unfolding with_lines
lines-done entry lines none = ap (with_lines entry) none

-- the fault of one step is that of another with the same result
pub fault-of : {A : Type 0} (fault : LoadFault) (one other : Result A RecordFault) → one ≡ other → IsFaultOf (fault_of fault) other → IsFaultOf (fault_of fault) one
fault-of (load_fault.Bad line cause) one other same is = same ∙ is
fault-of load_fault.NoMemory one other same is = tt

-- a call that fails by `?` has the fault of what it called
pub fault-same : {A B : Type 0} (result : Result A LoadFault) (fault other : LoadFault) (step : Result B RecordFault) → result ≡ Err fault → fault ≡ other → IsFaultOf (fault_of other) step
    → IfErr result (λ bad. IsFaultOf (fault_of bad) step)
fault-same result fault other step is same says = rw (is, same) says

pub fault-gives : {A : Type 0} (result : Result A LoadFault) (fault other : LoadFault) (step : Result A RecordFault) → result ≡ Err fault → fault ≡ other → IsFaultOf (fault_of other) step → Answers (λ value. value) fault_of result step
fault-gives result fault other step is same gives = rw (is, same) gives
