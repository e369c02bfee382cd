-- What was read so far, before what is left to be read.
use Rattle.std.proofs.Common.{◌≡◌, ℕ, sym, ◌∙◌, ap, refl, List, [], ◌++◌, Result, Ok, Err}
use Rattle.std.specs.Prelude.{OnOk, if◌then◌else◌}
use Rattle.std.specs.Result.{is_ok}
use Rattle.std.proofs.lemmas.List.{append_assoc}
use Rattle.dir_tree.specs.plain_values.Results.{◌>>=◌}
use Rattle.dir_tree.specs.plain_values.Answers.{IsFaultOf}
use Rattle.ldif_records.specs.declared.types.BadLine.{BadLine}
use Rattle.ldif_records.specs.declared.types.BadLine.TheVariants as bad_line
use Rattle.ldif_records.specs.reading.Faults.{LineFault, fault_of}

-- items that were read, and what reading the others gives
abbrev pub joined : {A : Type 0} → List A → Result (List A) LineFault → Result (List A) LineFault
joined found (Ok others) = Ok (found ++ others)
joined found (Err bad) = Err bad

pub joined-more : {A : Type 0} (found more : List A) (reading : Result (List A) LineFault)
    → joined found (reading >>= λ others. Ok (more ++ others)) ≡ joined (found ++ more) reading
joined-more found more (Ok others) = ap Ok (sym (append_assoc found more others))
joined-more found more (Err bad) = refl

pub joined-none : {A : Type 0} (reading : Result (List A) LineFault) → reading ≡ joined [] reading
joined-none (Ok others) = refl
joined-none (Err bad) = refl

-- a fault is that of the first step
pub fault-first : {A B : Type 0} (bad : BadLine) (first : Result A LineFault) (next : A → Result (List B) LineFault) (found : List B) (whole : Result (List B) LineFault)
    → whole ≡ joined found (first >>= next) → IsFaultOf (fault_of bad) first → IsFaultOf (fault_of bad) whole
fault-first (bad_line.Bad line cause) first next found whole is says = is ∙ ap (λ step. joined found (step >>= next)) says
fault-first bad_line.NoMemory first next found whole is says = tt

-- a fact that follows where a call went well
pub on_ok : {A E : Type 0} (result : Result A E) (P Q : Type 0) → (P → Q) → OnOk result P → OnOk result Q
on_ok (Ok value) P Q follows is = follows is
on_ok (Err fault) P Q follows is = is

-- what was appended where a call went well
pub on_ok_if : {A E : Type 0} (result : Result A E) (new some none wanted : List ℕ) → new ≡ (if is_ok result then some else none) → some ≡ wanted → OnOk result (new ≡ wanted)
on_ok_if (Ok value) new some none wanted is same = is ∙ same
on_ok_if (Err fault) new some none wanted is same = tt
