-- Requests read record by record: a step, the end, and a fault.
use Rattle.std.proofs.Common.{◌≡◌, ℕ, ◌+◌, ◌≤◌, List, [], ◌∷◌, ◌++◌, length, Result, Ok, Err, IfErr, refl, sym, ap, ◌∙◌, arith, append_assoc, append-nil, length-append}
use Rattle.ldap_msg.specs.plain_values.Answers.{Answers, IsFaultOf}
use Rattle.ldap_msg.specs.plain_values.Results.{◌>>=◌}
use Rattle.ldif_records.specs.declared.types.Position.{Position}
use Rattle.ldif_records.specs.declared.types.Record.{Record}
use Rattle.ldif_records.specs.declared.types.BadLine.{BadLine}
use Rattle.ldif_records.specs.declared.types.BadLine.TheVariants as reading
use Rattle.ldif_records.specs.declared.types.LineCause.{LineCause}
use Rattle.ldif_records.specs.reading.Faults.{LineFault, Bad, fault_of}
use Rattle.ldif_records.specs.reading.Records.{first_of}
use Rattle.ldif_records.specs.lines.Places.{IsNext, records_from, file_start}
use Rattle.client_core.specs.declared.types.Asked.{Asked}
use Rattle.client_core.specs.declared.types.AskFault.{AskFault}
use Rattle.client_core.specs.declared.types.AskFault.TheVariants as fault
use Rattle.client_core.specs.Asks.{line_of, ask_of, asks_in, asks_of}
use Rattle.client_core.specs.Steps.{of_line, joined, IsStep}

-- one request more stands before the others
joined-next : (old : List Asked) (asked : Asked) (others : Result (List Asked) ℕ) → joined old (others >>= λ rest. Ok (asked ∷ rest)) ≡ joined (old ++ asked ∷ []) others
joined-next old asked (Ok rest) = ap Ok (sym (append_assoc old (asked ∷ []) rest))
joined-next old asked (Err line) = refl

-- the requests of a record and those behind it
asks_in-next : (number : ℕ) (given : Record) (asked : Asked) (rest : List (Result Record LineFault)) → ask_of number (Ok given) ≡ Ok asked
    → asks_in number (Ok given ∷ rest) ≡ (asks_in (number + 1) rest >>= λ others. Ok (asked ∷ others))
unfolding asks_in
asks_in-next number given asked rest is = ap (λ first. first >>= λ found. asks_in (number + 1) rest >>= λ others. Ok (found ∷ others)) is

-- the number behind one request more
number-next : (old : List Asked) (asked : Asked) → length old + 1 + 1 ≡ length (old ++ asked ∷ []) + 1
number-next old asked = omega (arith, length-append old (asked ∷ []))

-- a request more was read
pub joined-step : (text : List ℕ) (from to : Position) (old new : List Asked) → IsStep text from old to new
    → joined old (asks_in (length old + 1) (records_from text from)) ≡ joined new (asks_in (length new + 1) (records_from text to))
joined-step text from to old new step =
    let rest = records_from text to in
    let asked = step.put.asked in
    ap (λ records. joined old (asks_in (length old + 1) records)) step.next.record_read
    ∙ ap (joined old) (asks_in-next (length old + 1) step.given asked rest step.put.exact)
    ∙ joined-next old asked (asks_in (length old + 1 + 1) rest)
    ∙ ap (λ number. joined (old ++ asked ∷ []) (asks_in number rest)) (number-next old asked)
    ∙ ap (λ asks. joined asks (asks_in (length asks + 1) rest)) (sym step.put.put)

-- no more requests than octets before
pub few-step : (text : List ℕ) (from to : Position) (old new : List Asked) → IsStep text from old to new → length old ≤ from.offset → length new ≤ to.offset
few-step text from to old new step few = omega (arith, few, step.next.later, ap length step.put.put, length-append old (step.put.asked ∷ []))

-- no record is left
pub joined-end : (asks : List Asked) (number : ℕ) (records : List (Result Record LineFault)) → records ≡ [] → joined asks (asks_in number records) ≡ Ok asks
unfolding asks_in
joined-end asks number records none = ap (λ left. joined asks (asks_in number left)) none ∙ ap Ok (append-nil asks)

-- nothing was read yet
pub joined-start : (text : List ℕ) → asks_of text ≡ joined [] (asks_in 1 (records_from text file_start))
unfolding asks_of
joined-start text = same (asks_in 1 (records_from text file_start))
  where
    same : (asks : Result (List Asked) ℕ) → asks ≡ joined [] asks
    same (Ok asks) = refl
    same (Err line) = refl

-- a fault of the requests that are left is the fault of all
pub fault-joined : (found : AskFault) (asks : List Asked) (left all : Result (List Asked) ℕ) → IsFaultOf (line_of found) left → all ≡ joined asks left → IsFaultOf (line_of found) all
fault-joined (fault.Bad line) asks left all is whole = whole ∙ ap (joined asks) is
fault-joined fault.NoMemory asks left all is whole = tt

-- the fault that goes out is the one that came
pub fault-gives : {V A : Type 0} (view : V → A) (out : Result V AskFault) (found came : AskFault) (whole : Result A ℕ) → out ≡ Err found → found ≡ came → IsFaultOf (line_of came) whole
    → Answers view line_of out whole
fault-gives view out found came whole is same says = rw is (rw same says)

-- the first record can't be read
first-bad : (number line : ℕ) (cause : LineCause) (records : List (Result Record LineFault)) → first_of records ≡ Err (Bad line cause) → asks_in number records ≡ Err line
unfolding asks_in
first-bad number line cause [] is = absurd cc
first-bad number line cause (Ok given ∷ rest) is = absurd cc
first-bad number line cause (Err found ∷ rest) is = let same : found ≡ Bad line cause = cc in ap (λ bad. asks_in number (Err bad ∷ rest)) same

pub fault-misread : (bad : BadLine) (number : ℕ) (records : List (Result Record LineFault)) → IsFaultOf (fault_of bad) (first_of records) → IsFaultOf (line_of (of_line bad)) (asks_in number records)
fault-misread (reading.Bad line cause) number records is = first-bad number line cause records is
fault-misread reading.NoMemory number records is = tt

-- the first record asks for nothing
pub fault-record : (found : AskFault) (number : ℕ) (text : List ℕ) (from to : Position) (given : Record) → IsNext text from given to
    → IsFaultOf (line_of found) (ask_of number (Ok given)) → IsFaultOf (line_of found) (asks_in number (records_from text from))
unfolding asks_in
fault-record (fault.Bad line) number text from to given next is =
    ap (λ records. asks_in number records) next.record_read
    ∙ ap (λ first. first >>= λ asked. asks_in (number + 1) (records_from text to) >>= λ others. Ok (asked ∷ others)) is
fault-record fault.NoMemory number text from to given next is = tt

-- the fault of the records that are left, at a call that answers nothing else
pub fault-same : {V A : Type 0} (out : Result V AskFault) (found came : AskFault) (whole : Result A ℕ) → out ≡ Err found → found ≡ came → IsFaultOf (line_of came) whole
    → IfErr out (λ bad. IsFaultOf (line_of bad) whole)
fault-same out found came whole is same says = rw is (rw same says)
