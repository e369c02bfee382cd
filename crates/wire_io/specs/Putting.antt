-- What a sink does with octets, and when it refuses.
use Rattle.std.specs.Prelude.{◌≡◌, ℕ, List, ◌++◌, take, Option, Some, None, Result, Ok, Err}
use Rattle.plain_values.specs.Counts.{Rose}
use Rattle.wire_io.specs.declared.answers.PutFault.{PutFault}
use Rattle.wire_io.specs.declared.answers.PutFault.TheVariants.{Failed, NoMemory}

-- the octets are appended, where the sink tells what was put
abbrev pub appended : Option (List ℕ) → List ℕ → Option (List ℕ)
appended None octets = None
appended (Some put) octets = Some (put ++ octets)

-- the octets that an answer of `write` took are appended, none after a refusal
unfoldable pub WriteTells : Option (List ℕ) → List ℕ → Result ℕ PutFault → Option (List ℕ) → Type 0
WriteTells old octets (Ok count) new = new ≡ appended old (take count octets)
WriteTells old octets (Err fault) new = new ≡ old

-- when each answer of `write` may come; the count of faults rises with a fault and is otherwise as it was
unfoldable pub PutCause : {T : Type 0} → ℕ → ℕ → Result T PutFault → Type 0
PutCause before after (Ok answer) = after ≡ before
PutCause before after (Err Failed) = Rose before after
PutCause before after (Err NoMemory) = after ≡ before

-- all octets are put, or after a refusal a front of them
unfoldable pub PutsAll : {T : Type 0} → Option (List ℕ) → List ℕ → Result T PutFault → Option (List ℕ) → Type 0
PutsAll old octets (Ok answer) new = new ≡ appended old octets
PutsAll old octets (Err fault) new = (count : ℕ) × (new ≡ appended old (take count octets))
