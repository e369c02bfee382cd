-- The octets that steps bring.
use Rattle.std.specs.Prelude.{ℕ, List, []}
use Rattle.std.specs.List.{AllByRecursion}
use Rattle.session_model.specs.Run.{Step, Opened, Bytes, Ended, Gone, HungUp}

-- the octets that a step brings
abbrev pub octets_of : Step → List ℕ
octets_of (Opened number) = []
octets_of (Bytes number piece cut) = piece
octets_of (Ended number) = []
octets_of (Gone number) = []
octets_of (HungUp number) = []

-- each octet that steps bring is of a kind
abbrev pub BringOnly : (ℕ → Type 0) → List Step → Type 0
BringOnly kind steps = AllByRecursion (λ next. AllByRecursion kind (octets_of next)) steps
