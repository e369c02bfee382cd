-- What a call that reads gave, against what the definitions compute.
use Rattle.std.specs.Prelude.{◌≡◌, Bool, true, false, Option, Some, None, Result}
use Rattle.plain_values.specs.Answers.{IsNothing, AnswersAny}
use Rattle.ber_layout.specs.declared.kinds.ReadFault.{ReadFault}
use Rattle.ber_layout.specs.declared.kinds.ReadFault.TheVariants as fault
use Rattle.ber_layout.specs.declared.element.Element.{Element}
use Rattle.ber_layout.specs.element.Pieces.{Piece}

-- the fault says that the octets are of no message
abbrev pub is_of_octets : ReadFault → Bool
is_of_octets fault.BadMessage = true
is_of_octets fault.NoMemory = false

-- the fault comes where nothing is computed, or memory ran out
abbrev pub Fails : {Y : Type 0} → ReadFault → Option Y → Type 0
Fails fault read = IsNothing (is_of_octets fault) read

-- what was returned, seen by view, is what is computed, unless memory ran out
abbrev pub Gives : {X Y : Type 0} → (X → Y) → Result X ReadFault → Option Y → Type 0
Gives view answer read = AnswersAny view is_of_octets answer read

-- what was returned, seen by view, is what is computed
abbrev pub Finds : {X Y : Type 0} → (X → Y) → Option X → Option Y → Type 0
Finds view (Some value) read = read ≡ Some (view value)
Finds view None read = read ≡ None

-- an element without where it lies in memory
abbrev pub piece_view : Element → Piece
piece_view element = record { tag = element.tag; content = element.content.now; rest = element.rest.now }
