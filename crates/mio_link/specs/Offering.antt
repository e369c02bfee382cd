-- What is answered of octets that a stream was offered, where the stream shows what it has.
use Rattle.std.specs.Prelude.{ℕ, List, [], Option, take}
use Rattle.std.specs.Io.KnownBytes.{Appends}
use Rattle.wire_io.specs.declared.answers.Took.{Took}
use Rattle.wire_io.specs.declared.answers.Took.TheVariants as took

-- as many of the octets as are said to be taken stand behind those that it had, and otherwise none do
abbrev pub Puts : Option (List ℕ) → Option (List ℕ) → List ℕ → Took → Type 0
Puts old new octets (took.Took count) = Appends old new (take count octets)
Puts old new octets took.Later = Appends old new []
Puts old new octets took.Gone = Appends old new []
Puts old new octets took.NoMemory = Appends old new []
