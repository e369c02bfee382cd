-- What a store has come to.
use Rattle.std.specs.Prelude.{ℕ, Bool, true, false, List, Option, None}
use Rattle.std.specs.Io.KnownBytes.{Appends}
use Rattle.mio_link.specs.declared.store.Store.{Store}
use Rattle.mio_link.specs.declared.store.Store.TheVariants.{Unopened, Open, Pending, Failed}

-- its file is open, and no call of it failed
abbrev pub is_open : {F : Type 0} → Store F → Bool
is_open Unopened = false
is_open (Open file) = true
is_open (Pending file put_off) = true
is_open Failed = false

-- octets were appended that the disk may not have, or of which that can't be known since a call failed
abbrev pub awaits_disk : {F : Type 0} → Store F → Bool
awaits_disk Unopened = false
awaits_disk (Open file) = false
awaits_disk (Pending file put_off) = true
awaits_disk Failed = true

-- how often the wait for the disk was put off since octets were appended that it may not have; 0 where none are awaited
abbrev pub put_offs : {F : Type 0} → Store F → ℕ
put_offs Unopened = 0
put_offs (Open file) = 0
put_offs (Pending file put_off) = put_off
put_offs Failed = 0

-- what its file has, where that is known
abbrev pub octets_of : {F : Type 0} → (F → Option (List ℕ)) → Store F → Option (List ℕ)
octets_of contents Unopened = None
octets_of contents (Open file) = contents file
octets_of contents (Pending file put_off) = contents file
octets_of contents Failed = None

-- the octets stand behind those that its file had
abbrev pub GrowsBy : {F : Type 0} → (F → Option (List ℕ)) → Store F → Store F → List ℕ → Type 0
GrowsBy contents old new octets = Appends (octets_of contents old) (octets_of contents new) octets
