-- What a walk has left: the numbers of the places of a map up to the first whose path key the base does not begin, all or
-- those of names one RDN below a depth.
use Rattle.std.specs.Prelude.{ℕ, ◌+◌, ◌==◌, Bool, true, List, [], ◌∷◌, length, filter, if◌then◌else◌, nat_eq, Option, Some, None}
use Rattle.std.specs.List.{starts_with}
use Rattle.std.specs.Map.{values_of}
use Rattle.dn_names.specs.name.Names.{RdnSequence}
use Rattle.dir_tree.specs.Entry.{EntryInformation}
use Rattle.dir_tree.specs.slots.Slots.{slot_of, entry_in}

-- whether the name has one RDN more than the depth, if there is one
abbrev pub is_one_below : Option ℕ → RdnSequence → Bool
is_one_below None name = true
is_one_below (Some depth) name = length name == depth + 1

-- the places at the front whose keys the base begins
abbrev pub front_of : {K : Type 0} → (K → List ℕ) → List ℕ → List (K × ℕ) → List (K × ℕ)
front_of octets base [] = []
front_of octets base (place ∷ places) = if starts_with nat_eq (octets place.0) base then place ∷ front_of octets base places else []

-- whether the name in the slot of the number has one RDN more than the depth
abbrev pub is_at_depth : Option ℕ → List (Option EntryInformation) → ℕ → Bool
is_at_depth depth slots id = is_one_below depth (entry_in (slot_of slots id)).name

-- the numbers of those at the depth
unfoldable pub walked : {K : Type 0} → (K → List ℕ) → Option ℕ → List (Option EntryInformation) → List ℕ → List (K × ℕ) → List ℕ
walked octets depth slots base places = values_of (filter (λ place. is_at_depth depth slots place.1) (front_of octets base places))
