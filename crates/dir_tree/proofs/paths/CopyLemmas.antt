-- A copy of the map does as well as the map.
use Rattle.std.proofs.Common.{◌≡◌, ℕ, List, [], ◌∷◌, Option, refl, sym, ap, ◌∙◌}
use Rattle.std.specs.List.{AllZip}
use Rattle.std.specs.Map.{values_of}
use Rattle.dn_names.specs.path.PathKeys.{path_key}
use Rattle.dir_tree.specs.Entry.{EntryInformation}
use Rattle.dir_tree.specs.slots.Slots.{row_at}
use Rattle.dir_tree.specs.Maps.{AreKeyed, HasSamePlaces}

-- where a clone of a key has the same octets
pub same_places : {K : Type 0} (octets : K → List ℕ) (C : K → K → Type 0) (D : ℕ → ℕ → Type 0) → ((one other : K) → C one other → octets other ≡ octets one) → ((one other : ℕ) → D one other → other ≡ one) → (places others : List (K × ℕ)) → AllZip (λ one other. C one.0 other.0 × D one.1 other.1) places others → HasSamePlaces octets places others
same_places octets C D keys numbers [] [] all = tt
same_places octets C D keys numbers [] (y ∷ others) all = absurd all
same_places octets C D keys numbers (x ∷ places) [] all = absurd all
same_places octets C D keys numbers (x ∷ places) (y ∷ others) all = (
  (keys x.0 y.0 all.0.0, numbers x.1 y.1 all.0.1),
  same_places octets C D keys numbers places others all.1,
)

pub values-same : {K : Type 0} (octets : K → List ℕ) (places others : List (K × ℕ)) → HasSamePlaces octets places others → values_of others ≡ values_of places
values-same octets [] [] same = refl
values-same octets [] (y ∷ others) same = absurd same
values-same octets (x ∷ places) [] same = absurd same
values-same octets (x ∷ places) (y ∷ others) same = rw (same.0.1, values-same octets places others same.1) refl

pub keyed-same : {K : Type 0} (octets : K → List ℕ) (slots : List (Option EntryInformation)) (places others : List (K × ℕ)) → HasSamePlaces octets places others → AreKeyed octets slots places → AreKeyed octets slots others
keyed-same octets slots [] [] same keyed = tt
keyed-same octets slots [] (y ∷ others) same keyed = absurd same
keyed-same octets slots (x ∷ places) [] same keyed = absurd same
keyed-same octets slots (x ∷ places) (y ∷ others) same keyed = (
  same.0.0 ∙ keyed.0 ∙ ap (λ (n : ℕ). path_key (row_at slots n).entry.name) (sym same.0.1),
  keyed-same octets slots places others same.1 keyed.1,
)
