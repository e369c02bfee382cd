-- The first place at which a test passes, in a table and in its rows as the program holds them.
use Rattle.std.proofs.Common.{◌≡◌, ℕ, ◌+◌, ◌<◌, Bool, true, false, cond, not, List, [], ◌∷◌, map, length, position, find, option_map, Some, None, nat_lt, refl, ap}
use Rattle.std.proofs.lemmas.List.{length-map}
use Rattle.std.specs.List.{prefix_len, position_or_len}
use Rattle.schema_tables.specs.Naming.{Named, is_same_name}
use Rattle.schema_tables.specs.Oids.{oid_among}
use borrow.Author.Tests.{ltb-true}

-- a test of mapped elements stops where the test before the map does
pub prefix_len-map :
    {X Y : Type 0} (p : Y → Bool) (f : X → Y) (xs : List X)
    → prefix_len p (map f xs) ≡ prefix_len (λ x. p (f x)) xs
prefix_len-map p f [] = refl
prefix_len-map p f (x ∷ xs) = ap (λ n. cond (p (f x)) (1 + n) 0) (prefix_len-map p f xs)

-- and so does the search for a place
pub position-map :
    {X Y : Type 0} (p : Y → Bool) (f : X → Y) (xs : List X)
    → position p (map f xs) ≡ position (λ x. p (f x)) xs
position-map p f xs = rw (prefix_len-map (λ y. not (p y)) f xs, length-map xs f)

-- what a choice of places gives is the place below the end
found_below : (n m i : ℕ) (b : Bool) → nat_lt n m ≡ b → cond b (Some n) None ≡ Some i → i < m
found_below n m i true below found = let e : n ≡ i = cc in rw (← e) (ltb-true n m below)
found_below n m i false below found = cc

-- a place that was found is within the list
pub position_within :
    {X : Type 0} (p : X → Bool) (xs : List X) (i : ℕ) → position p xs ≡ Some i → i < length xs
position_within p xs i found =
    found_below (position_or_len p xs) (length xs) i (nat_lt (position_or_len p xs) (length xs)) refl found

-- the object identifier of the first mapped element whose name the text is
pub oid_among_map :
    {X : Type 0} (named : X → Named) (xs : List X) (text : List ℕ)
    → oid_among (map named xs) text
    ≡ option_map (λ x. (named x).oid) (find (λ x. is_same_name (named x).name text) xs)
oid_among_map named [] text = refl
oid_among_map named (x ∷ xs) text =
    elim (is_same_name (named x).name text) as
    (λ b. option_map (λ row. row.oid) (cond b (Some (named x)) (find (λ row. is_same_name row.name text) (map named xs)))
    ≡ option_map (λ x. (named x).oid) (cond b (Some x) (find (λ x. is_same_name (named x).name text) xs)))
    [ true ↦ refl | false ↦ oid_among_map named xs text ]
