-- The tables of names one after the other; dotted object identifiers as a grammar and as a test.
use Rattle.std.proofs.Common.{◌≡◌, ℕ, List, ◌++◌, option_map, Option, Some, None, refl, ap, ◌∙◌}
use Rattle.std.specs.Option.{option_or}
use Rattle.std.proofs.lemmas.List.Folds.{find-append}
use Rattle.schema_tables.specs.Naming.{Named, is_same_name}
use Rattle.schema_tables.specs.Oids.{oid_among}

-- a function of the value, over a choice of two
pub option_map-option_or :
    {A B : Type 0} (f : A → B) (x y : Option A)
    → option_map f (option_or x y) ≡ option_or (option_map f x) (option_map f y)
option_map-option_or f None y = refl
option_map-option_or f (Some a) y = refl

-- a table after another is asked where the first lacks the name
pub oid_among-append :
    (xs ys : List Named) (text : List ℕ)
    → oid_among (xs ++ ys) text ≡ option_or (oid_among xs text) (oid_among ys text)
oid_among-append xs ys text =
    ap (option_map (λ row. row.oid)) (find-append (λ row. is_same_name row.name text) xs ys)
    ∙ option_map-option_or (λ row. row.oid) _ _
