-- What a use of an argument leaves of what is kept, by the argument's name.
use Rattle.std.proofs.Common.{◌≡◌, ◌∙◌, ◌||◌, Bool, true, false, cond, List, [], ◌∷◌, ◌++◌, Option, Some, None, option_map, is_some, refl, sym, ap}
use Rattle.std.specs.Prelude.{bytes_eq, find}
use Rattle.std.proofs.lemmas.Slice.Eq.{bytes_eq-Decides}
use Rattle.clap.specs.Walk.{Row, Text, all_of, has_row, with_values, without}
use Rattle.clap.specs.declared.builder.value_parser.Reading.{Reading}
use Rattle.clap.specs.declared.parser.matches.ValueSource.{ValueSource}

-- values behind those that are kept
abbrev pub kept_more : List Text → Option (List Text) → List Text
kept_more values None = values
kept_more values (Some old) = old ++ values

-- what is kept of a name after a use of this one
abbrev pub after_use : Text → Text → List Text → Option (List Text) → Option (List Text)
after_use id other values old = cond (bytes_eq id other) (Some (kept_more values old)) old

one_row : (b : Bool) (values : List Text) (r : Row) → r.values ≡ values → option_map (λ (row : Row). row.values) (cond b (Some r) None) ≡ cond b (Some values) None
one_row true values r is = ap Some is
one_row false values r is = refl

more_rows : (id other : Text) (how : Reading) (source : ValueSource) (values : List Text) (r : Row) (rows : List Row) (first second : Bool) → bytes_eq r.id id ≡ first → bytes_eq r.id other ≡ second
    → all_of other (with_values id how source values rows) ≡ after_use id other values (all_of other rows)
    → all_of other (with_values id how source values (r ∷ rows)) ≡ after_use id other values (all_of other (r ∷ rows))
more_rows id other how source values r rows true true own asked later =
    let same : bytes_eq id other ≡ true = ap (λ (x : Text). bytes_eq x other) (sym ((bytes_eq-Decides r.id id).0 own)) ∙ asked in
    rw (own, asked, same) refl
more_rows id other how source values r rows true false own asked later =
    let differs : bytes_eq id other ≡ false = ap (λ (x : Text). bytes_eq x other) (sym ((bytes_eq-Decides r.id id).0 own)) ∙ asked in
    rw (own, asked, differs) refl
more_rows id other how source values r rows false true own asked later =
    let differs : bytes_eq id other ≡ false = ap (bytes_eq id) (sym ((bytes_eq-Decides r.id other).0 asked)) ∙ not_back r.id id own in
    rw (own, asked, differs) refl
  where
    not_back : (x y : Text) → bytes_eq x y ≡ false → bytes_eq y x ≡ false
    not_back x y differs = elim (bytes_eq y x) as (λ (b : Bool). bytes_eq y x ≡ b → b ≡ false) [
      | true ↦ λ is. sym (ap (bytes_eq x) ((bytes_eq-Decides y x).0 is) ∙ (bytes_eq-Decides x x).1 refl) ∙ differs
      | false ↦ λ is. refl
    ] refl
more_rows id other how source values r rows false false own asked later = rw (own, asked) later

-- a use adds its values under its own name, and leaves what is kept under others
pub all_of-with_values : (id other : Text) (how : Reading) (source : ValueSource) (values : List Text) (rows : List Row) → all_of other (with_values id how source values rows) ≡ after_use id other values (all_of other rows)
all_of-with_values id other how source values [] = one_row (bytes_eq id other) values _ refl
all_of-with_values id other how source values (r ∷ rows) =
    more_rows id other how source values r rows (bytes_eq r.id id) (bytes_eq r.id other) refl refl (all_of-with_values id other how source values rows)

-- a name has a row where something is kept under it
pub has_row-kept : (id : Text) (rows : List Row) → has_row id rows ≡ is_some (all_of id rows)
has_row-kept id [] = refl
has_row-kept id (r ∷ rows) = step (bytes_eq r.id id) (has_row-kept id rows)
  where
    step : (b : Bool) → has_row id rows ≡ is_some (all_of id rows) → (b || has_row id rows) ≡ is_some (option_map (λ (row : Row). row.values) (cond b (Some r) (find (λ (row : Row). bytes_eq row.id id) rows)))
    step true later = refl
    step false later = later

-- nothing is taken away of a name without a row
pub without-absent : (id : Text) (rows : List Row) → has_row id rows ≡ false → without id rows ≡ rows
without-absent id [] none = refl
without-absent id (r ∷ rows) none = step (bytes_eq r.id id) refl none (without-absent id rows)
  where
    step : (b : Bool) → bytes_eq r.id id ≡ b → (b || has_row id rows) ≡ false → (has_row id rows ≡ false → without id rows ≡ rows) → without id (r ∷ rows) ≡ r ∷ rows
    step true is none later = absurd (cc)
    step false is none later = rw is (ap (λ (rest : List Row). r ∷ rest) (later none))
