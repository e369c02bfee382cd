-- Lemmas on written lines: those of one item more.
use Rattle.std.proofs.Common.{◌≡◌, ℕ, ◌+◌, ◌<◌, sym, ◌∙◌, ap, List, [], ◌∷◌, ◌++◌, length, take, map, get_or}
use Rattle.std.specs.List.{flat_map}
use Rattle.std.proofs.lemmas.Grind.{flat_map-append}
use Rattle.std.proofs.lemmas.List.{append_assoc, append-nil, take_more, map-append, flat_map_more}
use Rattle.whole_blocks.specs.Blocks.{ended}
use Rattle.change_records.specs.Written.{row}

-- the items with one more
taken : {A : Type 0} (items : List A) (index : ℕ) (item : A) → index < length items → item ≡ get_or items index item → take (index + 1) items ≡ take index items ++ item ∷ []
taken items index item within is = take_more items index item within ∙ ap (λ last. take index items ++ last ∷ []) (sym is)

-- a line for each value
pub values-more : (out kind : List ℕ) (values : List (List ℕ)) (index : ℕ) (value : List ℕ) → index < length values → value ≡ get_or values index value
    → (out ++ flat_map ended (map (row kind) (take index values))) ++ ended (row kind value) ≡ out ++ flat_map ended (map (row kind) (take (index + 1) values))
values-more out kind values index value within is =
    flat_map_more ended out (map (row kind) (take index values)) (row kind value)
    ∙ ap (λ rows. out ++ flat_map ended rows) (sym (ap (map (row kind)) (taken values index value within is) ∙ map-append (row kind) (take index values) (value ∷ [])))

-- lines for each item
pub rows-more : {A : Type 0} (out : List ℕ) (rows : A → List (List ℕ)) (items : List A) (index : ℕ) (item : A) → index < length items → item ≡ get_or items index item
    → (out ++ flat_map ended (flat_map rows (take index items))) ++ flat_map ended (rows item) ≡ out ++ flat_map ended (flat_map rows (take (index + 1) items))
rows-more out rows items index item within is =
    let before = flat_map rows (take index items) in
    append_assoc out (flat_map ended before) (flat_map ended (rows item))
    ∙ ap (λ text. out ++ text) (sym (flat_map-append ended before (rows item)))
    ∙ ap (λ all. out ++ flat_map ended all)
    (sym (ap (flat_map rows) (taken items index item within is) ∙ flat_map-append rows (take index items) (item ∷ []) ∙ ap (λ last. before ++ last) (append-nil (rows item))))
