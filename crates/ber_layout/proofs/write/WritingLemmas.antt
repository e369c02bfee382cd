-- The elements of values, one more at a time.
use Rattle.std.proofs.Common.{◌≡◌, ℕ, ◌+◌, ◌<◌, List, [], ◌∷◌, ◌++◌, length, get_or, take, map, sym, ap, ◌∙◌, append_assoc}
use Rattle.std.proofs.lemmas.List.{append-nil, take_more, map_push}
use Rattle.ber_layout.specs.Spellings.{element_octets, each_octets}

-- the elements of values and one more
pub each_octets_more : {A : Type 0} (tag : ℕ) (content : A → List ℕ) (values : List A) (value : A)
    → each_octets tag content (values ++ value ∷ []) ≡ each_octets tag content values ++ element_octets tag (content value)
each_octets_more tag content [] value = append-nil (element_octets tag (content value))
each_octets_more tag content (first ∷ values) value =
    ap (λ (s : List ℕ). element_octets tag (content first) ++ s) (each_octets_more tag content values value)
    ∙ sym (append_assoc (element_octets tag (content first)) (each_octets tag content values) (element_octets tag (content value)))

-- the same, of a list by its index
pub each_octets_at : {A X : Type 0} (tag : ℕ) (content : X → List ℕ) (parts : A → X) (values : List A) (i : ℕ) (value : A)
    → i < length values → value ≡ get_or values i value
    → each_octets tag content (map parts (take (i + 1) values)) ≡ each_octets tag content (map parts (take i values)) ++ element_octets tag (content (parts value))
each_octets_at {A} tag content parts values i value within is =
    let front : take (i + 1) values ≡ take i values ++ value ∷ [] =
    take_more values i value within ∙ ap (λ (v : A). take i values ++ v ∷ []) (sym is) in
    ap (λ (l : List A). each_octets tag content (map parts l)) front
    ∙ ap (each_octets tag content) (map_push parts (take i values) value)
    ∙ each_octets_more tag content (map parts (take i values)) (parts value)
