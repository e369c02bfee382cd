-- Tuples one behind the other.
use Rattle.std.proofs.Common.{◌≡◌, ℕ, suc, add-one, ◌<◌, ◌+◌, List, [], ◌∷◌, ◌++◌, length, get_or, drop, drop-cons, map, sym, ap, ◌∙◌, append_assoc}
use Rattle.std.specs.Prelude.{flat_map}
use Rattle.std.proofs.lemmas.List.Elements.{filter-append}
use Rattle.aci_item.specs.Permission.{has_some}
use Rattle.aci_item.specs.AciTuples.{AciTuple, kept}

-- what stays of tuples behind others
pub kept_append : (one other : List AciTuple) → kept (one ++ other) ≡ kept one ++ kept other
kept_append one other = filter-append (λ tuple. has_some tuple.permissions) one other

-- what stays of two tuples
pub kept_two : (one other : AciTuple) → kept (one ∷ other ∷ []) ≡ kept (one ∷ []) ++ kept (other ∷ [])
kept_two one other = kept_append (one ∷ []) (other ∷ [])

-- two tuples that are put, one behind the other
pub put_two : (old middle new : List AciTuple) (one other : AciTuple) → middle ≡ old ++ kept (one ∷ []) → new ≡ middle ++ kept (other ∷ [])
    → new ≡ old ++ kept (one ∷ other ∷ [])
put_two old middle new one other first second =
    second ∙ ap (λ m. m ++ kept (other ∷ [])) first ∙ append_assoc old (kept (one ∷ [])) (kept (other ∷ []))
    ∙ ap (λ l. old ++ l) (sym (kept_two one other))

-- a turn of the loop over permissions
pub split_loop : {V A : Type 0} (view : V → A) (tuples : A → List AciTuple) (old new : List AciTuple) (values : List V) (index : ℕ) (value : V)
    (whole : List AciTuple) → index < length values → value ≡ get_or values index value → new ≡ old ++ kept (tuples (view value))
    → old ++ kept (flat_map tuples (map view (drop index values))) ≡ whole → new ++ kept (flat_map tuples (map view (drop (index + 1) values))) ≡ whole
split_loop {V} view tuples old new values index value whole within is put before =
    let rest = flat_map tuples (map view (drop (index + 1) values)) in
    let first : drop index values ≡ value ∷ drop (index + 1) values = drop-cons values index value within
    ∙ ap (λ t. t ∷ drop (suc index) values) (sym is) ∙ ap (λ n. value ∷ drop n values) (sym (add-one index)) in
    ap (λ l. l ++ kept rest) put ∙ append_assoc old (kept (tuples (view value))) (kept rest)
    ∙ ap (λ l. old ++ l) (sym (kept_append (tuples (view value)) rest))
    ∙ sym (ap (λ (vs : List V). old ++ kept (flat_map tuples (map view vs))) first) ∙ before
