-- Filters printed one behind the other.
use Rattle.std.proofs.Common.{◌≡◌, ℕ, ◌+◌, ◌<◌, List, [], ◌∷◌, ◌++◌, length, take, get_or, refl, sym, ap, ◌∙◌, append_assoc, append-nil}
use Rattle.std.proofs.lemmas.List.{take_more}
use Rattle.ldap_filter.specs.filter.Filters.{Filter, filters_of}
use Rattle.filter_text.specs.Printing.{print_filter, print_filters}

-- one filter more behind others
print_filters-more : (members : List Filter) (member : Filter) → print_filters (filters_of (members ++ member ∷ [])) ≡ print_filters (filters_of members) ++ print_filter member
print_filters-more [] member = append-nil (print_filter member)
print_filters-more (first ∷ rest) member =
    ap (λ (s : List ℕ). print_filter first ++ s) (print_filters-more rest member)
    ∙ sym (append_assoc (print_filter first) (print_filters (filters_of rest)) (print_filter member))

-- the same, of a list by its index
print_filters-at : (members : List Filter) (i : ℕ) (member : Filter) → i < length members → member ≡ get_or members i member
    → print_filters (filters_of (take (i + 1) members)) ≡ print_filters (filters_of (take i members)) ++ print_filter member
print_filters-at members i member within is =
    ap (λ (l : List Filter). print_filters (filters_of l)) (take_more members i member within ∙ ap (λ (v : Filter). take i members ++ v ∷ []) (sym is))
    ∙ print_filters-more (take i members) member

-- the same, behind what is printed before the members
pub list_text-more : (old : List ℕ) (sign : ℕ) (members : List Filter) (i : ℕ) (member : Filter) → i < length members → member ≡ get_or members i member
    → (before after : List ℕ) → before ≡ old ++ 40 ∷ sign ∷ print_filters (filters_of (take i members)) → after ≡ before ++ print_filter member
    → after ≡ old ++ 40 ∷ sign ∷ print_filters (filters_of (take (i + 1) members))
list_text-more old sign members i member within is before after so_far more =
    more
    ∙ ap (λ (s : List ℕ). s ++ print_filter member) so_far
    ∙ append_assoc old (40 ∷ sign ∷ print_filters (filters_of (take i members))) (print_filter member)
    ∙ ap (λ (s : List ℕ). old ++ 40 ∷ sign ∷ s) (sym (print_filters-at members i member within is))
