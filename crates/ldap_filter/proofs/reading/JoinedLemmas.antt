-- The filters of elements, one more at a time.
use Rattle.std.proofs.Common.{◌≡◌, ℕ, zero, suc, ◌<◌, ◌≤◌, Bool, true, false, cond, eqb, List, [], ◌∷◌, ◌++◌, length, Option, Some, None, refl, sym, ap, ◌∙◌, arith}
use Rattle.std.proofs.lemmas.Bool.{eqb-true}
use Rattle.std.proofs.lemmas.List.{nil_from_length}
use Rattle.ber_layout.specs.element.Pieces.{◌>>=◌}
use Rattle.ber_layout.specs.components.Components.{Component, any_of}
use Rattle.ber_layout.proofs.Theorems.{any_sound}
use Rattle.ldap_filter.specs.filter.Filters.{Filter, Filters, filters_of}
use Rattle.ldap_filter.specs.filter.Filters.Filters.{Nil, Cons}
use Rattle.ldap_filter.specs.reading.FilterReading.{all_from, all_of}
use Rattle.ldap_filter.specs.reading.Joined.{joined, behind}

-- what follows an element is shorter
pub any_shorter : (bytes : List ℕ) (found : Component (ℕ × List ℕ)) → any_of bytes ≡ Some found → length found.rest < length bytes
any_shorter bytes found e = (any_sound bytes found e).shorter

same_by : (reader : ℕ × List ℕ → Option Filter) (f g : List ℕ → Option Filters) (bytes : List ℕ) (o : Option (Component (ℕ × List ℕ))) → any_of bytes ≡ o
    → ((found : Component (ℕ × List ℕ)) → any_of bytes ≡ Some found → f found.rest ≡ g found.rest)
    → (o >>= λ (found : Component (ℕ × List ℕ)). (reader found.value >>= λ (first : Filter). (f found.rest >>= λ (rest : Filters). Some (Cons first rest))))
    ≡ (o >>= λ (found : Component (ℕ × List ℕ)). (reader found.value >>= λ (first : Filter). (g found.rest >>= λ (rest : Filters). Some (Cons first rest))))
same_by reader f g bytes None e same = refl
same_by reader f g bytes (Some found) e same =
    ap (λ (o : Option Filters). reader found.value >>= λ (first : Filter). (o >>= λ (rest : Filters). Some (Cons first rest))) (same found e)

pub from_enough : (j k : ℕ) (reader : ℕ × List ℕ → Option Filter) (bytes : List ℕ) → length bytes ≤ j → length bytes ≤ k → all_from j reader bytes ≡ all_from k reader bytes
unfolding all_from
from_enough j k reader [] hj hk = refl
from_enough zero k reader (b ∷ bytes) hj hk = absurd (omega arith)
from_enough (suc j) zero reader (b ∷ bytes) hj hk = absurd (omega arith)
from_enough (suc j) (suc k) reader (b ∷ bytes) hj hk =
    same_by reader (all_from j reader) (all_from k reader) (b ∷ bytes) (any_of (b ∷ bytes)) refl
    (λ found e. let shorter = any_shorter (b ∷ bytes) found e in from_enough j k reader found.rest (omega (arith, shorter)) (omega (arith, shorter)))

-- one element more
pub all_step : (reader : ℕ × List ℕ → Option Filter) (bytes : List ℕ) (found : Component (ℕ × List ℕ)) → any_of bytes ≡ Some found
    → all_of reader bytes ≡ (reader found.value >>= λ (first : Filter). (all_of reader found.rest >>= λ (rest : Filters). Some (Cons first rest)))
unfolding all_of all_from
all_step reader [] found e = let shorter = any_shorter [] found e in absurd (omega (arith, shorter))
all_step reader (b ∷ bytes) found e =
    let shorter = any_shorter (b ∷ bytes) found e in
    ap (λ (o : Option (Component (ℕ × List ℕ))). o >>= λ (f : Component (ℕ × List ℕ)). (reader f.value >>= λ (first : Filter). (all_from (length bytes) reader f.rest >>= λ (rest : Filters). Some (Cons first rest)))) e
    ∙ ap (λ (o : Option Filters). reader found.value >>= λ (first : Filter). (o >>= λ (rest : Filters). Some (Cons first rest)))
    (from_enough (length bytes) (length found.rest) reader found.rest (omega (arith, shorter)) (omega arith))

-- there is no element
pub all_none : (reader : ℕ × List ℕ → Option Filter) (bytes : List ℕ) → eqb (length bytes) 0 ≡ false → any_of bytes ≡ None → all_of reader bytes ≡ None
unfolding all_of all_from
all_none reader [] some e = absurd cc
all_none reader (b ∷ bytes) some e =
    ap (λ (o : Option (Component (ℕ × List ℕ))). o >>= λ (f : Component (ℕ × List ℕ)). (reader f.value >>= λ (first : Filter). (all_from (length bytes) reader f.rest >>= λ (rest : Filters). Some (Cons first rest)))) e

-- nothing is left
pub all_done : (reader : ℕ × List ℕ → Option Filter) (bytes : List ℕ) → eqb (length bytes) 0 ≡ true → all_of reader bytes ≡ Some Nil
unfolding all_of all_from
all_done reader bytes none = ap (all_of reader) (nil_from_length bytes (eqb-true (length bytes) 0 none))

-- filters and one more before others
pub joined_more : (members : List Filter) (member : Filter) (others : Filters) → joined (members ++ member ∷ []) others ≡ joined members (Cons member others)
joined_more [] member others = refl
joined_more (first ∷ rest) member others = ap (λ (f : Filters). Cons first f) (joined_more rest member others)

pub joined_nil : (members : List Filter) → joined members Nil ≡ filters_of members
joined_nil [] = refl
joined_nil (first ∷ rest) = ap (λ (f : Filters). Cons first f) (joined_nil rest)

pub behind_more : (members : List Filter) (member : Filter) (found : Option Filters)
    → behind members (found >>= λ (rest : Filters). Some (Cons member rest)) ≡ behind (members ++ member ∷ []) found
behind_more members member None = refl
behind_more members member (Some others) = ap (λ (f : Filters). Some f) (sym (joined_more members member others))
