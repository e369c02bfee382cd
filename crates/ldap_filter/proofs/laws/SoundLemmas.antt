-- A filter that is read is the one that the octets say, and is not too deep.
use Rattle.std.proofs.Common.{◌≡◌, ℕ, zero, suc, ◌+◌, ◌≤◌, Bool, true, false, cond, eqb, List, [], ◌∷◌, ◌++◌, length, Option, Some, None, refl, sym, ap, subst, ◌∙◌, arith, max}
use Rattle.std.proofs.lemmas.Bool.{eqb-true}
use Rattle.std.proofs.lemmas.List.{nil_from_length}
use Rattle.std.proofs.lemmas.Option.{same_Some}
use Rattle.ber_layout.specs.element.Pieces.{◌>>=◌}
use Rattle.ber_layout.specs.components.Components.{Component, Follows, any_of}
use Rattle.ber_layout.specs.Layouts.{Value, Says as SaysLayout, reads}
use Rattle.ber_layout.proofs.Theorems.{bind_some, guard_some, guard_passed, reads_sound, any_sound}
use Rattle.ldap_filter.specs.filter.Filters.{Filter, Filters, depth, depths}
use Rattle.ldap_filter.specs.filter.Filters.Filter.{And, Or, Not, Equal, Parts, AtLeast, AtMost, Present, Approx, Extensible}
use Rattle.ldap_filter.specs.filter.Filters.Filters.{Nil, Cons}
use Rattle.ldap_filter.specs.Assertion.{assertion_layout}
use Rattle.ldap_filter.specs.reading.FilterLayouts.{parts_layout, IsSome, SaysFilter, SaysFilters, IsFilter, most_deep}
use Rattle.ldap_filter.specs.reading.FilterReading.{asserted, asserted_from, substrings_from, parts_from, parts_in, item_of, all_from, all_of, only_of, level_of, filter_at, filter_of}

none_is : (x y : Filters) → Some x ≡ Some y → x ≡ y
none_is x y e = cc

depth_max : (a b deep : ℕ) → a ≤ deep → b ≤ deep → max a b ≤ deep
depth_max a b deep ha hb = omega arith

one_more : (a deep : ℕ) → a ≤ deep → a + 1 ≤ suc deep
one_more a deep h = omega arith

more_than : (a deep : ℕ) → a ≤ 1 → a ≤ suc deep
more_than a deep h = omega arith

-- the element says the filter, which is at most so deep
pub record Sounds (deep : ℕ) (f : Filter) (element : ℕ × List ℕ) : Type 0 where
  pub says : SaysFilter f element
  pub within : depth f ≤ deep

-- a reader whose filters are at most so deep
abbrev IsReader : ℕ → (ℕ × List ℕ → Option Filter) → Type 0
IsReader deep reader = (element : ℕ × List ℕ) (f : Filter) → reader element ≡ Some f → Sounds deep f element

-- a choice by a tag
pick_by : (test : Bool) (tag k : ℕ) (here rest : Option Filter) (f : Filter) (G : Type 0) → eqb tag k ≡ test → cond test here rest ≡ Some f
    → (tag ≡ k → here ≡ Some f → G) → (rest ≡ Some f → G) → G
pick_by true tag k here rest f G test e is others = is (eqb-true tag k test) e
pick_by false tag k here rest f G test e is others = others e

pick : (tag k : ℕ) (here rest : Option Filter) (f : Filter) (G : Type 0) → cond (eqb tag k) here rest ≡ Some f
    → (tag ≡ k → here ≡ Some f → G) → (rest ≡ Some f → G) → G
pick tag k here rest f G e is others = pick_by (eqb tag k) tag k here rest f G refl e is others

-- ---- items

asserted_by : (make : List ℕ → List ℕ → Filter) (element : ℕ × List ℕ) (f : Filter) → asserted make element.1 ≡ Some f
    → ((kind value : List ℕ) → SaysLayout assertion_layout (kind, (value, tt)) element.1 → Sounds 1 (make kind value) element) → Sounds 1 f element
asserted_by make element f e sounds =
    let a = bind_some (reads assertion_layout element.1) (λ (parts : Value assertion_layout). Some (asserted_from make parts)) f e in
    subst (λ (g : Filter). Sounds 1 g element) (same_Some (make a.0.0 a.0.1.0) f a.2) (sounds a.0.0 a.0.1.0 (reads_sound assertion_layout a.0 element.1 a.1))

parts_by : (kind : List ℕ) (initial : Option (List ℕ)) (any : List (List ℕ)) (final : Option (List ℕ)) (element : ℕ × List ℕ) (f : Filter)
    → element.0 ≡ 0xa4 → SaysLayout parts_layout (kind, ((initial, (any, (final, tt))), tt)) element.1 → substrings_from kind initial any final ≡ Some f → Sounds 1 f element
parts_by kind (Some initial) any final element f tag says e =
    subst (λ (g : Filter). Sounds 1 g element) (same_Some (Parts kind (Some initial) any final) f e) (record { says = (tag, (tt, says)); within = omega arith })
parts_by kind None any (Some final) element f tag says e =
    subst (λ (g : Filter). Sounds 1 g element) (same_Some (Parts kind None any (Some final)) f e) (record { says = (tag, (tt, says)); within = omega arith })
parts_by kind None [] None element f tag says e = absurd cc
parts_by kind None (first ∷ any) None element f tag says e =
    subst (λ (g : Filter). Sounds 1 g element) (same_Some (Parts kind None (first ∷ any) None) f e) (record { says = (tag, (tt, says)); within = omega arith })

parts_sound : (element : ℕ × List ℕ) (f : Filter) → element.0 ≡ 0xa4 → parts_in element.1 ≡ Some f → Sounds 1 f element
parts_sound element f tag e =
    let a = bind_some (reads parts_layout element.1) parts_from f e in
    parts_by a.0.0 a.0.1.0.0 a.0.1.0.1.0 a.0.1.0.1.1.0 element f tag (reads_sound parts_layout a.0 element.1 a.1) a.2

item_sound : (element : ℕ × List ℕ) (f : Filter) → item_of element.0 element.1 ≡ Some f → Sounds 1 f element
item_sound element f e =
    let tag = element.0 in
    let G = Sounds 1 f element in
    pick tag 0xa3 _ _ f G e (λ t e. asserted_by (λ k v. Equal k v) element f e (λ k v says. record { says = (t, says); within = omega arith }))
    (λ e. pick tag 0xa4 _ _ f G e (λ t e. parts_sound element f t e)
    (λ e. pick tag 0xa5 _ _ f G e (λ t e. asserted_by (λ k v. AtLeast k v) element f e (λ k v says. record { says = (t, says); within = omega arith }))
    (λ e. pick tag 0xa6 _ _ f G e (λ t e. asserted_by (λ k v. AtMost k v) element f e (λ k v says. record { says = (t, says); within = omega arith }))
    (λ e. pick tag 0x87 _ _ f G e (λ t e. subst (λ (g : Filter). Sounds 1 g element) (same_Some (Present element.1) f e) (record { says = (t, refl); within = omega arith }))
    (λ e. pick tag 0xa8 _ _ f G e (λ t e. asserted_by (λ k v. Approx k v) element f e (λ k v says. record { says = (t, says); within = omega arith }))
    (λ e. pick tag 0xa9 _ _ f G e (λ t e. subst (λ (g : Filter). Sounds 1 g element) (same_Some (Extensible element.1) f e) (record { says = (t, refl); within = omega arith }))
    (λ e. absurd cc)))))))

-- ---- members

-- the octets say the filters, which are at most so deep
record SoundsAll (deep : ℕ) (fs : Filters) (bytes : List ℕ) : Type 0 where
  says : SaysFilters fs bytes
  within : depths fs ≤ deep

-- a member at the front, and what follows it
first_follows : (deep : ℕ) (reader : ℕ × List ℕ → Option Filter) → IsReader deep reader → (bytes : List ℕ) (found : Component (ℕ × List ℕ)) (f : Filter) (Next : List ℕ → Type 0)
    → any_of bytes ≡ Some found → reader found.value ≡ Some f → Next found.rest → (tag : ℕ) × Follows tag (λ content. SaysFilter f (tag, content)) Next bytes
first_follows deep reader sounds bytes found f Next e read next =
    let stands = any_sound bytes found e in
    let says : SaysFilter f (found.value.0, stands.content) = subst (λ (c : List ℕ). SaysFilter f (found.value.0, c)) stands.inner (sounds found.value f read).says in
    (found.value.0, record { content = stands.content; front = stands.front; rest = found.rest; element = stands.element; inner = says; next = next; joins = stands.joins })

from_sound : (most deep : ℕ) (reader : ℕ × List ℕ → Option Filter) → IsReader deep reader → (bytes : List ℕ) (fs : Filters) → all_from most reader bytes ≡ Some fs → SoundsAll deep fs bytes
unfolding all_from
from_sound most deep reader sounds [] fs e =
    subst (λ (g : Filters). SoundsAll deep g []) (none_is Nil fs e) (record { says = refl; within = omega arith })
from_sound zero deep reader sounds (b ∷ bytes) fs e = absurd cc
from_sound (suc most) deep reader sounds (octet ∷ bytes) fs e =
    let a = bind_some (any_of (octet ∷ bytes)) (λ (found : Component (ℕ × List ℕ)). (reader found.value >>= λ (first : Filter). (all_from most reader found.rest >>= λ (rest : Filters). Some (Cons first rest)))) fs e in
    let b = bind_some (reader a.0.value) (λ (first : Filter). (all_from most reader a.0.rest >>= λ (rest : Filters). Some (Cons first rest))) fs a.2 in
    let c = bind_some (all_from most reader a.0.rest) (λ (rest : Filters). Some (Cons b.0 rest)) fs b.2 in
    let others = from_sound most deep reader sounds a.0.rest c.0 c.1 in
    let member = sounds a.0.value b.0 b.1 in
    let bound = depth_max (depth b.0) (depths c.0) deep member.within others.within in
    let all : SoundsAll deep (Cons b.0 c.0) (octet ∷ bytes) =
    record { says = first_follows deep reader sounds (octet ∷ bytes) a.0 b.0 (SaysFilters c.0) a.1 b.1 others.says; within = bound } in
    subst (λ (g : Filters). SoundsAll deep g (octet ∷ bytes)) (none_is (Cons b.0 c.0) fs c.2) all

all_sound : (deep : ℕ) (reader : ℕ × List ℕ → Option Filter) → IsReader deep reader → (bytes : List ℕ) (fs : Filters) → all_of reader bytes ≡ Some fs → SoundsAll deep fs bytes
unfolding all_of
all_sound deep reader sounds bytes fs e = from_sound (length bytes) deep reader sounds bytes fs e

-- ---- a level

level_sound : (deep : ℕ) (reader : ℕ × List ℕ → Option Filter) → IsReader deep reader → (element : ℕ × List ℕ) (f : Filter) → level_of reader element ≡ Some f → Sounds (suc deep) f element
level_sound deep reader sounds element f e =
    let tag = element.0 in
    let G = Sounds (suc deep) f element in
    pick tag 0xa0 _ _ f G e
    (λ t e. let a = bind_some (all_of reader element.1) (λ (fs : Filters). Some (And fs)) f e in
    let all = all_sound deep reader sounds element.1 a.0 a.1 in
    subst (λ (g : Filter). Sounds (suc deep) g element) (same_Some (And a.0) f a.2) (record { says = (t, all.says); within = one_more (depths a.0) deep all.within }))
    (λ e. pick tag 0xa1 _ _ f G e
    (λ t e. let a = bind_some (all_of reader element.1) (λ (fs : Filters). Some (Or fs)) f e in
    let all = all_sound deep reader sounds element.1 a.0 a.1 in
    subst (λ (g : Filter). Sounds (suc deep) g element) (same_Some (Or a.0) f a.2) (record { says = (t, all.says); within = one_more (depths a.0) deep all.within }))
    (λ e. pick tag 0xa2 _ _ f G e
    (λ t e. let a = bind_some (only_of reader element.1) (λ (member : Filter). Some (Not member)) f e in
    let b = bind_some (any_of element.1) (λ (found : Component (ℕ × List ℕ)). cond (eqb (length found.rest) 0) (reader found.value) None) a.0 a.1 in
    let g = guard_passed (eqb (length b.0.rest) 0) (reader b.0.value) a.0 b.2 in
    let none : b.0.rest ≡ [] = nil_from_length b.0.rest (eqb-true (length b.0.rest) 0 g.0) in
    let says = first_follows deep reader sounds element.1 b.0 a.0 (λ rest. rest ≡ []) b.1 g.1 none in
    subst (λ (h : Filter). Sounds (suc deep) h element) (same_Some (Not a.0) f a.2) (record { says = (t, says); within = one_more (depth a.0) deep (sounds b.0.value a.0 g.1).within }))
    (λ e. let item = item_sound element f e in record { says = item.says; within = more_than (depth f) deep item.within })))

pub at_sound : (deep : ℕ) (element : ℕ × List ℕ) (f : Filter) → filter_at deep element ≡ Some f → Sounds deep f element
unfolding filter_at
at_sound zero element f e = absurd cc
at_sound (suc deep) element f e = level_sound deep (filter_at deep) (at_sound deep) element f e

-- a filter that is read is the one that the octets say, and is not too deep
pub filter_sound : (element : ℕ × List ℕ) (f : Filter) → filter_of element ≡ Some f → IsFilter f element
unfolding filter_of
filter_sound element f e = let sounds = at_sound most_deep element f e in (sounds.says, sounds.within)
