-- A filter that the octets say, and that is not too deep, is read.
use Rattle.std.proofs.Common.{◌≡◌, ℕ, zero, suc, ◌+◌, ◌≤◌, true, cond, eqb, List, [], ◌∷◌, ◌++◌, length, Option, Some, None, refl, sym, ap, ◌∙◌, arith, max}
use Rattle.ber_layout.specs.element.Pieces.{◌>>=◌}
use Rattle.ber_layout.specs.components.Components.{Component, Follows, any_of}
use Rattle.ber_layout.specs.Layouts.{Value, Says as SaysLayout, reads}
use Rattle.ber_layout.proofs.Theorems.{reads_complete, any_again}
use Rattle.ldap_filter.specs.filter.Filters.{Filter, Filters, depth, depths}
use Rattle.ldap_filter.specs.filter.Filters.Filter.{And, Or, Not, Equal, Parts, AtLeast, AtMost, Present, Approx, Extensible}
use Rattle.ldap_filter.specs.filter.Filters.Filters.{Nil, Cons}
use Rattle.ldap_filter.specs.Assertion.{assertion_layout}
use Rattle.ldap_filter.specs.reading.FilterLayouts.{parts_layout, IsSome, SaysFilter, SaysFilters, IsFilter, most_deep}
use Rattle.ldap_filter.specs.reading.FilterReading.{asserted_from, substrings_from, parts_from, all_of, level_of, filter_at, filter_of}
use Rattle.ldap_filter.proofs.reading.JoinedLemmas.{all_step, all_done}

-- each filter is at least 1 deep
deep_some : (f : Filter) → 1 ≤ depth f
deep_some (And members) = omega arith
deep_some (Or members) = omega arith
deep_some (Not member) = omega arith
deep_some (Equal kind value) = omega arith
deep_some (Parts kind initial any final) = omega arith
deep_some (AtLeast kind value) = omega arith
deep_some (AtMost kind value) = omega arith
deep_some (Present kind) = omega arith
deep_some (Approx kind value) = omega arith
deep_some (Extensible content) = omega arith

lift : (f : Filter) (deep : ℕ) (element : ℕ × List ℕ) → depth f ≤ deep → ((below : ℕ) → deep ≡ suc below → level_of (filter_at below) element ≡ Some f) → filter_at deep element ≡ Some f
unfolding filter_at
lift f zero element within level = let some = deep_some f in absurd (omega (arith, some))
lift f (suc below) element within level = level below refl

some_parts : (kind : List ℕ) (initial : Option (List ℕ)) (any : List (List ℕ)) (final : Option (List ℕ)) → IsSome initial any final
    → substrings_from kind initial any final ≡ Some (Parts kind initial any final)
some_parts kind (Some initial) any final some = refl
some_parts kind None any (Some final) some = refl
some_parts kind None [] None some = absurd some
some_parts kind None (first ∷ any) None some = refl

member_less : (a deep below : ℕ) → a + 1 ≤ deep → deep ≡ suc below → a ≤ below
member_less a deep below h e = omega arith

left_less : (a b deep : ℕ) → max a b ≤ deep → a ≤ deep
left_less a b deep h = omega arith

right_less : (a b deep : ℕ) → max a b ≤ deep → b ≤ deep
right_less a b deep h = omega arith

asserted_again : (make : List ℕ → List ℕ → Filter) (kind value : List ℕ) (content : List ℕ) → SaysLayout assertion_layout (kind, (value, tt)) content
    → (reads assertion_layout content >>= λ (parts : Value assertion_layout). Some (asserted_from make parts)) ≡ Some (make kind value)
asserted_again make kind value content says =
    ap (λ (o : Option (Value assertion_layout)). o >>= λ (parts : Value assertion_layout). Some (asserted_from make parts)) (reads_complete assertion_layout (kind, (value, tt)) content refl says)

mutual
  pub filter_again : (f : Filter) (deep : ℕ) (element : ℕ × List ℕ) → SaysFilter f element → depth f ≤ deep → filter_at deep element ≡ Some f
  filter_again (And members) deep element says within =
      lift (And members) deep element within (λ below is. ap (λ (t : ℕ). level_of (filter_at below) (t, element.1)) says.0
      ∙ ap (λ (o : Option Filters). o >>= λ (m : Filters). Some (And m)) (filters_again members below element.1 says.1 (member_less (depths members) deep below within is)))
  filter_again (Or members) deep element says within =
      lift (Or members) deep element within (λ below is. ap (λ (t : ℕ). level_of (filter_at below) (t, element.1)) says.0
      ∙ ap (λ (o : Option Filters). o >>= λ (m : Filters). Some (Or m)) (filters_again members below element.1 says.1 (member_less (depths members) deep below within is)))
  filter_again (Not member) deep element says within =
      let tag = says.1.0 in
      let there = says.1.1 in
      lift (Not member) deep element within (λ below is. ap (λ (t : ℕ). level_of (filter_at below) (t, element.1)) says.0
      ∙ ap (λ (s : List ℕ). (any_of s >>= λ (found : Component (ℕ × List ℕ)). cond (eqb (length found.rest) 0) (filter_at below found.value) None) >>= λ (m : Filter). Some (Not m)) there.joins
      ∙ ap (λ (o : Option (Component (ℕ × List ℕ))). (o >>= λ (found : Component (ℕ × List ℕ)). cond (eqb (length found.rest) 0) (filter_at below found.value) None) >>= λ (m : Filter). Some (Not m))
      (any_again tag there.content there.front there.rest there.element)
      ∙ ap (λ (s : List ℕ). cond (eqb (length s) 0) (filter_at below (tag, there.content)) None >>= λ (m : Filter). Some (Not m)) there.next
      ∙ ap (λ (o : Option Filter). o >>= λ (m : Filter). Some (Not m)) (filter_again member below (tag, there.content) there.inner (member_less (depth member) deep below within is)))
  filter_again (Equal kind value) deep element says within =
      lift (Equal kind value) deep element within (λ below is. ap (λ (t : ℕ). level_of (filter_at below) (t, element.1)) says.0 ∙ asserted_again (λ k v. Equal k v) kind value element.1 says.1)
  filter_again (Parts kind initial any final) deep element says within =
      lift (Parts kind initial any final) deep element within (λ below is. ap (λ (t : ℕ). level_of (filter_at below) (t, element.1)) says.0
      ∙ ap (λ (o : Option (Value parts_layout)). o >>= parts_from)
      (reads_complete parts_layout (kind, ((initial, (any, (final, tt))), tt)) element.1 refl says.1.1)
      ∙ some_parts kind initial any final says.1.0)
  filter_again (AtLeast kind value) deep element says within =
      lift (AtLeast kind value) deep element within (λ below is. ap (λ (t : ℕ). level_of (filter_at below) (t, element.1)) says.0 ∙ asserted_again (λ k v. AtLeast k v) kind value element.1 says.1)
  filter_again (AtMost kind value) deep element says within =
      lift (AtMost kind value) deep element within (λ below is. ap (λ (t : ℕ). level_of (filter_at below) (t, element.1)) says.0 ∙ asserted_again (λ k v. AtMost k v) kind value element.1 says.1)
  filter_again (Present kind) deep element says within =
      lift (Present kind) deep element within (λ below is. ap (λ (t : ℕ). level_of (filter_at below) (t, element.1)) says.0 ∙ ap (λ (k : List ℕ). Some (Present k)) (sym says.1))
  filter_again (Approx kind value) deep element says within =
      lift (Approx kind value) deep element within (λ below is. ap (λ (t : ℕ). level_of (filter_at below) (t, element.1)) says.0 ∙ asserted_again (λ k v. Approx k v) kind value element.1 says.1)
  filter_again (Extensible content) deep element says within =
      lift (Extensible content) deep element within (λ below is. ap (λ (t : ℕ). level_of (filter_at below) (t, element.1)) says.0 ∙ ap (λ (k : List ℕ). Some (Extensible k)) (sym says.1))

  pub filters_again : (fs : Filters) (deep : ℕ) (bytes : List ℕ) → SaysFilters fs bytes → depths fs ≤ deep → all_of (filter_at deep) bytes ≡ Some fs
  filters_again Nil deep bytes says within = ap (all_of (filter_at deep)) says ∙ all_done (filter_at deep) [] refl
  filters_again (Cons first rest) deep bytes says within =
      let tag = says.0 in
      let there = says.1 in
      all_step (filter_at deep) bytes (record { value = (tag, there.content); rest = there.rest }) (ap any_of there.joins ∙ any_again tag there.content there.front there.rest there.element)
      ∙ ap (λ (o : Option Filter). o >>= λ (f : Filter). (all_of (filter_at deep) there.rest >>= λ (others : Filters). Some (Cons f others)))
      (filter_again first deep (tag, there.content) there.inner (left_less (depth first) (depths rest) deep within))
      ∙ ap (λ (o : Option Filters). o >>= λ (others : Filters). Some (Cons first others)) (filters_again rest deep there.rest there.next (right_less (depth first) (depths rest) deep within))

-- a filter that the octets say, and that is not too deep, is read
pub filter_complete : (f : Filter) (element : ℕ × List ℕ) → IsFilter f element → filter_of element ≡ Some f
unfolding filter_of
filter_complete f element is = filter_again f most_deep element is.0 is.1
