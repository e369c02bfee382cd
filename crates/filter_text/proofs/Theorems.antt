-- What crates above may cite of filters' texts.
use Rattle.std.proofs.Common.{◌≡◌, ℕ, ◌≤◌, true, false, List, refl, subst, arith}
use Rattle.std.specs.Prelude.{◌↔◌, nat_lt, Result, Ok, Err}
use Rattle.std.proofs.lemmas.Bool.{ltb-true, ltb-false}
use Rattle.regular_text.specs.Place.{IsPlace}
use Rattle.ldap_filter.specs.filter.Filters.{Filter, depth}
use Rattle.ldap_filter.specs.reading.FilterLayouts.{most_deep}
use Rattle.filter_text.specs.FilterText.{IsText, IsFilterText}
use Rattle.filter_text.specs.Nesting.{IsTooDeep}
use Rattle.filter_text.specs.Faults.{FilterCause, Text, TooDeep}
use Rattle.filter_text.specs.Reading.{filter_in}
use Rattle.filter_text.proofs.laws.SaysLemmas.{Says, filter_in-Says, filter_in-text, filter_in-deep}

-- a filter that is read isn't too deep
Ok-low : (filter : Filter) (text : List ℕ) → filter_in text ≡ Ok filter → IsText filter text → depth filter ≤ most_deep
Ok-low filter text e t =
    elim (nat_lt most_deep (depth filter)) as (λ b. nat_lt most_deep (depth filter) ≡ b → depth filter ≤ most_deep) [
      | true ↦ λ h. (let deep = filter_in-deep filter text t (ltb-true most_deep (depth filter) h) in absurd cc)
      | false ↦ λ h. ltb-false most_deep (depth filter) h
    ] refl

-- a text is read as a filter exactly where it is a text of it, which isn't too deep
pub filter_in-Ok : (filter : Filter) (text : List ℕ) → (filter_in text ≡ Ok filter) ↔ (IsText filter text × (depth filter ≤ most_deep))
filter_in-Ok filter text = (
  λ e. (let said = subst (Says text) e (filter_in-Says text) in (said.0, Ok-low filter text e said.0)),
  λ h. filter_in-text filter text h.0 h.1,
)

-- a text that is refused with a place leaves the grammar there
pub filter_in-place : (text : List ℕ) (place : ℕ) → filter_in text ≡ Err (Text place) → IsPlace IsFilterText text place
filter_in-place text place e = (subst (Says text) e (filter_in-Says text)).0

-- it is no filter's text
pub filter_in-none : (text : List ℕ) (place : ℕ) → filter_in text ≡ Err (Text place) → IsFilterText text → ⊥
filter_in-none text place e = (subst (Says text) e (filter_in-Says text)).1

-- none of its fronts is too deep
pub filter_in-shallow : (text : List ℕ) (place : ℕ) → filter_in text ≡ Err (Text place) → IsTooDeep text → ⊥
filter_in-shallow text place e deep =
    let said = subst (Says text) e (filter_in-Says text) in
    let near = said.0.longest deep.size deep.within deep.begins in
    let low = said.2 deep.size near in
    let high = deep.deep in
    omega (arith, low, high)

-- what is said of a text of which a front is too deep
says-deep : (text : List ℕ) (answer : Result Filter FilterCause) → filter_in text ≡ answer → IsTooDeep text → answer ≡ Err TooDeep
says-deep text (Ok filter) e deep =
    let said = subst (Says text) e (filter_in-Says text) in
    let low = said.1 deep.size deep.within in
    let high = deep.deep in
    absurd (omega (arith, low, high))
says-deep text (Err (Text place)) e deep = absurd (filter_in-shallow text place e deep)
says-deep text (Err TooDeep) e deep = refl

-- a text is refused as too deep exactly where a front is
pub filter_in-TooDeep : (text : List ℕ) → (filter_in text ≡ Err TooDeep) ↔ IsTooDeep text
filter_in-TooDeep text = (λ e. subst (Says text) e (filter_in-Says text), λ deep. says-deep text (filter_in text) refl deep)
