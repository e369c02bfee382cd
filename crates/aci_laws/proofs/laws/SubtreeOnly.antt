-- A subtree of user classes that is read with no bad part has no refinement.
use Prim.Native.Nat.{zero}
use Rattle.std.proofs.Common.{◌≡◌, ℕ, suc, Bool, true, false, List, [], ◌∷◌, codes, refl, sym, ap, ◌∙◌, subst, arith}
use Rattle.std.specs.Prelude.{◌-◌, Option, Some, None, length, slice_get, if◌then◌else◌}
use Rattle.std.specs.Str.{bytes_eq}
use Rattle.std.proofs.lemmas.Option.{same_Some}
use Rattle.gser_tree.specs.declared.part.Part.{Part}
use Rattle.gser_tree.specs.looking.Looking.{Behind, chosen_in, component, members_in}
use Rattle.gser_tree.specs.Reading.{Found, Read, expect, give, nothing_left, optional, present}
use Rattle.gser_tree.specs.looking.Shapes.{Shape, Word, Quoted, Braces, Named, Chosen}
use Rattle.gser_tree.proofs.Theorems.{both_read, was_there}
use Rattle.subtree_spec.specs.Parts.{name}
use Rattle.subtree_spec.specs.SubtreeText.{components, distance, exclusions, no_chops, refinement, subtree, there}
use Rattle.subtree_spec.specs.Subtrees.{Choice, Subtree}
use Rattle.subtree_spec.proofs.Theorems.{subtree_is_good}
use Rattle.aci_laws.specs.GoodItems.{IsGoodClassSubtree}
use Rattle.aci_item.specs.members.ItemParts.{class_subtree, filter_place, last_of, least, unrefined}
use Rattle.aci_laws.proofs.laws.OnlyLemmas.{OnlyTexts}

-- ---- the last of members

-- the last of what is left is the last of all
abbrev Ends : List Shape → List Shape → Type 0
Ends members rest = (shape : Shape) → last_of rest ≡ Some shape → last_of members ≡ Some shape

one_less : (count : ℕ) → suc count - 1 ≡ count
one_less count = omega arith

ends_behind : (first : Shape) (rest : List Shape) → Ends (first ∷ rest) rest
ends_behind first [] shape h = absurd cc
ends_behind first (next ∷ rest) shape h =
    ap (slice_get (first ∷ next ∷ rest)) (one_less (suc (length rest))) ∙ sym (ap (slice_get (next ∷ rest)) (one_less (length rest))) ∙ h

-- a component that was found was the first of the members
found_first : (name : List ℕ) (members : List Shape) (found : Behind Shape) → component name members ≡ Some found
    → (part : Part) × (members ≡ Named part found.value ∷ found.rest)
found_first name [] found h = absurd cc
found_first name (Named part shape ∷ rest) found h = inner (bytes_eq part.text name) h
  where
    inner : (b : Bool) → (if b then Some (record { value = shape; rest = rest }) else None) ≡ Some found
        → (other : Part) × (Named part shape ∷ rest ≡ Named other found.value ∷ found.rest)
    inner true h =
        let same = same_Some (record { value = shape; rest = rest }) found h in
        (part, ap (λ (f : Behind Shape). Named part f.value ∷ f.rest) same)
    inner false h = absurd cc
found_first name (Word part ∷ rest) found h = absurd cc
found_first name (Quoted part ∷ rest) found h = absurd cc
found_first name (Braces shapes ∷ rest) found h = absurd cc
found_first name (Chosen part shape ∷ rest) found h = absurd cc

-- what is left behind an optional component
optional_ends : {A : Type 0} (name : List ℕ) (absent : A) (reader : Shape → Read A) (members : List Shape) (bad : Option ℕ) (found : Found (Behind A))
    → optional name absent reader members bad ≡ Some found → Ends members found.value.rest
optional_ends {A} name absent reader members bad found h = inner (component name members) (λ one is. found_first name members one is) h
  where
    inner : (there : Option (Behind Shape)) → ((one : Behind Shape) → there ≡ Some one → (part : Part) × (members ≡ Named part one.value ∷ one.rest))
        → present absent reader members there bad ≡ Some found → Ends members found.value.rest
    inner None first h =
        let same = same_Some (record { value = record { value = absent; rest = members }; bad = bad }) found h in
        subst (λ (f : Found (Behind A)). Ends members f.value.rest) same (λ shape last. last)
    inner (Some one) first h =
        let both = both_read (reader one.value) (λ (value : A). give (record { value = value; rest = one.rest })) bad found h in
        let same = same_Some (record { value = record { value = both.0.value; rest = one.rest }; bad = both.0.bad }) found both.2 in
        let front = first one refl in
        subst (λ (f : Found (Behind A)). Ends members f.value.rest) same
        (subst (λ (m : List Shape). Ends m one.rest) (sym front.1) (ends_behind (Named front.0 one.value) one.rest))

-- ---- the refinement

-- a refinement that was read was a choice
refinement_chosen : (depth : ℕ) (shape : Shape) (bad : Option ℕ) (found : Found Choice) → refinement depth shape bad ≡ Some found
    → (chosen : Part × Shape) × (chosen_in shape ≡ Some chosen)
unfolding refinement
refinement_chosen zero shape bad found h = absurd cc
refinement_chosen (suc depth) shape bad found h =
    let both = both_read (expect (chosen_in shape)) _ bad found h in
    (both.0.value, was_there (chosen_in shape) bad both.0 both.1)

-- the last member is a component, whose value is a choice
LastIsChosen : List Shape → Type 0
LastIsChosen members = (part : Part) × (value : Shape) × (chosen : Part × Shape) × (last_of members ≡ Some (Named part value)) × (chosen_in value ≡ Some chosen)

filter_last : (members : List Shape) (bad : Option ℕ) (found : Found (Behind (Option Choice))) (choice : Choice)
    → optional (codes "specificationFilter") None (there (refinement 64)) members bad ≡ Some found
    → found.value.value ≡ Some choice → found.value.rest ≡ [] → LastIsChosen members
unfolding LastIsChosen
filter_last members bad found choice h some ends =
    inner (component (codes "specificationFilter") members) (λ one is. found_first (codes "specificationFilter") members one is) h
  where
    inner : (there_is : Option (Behind Shape)) → ((one : Behind Shape) → there_is ≡ Some one → (part : Part) × (members ≡ Named part one.value ∷ one.rest))
        → present None (there (refinement 64)) members there_is bad ≡ Some found → LastIsChosen members
    inner None first h =
        let same = same_Some (record { value = record { value = None; rest = members }; bad = bad }) found h in
        let never : None ≡ Some choice = ap (λ (f : Found (Behind (Option Choice))). f.value.value) same ∙ some in
        absurd cc
    inner (Some one) first h =
        let both = both_read (there (refinement 64) one.value) (λ (value : Option Choice). give (record { value = value; rest = one.rest })) bad found h in
        let same = same_Some (record { value = record { value = both.0.value; rest = one.rest }; bad = both.0.bad }) found both.2 in
        let left : one.rest ≡ [] = ap (λ (f : Found (Behind (Option Choice))). f.value.rest) same ∙ ends in
        let read = both_read (refinement 64 one.value) (λ value. give (Some value)) bad both.0 both.1 in
        let chosen = refinement_chosen 64 one.value bad read.0 read.1 in
        let front = first one refl in
        (front.0, one.value, chosen.0, ap last_of (front.1 ∙ ap (λ rest. Named front.0 one.value ∷ rest) left), chosen.1)

components_last : (members : List Shape) (bad : Option ℕ) (found : Found (Behind Subtree)) (choice : Choice) → components members bad ≡ Some found
    → found.value.value.filter ≡ Some choice → found.value.rest ≡ [] → LastIsChosen members
unfolding components LastIsChosen
components_last members bad found choice h some ends =
    let base = both_read (optional (codes "base") [] name members) _ bad found h in
    let chops = both_read (optional (codes "specificExclusions") no_chops exclusions base.0.value.rest) _ base.0.bad found base.2 in
    let minimum = both_read (optional (codes "minimum") 0 distance chops.0.value.rest) _ chops.0.bad found chops.2 in
    let maximum = both_read (optional (codes "maximum") None (there distance) minimum.0.value.rest) _ minimum.0.bad found minimum.2 in
    let filter = both_read (optional (codes "specificationFilter") None (there (refinement 64)) maximum.0.value.rest) _ maximum.0.bad found maximum.2 in
    let same = same_Some _ found filter.2 in
    let last = filter_last maximum.0.value.rest maximum.0.bad filter.0 choice filter.1 (ap (λ (f : Found (Behind Subtree)). f.value.value.filter) same ∙ some)
    (ap (λ (f : Found (Behind Subtree)). f.value.rest) same ∙ ends) in (
      last.0,
      last.1,
      last.2,
      optional_ends (codes "base") [] name members bad base.0 base.1 (Named last.0 last.1)
          (optional_ends (codes "specificExclusions") no_chops exclusions base.0.value.rest base.0.bad chops.0 chops.1 (Named last.0 last.1)
          (optional_ends (codes "minimum") 0 distance chops.0.value.rest chops.0.bad minimum.0 minimum.1 (Named last.0 last.1)
          (optional_ends (codes "maximum") None (there distance) minimum.0.value.rest minimum.0.bad maximum.0 maximum.1 (Named last.0 last.1) last.3))),
      last.4,
    )

was_left : {A : Type 0} (members : List Shape) (value : A) (bad : Option ℕ) (found : Found A) → nothing_left members value bad ≡ Some found
    → (members ≡ []) × (record { value = value; bad = bad } ≡ found)
was_left [] value bad found h = (refl, same_Some _ found h)
was_left (shape ∷ members) value bad found h = absurd cc

place_by : (shape : Shape) (members : List Shape) (part : Part) (value : Shape) (chosen : Part × Shape) → members_in shape ≡ Some members
    → last_of members ≡ Some (Named part value) → chosen_in value ≡ Some chosen → filter_place shape ≡ Some chosen.0.place
unfolding filter_place
place_by shape members part value chosen one two three = rw (one, two, three) refl

-- a specification that has a refinement has a place of it
refined_place : (shape : Shape) (bad : Option ℕ) (found : Found Subtree) (choice : Choice) → subtree shape bad ≡ Some found → found.value.filter ≡ Some choice
    → (place : ℕ) × (filter_place shape ≡ Some place)
unfolding subtree LastIsChosen
refined_place shape bad found choice h some =
    let all = both_read (expect (members_in shape)) _ bad found h in
    let spec = both_read (components all.0.value) _ all.0.bad found all.2 in
    let left = was_left spec.0.value.rest spec.0.value.value spec.0.bad found spec.2 in
    let last = components_last all.0.value all.0.bad spec.0 choice spec.1 (ap (λ (f : Found Subtree). f.value.filter) left.1 ∙ some) left.0 in (
      last.2.0.place,
      place_by shape all.0.value last.0 last.1 last.2 (was_there (members_in shape) bad all.0 all.1) last.3 last.4,
    )

-- ---- subtrees

no_place : (bad : Option ℕ) (place : ℕ) → least bad (Some place) ≡ None → ⊥
no_place None place h = cc
no_place (Some first) place h = cc

unrefined_is_good : (shape : Shape) (spec : Subtree) (filter : Option Choice) → spec.filter ≡ filter
    → ((choice : Choice) → spec.filter ≡ Some choice → (place : ℕ) × (filter_place shape ≡ Some place))
    → (bad : Option ℕ) (value : Subtree) → unrefined shape spec filter bad ≡ Some (record { value = value; bad = None })
    → (bad ≡ None) × (spec ≡ value) × (spec.filter ≡ None)
unrefined_is_good shape spec None is places bad value h =
    let same = same_Some (record { value = spec; bad = bad }) (record { value = value; bad = None }) h in
    (ap (λ (f : Found Subtree). f.bad) same, ap (λ (f : Found Subtree). f.value) same, is)
unrefined_is_good shape spec (Some choice) is places bad value h =
    let same = same_Some (record { value = spec; bad = least bad (filter_place shape) }) (record { value = value; bad = None }) h in
    let place = places choice is in
    absurd (no_place bad place.0 (ap (least bad) (sym place.1) ∙ ap (λ (f : Found Subtree). f.bad) same))

pub class_subtree_is_good : OnlyTexts IsGoodClassSubtree class_subtree
unfolding class_subtree
class_subtree_is_good shape bad value h =
    let both = both_read (subtree shape) (λ (spec : Subtree). unrefined shape spec spec.filter) bad (record { value = value; bad = None }) h in
    let spec = both.0.value in
    let last = unrefined_is_good shape spec spec.filter refl (λ choice is. refined_place shape bad both.0 choice both.1 is) both.0.bad value both.2 in
    let good = subtree_is_good shape bad spec (both.1 ∙ ap (λ b. Some (record { value = spec; bad = b })) last.0) in
    (good.0, λ texts. subst IsGoodClassSubtree last.1 (record { good = good.1; unrefined = last.2 }))
