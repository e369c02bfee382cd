-- Printed refinements and exclusions, and what the calls of the program wrote of them.
use Rattle.std.proofs.Common.{◌≡◌, ℕ, ◌<◌, ◌≤◌, ◌+◌, Bool, true, false, List, [], ◌∷◌, ◌++◌, length, take, get_or, refl, sym, ap, subst, ◌∙◌, add-one}
use Rattle.std.proofs.Math.Seq.{take-suc}
use Rattle.std.proofs.lemmas.List.{append-nil, map-append, take_all}
use Rattle.std.proofs.lemmas.Simd.{map-map}
use Rattle.std.specs.Prelude.{map, Some, None, ◌==◌, if◌then◌else◌}
use Rattle.dn_names.specs.name.Names.{RdnSequence}
use Rattle.gser_tree.specs.Lexemes.{Lexeme}
use Rattle.gser_tree.specs.Writing.{text_of, print_braces, print_filled, separator, ending, PutsMembers}
use Rattle.gser_tree.proofs.Theorems.{PutsMembers-one, PutsMembers-append, PutsMembers-braces}
pub use Rattle.gser_tree.proofs.Theorems.{put_choice}
use Rattle.subtree_spec.specs.declared.spec.Refinement.{Refinement}
use Rattle.subtree_spec.specs.Subtrees.{Choice, gathered, choice_of}
use Rattle.subtree_spec.specs.SubtreePrinted.{print_exclusions, print_refinement, print_refinements}

-- the printed refinements of a set, one by one
pub print_refinements-gathered : (choices : List Choice) → print_refinements (gathered choices) ≡ map print_refinement choices
print_refinements-gathered [] = refl
print_refinements-gathered (choice ∷ choices) = ap (λ items. print_refinement choice ∷ items) (print_refinements-gathered choices)

-- one more of the values of a list
pub map-take-next : {A B : Type 0} (print : A → B) (values : List A) (index : ℕ) (value : A) → index < length values → value ≡ get_or values index value
    → map print (take (index + 1) values) ≡ map print (take index values) ++ print value ∷ []
map-take-next print values index value within is =
    ap (λ count. map print (take count values)) (add-one index)
    ∙ ap (map print) (take-suc values index value within)
    ∙ ap (λ last. map print (take index values ++ last ∷ [])) (sym is)
    ∙ map-append print (take index values) (value ∷ [])

-- one more member, behind those that have come
pub put_next : {A : Type 0} (print : A → List Lexeme) (old before middle new : List ℕ) (first next : Bool) (values : List A) (index : ℕ) (value : A)
    → index < length values → value ≡ get_or values index value → PutsMembers old before first next (map print (take index values))
    → middle ≡ before ++ text_of (separator next) → new ≡ middle ++ text_of (print value)
    → PutsMembers old new first false (map print (take (index + 1) values))
put_next print old before middle new first next values index value within is members begun rest =
    let one : PutsMembers before new next false (print value ∷ []) =
    PutsMembers-one before middle new next [] (print value) (begun ∙ ap (λ l. before ++ text_of l) (sym (append-nil (separator next)))) rest in
    subst (λ (items : List (List Lexeme)). PutsMembers old new first false items) (sym (map-take-next print values index value within is))
    (PutsMembers-append old before new first next false (map print (take index values)) (print value ∷ []) members one)

-- all members of a set of refinements, and the end of the braces
pub put_all : (old middle new : List ℕ) (next : Bool) (members : List Refinement) (count : ℕ) → length members ≤ count
    → PutsMembers old middle true next (map (λ member. print_refinement (choice_of member)) (take count members)) → new ≡ middle ++ text_of (ending next)
    → new ≡ old ++ text_of (print_braces (print_refinements (gathered (map choice_of members))))
put_all old middle new next members count all begun end =
    let same : map (λ (member : Refinement). print_refinement (choice_of member)) (take count members) ≡ print_refinements (gathered (map choice_of members)) =
    ap (map (λ (member : Refinement). print_refinement (choice_of member))) (take_all count members all)
    ∙ sym (map-map print_refinement choice_of members) ∙ sym (print_refinements-gathered (map choice_of members)) in
    PutsMembers-braces old middle new next (print_refinements (gathered (map choice_of members)))
    (subst (λ (items : List (List Lexeme)). PutsMembers old middle true next items) same begun) end

-- a set that has members of the first kind has a printed form
pub filled_before : (before after : List RdnSequence) (none : Bool) (count : ℕ) → length before ≡ count → none ≡ (count == 0) → none ≡ false
    → print_filled (print_exclusions before after) ≡ (if none then None else Some (print_braces (print_exclusions before after)))
filled_before [] after none count same is h = absurd (let zero : (count == 0) ≡ true = ap (λ n. n == 0) (sym same) in cc)
filled_before (name ∷ before) after none count same is h = rw h refl
