-- A printed specification is read as it was, where it is good.
use Prim.Native.Nat.{zero}
use Rattle.std.proofs.Common.{◌≡◌, ℕ, suc, ◌≤◌, Bool, true, false, List, [], ◌∷◌, ◌++◌, Option, Some, None, option_map, codes, refl, sym, ap, ◌∙◌, subst, append_assoc, arith}
use Rattle.std.proofs.lemmas.List.{append-nil}
use Rattle.std.specs.Prelude.{◌==◌, if◌then◌else◌}
use Rattle.std.specs.List.{AllByRecursion}
use Rattle.std.specs.List.Sorted.{IsStrictlySortedBy}
use Rattle.std.proofs.lemmas.Bool.Decides.{nat_tests}
use Rattle.dn_names.specs.name.Names.{RdnSequence}
use Rattle.dn_names.specs.NameOrder.{name_cmp}
use Rattle.dn_names.specs.name.GoodNames.{IsGoodName}
use Rattle.gser_tree.specs.Lexemes.{Lexeme, class_of, is_word}
use Rattle.gser_tree.specs.TextOf.{part_at}
use Rattle.gser_tree.specs.looking.Shapes as shapes
use Rattle.gser_tree.specs.looking.Shapes.{Shape, listed}
use Rattle.gser_tree.specs.Reading.{Read}
use Rattle.gser_tree.specs.Writing.{print_choice, print_optional, print_filled, print_braces, print_number, print_word}
use Rattle.gser_tree.proofs.Theorems.{listed_gathered, IsWritten, AreWritten, IsRead, Prints, AreGathered, none_gathered, more_gathered, choice_is_written, none_are_written, more_are_written, braces_are_written, written_weaker, written_within, Skips, skips_end, OptionalRead, PrintsOptional, optional_is_written, number_prints}
use Rattle.subtree_spec.specs.Parts.{name, set_of}
use Rattle.subtree_spec.specs.Subtrees as subtrees
use Rattle.subtree_spec.specs.Subtrees.{Choice, Choices, Item, And, Or, Not, gathered, Subtree}
use Rattle.subtree_spec.specs.SubtreeText.{no_chops, chops, exclusions, distance, item, refinement, there, components, subtree}
use Rattle.subtree_spec.specs.SubtreePrinted.{print_dn, print_base, print_chops, print_exclusions, print_minimum, print_refinement, print_refinements, print_components, print_subtree}
use Rattle.subtree_spec.specs.GoodSubtrees.{AreGoodNames, IsGoodChoice, AreGoodChoices, IfThere, IsGoodSubtree}
use Rattle.subtree_spec.proofs.laws.PartPrints.{name_prints, item_prints}
use Rattle.subtree_spec.proofs.exclusions.ChopLemmas.{put_name-next}

-- ---- words

before_word : is_word (codes "chopBefore") ≡ true
unfolding class_of
before_word = refl

after_word : is_word (codes "chopAfter") ≡ true
unfolding class_of
after_word = refl

-- ---- exclusions

-- an exclusion of the kind
IsChop : List ℕ → RdnSequence → Shape → Type 0
IsChop kind value shape = (place : ℕ) × (inner : Shape) × (shape ≡ shapes.Chosen (part_at place kind) inner) × IsRead name value inner

chop_is_written : (kind : List ℕ) (value : RdnSequence) → is_word kind ≡ true → IsGoodName value → IsWritten 63 (IsChop kind value) (print_choice kind (print_dn value))
unfolding IsChop
chop_is_written kind value word good =
    choice_is_written 63 (IsRead name value) (IsChop kind value) kind (print_dn value) word (name_prints 63 value good) (λ place shape read. (place, shape, refl, read))

-- those of chopAfter, behind others
AreAfter : List RdnSequence → List Shape → Type 0
AreAfter names members = (before seen : List RdnSequence) (bad : Option ℕ) → IsStrictlySortedBy name_cmp (seen ++ names)
    → chops (record { before = before; after = seen }) members bad ≡ Some (record { value = record { before = before; after = seen ++ names }; bad = bad })

more_after : (value : RdnSequence) (names : List RdnSequence) (shape : Shape) (members : List Shape) → IsChop (codes "chopAfter") value shape
    → AreAfter names members → AreAfter (value ∷ names) (shape ∷ members)
unfolding IsChop AreAfter
more_after value names shape members (place, inner, is, read) behind before seen bad sorted =
    rw (is, read bad, put_name-next seen value names sorted)
    (behind before (seen ++ value ∷ []) bad (subst (λ (n : List RdnSequence). IsStrictlySortedBy name_cmp n) (sym (append_assoc seen (value ∷ []) names)) sorted)
    ∙ ap (λ n. Some (record { value = record { before = before; after = n }; bad = bad })) (append_assoc seen (value ∷ []) names))

after_are_written : (names : List RdnSequence) → AllByRecursion IsGoodName names → AreWritten 63 (AreAfter names) (print_chops (codes "chopAfter") names)
unfolding AreAfter
after_are_written [] good = none_are_written 63 (AreAfter []) (λ before seen bad sorted. ap (λ n. Some (record { value = record { before = before; after = n }; bad = bad })) (sym (append-nil seen)))
after_are_written (value ∷ names) good =
    more_are_written 63 (IsChop (codes "chopAfter") value) (AreAfter names) (AreAfter (value ∷ names)) (print_choice (codes "chopAfter") (print_dn value))
    (print_chops (codes "chopAfter") names) (chop_is_written (codes "chopAfter") value after_word good.0) (after_are_written names good.1)
    (λ shape members one others. more_after value names shape members one others)

-- those of chopBefore, behind others, and then those of chopAfter
AreBoth : List RdnSequence → List RdnSequence → List Shape → Type 0
AreBoth names after members = (seen : List RdnSequence) (bad : Option ℕ) → IsStrictlySortedBy name_cmp (seen ++ names)
    → chops (record { before = seen; after = [] }) members bad ≡ Some (record { value = record { before = seen ++ names; after = after }; bad = bad })

more_both : (value : RdnSequence) (names after : List RdnSequence) (shape : Shape) (members : List Shape) → IsChop (codes "chopBefore") value shape
    → AreBoth names after members → AreBoth (value ∷ names) after (shape ∷ members)
unfolding IsChop AreBoth
more_both value names after shape members (place, inner, is, read) behind seen bad sorted =
    rw (is, read bad, put_name-next seen value names sorted)
    (behind (seen ++ value ∷ []) bad (subst (λ (n : List RdnSequence). IsStrictlySortedBy name_cmp n) (sym (append_assoc seen (value ∷ []) names)) sorted)
    ∙ ap (λ n. Some (record { value = record { before = n; after = after }; bad = bad })) (append_assoc seen (value ∷ []) names))

both_are_written : (names after : List RdnSequence) → AllByRecursion IsGoodName names → AreGoodNames after
    → AreWritten 63 (AreBoth names after) (print_exclusions names after)
unfolding AreBoth AreAfter
both_are_written [] after good others =
    written_weaker 63 (AreAfter after) (AreBoth [] after) (print_chops (codes "chopAfter") after)
    (λ members has seen bad sorted. has seen [] bad others.sorted ∙ ap (λ n. Some (record { value = record { before = n; after = after }; bad = bad })) (sym (append-nil seen)))
    (after_are_written after others.good)
both_are_written (value ∷ names) after good others =
    more_are_written 63 (IsChop (codes "chopBefore") value) (AreBoth names after) (AreBoth (value ∷ names) after) (print_choice (codes "chopBefore") (print_dn value))
    (print_exclusions names after) (chop_is_written (codes "chopBefore") value before_word good.0) (both_are_written names after good.1 others)
    (λ shape members one others. more_both value names after shape members one others)

pub exclusions_print : (names after : List RdnSequence) → AreGoodNames names → AreGoodNames after
    → Prints 64 exclusions (print_braces (print_exclusions names after)) (record { before = names; after = after })
unfolding exclusions AreBoth
exclusions_print names after good others =
    braces_are_written 63 (AreBoth names after) (IsRead exclusions (record { before = names; after = after })) (print_exclusions names after)
    (both_are_written names after good.good others)
    (λ members has bad. rw (listed_gathered members) (has [] bad good.sorted))

-- ---- refinements

-- a set as a list
abbrev members_of : Choices → List Choice
members_of subtrees.None = []
members_of (subtrees.Some choice choices) = choice ∷ members_of choices

gathered-members_of : (choices : Choices) → gathered (members_of choices) ≡ choices
gathered-members_of subtrees.None = refl
gathered-members_of (subtrees.Some choice choices) = ap (subtrees.Some choice) (gathered-members_of choices)

item_word : is_word (codes "item") ≡ true
unfolding class_of
item_word = refl

and_word : is_word (codes "and") ≡ true
unfolding class_of
and_word = refl

or_word : is_word (codes "or") ≡ true
unfolding class_of
or_word = refl

not_word : is_word (codes "not") ≡ true
unfolding class_of
not_word = refl

-- a set of refinements, each of which is read
set_prints : (depth : ℕ) (items : List (List Lexeme)) (choices : Choices) → AreWritten depth (AreGathered (refinement depth) (members_of choices)) items
    → Prints (suc depth) (set_of (refinement depth)) (print_braces items) (members_of choices)
set_prints depth items choices written =
    braces_are_written depth (AreGathered (refinement depth) (members_of choices)) (IsRead (set_of (refinement depth)) (members_of choices)) items written
    (λ members has bad. rw (listed_gathered members) (has [] bad))

mutual
  unfolding refinement

  choice_prints : (depth : ℕ) (choice : Choice) → IsGoodChoice depth choice → Prints depth (refinement depth) (print_refinement choice) choice
  choice_prints zero choice good = absurd good
  choice_prints (suc depth) (Item oid) good =
      choice_is_written (suc depth) (IsRead item oid) (IsRead (refinement (suc depth)) (Item oid)) (codes "item") (print_word oid) item_word (item_prints (suc depth) oid good)
      (λ place shape read bad. rw (read bad) refl)
  choice_prints (suc depth) (And choices) good =
      choice_is_written (suc depth) (IsRead (set_of (refinement depth)) (members_of choices)) (IsRead (refinement (suc depth)) (And choices)) (codes "and")
      (print_braces (print_refinements choices)) and_word (set_prints depth (print_refinements choices) choices (choices_print depth choices good))
      (λ place shape read bad. rw (read bad, gathered-members_of choices) refl)
  choice_prints (suc depth) (Or choices) good =
      choice_is_written (suc depth) (IsRead (set_of (refinement depth)) (members_of choices)) (IsRead (refinement (suc depth)) (Or choices)) (codes "or")
      (print_braces (print_refinements choices)) or_word (set_prints depth (print_refinements choices) choices (choices_print depth choices good))
      (λ place shape read bad. rw (read bad, gathered-members_of choices) refl)
  choice_prints (suc depth) (Not choice) good =
      choice_is_written (suc depth) (IsRead (refinement depth) choice) (IsRead (refinement (suc depth)) (Not choice)) (codes "not")
      (print_refinement choice) not_word
      (written_within depth (suc depth) (IsRead (refinement depth) choice) (print_refinement choice) (omega arith) (choice_prints depth choice good))
      (λ place shape read bad. rw (read bad) refl)

  choices_print : (depth : ℕ) (choices : Choices) → AreGoodChoices depth choices
      → AreWritten depth (AreGathered (refinement depth) (members_of choices)) (print_refinements choices)
  choices_print depth subtrees.None good = none_are_written depth (AreGathered (refinement depth) []) (none_gathered (refinement depth))
  choices_print depth (subtrees.Some choice choices) good =
      more_are_written depth (IsRead (refinement depth) choice) (AreGathered (refinement depth) (members_of choices))
      (AreGathered (refinement depth) (choice ∷ members_of choices)) (print_refinement choice) (print_refinements choices)
      (choice_prints depth choice good.0) (choices_print depth choices good.1)
      (λ shape members one others. more_gathered (refinement depth) choice (members_of choices) shape members one others)

-- ---- the components

base_word : is_word (codes "base") ≡ true
unfolding class_of
base_word = refl

exclusions_word : is_word (codes "specificExclusions") ≡ true
unfolding class_of
exclusions_word = refl

minimum_word : is_word (codes "minimum") ≡ true
unfolding class_of
minimum_word = refl

maximum_word : is_word (codes "maximum") ≡ true
unfolding class_of
maximum_word = refl

filter_word : is_word (codes "specificationFilter") ≡ true
unfolding class_of
filter_word = refl

-- a value that is there is read where the value is
pub there_prints : {A : Type 0} (most : ℕ) (reader : Shape → Read A) (lexemes : List Lexeme) (value : A) → Prints most reader lexemes value
    → Prints most (there reader) lexemes (Some value)
there_prints most reader lexemes value prints = λ place.
    let inner = prints place in
    record { shape = inner.shape; proper = inner.proper; placed = inner.placed; nested = inner.nested; has = λ bad. rw (inner.has bad) refl }

base_prints : (base : RdnSequence) → IsGoodName base → PrintsOptional 64 [] name (print_base base) base
base_prints [] good = refl
base_prints (rdn ∷ rdns) good = name_prints 64 (rdn ∷ rdns) good

chops_print : (before after : List RdnSequence) → AreGoodNames before → AreGoodNames after
    → PrintsOptional 64 no_chops exclusions (print_filled (print_exclusions before after)) (record { before = before; after = after })
chops_print [] [] good others = refl
chops_print [] (value ∷ after) good others = exclusions_print [] (value ∷ after) good others
chops_print (value ∷ before) after good others = exclusions_print (value ∷ before) after good others

minimum_prints : (minimum : ℕ) → minimum ≤ 2147483647 → PrintsOptional 64 0 distance (print_minimum minimum) minimum
minimum_prints minimum fits = inner (minimum == 0) refl
  where
    inner : (b : Bool) → (minimum == 0) ≡ b → PrintsOptional 64 0 distance (if b then None else Some (print_number minimum)) minimum
    inner true is = grind (arith, nat_tests)
    inner false is = number_prints 64 2147483647 minimum fits (omega arith)

maximum_prints : (maximum : Option ℕ) → IfThere (λ count. count ≤ 2147483647) maximum
    → PrintsOptional 64 None (there distance) (option_map print_number maximum) maximum
maximum_prints None fits = refl
maximum_prints (Some count) fits = there_prints 64 distance (print_number count) count (number_prints 64 2147483647 count fits (omega arith))

filter_prints : (filter : Option Choice) → IfThere (IsGoodChoice 64) filter
    → PrintsOptional 64 None (there (refinement 64)) (option_map print_refinement filter) filter
filter_prints None good = refl
filter_prints (Some choice) good = there_prints 64 (refinement 64) (print_refinement choice) choice (choice_prints 64 choice good)

-- ---- the whole

-- the members from each component on
abbrev FromFilter : Subtree → List Shape → Type 0
FromFilter spec members =
    OptionalRead (codes "maximum" ∷ codes "minimum" ∷ codes "specificExclusions" ∷ codes "base" ∷ []) (codes "specificationFilter") None (there (refinement 64)) spec.filter
    (λ rest. rest ≡ []) members

abbrev FromMaximum : Subtree → List Shape → Type 0
FromMaximum spec members =
    OptionalRead (codes "minimum" ∷ codes "specificExclusions" ∷ codes "base" ∷ []) (codes "maximum") None (there distance) spec.maximum (FromFilter spec) members

abbrev FromMinimum : Subtree → List Shape → Type 0
FromMinimum spec members =
    OptionalRead (codes "specificExclusions" ∷ codes "base" ∷ []) (codes "minimum") 0 distance spec.minimum (FromMaximum spec) members

abbrev FromExclusions : Subtree → List Shape → Type 0
FromExclusions spec members =
    OptionalRead (codes "base" ∷ []) (codes "specificExclusions") no_chops exclusions (record { before = spec.before; after = spec.after }) (FromMinimum spec) members

abbrev FromBase : Subtree → List Shape → Type 0
FromBase spec members = OptionalRead [] (codes "base") [] name spec.base (FromExclusions spec) members

filter_is_written : (spec : Subtree) → IsGoodSubtree spec
    → AreWritten 64 (FromFilter spec) (print_optional (codes "specificationFilter") (option_map print_refinement spec.filter))
filter_is_written spec good =
    subst (λ (items : List (List Lexeme)). AreWritten 64 (FromFilter spec) items) (append-nil (print_optional (codes "specificationFilter") (option_map print_refinement spec.filter)))
    (optional_is_written 64 (codes "maximum" ∷ codes "minimum" ∷ codes "specificExclusions" ∷ codes "base" ∷ []) (codes "specificationFilter") None (there (refinement 64))
    (option_map print_refinement spec.filter) spec.filter (λ rest. rest ≡ []) [] filter_word (refl, (refl, (refl, (refl, tt))))
    (λ members none. subst (λ (m : List Shape). Skips (codes "specificationFilter" ∷ codes "maximum" ∷ codes "minimum" ∷ codes "specificExclusions" ∷ codes "base" ∷ []) m)
    (sym none) (skips_end (codes "specificationFilter" ∷ codes "maximum" ∷ codes "minimum" ∷ codes "specificExclusions" ∷ codes "base" ∷ [])))
    (filter_prints spec.filter good.filter) (none_are_written 64 (λ rest. rest ≡ []) refl))

components_are_written : (spec : Subtree) → IsGoodSubtree spec → AreWritten 64 (FromBase spec) (print_components spec)
components_are_written spec good = from_base
  where
    from_maximum : AreWritten 64 (FromMaximum spec) (print_optional (codes "maximum") (option_map print_number spec.maximum)
        ++ print_optional (codes "specificationFilter") (option_map print_refinement spec.filter))
    from_maximum =
        optional_is_written 64 (codes "minimum" ∷ codes "specificExclusions" ∷ codes "base" ∷ []) (codes "maximum") None (there distance)
        (option_map print_number spec.maximum) spec.maximum (FromFilter spec) (print_optional (codes "specificationFilter") (option_map print_refinement spec.filter))
        maximum_word (refl, (refl, (refl, tt))) (λ members has. has.skips) (maximum_prints spec.maximum good.maximum) (filter_is_written spec good)

    from_minimum : AreWritten 64 (FromMinimum spec) (print_optional (codes "minimum") (print_minimum spec.minimum)
        ++ (print_optional (codes "maximum") (option_map print_number spec.maximum)
        ++ print_optional (codes "specificationFilter") (option_map print_refinement spec.filter)))
    from_minimum =
        optional_is_written 64 (codes "specificExclusions" ∷ codes "base" ∷ []) (codes "minimum") 0 distance
        (print_minimum spec.minimum) spec.minimum (FromMaximum spec) (print_optional (codes "maximum") (option_map print_number spec.maximum)
        ++ print_optional (codes "specificationFilter") (option_map print_refinement spec.filter))
        minimum_word (refl, (refl, tt)) (λ members has. has.skips) (minimum_prints spec.minimum good.minimum) from_maximum

    from_exclusions : AreWritten 64 (FromExclusions spec) (print_optional (codes "specificExclusions") (print_filled (print_exclusions spec.before spec.after))
        ++ (print_optional (codes "minimum") (print_minimum spec.minimum)
        ++ (print_optional (codes "maximum") (option_map print_number spec.maximum)
        ++ print_optional (codes "specificationFilter") (option_map print_refinement spec.filter))))
    from_exclusions =
        optional_is_written 64 (codes "base" ∷ []) (codes "specificExclusions") no_chops exclusions
        (print_filled (print_exclusions spec.before spec.after)) (record { before = spec.before; after = spec.after }) (FromMinimum spec)
        (print_optional (codes "minimum") (print_minimum spec.minimum)
        ++ (print_optional (codes "maximum") (option_map print_number spec.maximum)
        ++ print_optional (codes "specificationFilter") (option_map print_refinement spec.filter)))
        exclusions_word (refl, tt) (λ members has. has.skips) (chops_print spec.before spec.after good.before good.after) from_minimum

    from_base : AreWritten 64 (FromBase spec) (print_components spec)
    from_base =
        optional_is_written 64 [] (codes "base") [] name (print_base spec.base) spec.base (FromExclusions spec)
        (print_optional (codes "specificExclusions") (print_filled (print_exclusions spec.before spec.after))
        ++ (print_optional (codes "minimum") (print_minimum spec.minimum)
        ++ (print_optional (codes "maximum") (option_map print_number spec.maximum)
        ++ print_optional (codes "specificationFilter") (option_map print_refinement spec.filter))))
        base_word tt (λ members has. has.skips) (base_prints spec.base good.base) from_exclusions

components_read : (spec : Subtree) (members : List Shape) → FromBase spec members → (bad : Option ℕ)
    → components members bad ≡ Some (record { value = record { value = spec; rest = [] }; bad = bad })
unfolding components
components_read spec members has bad =
    let exclusions = has.behind in
    let minimum = exclusions.behind in
    let maximum = minimum.behind in
    let filter = maximum.behind in
    rw (has.read bad, exclusions.read bad, minimum.read bad, maximum.read bad, filter.read bad)
    (ap (λ rest. Some (record { value = record { value = spec; rest = rest }; bad = bad })) filter.behind)

-- a good specification is read as it was
pub subtree_prints : (spec : Subtree) → IsGoodSubtree spec → Prints 65 subtree (print_subtree spec) spec
unfolding print_subtree subtree
subtree_prints spec good =
    braces_are_written 64 (FromBase spec) (IsRead subtree spec) (print_components spec) (components_are_written spec good)
    (λ members has bad. rw (listed_gathered members, components_read spec members has bad) refl)
