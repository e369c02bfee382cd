-- What is read as a specification, with no bad part, is good.
use Prim.Native.Nat.{zero}
use Rattle.std.proofs.Common.{◌≡◌, ℕ, suc, ◌≤◌, true, List, [], ◌∷◌, Some, None, codes, arith}
use Rattle.std.specs.List.{AllByRecursion}
use Rattle.std.specs.List.Sorted.{IsStrictlySortedBy}
use Rattle.std.specs.Str.{bytes_eq}
use Rattle.schema_tables.specs.Oids.{is_dotted_oid}
use Rattle.dn_names.specs.name.Names.{RdnSequence}
use Rattle.dn_names.specs.name.GoodNames.{IsGoodName}
use Rattle.gser_tree.specs.looking.Shapes.{Shape}
use Rattle.gser_tree.specs.looking.Looking.{members_in, chosen_in}
use Rattle.gser_tree.specs.Reading.{Read, expect, give, gather, optional}
use Rattle.gser_tree.proofs.Theorems.{Only, Gives, gives_value, gives_nothing, gives_weaker, gives_both, gives_choice, gives_expected, gives_optional, gives_end, gives_gathered, number_is_at_most}
use Rattle.subtree_spec.specs.Parts.{name, set_of}
use Rattle.subtree_spec.specs.Subtrees.{Choice, Item, And, Or, Not, gathered}
use Rattle.subtree_spec.specs.SubtreeText.{Chops, no_chops, put_name, chop, chop_member, chops, exclusions, distance, item, alternative, refinement, there, components, subtree}
use Rattle.subtree_spec.specs.GoodSubtrees.{AreGoodNames, IsGoodChoice, AreGoodChoices, IfThere, IsGoodSubtree}
use Rattle.subtree_spec.proofs.laws.PartPrints.{name_is_good, item_is_good}
use Rattle.subtree_spec.proofs.exclusions.ChopLemmas.{put_name-all, put_name-sorted}

-- ---- exclusions

good_put : (value : RdnSequence) (names : List RdnSequence) → IsGoodName value → AreGoodNames names → AreGoodNames (put_name value names)
good_put value names good all =
    record { good = put_name-all IsGoodName value names good all.good; sorted = put_name-sorted value names all.sorted }

abbrev AreGoodChops : Chops → Type 0
AreGoodChops names = AreGoodNames names.before × AreGoodNames names.after

no_names : AreGoodNames []
unfolding IsStrictlySortedBy
no_names = record { good = tt; sorted = tt }

chop_is_good : (seen : Chops) (kind : List ℕ) (shape : Shape) → Gives (λ next. AreGoodChops seen → AreGoodChops next) (chop seen kind shape)
chop_is_good seen kind shape =
    gives_choice (λ next. AreGoodChops seen → AreGoodChops next) (bytes_eq kind (codes "chopBefore")) _ _
    (λ _. gives_both IsGoodName (λ next. AreGoodChops seen → AreGoodChops next) (name shape) _ (name_is_good shape)
    (λ value. gives_value (λ next. IsGoodName value → AreGoodChops seen → AreGoodChops next) (record { before = put_name value seen.before; after = seen.after })
    (λ good all. (good_put value seen.before good all.0, all.1))))
    (λ _. gives_choice (λ next. AreGoodChops seen → AreGoodChops next) (bytes_eq kind (codes "chopAfter")) _ _
    (λ _. gives_both IsGoodName (λ next. AreGoodChops seen → AreGoodChops next) (name shape) _ (name_is_good shape)
    (λ value. gives_value (λ next. IsGoodName value → AreGoodChops seen → AreGoodChops next) (record { before = seen.before; after = put_name value seen.after })
    (λ good all. (all.0, good_put value seen.after good all.1))))
    (λ _. gives_nothing (λ next. AreGoodChops seen → AreGoodChops next)))

chop_member_is_good : (seen : Chops) (shape : Shape) → Gives (λ next. AreGoodChops seen → AreGoodChops next) (chop_member seen shape)
chop_member_is_good seen shape =
    gives_both (λ _. Unit {0}) (λ next. AreGoodChops seen → AreGoodChops next) (expect (chosen_in shape)) _
    (gives_expected (λ _. Unit {0}) (chosen_in shape) (λ value is. tt))
    (λ chosen. gives_weaker (λ next. AreGoodChops seen → AreGoodChops next) (λ next. Unit {0} → AreGoodChops seen → AreGoodChops next) _ (λ next h _. h)
    (chop_is_good seen chosen.0.text chosen.1))

chops_are_good : (members : List Shape) (seen : Chops) → Gives (λ found. AreGoodChops seen → AreGoodChops found) (chops seen members)
chops_are_good [] seen = gives_value (λ found. AreGoodChops seen → AreGoodChops found) seen (λ h. h)
chops_are_good (shape ∷ members) seen =
    gives_both (λ next. AreGoodChops seen → AreGoodChops next) (λ found. AreGoodChops seen → AreGoodChops found) (chop_member seen shape) (λ next. chops next members)
    (chop_member_is_good seen shape)
    (λ next. gives_weaker (λ found. AreGoodChops next → AreGoodChops found) (λ found. (AreGoodChops seen → AreGoodChops next) → AreGoodChops seen → AreGoodChops found)
    (chops next members) (λ found h k g. h (k g)) (chops_are_good members next))

exclusions_are_good : Only AreGoodChops exclusions
unfolding exclusions
exclusions_are_good shape =
    gives_both (λ _. Unit {0}) AreGoodChops (expect (members_in shape)) (chops no_chops) (gives_expected (λ _. Unit {0}) (members_in shape) (λ value is. tt))
    (λ members. gives_weaker (λ found. AreGoodChops no_chops → AreGoodChops found) (λ found. Unit {0} → AreGoodChops found) (chops no_chops members)
    (λ found h _. h (no_names, no_names)) (chops_are_good members no_chops))

-- ---- refinements

good_gathered : (depth : ℕ) (members : List Choice) → AllByRecursion (IsGoodChoice depth) members → AreGoodChoices depth (gathered members)
good_gathered depth [] all = tt
good_gathered depth (member ∷ members) all = (all.0, good_gathered depth members all.1)

set_is_good : (depth : ℕ) (reader : Shape → Read Choice) → Only (IsGoodChoice depth) reader → Only (AllByRecursion (IsGoodChoice depth)) (set_of reader)
set_is_good depth reader only shape =
    gives_both (λ _. Unit {0}) (AllByRecursion (IsGoodChoice depth)) (expect (members_in shape)) (gather reader [])
    (gives_expected (λ _. Unit {0}) (members_in shape) (λ value is. tt))
    (λ members. gives_weaker (λ found. Unit {0} → AllByRecursion (IsGoodChoice depth) found) (λ found. Unit {0} → AllByRecursion (IsGoodChoice depth) found) (gather reader [] members)
    (λ found h. h) (gives_gathered (IsGoodChoice depth) reader [] members only))

alternative_is_good : (depth : ℕ) (reader : Shape → Read Choice) → Only (IsGoodChoice depth) reader → (kind : List ℕ) (value : Shape)
    → Gives (IsGoodChoice (suc depth)) (alternative reader kind value)
alternative_is_good depth reader only kind value =
    gives_choice (IsGoodChoice (suc depth)) (bytes_eq kind (codes "item")) _ _
    (λ _. gives_both (λ oid. is_dotted_oid oid ≡ true) (IsGoodChoice (suc depth)) (item value) (λ oid. give (Item oid)) (item_is_good value)
    (λ oid. gives_value (λ found. is_dotted_oid oid ≡ true → IsGoodChoice (suc depth) found) (Item oid) (λ h. h)))
    (λ _. gives_choice (IsGoodChoice (suc depth)) (bytes_eq kind (codes "and")) _ _
    (λ _. gives_both (AllByRecursion (IsGoodChoice depth)) (IsGoodChoice (suc depth)) (set_of reader value) (λ members. give (And (gathered members))) (set_is_good depth reader only value)
    (λ members. gives_value (λ found. AllByRecursion (IsGoodChoice depth) members → IsGoodChoice (suc depth) found) (And (gathered members)) (good_gathered depth members)))
    (λ _. gives_choice (IsGoodChoice (suc depth)) (bytes_eq kind (codes "or")) _ _
    (λ _. gives_both (AllByRecursion (IsGoodChoice depth)) (IsGoodChoice (suc depth)) (set_of reader value) (λ members. give (Or (gathered members))) (set_is_good depth reader only value)
    (λ members. gives_value (λ found. AllByRecursion (IsGoodChoice depth) members → IsGoodChoice (suc depth) found) (Or (gathered members)) (good_gathered depth members)))
    (λ _. gives_choice (IsGoodChoice (suc depth)) (bytes_eq kind (codes "not")) _ _
    (λ _. gives_both (IsGoodChoice depth) (IsGoodChoice (suc depth)) (reader value) (λ member. give (Not member)) (only value)
    (λ member. gives_value (λ found. IsGoodChoice depth member → IsGoodChoice (suc depth) found) (Not member) (λ h. h)))
    (λ _. gives_nothing (IsGoodChoice (suc depth))))))

choice_is_good : (depth : ℕ) → Only (IsGoodChoice depth) (refinement depth)
unfolding refinement
choice_is_good zero shape = gives_nothing (IsGoodChoice zero)
choice_is_good (suc depth) shape =
    gives_both (λ _. Unit {0}) (IsGoodChoice (suc depth)) (expect (chosen_in shape)) _ (gives_expected (λ _. Unit {0}) (chosen_in shape) (λ value is. tt))
    (λ chosen. gives_weaker (IsGoodChoice (suc depth)) (λ found. Unit {0} → IsGoodChoice (suc depth) found) _ (λ found h _. h)
    (alternative_is_good depth (refinement depth) (choice_is_good depth) chosen.0.text chosen.1))

-- ---- the whole

there_is_good : {A : Type 0} (P : A → Type 0) (reader : Shape → Read A) → Only P reader → Only (IfThere P) (there reader)
there_is_good P reader only shape =
    gives_both P (IfThere P) (reader shape) (λ value. give (Some value)) (only shape) (λ value. gives_value (λ found. P value → IfThere P found) (Some value) (λ h. h))

no_rdns : IsGoodName []
no_rdns = record { fits = omega arith; good = tt }

components_are_good : (members : List Shape) → Gives (λ found. IsGoodSubtree found.value) (components members)
unfolding components
components_are_good members =
    gives_both (λ base. IsGoodName base.value) (λ found. IsGoodSubtree found.value) (optional (codes "base") [] name members) _
    (gives_optional IsGoodName (codes "base") [] name members no_rdns name_is_good)
    (λ base. gives_both (λ names. AreGoodChops names.value) (λ found. IsGoodName base.value → IsGoodSubtree found.value) (optional (codes "specificExclusions") no_chops exclusions base.rest) _
    (gives_optional AreGoodChops (codes "specificExclusions") no_chops exclusions base.rest (no_names, no_names) exclusions_are_good)
    (λ names. gives_both (λ minimum. minimum.value ≤ 2147483647) (λ found. AreGoodChops names.value → IsGoodName base.value → IsGoodSubtree found.value)
    (optional (codes "minimum") 0 distance names.rest) _
    (gives_optional (λ count. count ≤ 2147483647) (codes "minimum") 0 distance names.rest (omega arith) (number_is_at_most 2147483647))
    (λ minimum. gives_both (λ maximum. IfThere (λ count. count ≤ 2147483647) maximum.value)
    (λ found. minimum.value ≤ 2147483647 → AreGoodChops names.value → IsGoodName base.value → IsGoodSubtree found.value)
    (optional (codes "maximum") None (there distance) minimum.rest) _
    (gives_optional (IfThere (λ count. count ≤ 2147483647)) (codes "maximum") None (there distance) minimum.rest tt
    (there_is_good (λ count. count ≤ 2147483647) distance (number_is_at_most 2147483647)))
    (λ maximum. gives_both (λ filter. IfThere (IsGoodChoice 64) filter.value)
    (λ found. IfThere (λ count. count ≤ 2147483647) maximum.value → minimum.value ≤ 2147483647 → AreGoodChops names.value → IsGoodName base.value → IsGoodSubtree found.value)
    (optional (codes "specificationFilter") None (there (refinement 64)) maximum.rest) _
    (gives_optional (IfThere (IsGoodChoice 64)) (codes "specificationFilter") None (there (refinement 64)) maximum.rest tt
    (there_is_good (IsGoodChoice 64) (refinement 64) (choice_is_good 64)))
    (λ filter. gives_value (λ found. IfThere (IsGoodChoice 64) filter.value → IfThere (λ count. count ≤ 2147483647) maximum.value → minimum.value ≤ 2147483647
    → AreGoodChops names.value → IsGoodName base.value → IsGoodSubtree found.value) _
    (λ filters most least chopped based. record {
      base = based;
      before = chopped.0;
      after = chopped.1;
      minimum = least;
      maximum = most;
      filter = filters;
    }))))))

-- what is read as a specification is good
pub subtree_is_good : Only IsGoodSubtree subtree
unfolding subtree
subtree_is_good shape =
    gives_both (λ _. Unit {0}) IsGoodSubtree (expect (members_in shape)) _ (gives_expected (λ _. Unit {0}) (members_in shape) (λ value is. tt))
    (λ members. gives_both (λ found. IsGoodSubtree found.value) (λ spec. Unit {0} → IsGoodSubtree spec) (components members) _ (components_are_good members)
    (λ found. gives_weaker (λ spec. IsGoodSubtree found.value → IsGoodSubtree spec) (λ spec. IsGoodSubtree found.value → Unit {0} → IsGoodSubtree spec) _ (λ spec h g _. h g)
    (gives_end (λ spec. IsGoodSubtree found.value → IsGoodSubtree spec) found.rest found.value (λ h. h))))
