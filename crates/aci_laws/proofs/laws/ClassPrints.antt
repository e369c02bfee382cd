-- Printed user classes are read as they were.
use Rattle.std.proofs.Common.{◌≡◌, ℕ, true, List, [], ◌∷◌, ◌++◌, refl, sym, subst}
use Rattle.std.proofs.lemmas.List.{append-nil}
use Rattle.std.specs.Prelude.{codes, map, Option, Some}
use Rattle.gser_tree.specs.Lexemes.{Lexeme, class_of, is_word}
use Rattle.gser_tree.specs.looking.Shapes.{Shape, Braces, gathered}
use Rattle.gser_tree.specs.Writing.{print_filled, print_flag}
use Rattle.gser_tree.proofs.Theorems.{listed_gathered, AreWritten, FlagRead, IsRead, OptionalRead, Prints, Skips, braces_are_written, flag_is_written, none_are_written, optional_is_written, skips_end}
use Rattle.aci_laws.proofs.laws.FlagPrints.{flag_reads}
use Rattle.aci_laws.proofs.laws.SetPrints.{optional_set_prints}
use Rattle.dir_tree.specs.dn_names.name.GoodNames.{IsGoodName}
use Rattle.subtree_spec.specs.SubtreePrinted.{print_subtree}
use Rattle.aci_item.specs.AciText.{classes, sorted_set}
use Rattle.aci_laws.specs.GoodItems.{IsGoodClasses, IsGoodClassSubtree}
use Rattle.aci_item.specs.members.ItemParts.{class_subtree, user}
use Rattle.aci_item.specs.ItemPrinted.{print_class_list, print_classes, print_set, print_user}
use Rattle.aci_item.specs.item.Items.{UserClasses}
use Rattle.aci_laws.proofs.laws.PartPrints.{class_subtree_prints, user_prints}

all_word : is_word (codes "allUsers") ≡ true
unfolding class_of
all_word = refl

this_entry_word : is_word (codes "thisEntry") ≡ true
unfolding class_of
this_entry_word = refl

names_word : is_word (codes "name") ≡ true
unfolding class_of
names_word = refl

groups_word : is_word (codes "userGroup") ≡ true
unfolding class_of
groups_word = refl

subtrees_word : is_word (codes "subtree") ≡ true
unfolding class_of
subtrees_word = refl

-- ---- the members from each component on

abbrev IsEnd : List Shape → Type 0
IsEnd members = members ≡ []

abbrev From4 : UserClasses → List Shape → Type 0
From4 value members = OptionalRead (codes "userGroup" ∷ codes "name" ∷ codes "thisEntry" ∷ codes "allUsers" ∷ []) (codes "subtree") [] (sorted_set print_subtree class_subtree) value.subtrees IsEnd members

abbrev From3 : UserClasses → List Shape → Type 0
From3 value members = OptionalRead (codes "name" ∷ codes "thisEntry" ∷ codes "allUsers" ∷ []) (codes "userGroup") [] (sorted_set print_user user) value.groups (From4 value) members

abbrev From2 : UserClasses → List Shape → Type 0
From2 value members = OptionalRead (codes "thisEntry" ∷ codes "allUsers" ∷ []) (codes "name") [] (sorted_set print_user user) value.names (From3 value) members

abbrev From1 : UserClasses → List Shape → Type 0
From1 value members = FlagRead (codes "allUsers" ∷ []) (codes "thisEntry") value.this_entry (From2 value) members

abbrev From0 : UserClasses → List Shape → Type 0
From0 value members = FlagRead [] (codes "allUsers") value.all (From1 value) members

-- ---- they are written

written4 : (value : UserClasses) → IsGoodClasses value → AreWritten 66 (From4 value) (print_set (codes "subtree") print_subtree value.subtrees)
written4 value good =
    subst (λ (items : List (List Lexeme)). AreWritten 66 (From4 value) items) (append-nil (print_set (codes "subtree") print_subtree value.subtrees))
    (optional_is_written 66 (codes "userGroup" ∷ codes "name" ∷ codes "thisEntry" ∷ codes "allUsers" ∷ []) (codes "subtree") [] (sorted_set print_subtree class_subtree) (print_filled (map print_subtree value.subtrees)) value.subtrees IsEnd []
    subtrees_word (refl, (refl, (refl, (refl, tt)))) (λ members ends. subst (λ (m : List Shape). Skips (codes "subtree" ∷ codes "userGroup" ∷ codes "name" ∷ codes "thisEntry" ∷ codes "allUsers" ∷ []) m) (sym ends) (skips_end (codes "subtree" ∷ codes "userGroup" ∷ codes "name" ∷ codes "thisEntry" ∷ codes "allUsers" ∷ [])))
    (optional_set_prints 65 class_subtree print_subtree IsGoodClassSubtree (λ value good. class_subtree_prints value good) value.subtrees good.subtrees) (none_are_written 66 IsEnd refl))

written3 : (value : UserClasses) → IsGoodClasses value → AreWritten 66 (From3 value) (print_set (codes "userGroup") print_user value.groups ++ (print_set (codes "subtree") print_subtree value.subtrees))
written3 value good =
    optional_is_written 66 (codes "name" ∷ codes "thisEntry" ∷ codes "allUsers" ∷ []) (codes "userGroup") [] (sorted_set print_user user) (print_filled (map print_user value.groups)) value.groups (From4 value) (print_set (codes "subtree") print_subtree value.subtrees)
    groups_word (refl, (refl, (refl, tt))) (λ members has. has.skips)
    (optional_set_prints 65 user print_user IsGoodName (λ value good. user_prints 64 value good) value.groups good.groups) (written4 value good)

written2 : (value : UserClasses) → IsGoodClasses value → AreWritten 66 (From2 value) (print_set (codes "name") print_user value.names ++ (print_set (codes "userGroup") print_user value.groups ++ (print_set (codes "subtree") print_subtree value.subtrees)))
written2 value good =
    optional_is_written 66 (codes "thisEntry" ∷ codes "allUsers" ∷ []) (codes "name") [] (sorted_set print_user user) (print_filled (map print_user value.names)) value.names (From3 value) (print_set (codes "userGroup") print_user value.groups ++ (print_set (codes "subtree") print_subtree value.subtrees))
    names_word (refl, (refl, tt)) (λ members has. has.skips)
    (optional_set_prints 65 user print_user IsGoodName (λ value good. user_prints 64 value good) value.names good.names) (written3 value good)

written1 : (value : UserClasses) → IsGoodClasses value → AreWritten 66 (From1 value) (print_flag (codes "thisEntry") value.this_entry ++ (print_set (codes "name") print_user value.names ++ (print_set (codes "userGroup") print_user value.groups ++ (print_set (codes "subtree") print_subtree value.subtrees))))
written1 value good =
    flag_is_written 66 (codes "allUsers" ∷ []) (codes "thisEntry") value.this_entry (From2 value) (print_set (codes "name") print_user value.names ++ (print_set (codes "userGroup") print_user value.groups ++ (print_set (codes "subtree") print_subtree value.subtrees))) this_entry_word (refl, tt)
    (λ members has. has.skips) (written2 value good)

written0 : (value : UserClasses) → IsGoodClasses value → AreWritten 66 (From0 value) (print_flag (codes "allUsers") value.all ++ (print_flag (codes "thisEntry") value.this_entry ++ (print_set (codes "name") print_user value.names ++ (print_set (codes "userGroup") print_user value.groups ++ (print_set (codes "subtree") print_subtree value.subtrees)))))
written0 value good =
    flag_is_written 66 [] (codes "allUsers") value.all (From1 value) (print_flag (codes "thisEntry") value.this_entry ++ (print_set (codes "name") print_user value.names ++ (print_set (codes "userGroup") print_user value.groups ++ (print_set (codes "subtree") print_subtree value.subtrees)))) all_word tt
    (λ members has. has.skips) (written1 value good)

classes_read : (value : UserClasses) (members : List Shape) → From0 value members → (bad : Option ℕ)
    → classes (Braces (gathered members)) bad ≡ Some (record { value = value; bad = bad })
unfolding classes
classes_read value members has bad =
    rw (listed_gathered members, flag_reads (codes "allUsers") value.all _ _ has.read has.kept, flag_reads (codes "thisEntry") value.this_entry _ _ has.behind.read has.behind.kept, has.behind.behind.read bad, has.behind.behind.behind.read bad, has.behind.behind.behind.behind.read bad, has.behind.behind.behind.behind.behind) refl

pub classes_print : (value : UserClasses) → IsGoodClasses value → Prints 67 classes (print_classes value) value
unfolding print_classes
classes_print value good =
    braces_are_written 66 (From0 value) (IsRead classes value) (print_class_list value) (written0 value good) (λ members has bad. classes_read value members has bad)
