-- Exclusions that are read one by one are what all of them are, sorted.
use Rattle.std.proofs.Common.{◌≡◌, ℕ, Bool, true, false, List, [], ◌∷◌, ◌++◌, refl, sym, ap, ◌∙◌}
use Rattle.std.specs.Prelude.{Option, Some, None, codes, find, fold, option_and_then, if◌then◌else◌}
use Rattle.std.specs.List.Sorted.{IsStrictlySortedBy}
use Rattle.std.specs.Str.{bytes_eq}
use Rattle.std.proofs.lemmas.List.Sums.{fold-append}
use Rattle.dir_tree.specs.dn_names.name.Names.{RdnSequence}
use Rattle.dir_tree.specs.dn_names.NameOrder.{name_cmp, is_same}
use Rattle.dir_tree.proofs.dn_names_proofs.Theorems.{name_cmp_total}
use Rattle.gser_tree.specs.declared.part.Part.{Part}
use Rattle.gser_tree.specs.looking.Looking.{members_in, chosen_in}
use Rattle.gser_tree.specs.looking.Shapes.{Shape}
use Rattle.gser_tree.specs.Reading.{Found, expect, gather, give, ◌>>=◌}
use Rattle.subtree_spec.specs.Parts.{name}
use Rattle.subtree_spec.specs.SubtreeText.{Chops, no_chops, put_name, chop, chop_member, chops, exclusions}
use Rattle.aci_item.specs.Sets.{gather_into}
use Rattle.aci_laws.specs.Exclusions.{Exclusion, Before, After, exclusion_of, exclusion, names_before, names_after, names_sorted, chops_sorted, exclusions_sorted}
use Rattle.aci_laws.proofs.laws.SetLemmas.{put-in_order, find-put_all}
use Rattle.aci_laws.proofs.laws.MembersLemmas.{gathered_into}

-- names put at their places stay in order
names-ordered : (seen names : List RdnSequence) → IsStrictlySortedBy name_cmp seen → IsStrictlySortedBy name_cmp (fold (λ s n. put_name n s) seen names)
names-ordered seen [] sorted = sorted
names-ordered seen (one ∷ names) sorted =
    names-ordered (put_name one seen) names (put-in_order (λ n. n) name_cmp name_cmp_total put_name (λ n. refl) (λ n first rest. refl) one seen sorted)

pub names_sorted-ordered : (names : List RdnSequence) → IsStrictlySortedBy name_cmp (names_sorted names)
unfolding IsStrictlySortedBy
names_sorted-ordered names = names-ordered [] names tt

-- and of those that are the same the first stays
pub find-names_sorted : (names : List RdnSequence) (sought : RdnSequence)
    → find (λ n. is_same n sought) (names_sorted names) ≡ find (λ n. is_same n sought) names
unfolding IsStrictlySortedBy is_same
find-names_sorted names sought =
    find-put_all (λ n. n) name_cmp name_cmp_total put_name (λ n. refl) (λ n first rest. refl)
    (λ seen all. fold (λ s n. put_name n s) seen all) (λ seen. refl) (λ seen n rest. refl) sought [] names tt

-- an exclusion among others
abbrev with_exclusion : Exclusion → Chops → Chops
with_exclusion (Before one) seen = record { before = put_name one seen.before; after = seen.after }
with_exclusion (After one) seen = record { before = seen.before; after = put_name one seen.after }

names_before-more : (seen : List Exclusion) (one : Exclusion) → names_before (seen ++ one ∷ []) ≡ names_before seen ++ names_before (one ∷ [])
names_before-more [] one = refl
names_before-more (Before first ∷ seen) one = ap (λ names. first ∷ names) (names_before-more seen one)
names_before-more (After first ∷ seen) one = names_before-more seen one

names_after-more : (seen : List Exclusion) (one : Exclusion) → names_after (seen ++ one ∷ []) ≡ names_after seen ++ names_after (one ∷ [])
names_after-more [] one = refl
names_after-more (Before first ∷ seen) one = names_after-more seen one
names_after-more (After first ∷ seen) one = ap (λ names. first ∷ names) (names_after-more seen one)

sorted-more : (names more : List RdnSequence) → names_sorted (names ++ more) ≡ fold (λ s n. put_name n s) (names_sorted names) more
sorted-more names more = fold-append (λ (s : List RdnSequence) (n : RdnSequence). put_name n s) [] names more

chops_sorted-more : (seen : List Exclusion) (one : Exclusion) → chops_sorted (seen ++ one ∷ []) ≡ with_exclusion one (chops_sorted seen)
chops_sorted-more seen (Before one) =
    rw (names_before-more seen (Before one), names_after-more seen (Before one), sorted-more (names_before seen) (one ∷ []), sorted-more (names_after seen) []) refl
chops_sorted-more seen (After one) =
    rw (names_before-more seen (After one), names_after-more seen (After one), sorted-more (names_before seen) [], sorted-more (names_after seen) (one ∷ [])) refl

-- a member is read, and then put among others
chop-exclusion : (seen : Chops) (kind : List ℕ) (value : Shape) (bad : Option ℕ)
    → chop seen kind value bad ≡ (exclusion_of kind value >>= λ one. give (with_exclusion one seen)) bad
chop-exclusion seen kind value bad = inner (bytes_eq kind (codes "chopBefore")) (bytes_eq kind (codes "chopAfter"))
  where
    through : (next : RdnSequence → Exclusion) (found : Option (Found RdnSequence))
        → option_and_then (λ (f : Found RdnSequence). give (with_exclusion (next f.value) seen) f.bad) found
        ≡ option_and_then (λ (f : Found Exclusion). give (with_exclusion f.value seen) f.bad)
        (option_and_then (λ (f : Found RdnSequence). give (next f.value) f.bad) found)
    through next None = refl
    through next (Some found) = refl

    inner : (b c : Bool)
        → (if b then (name value >>= λ one. give (record { before = put_name one seen.before; after = seen.after }))
        else if c then (name value >>= λ one. give (record { before = seen.before; after = put_name one seen.after }))
        else λ bad. None) bad
        ≡ ((if b then (name value >>= λ one. give (Before one)) else if c then (name value >>= λ one. give (After one)) else λ bad. None)
        >>= λ one. give (with_exclusion one seen)) bad
    inner true c = through Before (name value bad)
    inner false true = through After (name value bad)
    inner false false = refl

chop_member-exclusion : (seen : Chops) (shape : Shape) (bad : Option ℕ)
    → chop_member seen shape bad ≡ (exclusion shape >>= λ one. give (with_exclusion one seen)) bad
chop_member-exclusion seen shape bad = inner (chosen_in shape)
  where
    inner : (found : Option (Part × Shape))
        → (expect found >>= λ chosen. chop seen chosen.0.text chosen.1) bad
        ≡ ((expect found >>= λ chosen. exclusion_of chosen.0.text chosen.1) >>= λ one. give (with_exclusion one seen)) bad
    inner None = refl
    inner (Some chosen) = chop-exclusion seen chosen.0.text chosen.1 bad

-- members one by one
chops-gathered : (shapes : List Shape) (seen : Chops) (bad : Option ℕ) → chops seen shapes bad ≡ gather_into with_exclusion exclusion seen shapes bad
chops-gathered [] seen bad = refl
chops-gathered (shape ∷ shapes) seen bad =
    ap (option_and_then (λ (f : Found Chops). chops f.value shapes f.bad)) (chop_member-exclusion seen shape bad)
    ∙ inner (exclusion shape bad) (λ found. chops-gathered shapes (with_exclusion found.value seen) found.bad)
  where
    inner : (found : Option (Found Exclusion))
        → ((found : Found Exclusion) → chops (with_exclusion found.value seen) shapes found.bad ≡ gather_into with_exclusion exclusion (with_exclusion found.value seen) shapes found.bad)
        → option_and_then (λ (f : Found Chops). chops f.value shapes f.bad)
        (option_and_then (λ (f : Found Exclusion). give (with_exclusion f.value seen) f.bad) found)
        ≡ option_and_then (λ (f : Found Exclusion). gather_into with_exclusion exclusion (with_exclusion f.value seen) shapes f.bad) found
    inner None rest = refl
    inner (Some found) rest = rest found

pub exclusions-sorted : (shape : Shape) (bad : Option ℕ) → exclusions shape bad ≡ exclusions_sorted shape bad
unfolding exclusions
exclusions-sorted shape bad = inner (members_in shape)
  where
    inner : (found : Option (List Shape))
        → (expect found >>= chops no_chops) bad ≡ (expect found >>= gather exclusion [] >>= λ (all : List Exclusion). give (chops_sorted all)) bad
    inner None = refl
    inner (Some shapes) = chops-gathered shapes no_chops bad ∙ sym (gathered_into with_exclusion chops_sorted exclusion chops_sorted-more [] shapes bad)
