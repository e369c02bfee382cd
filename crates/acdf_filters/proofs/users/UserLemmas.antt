-- The ranks of the classes in which a requester is, and tests of keys.
use Rattle.std.proofs.Common.{◌≡◌, ◌⊎◌, inl, inr, ℕ, ◌==◌, Bool, true, false, not, ◌↔◌, List, [], ◌∷◌, ◌++◌, length, map, find, Some, refl, sym, ap, ◌∙◌, arith}
use Rattle.std.specs.Prelude.{IsTrue}
use Rattle.std.specs.Option.{option_map, option_map_or}
use Rattle.std.specs.Str.{bytes_eq}
use Rattle.std.proofs.lemmas.Bool.Decides.{same_from_decides}
use Rattle.std.proofs.lemmas.Slice.Eq.{bytes_eq-Decides}
use Rattle.std.proofs.lemmas.Bool.{cases_Bool, cond-true, cond-false, ne_eqb}
use Rattle.std.proofs.lemmas.Option.{same_Some}
use Rattle.dir_tree.specs.dn_names.name.Names.{RdnSequence}
use Rattle.dir_tree.specs.dn_names.NameOrder.{is_same}
use Rattle.dir_tree.specs.Entry.{EntryInformation}
use Rattle.dir_tree.specs.tree.Trees.{is_named}
use Rattle.dir_tree.proofs.TreeTheorems.{same_like as same_as}
use Rattle.acdf_filters.specs.users.Choices.{least, is_filled}
use Rattle.acdf_filters.specs.users.Users.{rank_where, has_member, is_in_group}
use Rattle.acdf_filters.specs.weighing.Weighing.{least_class, class_of_all, first_rank, AreMemberships, known_member}
use Rattle.acdf_filters.specs.declared.question.Membership.{Membership}

-- a test of two texts, from what it says
pub bytes_eq-from_iff : (b : Bool) (xs ys : List ℕ) → IsTrue b ↔ (ys ≡ xs) → b ≡ bytes_eq xs ys
bytes_eq-from_iff b xs ys h =
    same_from_decides b (bytes_eq xs ys) (λ e. sym (h.0 e), λ e. h.1 (sym e)) (bytes_eq-Decides xs ys)

pub least_class-all : (d : Bool) → least_class (rank_where 3 d) ≡ class_of_all d
least_class-all true = refl
least_class-all false = refl

-- the least rank of those that are listed
pub least-ranks : (a b c d : Bool) → least (rank_where 0 a ++ rank_where 1 b ++ rank_where 2 c ++ rank_where 3 d)
    ≡ first_rank a b c
least-ranks true true true true = refl
least-ranks true true true false = refl
least-ranks true true false true = refl
least-ranks true true false false = refl
least-ranks true false true true = refl
least-ranks true false true false = refl
least-ranks true false false true = refl
least-ranks true false false false = refl
least-ranks false true true true = refl
least-ranks false true true false = refl
least-ranks false true false true = refl
least-ranks false true false false = refl
least-ranks false false true true = refl
least-ranks false false true false = refl
least-ranks false false false true = refl
least-ranks false false false false = refl

-- there is an element where the length is not 0
pub is_filled-length : {A : Type 0} (xs : List A) → is_filled xs ≡ not (length xs == 0)
is_filled-length [] = refl
is_filled-length (x ∷ xs) = sym (ap not (ne_eqb (length (x ∷ xs)) 0 (λ e. omega arith)))

pub is_filled-map : {A B : Type 0} (f : A → B) (xs : List A) → is_filled (map f xs) ≡ not (length xs == 0)
is_filled-map f [] = refl
is_filled-map f (x ∷ xs) = sym (ap not (ne_eqb (length (x ∷ xs)) 0 (λ e. omega arith)))

-- tests that agree find the same
find-same : {A : Type 0} (p q : A → Bool) → ((x : A) → p x ≡ q x) → (xs : List A) → find p xs ≡ find q xs
find-same p q h [] = refl
find-same p q h (x ∷ xs) = rw (h x, find-same p q h xs) refl

-- so are groups of such names
same_group : (entries : List EntryInformation) (name one other : RdnSequence) → is_same one other ≡ true → is_in_group entries name one ≡ is_in_group entries name other
unfolding is_in_group
same_group entries name one other e =
    ap (λ found. option_map_or (has_member name) found false) (find-same (is_named one) (is_named other) (λ entry. same_as one other entry.name e) entries)

-- what is known is what the entries say
pub known_member-is : (entries : List EntryInformation) (name group : RdnSequence) (member : Bool) (known : List Membership) → AreMemberships entries (Some name) known → known_member known group ≡ Some member
    → member ≡ is_in_group entries name group
known_member-is entries name group member [] h e = absurd cc
known_member-is entries name group member (x ∷ known) h e = by (cases_Bool (is_same x.group group)) (known_member-is entries name group member known h.1)
  where
    by : ((is_same x.group group ≡ true) ⊎ (is_same x.group group ≡ false)) → (known_member known group ≡ Some member → member ≡ is_in_group entries name group) → member ≡ is_in_group entries name group
    by (inl f) later =
        let first : Some x.member ≡ Some member = sym (ap (option_map (λ (m : Membership). m.member)) (cond-true (is_same x.group group) (Some x) (find (λ m. is_same m.group group) known) f)) ∙ e in
        sym (same_Some x.member member first) ∙ h.0 ∙ same_group entries name x.group group f
    by (inr f) later =
        later (sym (ap (option_map (λ (m : Membership). m.member)) (cond-false (is_same x.group group) (Some x) (find (λ m. is_same m.group group) known) f)) ∙ e)
