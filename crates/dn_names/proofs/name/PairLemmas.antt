-- What spells a pair, an RDN or a name is read as it.
use Rattle.std.proofs.Common.{◌≡◌, ◌≢◌, ◌+◌, suc, ℕ, Bool, true, false, not, List, [], ◌∷◌, ◌++◌, map, length, take, drop, refl, sym, ap, ◌∙◌, arith, append_assoc, add-one}
use Rattle.std.specs.Prelude.{◌==◌, ◌&&◌, slice_index}
use Rattle.std.specs.List.{AllByRecursion, prefix_len, take_while}
use Rattle.std.proofs.lemmas.List.{take_at}
use Rattle.std.proofs.lemmas.Bool.{false≢true, cond-false, cond-true}
use Rattle.std.proofs.lemmas.Bool.Decides.{nat_tests}
use Rattle.base_laws.proofs.Theorems.{all_append}
use Rattle.regular_text.proofs.Theorems.{has_empty-Matches, Matches-AllByRecursion}
use Rattle.dn_names.specs.declared.classes.Class.{Class}
use Rattle.dn_names.specs.declared.classes.Class.TheVariants.{Dot}
use Rattle.dn_names.specs.Classes.{class_of, is_letter, is_word, is_zero, is_nonzero, is_digit, is_dot}
use Rattle.dn_names.specs.NameGrammar.{kind}
use Rattle.dn_names.specs.Spelling.{WrittenPair, AreSpaces, IsKind, SpellsPair, IsJoined, SpellsRdn, SpellsName}
use Rattle.dn_names.specs.Reading.{parts_of, is_blank, word_of, kind_size, value_octets, pair_of, rdn_of, written_of}
use Rattle.dn_names.proofs.name.ClassLemmas.{is_kind, kind_other}
use Rattle.dn_names.proofs.parts.PartsLemmas.{is_clean, is_clean-append, is_clean-joined, map-parts_from}
use Rattle.dn_names.proofs.value.ValueLemmas.{separator, without_spaces-append, value_octets-spelled, spaces_clean, value_clean}

-- the octet may stand in a type
abbrev AreKindOctets : List ℕ → Type 0
AreKindOctets text = AllByRecursion (λ x. is_kind (class_of x) ≡ true) text

letter_kind : (k : Class) → is_letter k ≡ true → is_kind k ≡ true
letter_kind Dot e = refl
letter_kind k e = cc

word_kind : (k : Class) → is_word k ≡ true → is_kind k ≡ true
word_kind Dot e = refl
word_kind k e = cc

zero_kind : (k : Class) → is_zero k ≡ true → is_kind k ≡ true
zero_kind Dot e = refl
zero_kind k e = cc

nonzero_kind : (k : Class) → is_nonzero k ≡ true → is_kind k ≡ true
nonzero_kind Dot e = refl
nonzero_kind k e = cc

digit_kind : (k : Class) → is_digit k ≡ true → is_kind k ≡ true
digit_kind Dot e = refl
digit_kind k e = cc

dot_kind : (k : Class) → is_dot k ≡ true → is_kind k ≡ true
dot_kind Dot e = refl
dot_kind k e = cc

-- a type has letters, digits, hyphens and dots alone
pub kind_octets : (text : List ℕ) → IsKind text → AreKindOctets text
kind_octets text m =
    Matches-AllByRecursion class_of is_kind kind text
    ((letter_kind, word_kind), ((zero_kind, (nonzero_kind, digit_kind)), ((dot_kind, (zero_kind, (nonzero_kind, digit_kind))), (dot_kind, (zero_kind, (nonzero_kind, digit_kind)))))) m

kind_clean : (m : Bool) (text : List ℕ) → AreKindOctets text → is_clean (separator m) false text ≡ true
kind_clean m [] h = refl
kind_clean true (x ∷ xs) h =
    let other = kind_other x h.0 in
    is_clean-append 44 false (x ∷ []) xs (rw (other.2, other.4)) (kind_clean true xs h.1)
kind_clean false (x ∷ xs) h =
    let other = kind_other x h.0 in
    is_clean-append 43 false (x ∷ []) xs (rw (other.1, other.4)) (kind_clean false xs h.1)

equals_clean : (m : Bool) → is_clean (separator m) false (61 ∷ []) ≡ true
equals_clean true = refl
equals_clean false = refl

-- a pair is one part
pair_clean : (m : Bool) (pair : WrittenPair) (text : List ℕ) → SpellsPair pair text → is_clean (separator m) false text ≡ true
pair_clean m pair text h =
    ap (is_clean (separator m) false) h.is_text
    ∙ is_clean-append (separator m) false h.before (pair.kind ++ (h.after ++ 61 ∷ h.value)) (spaces_clean m h.before h.gap_before)
    (is_clean-append (separator m) false pair.kind (h.after ++ 61 ∷ h.value) (kind_clean m pair.kind (kind_octets pair.kind h.is_kind))
    (is_clean-append (separator m) false h.after (61 ∷ h.value) (spaces_clean m h.after h.gap_after)
    (is_clean-append (separator m) false (61 ∷ []) h.value (equals_clean m) (value_clean m pair.octets h.value h.spells))))

-- octets that aren't =, before one

size_before : (front rest : List ℕ) → AllByRecursion (λ x. (x == 61) ≡ false) front → kind_size (front ++ 61 ∷ rest) ≡ length front
size_before [] rest h = refl
size_before (x ∷ front) rest h = rw h.0 (let more = size_before front rest h.1 in rw more (omega arith))

spaces_no_equals : (text : List ℕ) → AreSpaces text → AllByRecursion (λ x. (x == 61) ≡ false) text
spaces_no_equals [] h = tt
spaces_no_equals (x ∷ xs) h = (rw h.0, spaces_no_equals xs h.1)

kind_no_equals : (text : List ℕ) → AreKindOctets text → AllByRecursion (λ x. (x == 61) ≡ false) text
kind_no_equals [] h = tt
kind_no_equals (x ∷ xs) h = ((kind_other x h.0).3, kind_no_equals xs h.1)

-- a word before spaces is the word
word_before : (text after : List ℕ) → AreKindOctets text → AreSpaces after → take_while (λ octet. not (octet == 32)) (text ++ after) ≡ text
word_before [] [] h s = refl
word_before [] (x ∷ after) h s = rw s.0
word_before (x ∷ text) after h s =
    let n = prefix_len (λ octet. not (octet == 32)) (text ++ after) in
    let one_more : 1 + n ≡ suc n = omega arith in
    rw (kind_other x h.0).0 (rw one_more (ap (λ t. x ∷ t) (word_before text after h.1 s)))

-- a type isn't empty, and begins with no space
kind_front : (text rest : List ℕ) → IsKind text → slice_index (text ++ rest) 0 ≢ 32
kind_front [] rest m = absurd (false≢true ((has_empty-Matches class_of kind).1 m))
kind_front (x ∷ text) rest m = λ e. grind (arith, nat_tests, e, (kind_other x (kind_octets (x ∷ text) m).0).0)

-- what spells a pair is read as it
pub pair_of-spelled : (pair : WrittenPair) (text : List ℕ) → SpellsPair pair text → pair_of text ≡ pair
unfolding pair_of
pair_of-spelled pair text h =
    let front = h.before ++ (pair.kind ++ h.after) in
    let lacks : AllByRecursion (λ x. (x == 61) ≡ false) front =
    all_append (λ x. (x == 61) ≡ false) h.before (pair.kind ++ h.after) (spaces_no_equals h.before h.gap_before)
    (all_append (λ x. (x == 61) ≡ false) pair.kind h.after (kind_no_equals pair.kind (kind_octets pair.kind h.is_kind)) (spaces_no_equals h.after h.gap_after)) in
    let split : text ≡ front ++ 61 ∷ h.value = h.is_text ∙ simp append_assoc in
    let size : kind_size text ≡ length front = ap kind_size split ∙ size_before front h.value lacks in
    let kinds : take (kind_size text) text ≡ front = (rw (size, split) (take_at front (61 ∷ h.value) (length front) refl)) in
    let values : drop (kind_size text + 1) text ≡ h.value =
    (rw (size, split, add-one) (drop_past front h.value)) in
    let word : word_of (take (kind_size text) text) ≡ pair.kind =
    ap word_of kinds
    ∙ ap (take_while (λ octet. not (octet == 32))) (without_spaces-append h.before (pair.kind ++ h.after) h.gap_before (kind_front pair.kind h.after h.is_kind))
    ∙ word_before pair.kind h.after (kind_octets pair.kind h.is_kind) h.gap_after in
    let octets : value_octets (drop (kind_size text + 1) text) ≡ pair.octets = ap value_octets values ∙ value_octets-spelled pair.octets h.value h.spells in
    same_pair word octets
  where
    drop_past : (front value : List ℕ) → drop (suc (length front)) (front ++ 61 ∷ value) ≡ value
    drop_past [] value = refl
    drop_past (x ∷ front) value = drop_past front value

    same_pair : {k o : List ℕ} → k ≡ pair.kind → o ≡ pair.octets → record { kind = k; octets = o } ≡ pair
    same_pair a b = rw (a, b)

-- what spells an RDN is read as it
pub rdn_of-spelled : (pairs : List WrittenPair) (text : List ℕ) → SpellsRdn pairs text → rdn_of text ≡ pairs
unfolding rdn_of parts_of
rdn_of-spelled pairs text h =
    map-parts_from 43 SpellsPair pair_of (λ pair t p. (pair_clean false pair t p, pair_of-spelled pair t p)) pairs text h

-- and is one part of a name
rdn_clean : (pairs : List WrittenPair) (text : List ℕ) → SpellsRdn pairs text → is_clean 44 false text ≡ true
rdn_clean pairs text h = is_clean-joined 43 44 SpellsPair (λ pair t p. pair_clean true pair t p) refl pairs text h

blank_append : (xs ys : List ℕ) → is_blank ys ≡ false → is_blank (xs ++ ys) ≡ false
blank_append [] ys e = e
blank_append (x ∷ xs) ys e = and_false (x == 32) (is_blank (xs ++ ys)) (blank_append xs ys e)
  where
    and_false : (a b : Bool) → b ≡ false → (a && b) ≡ false
    and_false true b e = e
    and_false false b e = refl

blank_before : (xs ys : List ℕ) → is_blank xs ≡ false → is_blank (xs ++ ys) ≡ false
blank_before [] ys e = absurd (false≢true (sym e))
blank_before (x ∷ xs) ys e =
    elim (x == 32) as (λ b. (b && is_blank xs) ≡ false → (b && is_blank (xs ++ ys)) ≡ false) [
      | true ↦ λ f. blank_before xs ys f
      | false ↦ λ _. refl
    ] e

joined_blank : {R : Type 0} (mark : ℕ) (P : R → List ℕ → Type 0) → ((r : R) (text : List ℕ) → P r text → is_blank text ≡ false) → (rs : List R) (text : List ℕ) → IsJoined mark P rs text → is_blank text ≡ false
joined_blank mark P each [] text j = absurd j
joined_blank mark P each (r ∷ []) text j = each r text j
joined_blank mark P each (r ∷ s ∷ rs) text (front, rest, e, p, j) = ap is_blank e ∙ blank_before front (mark ∷ rest) (each r front p)

pair_blank : (pair : WrittenPair) (text : List ℕ) → SpellsPair pair text → is_blank text ≡ false
pair_blank pair text h =
    ap is_blank h.is_text ∙ blank_append h.before (pair.kind ++ (h.after ++ 61 ∷ h.value)) (blank_append pair.kind (h.after ++ 61 ∷ h.value) (blank_append h.after (61 ∷ h.value) refl))

spaces_blank : (text : List ℕ) → AreSpaces text → is_blank text ≡ true
spaces_blank [] h = refl
spaces_blank (x ∷ xs) h = rw h.0 (spaces_blank xs h.1)

-- what spells a name is read as it: no text spells two
pub written_of-spelled : (rdns : List (List WrittenPair)) (text : List ℕ) → SpellsName rdns text → written_of text ≡ rdns
unfolding written_of parts_of
written_of-spelled [] text h = cond-true (is_blank text) [] (map rdn_of (parts_of 44 text)) (spaces_blank text h)
written_of-spelled (rdn ∷ rdns) text h =
    cond-false (is_blank text) [] (map rdn_of (parts_of 44 text)) (joined_blank 44 SpellsRdn (λ r t p. joined_blank 43 SpellsPair pair_blank r t p) (rdn ∷ rdns) text h)
    ∙ map-parts_from 44 SpellsRdn rdn_of (λ r t p. (rdn_clean r t p, rdn_of-spelled r t p)) (rdn ∷ rdns) text h
