-- How deep braces stand in what is read: components one behind the other, sets, words and strings.
use Rattle.std.proofs.Common.{◌≡◌, ℕ, ◌≤◌, suc, Bool, true, false, List, [], ◌∷◌, refl, ap, arith}
use Rattle.std.specs.Prelude.{Option, Some, None, ◌&&◌, if◌then◌else◌}
use Rattle.std.specs.Str.{bytes_eq}
use Rattle.std.proofs.lemmas.Option.{same_Some}
use Rattle.gser_tree.specs.declared.part.Part.{Part}
use Rattle.gser_tree.specs.Lexemes.{Lexeme}
use Rattle.gser_tree.specs.looking.Shapes as shapes
use Rattle.gser_tree.specs.looking.Shapes.{Shape, gathered, nest, nest_in}
use Rattle.gser_tree.specs.looking.Looking.{Behind, members_in, word_in, string_in, component, flag, is_null}
use Rattle.gser_tree.specs.Reading.{Found, Read, give, ◌>>=◌, expect, present, optional, required, nothing_left}
use Rattle.gser_tree.specs.Writing.{text_of}
use Rattle.gser_tree.proofs.Theorems.{Shallow, both_read, was_there, word_nest, string_nest, members_nest, optional_nest}
use Rattle.aci_item.specs.AciText.{sorted_set}
use Rattle.aci_item.specs.members.ItemParts.{flag_by, flagged}
use Rattle.aci_item.specs.Sets.{put_member, gather_into}

-- members are at most so deep, where a reading of them goes on
abbrev pub Bounds : {B : Type 0} → ℕ → List Shape → Read B → Type 0
Bounds {B} deep members read = (bad : Option ℕ) (found : Found B) → read bad ≡ Some found → nest_in (gathered members) ≤ deep

-- braces are one deeper than their members
pub in_braces : {B : Type 0} (deep : ℕ) (shape : Shape) (next : List Shape → Read B) → ((members : List Shape) → Bounds deep members (next members))
    → (bad : Option ℕ) (found : Found B) → (expect (members_in shape) >>= next) bad ≡ Some found → nest shape ≤ suc deep
in_braces deep shape next bounds bad found h =
    let read = both_read (expect (members_in shape)) next bad found h in
    let same = members_nest shape read.0.value (was_there (members_in shape) bad read.0 read.1) in
    let inner = bounds read.0.value read.0.bad found read.2 in
    omega (arith, same, inner)

-- no members are left
pub at_end : {A : Type 0} (deep : ℕ) (members : List Shape) (value : A) → Bounds deep members (nothing_left members value)
at_end deep [] value bad found h = omega arith
at_end deep (shape ∷ members) value bad found h = cc

-- a component that may be absent, and what is read behind it
pub after_optional : {A B : Type 0} (most deep : ℕ) (name : List ℕ) (absent : A) (reader : Shape → Read A) (members : List Shape) (next : Behind A → Read B)
    → Shallow most reader → most ≤ deep → ((found : Behind A) → Bounds deep found.rest (next found)) → Bounds deep members (optional name absent reader members >>= next)
after_optional most deep name absent reader members next shallow within others bad found h =
    let both = both_read (optional name absent reader members) next bad found h in
    optional_nest most deep name absent reader members bad both.0 shallow within both.1 (others both.0.value both.0.bad found both.2)

-- a component that has to be there
pub after_required : {A B : Type 0} (most deep : ℕ) (name : List ℕ) (reader : Shape → Read A) (members : List Shape) (next : Behind A → Read B)
    → Shallow most reader → most ≤ deep → ((found : Behind A) → Bounds deep found.rest (next found)) → Bounds deep members (required name reader members >>= next)
after_required {A} most deep name reader members next shallow within others bad found h =
    let both = both_read (required name reader members) next bad found h in
    optional_nest most deep name both.0.value.value reader members bad both.0 shallow within (inner both.0 (component name members) both.1)
    (others both.0.value both.0.bad found both.2)
  where
    inner : (one : Found (Behind A)) (there : Option (Behind Shape))
        → (expect there >>= λ part. reader part.value >>= λ value. give (record { value = value; rest = part.rest })) bad ≡ Some one
        → present one.value.value reader members there bad ≡ Some one
    inner one None h = cc
    inner one (Some there) h = h

null_nest : (shape : Shape) → is_null shape ≡ true → nest shape ≤ 0
null_nest (shapes.Word part) h = omega arith
null_nest (shapes.Quoted part) h = cc
null_nest (shapes.Braces members) h = cc
null_nest (shapes.Named part value) h = cc
null_nest (shapes.Chosen part value) h = cc

same_rest : (one other : List Shape) → Some one ≡ Some other → nest_in (gathered one) ≡ nest_in (gathered other)
same_rest one other h = ap (λ r. nest_in (gathered r)) (same_Some one other h)

-- a flag that is there is not deep
flag_nest : (deep : ℕ) (name : List ℕ) (members rest : List Shape) → flag name members ≡ Some rest → nest_in (gathered rest) ≤ deep → nest_in (gathered members) ≤ deep
flag_nest deep name [] rest h behind = cc
flag_nest deep name (shapes.Quoted part ∷ members) rest h behind = cc
flag_nest deep name (shapes.Braces inside ∷ members) rest h behind = cc
flag_nest deep name (shapes.Chosen part value ∷ members) rest h behind = cc
flag_nest deep name (shapes.Word part ∷ members) rest h behind = inner (bytes_eq part.text name) h
  where
    inner : (b : Bool) → (if b then Some members else None) ≡ Some rest → nest_in (gathered (shapes.Word part ∷ members)) ≤ deep
    inner false h = cc
    inner true h = let same = same_rest members rest h in omega (arith, same, behind)
flag_nest deep name (shapes.Named part value ∷ members) rest h behind = inner (bytes_eq part.text name) (is_null value) refl h
  where
    inner : (b null : Bool) → is_null value ≡ null → (if b && null then Some members else None) ≡ Some rest → nest_in (gathered (shapes.Named part value ∷ members)) ≤ deep
    inner false null is h = cc
    inner true false is h = cc
    inner true true is h =
        let same = same_rest members rest h in
        let none = null_nest value is in
        omega (arith, same, none, behind)

-- a flag, whether it is there or not, and what is read behind it
pub after_flag : {B : Type 0} (deep : ℕ) (name : List ℕ) (members : List Shape) (next : Behind Bool → Read B)
    → ((found : Behind Bool) → Bounds deep found.rest (next found)) → Bounds deep members (flagged name members >>= next)
after_flag {B} deep name members next others bad found h = inner (flag name members) refl (others (flag_by members (flag name members)) bad found h)
  where
    inner : (there : Option (List Shape)) → flag name members ≡ there → nest_in (gathered (flag_by members there).rest) ≤ deep → nest_in (gathered members) ≤ deep
    inner None is behind = behind
    inner (Some rest) is behind = flag_nest deep name members rest is behind

-- members one by one
pub gathered_bounds : {A S : Type 0} (most : ℕ) (add : A → S → S) (reader : Shape → Read A) → Shallow most reader → (members : List Shape) (seen : S)
    → Bounds most members (gather_into add reader seen members)
gathered_bounds most add reader shallow [] seen bad found h = omega arith
gathered_bounds most add reader shallow (shape ∷ members) seen bad found h =
    let read = both_read (reader shape) (λ value. gather_into add reader (add value seen) members) bad found h in
    let one = shallow shape bad read.0 read.1 in
    let others = gathered_bounds most add reader shallow members (add read.0.value seen) read.0.bad found read.2 in
    omega (arith, one, others)

-- a set is one deeper than its members
pub set_is_shallow : {A : Type 0} (most : ℕ) (print : A → List Lexeme) (reader : Shape → Read A) → Shallow most reader → Shallow (suc most) (sorted_set print reader)
set_is_shallow most print reader shallow shape =
    in_braces most shape (gather_into (put_member (λ value. text_of (print value))) reader [])
    (λ members. gathered_bounds most (put_member (λ value. text_of (print value))) reader shallow members [])

-- what is read of a word, or of a string, has no braces
pub word_is_shallow : {B : Type 0} (next : Part → Read B) (shape : Shape) (bad : Option ℕ) (found : Found B) → (expect (word_in shape) >>= next) bad ≡ Some found
    → nest shape ≤ 0
word_is_shallow next shape bad found h =
    let read = both_read (expect (word_in shape)) next bad found h in word_nest shape read.0.value (was_there (word_in shape) bad read.0 read.1)

pub string_is_shallow : {B : Type 0} (next : Part → Read B) (shape : Shape) (bad : Option ℕ) (found : Found B) → (expect (string_in shape) >>= next) bad ≡ Some found
    → nest shape ≤ 0
string_is_shallow next shape bad found h =
    let read = both_read (expect (string_in shape)) next bad found h in string_nest shape read.0.value (was_there (string_in shape) bad read.0 read.1)
