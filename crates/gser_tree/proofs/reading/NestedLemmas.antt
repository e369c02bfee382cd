-- Values that are read are not deep: how deep braces stand in a value that a reader takes.
use Rattle.std.proofs.Common.{◌≡◌, ℕ, ◌≤◌, suc, Bool, true, false, List, [], ◌∷◌, ◌++◌, refl, sym, ap, ◌∙◌, arith}
use Rattle.std.specs.Prelude.{Option, Some, None, option_and_then, if◌then◌else◌}
use Rattle.std.specs.Str.{bytes_eq}
use Rattle.gser_tree.specs.declared.part.Part.{Part}
use Rattle.gser_tree.specs.looking.Shapes as shapes
use Rattle.gser_tree.specs.looking.Shapes.{Shape, Shapes, listed, gathered, nest, nest_in}
use Rattle.gser_tree.specs.looking.Looking.{Behind, members_in, word_in, string_in, chosen_in, component}
use Rattle.gser_tree.specs.Reading.{Found, Read, give, ◌>>=◌, expect, part, present, optional, nothing_left, gather, is_number, at_most, number}

-- what a reader takes is at most so deep
abbrev pub Shallow : {A : Type 0} → ℕ → (Shape → Read A) → Type 0
Shallow {A} most reader = (shape : Shape) (bad : Option ℕ) (found : Found A) → reader shape bad ≡ Some found → nest shape ≤ most

-- a reading and then another, both of which went on
pub both_read : {A B : Type 0} (read : Read A) (next : A → Read B) (bad : Option ℕ) (found : Found B) → (read >>= next) bad ≡ Some found
    → (middle : Found A) × (read bad ≡ Some middle) × (next middle.value middle.bad ≡ Some found)
both_read {A} {B} read next bad found h = inner (read bad) refl h
  where
    inner : (first : Option (Found A)) → read bad ≡ first → option_and_then (λ (f : Found A). next f.value f.bad) first ≡ Some found
        → (middle : Found A) × (read bad ≡ Some middle) × (next middle.value middle.bad ≡ Some found)
    inner None is h = cc
    inner (Some middle) is h = (middle, is, h)

-- what had to be there was
pub was_there : {A : Type 0} (found : Option A) (bad : Option ℕ) (middle : Found A) → expect found bad ≡ Some middle → found ≡ Some middle.value
was_there None bad middle h = cc
was_there {A} (Some value) bad middle h =
    let same : record { value = value; bad = bad } ≡ middle = unwrapped (record { value = value; bad = bad }) middle h in
    ap (λ (f : Found A). Some f.value) same
  where
    unwrapped : (one other : Found A) → Some one ≡ Some other → one ≡ other
    unwrapped one other h = cc

pub word_nest : (shape : Shape) (found : Part) → word_in shape ≡ Some found → nest shape ≤ 0
word_nest (shapes.Word part) found h = omega arith
word_nest (shapes.Quoted part) found h = cc
word_nest (shapes.Braces members) found h = cc
word_nest (shapes.Named part value) found h = cc
word_nest (shapes.Chosen part value) found h = cc

pub string_nest : (shape : Shape) (found : Part) → string_in shape ≡ Some found → nest shape ≤ 0
string_nest (shapes.Word part) found h = cc
string_nest (shapes.Quoted part) found h = omega arith
string_nest (shapes.Braces members) found h = cc
string_nest (shapes.Named part value) found h = cc
string_nest (shapes.Chosen part value) found h = cc

pub chosen_nest : (shape : Shape) (found : Part × Shape) → chosen_in shape ≡ Some found → nest shape ≡ nest found.1
chosen_nest (shapes.Word part) found h = cc
chosen_nest (shapes.Quoted part) found h = cc
chosen_nest (shapes.Braces members) found h = cc
chosen_nest (shapes.Named part value) found h = cc
chosen_nest (shapes.Chosen part value) found h = ap (λ (f : Part × Shape). nest f.1) (unwrapped (part, value) found h)
  where
    unwrapped : (one other : Part × Shape) → Some one ≡ Some other → one ≡ other
    unwrapped one other h = cc

pub gathered_listed : (members : Shapes) → gathered (listed members) ≡ members
gathered_listed shapes.None = refl
gathered_listed (shapes.Some shape members) = ap (shapes.Some shape) (gathered_listed members)

pub members_nest : (shape : Shape) (found : List Shape) → members_in shape ≡ Some found → nest shape ≡ suc (nest_in (gathered found))
members_nest (shapes.Word part) found h = cc
members_nest (shapes.Quoted part) found h = cc
members_nest (shapes.Braces members) found h =
    let same : listed members ≡ found = cc in
    ap (λ m. suc (nest_in m)) (sym (gathered_listed members)) ∙ ap (λ m. suc (nest_in (gathered m))) same
members_nest (shapes.Named part value) found h = cc
members_nest (shapes.Chosen part value) found h = cc

-- a component and the members behind it
component_nest : (name : List ℕ) (members : List Shape) (found : Behind Shape) (deep : ℕ) → component name members ≡ Some found
    → nest found.value ≤ deep → nest_in (gathered found.rest) ≤ deep → nest_in (gathered members) ≤ deep
component_nest name [] found deep h one other = cc
component_nest name (shapes.Word part ∷ rest) found deep h one other = cc
component_nest name (shapes.Quoted part ∷ rest) found deep h one other = cc
component_nest name (shapes.Braces members ∷ rest) found deep h one other = cc
component_nest name (shapes.Chosen part value ∷ rest) found deep h one other = cc
component_nest name (shapes.Named part value ∷ rest) found deep h one other = inner (bytes_eq part.text name) h
  where
    unwrapped : (one other : Behind Shape) → Some one ≡ Some other → one ≡ other
    unwrapped one other h = cc

    inner : (b : Bool) → (if b then Some (record { value = value; rest = rest }) else None) ≡ Some found → nest_in (gathered (shapes.Named part value ∷ rest)) ≤ deep
    inner false h = cc
    inner true h =
        let same = unwrapped (record { value = value; rest = rest }) found h in
        let first : nest value ≡ nest found.value = ap (λ (f : Behind Shape). nest f.value) same in
        let behind : nest_in (gathered rest) ≡ nest_in (gathered found.rest) = ap (λ (f : Behind Shape). nest_in (gathered f.rest)) same in
        omega (arith, first, behind, one, other)

-- a component that may be absent
pub optional_nest : {A : Type 0} (most deep : ℕ) (name : List ℕ) (absent : A) (reader : Shape → Read A) (members : List Shape) (bad : Option ℕ) (found : Found (Behind A))
    → Shallow most reader → most ≤ deep → optional name absent reader members bad ≡ Some found → nest_in (gathered found.value.rest) ≤ deep
    → nest_in (gathered members) ≤ deep
optional_nest {A} most deep name absent reader members bad found shallow within h behind = inner (component name members) refl h
  where
    unwrapped : (one other : Found (Behind A)) → Some one ≡ Some other → one ≡ other
    unwrapped one other h = cc

    inner : (there : Option (Behind Shape)) → component name members ≡ there → present absent reader members there bad ≡ Some found → nest_in (gathered members) ≤ deep
    inner None is h =
        let same : nest_in (gathered members) ≡ nest_in (gathered found.value.rest) =
        ap (λ (f : Found (Behind A)). nest_in (gathered f.value.rest)) (unwrapped (record { value = record { value = absent; rest = members }; bad = bad }) found h) in
        omega (arith, same, behind)
    inner (Some there) is h =
        let read = both_read (reader there.value) (λ value. give (record { value = value; rest = there.rest })) bad found h in
        let first = shallow there.value bad read.0 read.1 in
        let same : nest_in (gathered there.rest) ≡ nest_in (gathered found.value.rest) =
        ap (λ (f : Found (Behind A)). nest_in (gathered f.value.rest))
        (unwrapped (record { value = record { value = read.0.value; rest = there.rest }; bad = read.0.bad }) found read.2) in
        component_nest name members there deep is (omega (arith, first, within)) (omega (arith, same, behind))

-- members of a set
pub gather_nest : {A : Type 0} (most : ℕ) (reader : Shape → Read A) (members : List Shape) (seen : List A) (bad : Option ℕ) (found : Found (List A))
    → Shallow most reader → gather reader seen members bad ≡ Some found → nest_in (gathered members) ≤ most
gather_nest most reader [] seen bad found shallow h = omega arith
gather_nest most reader (shape ∷ members) seen bad found shallow h =
    let read = both_read (reader shape) (λ value. gather reader (seen ++ value ∷ []) members) bad found h in
    let first = shallow shape bad read.0 read.1 in
    let others = gather_nest most reader members (seen ++ read.0.value ∷ []) read.0.bad found shallow read.2 in
    omega (arith, first, others)

-- nothing was left
pub left_nothing : {A : Type 0} (members : List Shape) (value : A) (bad : Option ℕ) (found : Found A) → nothing_left members value bad ≡ Some found → members ≡ []
left_nothing [] value bad found h = refl
left_nothing (shape ∷ members) value bad found h = cc

pub number_is_shallow : (deep most : ℕ) → Shallow deep (number most)
unfolding number
number_is_shallow deep most shape bad found h =
    let read = both_read (expect (word_in shape)) (λ word. if is_number word.text then part word.place 0 (at_most most word.text) else λ bad. None) bad found h in
    let none = word_nest shape read.0.value (was_there (word_in shape) bad read.0 read.1) in
    omega (arith, none)
