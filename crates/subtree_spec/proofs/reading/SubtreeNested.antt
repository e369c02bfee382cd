-- A value that is read as a specification is at most 65 deep.
use Prim.Native.Nat.{zero}
use Rattle.std.proofs.Common.{◌≡◌, ℕ, ◌≤◌, suc, Bool, true, false, List, [], ◌∷◌, Option, Some, None, codes, ap, ◌∙◌, subst, arith}
use Rattle.std.specs.Prelude.{Result, Ok, if◌then◌else◌}
use Rattle.std.specs.Str.{bytes_eq}
use Rattle.plain_values.specs.Answers.{Answers}
use Rattle.gser_tree.specs.looking.Shapes.{Shape, gathered, nest, nest_in}
use Rattle.gser_tree.specs.looking.Looking.{Behind, members_in, word_in, string_in, chosen_in}
use Rattle.gser_tree.specs.Reading.{Found, Read, give, ◌>>=◌, expect, part, optional, nothing_left, gather}
use Rattle.gser_tree.proofs.Theorems.{Shallow, both_read, was_there, word_nest, string_nest, chosen_nest, members_nest, optional_nest, gather_nest, left_nothing, number_is_shallow}
use Rattle.subtree_spec.specs.declared.error.BadText.{BadText}
use Rattle.subtree_spec.specs.declared.spec.Spec.{Spec}
use Rattle.subtree_spec.specs.Parts.{name, name_of, is_oid, oid, class_oid, set_of}
use Rattle.subtree_spec.specs.Subtrees as subtrees
use Rattle.subtree_spec.specs.Subtrees.{Choice, Item, And, Or, Not, Subtree, subtree_of}
use Rattle.subtree_spec.specs.SubtreeText.{Chops, no_chops, put_name, chop, chop_member, chops, exclusions, distance, item, alternative, refinement, there, components, subtree, SubText, judged, fault_of, read_subtree}
use Rattle.subtree_spec.proofs.reading.ReadLemmas.{reads_shape}

name_is_shallow : (deep : ℕ) → Shallow deep name
unfolding name
name_is_shallow deep shape bad found h =
    let read = both_read (expect (string_in shape)) (λ string. part string.place [] (name_of string.text)) bad found h in
    let none = string_nest shape read.0.value (was_there (string_in shape) bad read.0 read.1) in
    omega (arith, none)

item_is_shallow : (deep : ℕ) → Shallow deep item
unfolding item oid
item_is_shallow deep shape bad found h =
    let read = both_read (oid shape) (λ word. part word.place [] (class_oid word.text)) bad found h in
    let word = both_read (expect (word_in shape)) (λ word. if is_oid word.text then give word else λ bad. None) bad read.0 read.1 in
    let none = word_nest shape word.0.value (was_there (word_in shape) bad word.0 word.1) in
    omega (arith, none)

chop_is_shallow : (deep : ℕ) (seen : Chops) (kind : List ℕ) (shape : Shape) (bad : Option ℕ) (found : Found Chops) → chop seen kind shape bad ≡ Some found → nest shape ≤ deep
chop_is_shallow deep seen kind shape bad found h = first (bytes_eq kind (codes "chopBefore")) h
  where
    other : (b : Bool) → (if b then (name shape >>= λ value. give (record { before = seen.before; after = put_name value seen.after })) else λ bad. None) bad ≡ Some found → nest shape ≤ deep
    other true h =
        let read = both_read (name shape) (λ value. give (record { before = seen.before; after = put_name value seen.after })) bad found h in
        name_is_shallow deep shape bad read.0 read.1
    other false h = cc

    first : (b : Bool) → (if b then (name shape >>= λ value. give (record { before = put_name value seen.before; after = seen.after }))
        else if bytes_eq kind (codes "chopAfter") then (name shape >>= λ value. give (record { before = seen.before; after = put_name value seen.after }))
        else λ bad. None) bad ≡ Some found → nest shape ≤ deep
    first true h =
        let read = both_read (name shape) (λ value. give (record { before = put_name value seen.before; after = seen.after })) bad found h in
        name_is_shallow deep shape bad read.0 read.1
    first false h = other (bytes_eq kind (codes "chopAfter")) h

chop_member_is_shallow : (deep : ℕ) (seen : Chops) (shape : Shape) (bad : Option ℕ) (found : Found Chops) → chop_member seen shape bad ≡ Some found → nest shape ≤ deep
chop_member_is_shallow deep seen shape bad found h =
    let read = both_read (expect (chosen_in shape)) (λ chosen. chop seen chosen.0.text chosen.1) bad found h in
    let same = chosen_nest shape read.0.value (was_there (chosen_in shape) bad read.0 read.1) in
    let inner = chop_is_shallow deep seen read.0.value.0.text read.0.value.1 read.0.bad found read.2 in
    omega (arith, same, inner)

chops_are_shallow : (deep : ℕ) (members : List Shape) (seen : Chops) (bad : Option ℕ) (found : Found Chops) → chops seen members bad ≡ Some found → nest_in (gathered members) ≤ deep
chops_are_shallow deep [] seen bad found h = omega arith
chops_are_shallow deep (shape ∷ members) seen bad found h =
    let read = both_read (chop_member seen shape) (λ next. chops next members) bad found h in
    let first = chop_member_is_shallow deep seen shape bad read.0 read.1 in
    let others = chops_are_shallow deep members read.0.value read.0.bad found read.2 in
    omega (arith, first, others)

exclusions_are_shallow : Shallow 64 exclusions
unfolding exclusions
exclusions_are_shallow shape bad found h =
    let read = both_read (expect (members_in shape)) (chops no_chops) bad found h in
    let same = members_nest shape read.0.value (was_there (members_in shape) bad read.0 read.1) in
    let inner = chops_are_shallow 63 read.0.value no_chops read.0.bad found read.2 in
    omega (arith, same, inner)

set_is_shallow : (depth : ℕ) (reader : Shape → Read Choice) → Shallow depth reader → Shallow (suc depth) (set_of reader)
set_is_shallow depth reader shallow shape bad found h =
    let read = both_read (expect (members_in shape)) (gather reader []) bad found h in
    let same = members_nest shape read.0.value (was_there (members_in shape) bad read.0 read.1) in
    let inner = gather_nest depth reader read.0.value [] read.0.bad found shallow read.2 in
    omega (arith, same, inner)

alternative_is_shallow : (depth : ℕ) (reader : Shape → Read Choice) → Shallow depth reader → (kind : List ℕ) (value : Shape) (bad : Option ℕ) (found : Found Choice)
    → alternative reader kind value bad ≡ Some found → nest value ≤ suc depth
alternative_is_shallow depth reader shallow kind value bad found h =
    of_item (bytes_eq kind (codes "item")) (bytes_eq kind (codes "and")) (bytes_eq kind (codes "or")) (bytes_eq kind (codes "not")) h
  where
    of_item : (b c d e : Bool) → (if b then (item value >>= λ oid. give (Item oid))
        else if c then (set_of reader value >>= λ members. give (And (subtrees.gathered members)))
        else if d then (set_of reader value >>= λ members. give (Or (subtrees.gathered members)))
        else if e then (reader value >>= λ member. give (Not member))
        else λ bad. None) bad ≡ Some found → nest value ≤ suc depth
    of_item true c d e h =
        let read = both_read (item value) (λ oid. give (Item oid)) bad found h in item_is_shallow (suc depth) value bad read.0 read.1
    of_item false true d e h =
        let read = both_read (set_of reader value) (λ members. give (And (subtrees.gathered members))) bad found h in
        set_is_shallow depth reader shallow value bad read.0 read.1
    of_item false false true e h =
        let read = both_read (set_of reader value) (λ members. give (Or (subtrees.gathered members))) bad found h in
        set_is_shallow depth reader shallow value bad read.0 read.1
    of_item false false false true h =
        let read = both_read (reader value) (λ member. give (Not member)) bad found h in
        let inner = shallow value bad read.0 read.1 in
        omega (arith, inner)
    of_item false false false false h = cc

refinement_is_shallow : (depth : ℕ) → Shallow depth (refinement depth)
unfolding refinement
refinement_is_shallow zero shape bad found h = cc
refinement_is_shallow (suc depth) shape bad found h =
    let read = both_read (expect (chosen_in shape)) (λ chosen. alternative (refinement depth) chosen.0.text chosen.1) bad found h in
    let same = chosen_nest shape read.0.value (was_there (chosen_in shape) bad read.0 read.1) in
    let inner = alternative_is_shallow depth (refinement depth) (refinement_is_shallow depth) read.0.value.0.text read.0.value.1 read.0.bad found read.2 in
    omega (arith, same, inner)

there_is_shallow : {A : Type 0} (most : ℕ) (reader : Shape → Read A) → Shallow most reader → Shallow most (there reader)
there_is_shallow most reader shallow shape bad found h =
    let read = both_read (reader shape) (λ value. give (Some value)) bad found h in shallow shape bad read.0 read.1

components_are_shallow : (members : List Shape) (bad : Option ℕ) (found : Found (Behind Subtree)) → components members bad ≡ Some found
    → nest_in (gathered found.value.rest) ≤ 64 → nest_in (gathered members) ≤ 64
unfolding components
components_are_shallow members bad found h behind =
    let base = both_read (optional (codes "base") [] name members) _ bad found h in
    let names = both_read (optional (codes "specificExclusions") no_chops exclusions base.0.value.rest) _ base.0.bad found base.2 in
    let minimum = both_read (optional (codes "minimum") 0 distance names.0.value.rest) _ names.0.bad found names.2 in
    let maximum = both_read (optional (codes "maximum") None (there distance) minimum.0.value.rest) _ minimum.0.bad found minimum.2 in
    let filter = both_read (optional (codes "specificationFilter") None (there (refinement 64)) maximum.0.value.rest) _ maximum.0.bad found maximum.2 in
    let last = given _ found filter.2 in
    let five = optional_nest 64 64 (codes "specificationFilter") None (there (refinement 64)) maximum.0.value.rest maximum.0.bad filter.0
    (there_is_shallow 64 (refinement 64) (refinement_is_shallow 64)) (omega arith) filter.1 (omega (arith, last, behind)) in
    let four = optional_nest 64 64 (codes "maximum") None (there distance) minimum.0.value.rest minimum.0.bad maximum.0
    (there_is_shallow 64 distance (number_is_shallow 64 2147483647)) (omega arith) maximum.1 five in
    let three = optional_nest 64 64 (codes "minimum") 0 distance names.0.value.rest names.0.bad minimum.0 (number_is_shallow 64 2147483647) (omega arith) minimum.1 four in
    let two = optional_nest 64 64 (codes "specificExclusions") no_chops exclusions base.0.value.rest base.0.bad names.0 exclusions_are_shallow (omega arith) names.1 three in
    optional_nest 64 64 (codes "base") [] name members bad base.0 (name_is_shallow 64) (omega arith) base.1 two
  where
    given : (one other : Found (Behind Subtree)) → Some one ≡ Some other → nest_in (gathered one.value.rest) ≡ nest_in (gathered other.value.rest)
    given one other h = ap (λ (f : Found (Behind Subtree)). nest_in (gathered f.value.rest)) (same one other h)
      where
        same : (one other : Found (Behind Subtree)) → Some one ≡ Some other → one ≡ other
        same one other h = cc

-- what is read as a specification is not deep
pub subtree_is_shallow : Shallow 65 subtree
unfolding subtree
subtree_is_shallow shape bad found h =
    let all = both_read (expect (members_in shape)) (λ all. components all >>= λ spec. nothing_left spec.rest spec.value) bad found h in
    let same = members_nest shape all.0.value (was_there (members_in shape) bad all.0 all.1) in
    let read = both_read (components all.0.value) (λ spec. nothing_left spec.rest spec.value) all.0.bad found all.2 in
    let end = left_nothing read.0.value.rest read.0.value.value read.0.bad found read.2 in
    let none : nest_in (gathered read.0.value.rest) ≡ 0 = ap (λ r. nest_in (gathered r)) end in
    let inner = components_are_shallow all.0.value all.0.bad read.0 read.1 (omega (arith, none)) in
    omega (arith, same, inner)

-- a text that gives a specification is read as it
pub read_subtree-SubText : (spec : Subtree) (text : List ℕ) → SubText spec text → read_subtree text ≡ Ok spec
read_subtree-SubText spec text given =
    let deep = subtree_is_shallow given.shape None (record { value = spec; bad = None }) given.reads in
    reads_shape text given.shape given.written (omega (arith, deep)) ∙ ap judged given.reads

pub reads_given : (text : List ℕ) (result : Result Spec BadText) → Answers subtree_of fault_of result (read_subtree text)
    → (spec : Subtree) → SubText spec text → Answers subtree_of fault_of result (Ok spec)
reads_given text result h spec given = subst (λ (r : Result Subtree BadText). Answers subtree_of fault_of result r) (read_subtree-SubText spec text given) h
