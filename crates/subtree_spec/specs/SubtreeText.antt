-- Subtree specifications as text (RFC 3672 Appendix A), a production a definition.
use Rattle.std.specs.Prelude.{◌≡◌, ℕ, suc, List, [], ◌∷◌, Option, Some, None, option_and_then, Result, Ok, Err, codes, if◌then◌else◌}
use Prim.Native.Nat.{zero}
use Rattle.std.specs.Str.{bytes_eq}
use Rattle.dn_names.specs.name.Names.{RdnSequence}
use Rattle.dn_names.specs.NameOrder.{name_cmp}
use Rattle.std.specs.Ordering.{match_ordering}
use Rattle.gser_tree.specs.looking.Shapes.{Shape}
use Rattle.gser_tree.specs.TextOf.{IsTextOf}
use Rattle.gser_tree.specs.Growing.{tree_of}
use Rattle.gser_tree.specs.looking.Looking.{Behind, members_in, chosen_in}
use Rattle.gser_tree.specs.Reading.{Found, Read, give, ◌>>=◌, expect, part, optional, nothing_left, number}
use Rattle.subtree_spec.specs.declared.error.BadText.{BadText}
use Rattle.subtree_spec.specs.declared.error.BadText.TheVariants.{Text, Part, NoMemory}
use Rattle.subtree_spec.specs.Parts.{name, oid, class_oid, set_of}
use Rattle.subtree_spec.specs.Subtrees.{Choice, Item, And, Or, Not, gathered, Subtree}

-- the names of specificExclusions by their kind
pub record Chops : Type 0 where
  pub before : List RdnSequence
  pub after : List RdnSequence

-- no exclusions
abbrev pub no_chops : Chops
no_chops = record { before = []; after = [] }

-- a name among others in their order; of names that are the same the first stays
abbrev pub put_name : RdnSequence → List RdnSequence → List RdnSequence
put_name name [] = name ∷ []
put_name name (first ∷ names) = match_ordering (name_cmp name first) (name ∷ first ∷ names) (first ∷ names) (first ∷ put_name name names)

-- CHOICE { chopBefore [0] LocalName, chopAfter [1] LocalName }: put among those that were seen
abbrev pub chop : Chops → List ℕ → Shape → Read Chops
chop seen kind value =
    if bytes_eq kind (codes "chopBefore") then (name value >>= λ name. give (record { before = put_name name seen.before; after = seen.after }))
    else if bytes_eq kind (codes "chopAfter") then (name value >>= λ name. give (record { before = seen.before; after = put_name name seen.after }))
    else λ bad. None

-- a member of specificExclusions, put among those that were seen
abbrev pub chop_member : Chops → Shape → Read Chops
chop_member seen shape = expect (chosen_in shape) >>= λ chosen. chop seen chosen.0.text chosen.1

-- SET SIZE (1..MAX) OF these, or the empty set
abbrev pub chops : Chops → List Shape → Read Chops
chops seen [] = give seen
chops seen (shape ∷ shapes) = chop_member seen shape >>= λ next. chops next shapes

-- specificExclusions [1]
unfoldable pub exclusions : Shape → Read Chops
exclusions shape = expect (members_in shape) >>= chops no_chops

-- BaseDistance ::= INTEGER (0..MAX)
abbrev pub distance : Shape → Read ℕ
distance = number 2147483647

-- the object identifier of a class
unfoldable pub item : Shape → Read (List ℕ)
item shape = oid shape >>= λ word. part word.place [] (class_oid word.text)

-- the alternatives of a refinement, whose members are read by a reader
abbrev pub alternative : (Shape → Read Choice) → List ℕ → Shape → Read Choice
alternative reader kind value =
    if bytes_eq kind (codes "item") then (item value >>= λ oid. give (Item oid))
    else if bytes_eq kind (codes "and") then (set_of reader value >>= λ members. give (And (gathered members)))
    else if bytes_eq kind (codes "or") then (set_of reader value >>= λ members. give (Or (gathered members)))
    else if bytes_eq kind (codes "not") then (reader value >>= λ member. give (Not member))
    else λ bad. None

-- Refinement, at most so deep
unfoldable pub refinement : ℕ → Shape → Read Choice
refinement zero shape = λ bad. None
refinement (suc depth) shape = expect (chosen_in shape) >>= λ chosen. alternative (refinement depth) chosen.0.text chosen.1

-- a value that is there
abbrev pub there : {A : Type 0} → (Shape → Read A) → Shape → Read (Option A)
there reader shape = reader shape >>= λ value. give (Some value)

-- the components of SubtreeSpecification, and the members behind them
unfoldable pub components : List Shape → Read (Behind Subtree)
components all = do
  base ← optional (codes "base") [] name all
  chops ← optional (codes "specificExclusions") no_chops exclusions base.rest
  minimum ← optional (codes "minimum") 0 distance chops.rest
  maximum ← optional (codes "maximum") None (there distance) minimum.rest
  filter ← optional (codes "specificationFilter") None (there (refinement 64)) maximum.rest
  give (record {
    value = record {
      base = base.value;
      before = chops.value.before;
      after = chops.value.after;
      minimum = minimum.value;
      maximum = maximum.value;
      filter = filter.value;
    };
    rest = filter.rest;
  })

-- SubtreeSpecification
unfoldable pub subtree : Shape → Read Subtree
subtree shape = do
  all ← expect (members_in shape)
  spec ← components all
  nothing_left spec.rest spec.value

-- the text is written for a value that reads as the specification, and no part of it is bad
pub record SubText (spec : Subtree) (text : List ℕ) : Type 0 where
  pub shape : Shape
  pub written : IsTextOf shape text
  pub reads : subtree shape None ≡ Some (record { value = spec; bad = None })

-- the value, or the first bad place
abbrev pub unless_bad : {A : Type 0} → Option ℕ → A → Result A BadText
unless_bad None value = Ok value
unless_bad (Some place) value = Err (Part place)

-- what was read, or why nothing was
abbrev pub judged : {A : Type 0} → Option (Found A) → Result A BadText
judged None = Err Text
judged (Some found) = unless_bad found.bad found.value

-- the specification of a text, or the fault
unfoldable pub read_subtree : List ℕ → Result Subtree BadText
read_subtree text = judged (option_and_then (λ shape. subtree shape None) (tree_of text))

-- the fault of an error; want of memory is none
abbrev pub fault_of : BadText → Option BadText
fault_of Text = Some Text
fault_of (Part place) = Some (Part place)
fault_of NoMemory = None
