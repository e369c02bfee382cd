-- Printed components, choices and sets, and what is read of them.
use Rattle.std.proofs.Common.{◌≡◌, ℕ, true, false, List, [], ◌∷◌, ◌++◌, refl, sym, ap, subst, ◌∙◌, append_assoc}
use Rattle.std.proofs.lemmas.List.{append-nil}
use Rattle.std.specs.Prelude.{Option, Some, None, Bool, codes, map}
use Rattle.std.specs.List.{AllByRecursion}
use Rattle.std.specs.Str.{bytes_eq}
use Rattle.std.proofs.lemmas.Slice.Eq.{bytes_eq-Decides}
use Rattle.gser_tree.specs.Lexemes.{Lexeme, class_of, is_word}
use Rattle.gser_tree.specs.looking.Shapes as shapes
use Rattle.gser_tree.specs.looking.Shapes.{Shape, gathered}
use Rattle.gser_tree.specs.TextOf.{part_at}
use Rattle.gser_tree.specs.looking.Looking.{component, flag, is_null}
use Rattle.gser_tree.specs.Reading.{Read, present, optional, required, gather}
use Rattle.gser_tree.specs.Writing.{print_word, print_component, print_optional, print_flag}
use Rattle.gser_tree.proofs.writing.PrintsLemmas.{IsWritten, AreWritten, component_is_written, word_is_written, written_weaker, none_are_written, more_are_written}

-- a value is read so, whichever part was bad before
abbrev pub IsRead : {A : Type 0} → (Shape → Read A) → A → Shape → Type 0
IsRead reader value shape = (bad : Option ℕ) → reader shape bad ≡ Some (record { value = value; bad = bad })

-- lexemes that are read so, wherever they stand
abbrev pub Prints : {A : Type 0} → ℕ → (Shape → Read A) → List Lexeme → A → Type 0
Prints most reader lexemes value = IsWritten most (IsRead reader value) lexemes

-- texts are what they are
pub bytes_eq-refl : (text : List ℕ) → bytes_eq text text ≡ true
bytes_eq-refl text = (bytes_eq-Decides text text).1 refl

-- members of a set, read behind others
abbrev pub AreGathered : {A : Type 0} → (Shape → Read A) → List A → List Shape → Type 0
AreGathered {A} reader values shapes =
    (seen : List A) (bad : Option ℕ) → gather reader seen shapes bad ≡ Some (record { value = seen ++ values; bad = bad })

pub none_gathered : {A : Type 0} (reader : Shape → Read A) → AreGathered reader [] []
none_gathered reader = λ seen bad. ap (λ v. Some (record { value = v; bad = bad })) (sym (append-nil seen))

pub more_gathered : {A : Type 0} (reader : Shape → Read A) (value : A) (values : List A) (shape : Shape) (others : List Shape)
    → IsRead reader value shape → AreGathered reader values others → AreGathered reader (value ∷ values) (shape ∷ others)
more_gathered reader value values shape others here behind = λ seen bad.
    rw (here bad) (behind (seen ++ value ∷ []) bad ∙ ap (λ v. Some (record { value = v; bad = bad })) (append_assoc seen (value ∷ []) values))

-- a set, each member of which is read
pub set_is_written : {A : Type 0} (most : ℕ) (reader : Shape → Read A) (print : A → List Lexeme) (values : List A)
    → AllByRecursion (λ value. Prints most reader (print value) value) values → AreWritten most (AreGathered reader values) (map print values)
set_is_written most reader print [] all = none_are_written most (AreGathered reader []) (none_gathered reader)
set_is_written most reader print (value ∷ values) all =
    more_are_written most (IsRead reader value) (AreGathered reader values) (AreGathered reader (value ∷ values)) (print value) (map print values)
    all.0 (set_is_written most reader print values all.1) (λ shape others here behind. more_gathered reader value values shape others here behind)

-- the first of the members is none of these components
abbrev pub Skips : List (List ℕ) → List Shape → Type 0
Skips [] shapes = Unit {0}
Skips (name ∷ names) shapes = (component name shapes ≡ None) × (flag name shapes ≡ None) × Skips names shapes

pub skips_end : (names : List (List ℕ)) → Skips names []
skips_end [] = tt
skips_end (name ∷ names) = (refl, refl, skips_end names)

-- the name is none of these
abbrev pub IsApart : List ℕ → List (List ℕ) → Type 0
IsApart name [] = Unit {0}
IsApart name (other ∷ others) = (bytes_eq name other ≡ false) × IsApart name others

skips_other : (names : List (List ℕ)) (name : List ℕ) (place : ℕ) (shape : Shape) (rest : List Shape) → IsApart name names
    → Skips names (shapes.Named (part_at place name) shape ∷ rest)
skips_other [] name place shape rest apart = tt
skips_other (other ∷ names) name place shape rest apart =
    (rw apart.0 refl, rw apart.0 refl, skips_other names name place shape rest apart.1)

-- the members from an optional component on: its value, and the members behind it
pub record OptionalRead {A : Type 0} (names : List (List ℕ)) (name : List ℕ) (absent : A) (reader : Shape → Read A) (value : A)
    (Q : List Shape → Type 0) (members : List Shape) : Type 0 where
  pub skips : Skips names members
  pub rest : List Shape
  pub read : (bad : Option ℕ) → optional name absent reader members bad ≡ Some (record { value = record { value = value; rest = rest }; bad = bad })
  pub behind : Q rest

-- its printed form, which may be left out for the value that stands where it is absent
abbrev pub PrintsOptional : {A : Type 0} → ℕ → A → (Shape → Read A) → Option (List Lexeme) → A → Type 0
PrintsOptional most absent reader None value = value ≡ absent
PrintsOptional most absent reader (Some lexemes) value = Prints most reader lexemes value

pub optional_is_written : {A : Type 0} (most : ℕ) (names : List (List ℕ)) (name : List ℕ) (absent : A) (reader : Shape → Read A)
    (printed : Option (List Lexeme)) (value : A) (Q : List Shape → Type 0) (items : List (List Lexeme)) → is_word name ≡ true → IsApart name names
    → ((members : List Shape) → Q members → Skips (name ∷ names) members) → PrintsOptional most absent reader printed value → AreWritten most Q items
    → AreWritten most (OptionalRead names name absent reader value Q) (print_optional name printed ++ items)
optional_is_written most names name absent reader None value Q items word apart skips same written =
    written_weaker most Q (OptionalRead names name absent reader value Q) items (λ members has. record {
      skips = (skips members has).2;
      rest = members;
      read = λ bad. ap (λ c. present absent reader members c bad) (skips members has).0
          ∙ ap (λ v. Some (record { value = record { value = v; rest = members }; bad = bad })) (sym same);
      behind = has;
    }) written
optional_is_written {A} most names name absent reader (Some lexemes) value Q items word apart skips prints written =
    more_are_written most IsIt Q (OptionalRead names name absent reader value Q) (print_component name lexemes) items
    (component_is_written most (IsRead reader value) IsIt name lexemes word prints (λ place shape read. (place, shape, refl, read)))
    written
    (λ shape members it has. inner shape members it.0 it.1 it.2 it.3 has)
  where
    IsIt : Shape → Type 0
    IsIt shape = (place : ℕ) × (value_shape : Shape) × (shape ≡ shapes.Named (part_at place name) value_shape) × IsRead reader value value_shape

    inner : (shape : Shape) (members : List Shape) (place : ℕ) (value_shape : Shape) → shape ≡ shapes.Named (part_at place name) value_shape
        → IsRead reader value value_shape → Q members → OptionalRead names name absent reader value Q (shape ∷ members)
    inner shape members place value_shape is read has = subst (λ (s : Shape). OptionalRead names name absent reader value Q (s ∷ members)) (sym is) (record {
      skips = skips_other names name place value_shape members apart;
      rest = members;
      read = λ bad. rw (bytes_eq-refl name, read bad) refl;
      behind = has;
    })

-- the members from a required component on
pub record RequiredRead {A : Type 0} (names : List (List ℕ)) (name : List ℕ) (reader : Shape → Read A) (value : A)
    (Q : List Shape → Type 0) (members : List Shape) : Type 0 where
  pub skips : Skips names members
  pub rest : List Shape
  pub read : (bad : Option ℕ) → required name reader members bad ≡ Some (record { value = record { value = value; rest = rest }; bad = bad })
  pub behind : Q rest

pub required_is_written : {A : Type 0} (most : ℕ) (names : List (List ℕ)) (name : List ℕ) (reader : Shape → Read A)
    (lexemes : List Lexeme) (value : A) (Q : List Shape → Type 0) (items : List (List Lexeme)) → is_word name ≡ true → IsApart name names
    → Prints most reader lexemes value → AreWritten most Q items
    → AreWritten most (RequiredRead names name reader value Q) (print_component name lexemes ∷ items)
required_is_written {A} most names name reader lexemes value Q items word apart prints written =
    more_are_written most IsIt Q (RequiredRead names name reader value Q) (print_component name lexemes) items
    (component_is_written most (IsRead reader value) IsIt name lexemes word prints (λ place shape read. (place, shape, refl, read)))
    written
    (λ shape members it has. inner shape members it.0 it.1 it.2 it.3 has)
  where
    IsIt : Shape → Type 0
    IsIt shape = (place : ℕ) × (value_shape : Shape) × (shape ≡ shapes.Named (part_at place name) value_shape) × IsRead reader value value_shape

    inner : (shape : Shape) (members : List Shape) (place : ℕ) (value_shape : Shape) → shape ≡ shapes.Named (part_at place name) value_shape
        → IsRead reader value value_shape → Q members → RequiredRead names name reader value Q (shape ∷ members)
    inner shape members place value_shape is read has = subst (λ (s : Shape). RequiredRead names name reader value Q (s ∷ members)) (sym is) (record {
      skips = skips_other names name place value_shape members apart;
      rest = members;
      read = λ bad. rw (bytes_eq-refl name, read bad) refl;
      behind = has;
    })

-- what is read of it
abbrev pub flagged : Bool → List Shape → Option (List Shape)
flagged true rest = Some rest
flagged false rest = None

-- the members from a component on that has no value of its own
pub record FlagRead (names : List (List ℕ)) (name : List ℕ) (here : Bool) (Q : List Shape → Type 0) (members : List Shape) : Type 0 where
  pub skips : Skips names members
  pub rest : List Shape
  pub read : flag name members ≡ flagged here rest
  pub kept : here ≡ false → members ≡ rest
  pub behind : Q rest

null_word : is_word (codes "NULL") ≡ true
unfolding class_of
null_word = refl

pub flag_is_written : (most : ℕ) (names : List (List ℕ)) (name : List ℕ) (here : Bool) (Q : List Shape → Type 0) (items : List (List Lexeme))
    → is_word name ≡ true → IsApart name names → ((members : List Shape) → Q members → Skips (name ∷ names) members) → AreWritten most Q items
    → AreWritten most (FlagRead names name here Q) (print_flag name here ++ items)
flag_is_written most names name false Q items word apart skips written =
    written_weaker most Q (FlagRead names name false Q) items (λ members has. record {
      skips = (skips members has).2;
      rest = members;
      read = (skips members has).1;
      kept = λ _. refl;
      behind = has;
    }) written
flag_is_written most names name true Q items word apart skips written =
    more_are_written most IsIt Q (FlagRead names name true Q) (print_component name (print_word (codes "NULL"))) items
    (component_is_written most IsNull IsIt name (print_word (codes "NULL")) word
    (word_is_written most IsNull (codes "NULL") null_word (λ place. refl)) (λ place shape null. (place, shape, refl, null)))
    written
    (λ shape members it has. inner shape members it.0 it.1 it.2 it.3 has)
  where
    IsNull : Shape → Type 0
    IsNull shape = is_null shape ≡ true

    IsIt : Shape → Type 0
    IsIt shape = (place : ℕ) × (value_shape : Shape) × (shape ≡ shapes.Named (part_at place name) value_shape) × (is_null value_shape ≡ true)

    inner : (shape : Shape) (members : List Shape) (place : ℕ) (value_shape : Shape) → shape ≡ shapes.Named (part_at place name) value_shape
        → is_null value_shape ≡ true → Q members → FlagRead names name true Q (shape ∷ members)
    inner shape members place value_shape is null has = subst (λ (s : Shape). FlagRead names name true Q (s ∷ members)) (sym is) (record {
      skips = skips_other names name place value_shape members apart;
      rest = members;
      read = rw (bytes_eq-refl name, null) refl;
      kept = λ never. cc;
      behind = has;
    })
