-- The text of a name in one line is a text of the name.
use Rattle.std.proofs.Common.{◌≡◌, ℕ, ◌∙◌, sym, ap, subst, refl, arith, Bool, true, false, ◌||◌, List, [], ◌∷◌, ◌++◌, Ok}
use Rattle.std.specs.List.{AllByRecursion}
use Rattle.std.proofs.lemmas.Bool.{false≢true}
use Rattle.regular_text.proofs.Theorems.{Matches-AllByRecursion}
use Rattle.regular_text.specs.Grammar.{Grammar, IsWithin}
use Rattle.regular_text.specs.Grammar.Grammar.{One, Either, Then, Many}
use Rattle.dn_names.specs.Classes.{class_of, is_letter, is_word, is_zero, is_nonzero, is_digit, is_dot}
use Rattle.dn_names.specs.NameGrammar.{kind}
use Rattle.dn_names.specs.Spelling.{WrittenPair, AreSpaces, SpellsOctets, SpellsValue, IsKind, SpellsPair, IsJoined, SpellsRdn, SpellsName}
use Rattle.dn_names.specs.name.Names.{RdnSequence}
use Rattle.dn_names.specs.name.GoodNames.{IsGoodName}
use Rattle.dn_names.specs.parsing.NameText.{NameText, read_name}
use Rattle.dn_names.specs.Printing.{print_name}
use Rattle.dn_names.proofs.Theorems.{read_name-NameText, NameText-print_name}
use Rattle.line_text.specs.Escapes.{one_line_octet, one_line}
use Rattle.line_text.proofs.laws.OneLineLemmas.{one_line-append, octet-stays, text-stays, spaces-stay, front-other, space-was, piece-one_line}

-- one of two
or-left : (one other : Bool) → one ≡ true → (one || other) ≡ true
or-left one other is = rw is refl

or-right : (one other : Bool) → other ≡ true → (one || other) ≡ true
or-right true other is = refl
or-right false other is = is

-- one of six tests passes
abbrev is_any : {K : Type 0} → (letter word zero nonzero digit dot : K → Bool) → K → Bool
is_any letter word zero nonzero digit dot class = letter class || (word class || (zero class || (nonzero class || (digit class || dot class))))

-- each octet of a type passes one of the tests of its grammar
abbrev number_by : {K : Type 0} → (zero nonzero digit : K → Bool) → Grammar K
number_by zero nonzero digit = Either (One zero) (Then (One nonzero) (Many (One digit)))

abbrev kind_by : {K : Type 0} → (letter word zero nonzero digit dot : K → Bool) → Grammar K
kind_by letter word zero nonzero digit dot =
    Either (Then (One letter) (Many (One word)))
    (Then (number_by zero nonzero digit) (Then (Then (One dot) (number_by zero nonzero digit)) (Many (Then (One dot) (number_by zero nonzero digit)))))

kind-within : {K : Type 0} (letter word zero nonzero digit dot : K → Bool) → IsWithin (is_any letter word zero nonzero digit dot) (kind_by letter word zero nonzero digit dot)
kind-within {K} letter word zero nonzero digit dot =
    ((of_letter, of_word), (number, ((of_dot, number), (of_dot, number))))
  where
    of_letter : (class : K) → letter class ≡ true → is_any letter word zero nonzero digit dot class ≡ true
    of_letter class is = or-left (letter class) (word class || (zero class || (nonzero class || (digit class || dot class)))) is

    of_word : (class : K) → word class ≡ true → is_any letter word zero nonzero digit dot class ≡ true
    of_word class is = or-right (letter class) (word class || (zero class || (nonzero class || (digit class || dot class)))) (or-left (word class) (zero class || (nonzero class || (digit class || dot class))) is)

    of_later : (class : K) → (zero class || (nonzero class || (digit class || dot class))) ≡ true → is_any letter word zero nonzero digit dot class ≡ true
    of_later class is = or-right (letter class) (word class || (zero class || (nonzero class || (digit class || dot class)))) (or-right (word class) (zero class || (nonzero class || (digit class || dot class))) is)

    of_last : (class : K) → (digit class || dot class) ≡ true → is_any letter word zero nonzero digit dot class ≡ true
    of_last class is = of_later class (or-right (zero class) (nonzero class || (digit class || dot class)) (or-right (nonzero class) (digit class || dot class) is))

    of_dot : (class : K) → dot class ≡ true → is_any letter word zero nonzero digit dot class ≡ true
    of_dot class is = of_last class (or-right (digit class) (dot class) is)

    number : IsWithin (is_any letter word zero nonzero digit dot) (number_by zero nonzero digit)
    number = (
      (λ class is. of_later class (or-left (zero class) (nonzero class || (digit class || dot class)) is)),
      (
        (λ class is. of_later class (or-right (zero class) (nonzero class || (digit class || dot class)) (or-left (nonzero class) (digit class || dot class) is))),
        (λ class is. of_last class (or-left (digit class) (dot class) is)),
      ),
    )

-- the octet may stand in a type: a letter, a digit, a hyphen or a dot
abbrev is_of_kind : ℕ → Bool
is_of_kind octet = is_any is_letter is_word is_zero is_nonzero is_digit is_dot (class_of octet)

feed-other : is_of_kind 10 ≡ false
unfolding class_of
feed-other = refl

return-other : is_of_kind 13 ≡ false
unfolding class_of
return-other = refl

-- such octets end no line
kind-octet-stays : (octet : ℕ) → is_of_kind octet ≡ true → one_line_octet octet ≡ octet ∷ []
kind-octet-stays octet is =
    octet-stays octet
    (λ feed. false≢true (sym feed-other ∙ ap is_of_kind (sym feed) ∙ is))
    (λ return. false≢true (sym return-other ∙ ap is_of_kind (sym return) ∙ is))

kind-octets : (text : List ℕ) → IsKind text → AllByRecursion (λ octet. is_of_kind octet ≡ true) text
kind-octets text is =
    Matches-AllByRecursion class_of (is_any is_letter is_word is_zero is_nonzero is_digit is_dot) kind text
    (kind-within is_letter is_word is_zero is_nonzero is_digit is_dot) is

kind-stays : (text : List ℕ) → IsKind text → one_line text ≡ text
kind-stays text is = text-stays (λ octet. is_of_kind octet ≡ true) kind-octet-stays text (kind-octets text is)

-- spaces in one line are spaces
spaces-one_line : (text : List ℕ) → AreSpaces text → AreSpaces (one_line text)
spaces-one_line text spaces = subst (λ (text : List ℕ). AreSpaces text) (sym (spaces-stay text spaces)) spaces

-- the pieces of a value
octets-one_line : (octets text : List ℕ) → SpellsOctets octets text → SpellsOctets octets (one_line text)
octets-one_line [] text spells = spaces-one_line text spells
octets-one_line (octet ∷ octets) text spells = (
  one_line spells.0,
  one_line spells.1,
  ap one_line spells.2 ∙ one_line-append spells.0 spells.1,
  piece-one_line octet spells.0 spells.3,
  octets-one_line octets spells.1 spells.4,
  λ last is. spells.5 last (space-was spells.0 is),
)

-- a value
value-one_line : (octets text : List ℕ) → SpellsValue octets text → SpellsValue octets (one_line text)
value-one_line octets text spells = (
  one_line spells.0,
  one_line spells.1,
  ap one_line spells.2 ∙ one_line-append spells.0 spells.1,
  spaces-one_line spells.0 spells.3,
  front-other spells.1 32 (λ is. omega (arith, is)) spells.4,
  front-other spells.1 35 (λ is. omega (arith, is)) spells.5,
  octets-one_line octets spells.1 spells.6,
)

-- a mark that ends no line
mark-one_line : (mark : ℕ) (text : List ℕ) → one_line_octet mark ≡ mark ∷ [] → one_line (mark ∷ text) ≡ mark ∷ one_line text
unfolding one_line
mark-one_line mark text stays = ap (λ front. front ++ one_line text) stays

-- a pair: its type and the spaces around it stay
pair-text : (before kind after value : List ℕ) → IsKind kind
    → one_line (before ++ (kind ++ (after ++ 61 ∷ value))) ≡ one_line before ++ (kind ++ (one_line after ++ 61 ∷ one_line value))
pair-text before kind after value is =
    one_line-append before (kind ++ (after ++ 61 ∷ value))
    ∙ ap (λ rest. one_line before ++ rest)
    (one_line-append kind (after ++ 61 ∷ value)
    ∙ ap (λ front. front ++ one_line (after ++ 61 ∷ value)) (kind-stays kind is)
    ∙ ap (λ rest. kind ++ rest) (one_line-append after (61 ∷ value) ∙ ap (λ rest. one_line after ++ rest) (mark-one_line 61 value refl)))

pair-one_line : (pair : WrittenPair) (text : List ℕ) → SpellsPair pair text → SpellsPair pair (one_line text)
pair-one_line pair text spells = record {
  before = one_line spells.before;
  after = one_line spells.after;
  value = one_line spells.value;
  is_text = ap one_line spells.is_text ∙ pair-text spells.before pair.kind spells.after spells.value spells.is_kind;
  gap_before = spaces-one_line spells.before spells.gap_before;
  is_kind = spells.is_kind;
  gap_after = spaces-one_line spells.after spells.gap_after;
  spells = value-one_line pair.octets spells.value spells.spells;
}

-- texts with a mark between each two, where the mark ends no line
joined-one_line : {A : Type 0} (mark : ℕ) (relation : A → List ℕ → Type 0) → one_line_octet mark ≡ mark ∷ []
    → ((x : A) (text : List ℕ) → relation x text → relation x (one_line text))
    → (xs : List A) (text : List ℕ) → IsJoined mark relation xs text → IsJoined mark relation xs (one_line text)
joined-one_line mark relation stays each [] text joined = joined
joined-one_line mark relation stays each (x ∷ []) text joined = each x text joined
joined-one_line mark relation stays each (x ∷ y ∷ ys) text joined = (
  one_line joined.0,
  one_line joined.1,
  ap one_line joined.2 ∙ one_line-append joined.0 (mark ∷ joined.1) ∙ ap (λ rest. one_line joined.0 ++ rest) (mark-one_line mark joined.1 stays),
  each x joined.0 joined.3,
  joined-one_line mark relation stays each (y ∷ ys) joined.1 joined.4,
)

rdn-one_line : (pairs : List WrittenPair) (text : List ℕ) → SpellsRdn pairs text → SpellsRdn pairs (one_line text)
rdn-one_line pairs text spells = joined-one_line 43 SpellsPair refl pair-one_line pairs text spells

name-one_line : (rdns : List (List WrittenPair)) (text : List ℕ) → SpellsName rdns text → SpellsName rdns (one_line text)
name-one_line [] text spells = spaces-one_line text spells
name-one_line (rdn ∷ rdns) text spells = joined-one_line 44 SpellsRdn refl rdn-one_line (rdn ∷ rdns) text spells

-- a text of a name
pub NameText-one_line : (name : RdnSequence) (text : List ℕ) → NameText name text → NameText name (one_line text)
unfolding NameText
NameText-one_line name text spelled = (spelled.0, name-one_line spelled.0 text spelled.1, spelled.2)

-- a printed name is read again from one line
pub read_name-one_line : (name : RdnSequence) → IsGoodName name → read_name (one_line (print_name name)) ≡ Ok name
read_name-one_line name good =
    read_name-NameText name (one_line (print_name name)) (NameText-one_line name (print_name name) (NameText-print_name name good))
