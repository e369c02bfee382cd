-- What is printed is read: lexemes that are, wherever they stand, the tokens of a value.
use Rattle.std.proofs.Common.{◌≡◌, ℕ, ◌≤◌, ◌+◌, suc, Bool, true, false, List, [], ◌∷◌, ◌++◌, length, refl, sym, ap, subst, ◌∙◌, append_assoc, arith}
use Rattle.std.proofs.lemmas.List.{append-nil, length-append}
use Rattle.std.specs.Str.{is_utf8}
use Rattle.gser_tree.specs.declared.marks.Mark.TheVariants.{Open, Close, Comma, Colon}
use Rattle.gser_tree.specs.declared.token.Token.{Token}
use Rattle.gser_tree.specs.declared.token.Token.TheVariants as token
use Rattle.gser_tree.specs.Lexemes.{Lexeme, Quoted, show, is_word, EndsBefore, AreLexemes}
use Rattle.gser_tree.specs.looking.Shapes as shapes
use Rattle.gser_tree.specs.looking.Shapes.{Shape, gathered, tokens_of, tokens_in, tokens_behind, nest, nest_in}
use Rattle.gser_tree.specs.TextOf.{part_at, tokens_at, IsTextOf}
use Rattle.gser_tree.specs.Writing.{text_of, print_word, print_string, print_component, print_choice, print_members, print_braces}
use Rattle.gser_tree.proofs.writing.PutsLemmas.{text_of-append}

-- lexemes at a place are the tokens of a value that has a property, and in which braces stand at most so deep
pub record Written (most : ℕ) (P : Shape → Type 0) (place : ℕ) (lexemes : List Lexeme) : Type 0 where
  pub shape : Shape
  pub proper : (rest : List Lexeme) → EndsBefore rest → AreLexemes rest → AreLexemes (lexemes ++ rest)
  pub placed : (rest : List Lexeme) → tokens_at place (lexemes ++ rest) ≡ tokens_of shape ++ tokens_at (place + length (text_of lexemes)) rest
  pub nested : nest shape ≤ most
  pub has : P shape

-- wherever they stand
abbrev pub IsWritten : ℕ → (Shape → Type 0) → List Lexeme → Type 0
IsWritten most P lexemes = (place : ℕ) → Written most P place lexemes

-- the tokens of values in braces, or of those behind others
abbrev pub lead : Bool → List Shape → List Token
lead true shapes = token.Sign Open ∷ tokens_in (gathered shapes)
lead false shapes = tokens_behind (gathered shapes)

-- the same of members
pub record WrittenMembers (most : ℕ) (P : List Shape → Type 0) (first : Bool) (place : ℕ) (items : List (List Lexeme)) : Type 0 where
  pub shapes : List Shape
  pub proper : (rest : List Lexeme) → EndsBefore rest → AreLexemes rest → AreLexemes (print_members first items ++ rest)
  pub placed : (rest : List Lexeme) → tokens_at place (print_members first items ++ rest)
      ≡ lead first shapes ++ tokens_at (place + length (text_of (print_members first items))) rest
  pub nested : nest_in (gathered shapes) ≤ most
  pub has : P shapes

abbrev pub AreWritten : ℕ → (List Shape → Type 0) → List (List Lexeme) → Type 0
AreWritten most P items = (first : Bool) (place : ℕ) → WrittenMembers most P first place items

-- the same place
moved : (place next : ℕ) (rest : List Lexeme) → place ≡ next → tokens_at place rest ≡ tokens_at next rest
moved place next rest same = ap (λ p. tokens_at p rest) same

-- a word
pub word_is_written : (most : ℕ) (P : Shape → Type 0) (text : List ℕ) → is_word text ≡ true → ((place : ℕ) → P (shapes.Word (part_at place text)))
    → IsWritten most P (print_word text)
word_is_written most P text word has = λ place. record {
  shape = shapes.Word (part_at place text);
  proper = λ rest ends proper. (word, ends, proper);
  placed = λ rest. ap (λ t. token.Word (part_at place text) ∷ tokens_at (place + length t) rest) (sym (append-nil text));
  nested = omega arith;
  has = has place;
}

-- a string
pub string_is_written : (most : ℕ) (P : Shape → Type 0) (text : List ℕ) → is_utf8 text ≡ true → ((place : ℕ) → P (shapes.Quoted (part_at place text)))
    → IsWritten most P (print_string text)
string_is_written most P text utf8 has = λ place. record {
  shape = shapes.Quoted (part_at place text);
  proper = λ rest ends proper. (utf8, ends, proper);
  placed = λ rest. ap (λ t. token.Quoted (part_at place text) ∷ tokens_at (place + length t) rest) (sym (append-nil (show (Quoted text))));
  nested = omega arith;
  has = has place;
}

-- a choice
pub choice_is_written : (most : ℕ) (P Q : Shape → Type 0) (kind : List ℕ) (value : List Lexeme) → is_word kind ≡ true → IsWritten most P value
    → ((place : ℕ) (shape : Shape) → P shape → Q (shapes.Chosen (part_at place kind) shape)) → IsWritten most Q (print_choice kind value)
choice_is_written most P Q kind value word written has = λ place.
    let inner = written (place + length kind + 1) in
    let at : place + length kind + 1 + length (text_of value) ≡ place + length (kind ++ 58 ∷ text_of value) = omega (arith, length-append kind (58 ∷ text_of value)) in
    record {
      shape = shapes.Chosen (part_at place kind) inner.shape;
      proper = λ rest ends proper. (word, tt, inner.proper rest ends proper);
      placed = λ rest. ap (λ ts. token.Word (part_at place kind) ∷ token.Sign Colon ∷ ts)
          (inner.placed rest ∙ ap (λ ts. tokens_of inner.shape ++ ts) (moved _ _ rest at));
      nested = inner.nested;
      has = has place inner.shape inner.has;
    }

-- a component
pub component_is_written : (most : ℕ) (P Q : Shape → Type 0) (name : List ℕ) (value : List Lexeme) → is_word name ≡ true → IsWritten most P value
    → ((place : ℕ) (shape : Shape) → P shape → Q (shapes.Named (part_at place name) shape)) → IsWritten most Q (print_component name value)
component_is_written most P Q name value word written has = λ place.
    let inner = written (place + length name + 1) in
    let at : place + length name + 1 + length (text_of value) ≡ place + length (name ++ 32 ∷ text_of value) = omega (arith, length-append name (32 ∷ text_of value)) in
    record {
      shape = shapes.Named (part_at place name) inner.shape;
      proper = λ rest ends proper. (word, tt, inner.proper rest ends proper);
      placed = λ rest. ap (λ ts. token.Word (part_at place name) ∷ ts)
          (inner.placed rest ∙ ap (λ ts. tokens_of inner.shape ++ ts) (moved _ _ rest at));
      nested = inner.nested;
      has = has place inner.shape inner.has;
    }

-- members that have one property have another
pub written_weaker : (most : ℕ) (P Q : List Shape → Type 0) (items : List (List Lexeme)) → ((shapes : List Shape) → P shapes → Q shapes)
    → AreWritten most P items → AreWritten most Q items
written_weaker most P Q items weaker written = λ first place.
    let inner = written first place in
    record { shapes = inner.shapes; proper = inner.proper; placed = inner.placed; nested = inner.nested; has = weaker inner.shapes inner.has }

-- no members
pub none_are_written : (most : ℕ) (P : List Shape → Type 0) → P [] → AreWritten most P []
none_are_written most P has = λ first place. inner first place
  where
    inner : (first : Bool) (place : ℕ) → WrittenMembers most P first place []
    inner true place = record {
      shapes = [];
      proper = λ rest ends proper. proper;
      placed = λ rest. ap (λ p. token.Sign Open ∷ token.Sign Close ∷ tokens_at p rest) (let at : place + 1 + 1 + 1 ≡ place + 3 = omega arith in at);
      nested = omega arith;
      has = has;
    }
    inner false place = record {
      shapes = [];
      proper = λ rest ends proper. proper;
      placed = λ rest. ap (λ p. token.Sign Close ∷ tokens_at p rest) (let at : place + 1 + 1 ≡ place + 2 = omega arith in at);
      nested = omega arith;
      has = has;
    }

-- what stands behind a member
ends_member : (items : List (List Lexeme)) (rest : List Lexeme) → EndsBefore (print_members false items ++ rest)
ends_member [] rest = tt
ends_member (item ∷ items) rest = tt

-- a member before others
pub more_are_written : (most : ℕ) (P : Shape → Type 0) (Q R : List Shape → Type 0) (item : List Lexeme) (items : List (List Lexeme))
    → IsWritten most P item → AreWritten most Q items → ((shape : Shape) (shapes : List Shape) → P shape → Q shapes → R (shape ∷ shapes))
    → AreWritten most R (item ∷ items)
more_are_written most P Q R item items one others has = λ first place. inner first place
  where
    inner : (first : Bool) (place : ℕ) → WrittenMembers most R first place (item ∷ items)
    inner first place = record {
      shapes = here.shape ∷ behind.shapes;
      proper = λ rest ends proper. fits first rest ends proper;
      placed = λ rest. stands first rest;
      nested = omega (arith, here.nested, behind.nested);
      has = has here.shape behind.shapes here.has behind.has;
    }
      where
        here : Written most P (place + 1 + 1) item
        here = one (place + 1 + 1)

        behind : WrittenMembers most Q false (place + 1 + 1 + length (text_of item)) items
        behind = others false (place + 1 + 1 + length (text_of item))

        more : List Lexeme
        more = print_members false items

        body : (rest : List Lexeme) → EndsBefore rest → AreLexemes rest → AreLexemes ((item ++ print_members false items) ++ rest)
        body rest ends proper =
            subst (λ (l : List Lexeme). AreLexemes l) (sym (append_assoc item (print_members false items) rest))
            (here.proper (print_members false items ++ rest) (ends_member items rest) (behind.proper rest ends proper))

        fits : (first : Bool) (rest : List Lexeme) → EndsBefore rest → AreLexemes rest → AreLexemes (print_members first (item ∷ items) ++ rest)
        fits true rest ends proper = body rest ends proper
        fits false rest ends proper = body rest ends proper

        at : (n : ℕ) → n ≡ suc (suc (length (text_of (item ++ print_members false items))))
            → place + 1 + 1 + length (text_of item) + length (text_of (print_members false items)) ≡ place + n
        at n is =
            let both : length (text_of (item ++ print_members false items)) ≡ length (text_of item) + length (text_of (print_members false items)) =
            ap length (text_of-append item (print_members false items)) ∙ length-append (text_of item) (text_of (print_members false items)) in
            omega (arith, both, is)

        tokens : (rest : List Lexeme) (n : ℕ) → n ≡ suc (suc (length (text_of (item ++ print_members false items))))
            → tokens_at (place + 1 + 1) ((item ++ print_members false items) ++ rest)
            ≡ (tokens_of here.shape ++ tokens_behind (gathered behind.shapes)) ++ tokens_at (place + n) rest
        tokens rest n is =
            ap (λ l. tokens_at (place + 1 + 1) l) (append_assoc item (print_members false items) rest)
            ∙ here.placed (print_members false items ++ rest)
            ∙ ap (λ ts. tokens_of here.shape ++ ts) (behind.placed rest ∙ ap (λ ts. tokens_behind (gathered behind.shapes) ++ ts) (moved _ _ rest (at n is)))
            ∙ sym (append_assoc (tokens_of here.shape) (tokens_behind (gathered behind.shapes)) (tokens_at (place + n) rest))

        stands : (first : Bool) (rest : List Lexeme) → tokens_at place (print_members first (item ∷ items) ++ rest)
            ≡ lead first (here.shape ∷ behind.shapes) ++ tokens_at (place + length (text_of (print_members first (item ∷ items)))) rest
        stands true rest = ap (λ ts. token.Sign Open ∷ ts) (tokens rest (length (text_of (print_members true (item ∷ items)))) refl)
        stands false rest = ap (λ ts. token.Sign Comma ∷ ts) (tokens rest (length (text_of (print_members false (item ∷ items)))) refl)

-- members in braces
pub braces_are_written : (most : ℕ) (P : List Shape → Type 0) (Q : Shape → Type 0) (items : List (List Lexeme)) → AreWritten most P items
    → ((members : List Shape) → P members → Q (shapes.Braces (gathered members))) → IsWritten (suc most) Q (print_braces items)
braces_are_written most P Q items written has = λ place.
    let inner = written true place in
    record {
      shape = shapes.Braces (gathered inner.shapes);
      proper = inner.proper;
      placed = inner.placed;
      nested = omega (arith, inner.nested);
      has = has inner.shapes inner.has;
    }

-- what is written is a text of a value that has the property
pub IsTextOf-written : (most : ℕ) (P : Shape → Type 0) (lexemes : List Lexeme) → IsWritten most P lexemes
    → (shape : Shape) × IsTextOf shape (text_of lexemes) × (nest shape ≤ most) × P shape
IsTextOf-written most P lexemes written =
    let whole = written 0 in
    let same : lexemes ++ [] ≡ lexemes = append-nil lexemes in (
      whole.shape,
      record {
        lexemes = lexemes;
        proper = subst (λ (l : List Lexeme). AreLexemes l) same (whole.proper [] tt tt);
        joined = refl;
        shaped = ap (tokens_at 0) (sym same) ∙ whole.placed [] ∙ append-nil (tokens_of whole.shape);
      },
      whole.nested,
      whole.has,
    )

-- a looser bound
pub written_within : (most other : ℕ) (P : Shape → Type 0) (lexemes : List Lexeme) → most ≤ other → IsWritten most P lexemes → IsWritten other P lexemes
written_within most other P lexemes within written = λ place.
    let inner = written place in
    record { shape = inner.shape; proper = inner.proper; placed = inner.placed; nested = omega (arith, within, inner.nested); has = inner.has }
