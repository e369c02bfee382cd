-- The strings of a value that a text is written for are texts.
use Rattle.std.proofs.Common.{◌≡◌, ℕ, ◌+◌, true, List, [], ◌∷◌, ◌++◌, length, append_assoc, ap, sym, ◌∙◌, subst}
use Rattle.std.proofs.lemmas.List.{append-nil}
use Rattle.std.specs.Str.{is_utf8}
use Rattle.gser_tree.specs.declared.part.Part.{Part}
use Rattle.gser_tree.specs.Lexemes as lexemes
use Rattle.gser_tree.specs.Lexemes.{Lexeme, AreLexemes, show}
use Rattle.gser_tree.specs.looking.Shapes.{Shape, Shapes, Word, Quoted, Braces, Named, Chosen, None, Some, tokens_of, tokens_in, tokens_behind}
use Rattle.gser_tree.specs.TextOf.{IsTextOf, part_at, tokens_at}
use Rattle.aci_laws.proofs.laws.StringLemmas.{HasTexts, HaveTextsIn}

abbrev tail : {A : Type 0} → List A → List A
tail [] = []
tail (x ∷ xs) = xs

-- lexemes behind the first token
rest_of : (lexemes : List Lexeme) (place : ℕ) (tokens : List _) → AreLexemes lexemes → tokens_at place lexemes ≡ tokens
    → (rest : List Lexeme) × (next : ℕ) × AreLexemes rest × (tokens_at next rest ≡ tail tokens)
rest_of [] place tokens proper h = ([], place, tt, ap tail h)
rest_of (lexemes.Space ∷ rest) place tokens proper h = rest_of rest (place + 1) tokens proper h
rest_of (lexemes.Marked mark ∷ rest) place tokens proper h = (rest, place + 1, proper, ap tail h)
rest_of (lexemes.Word text ∷ rest) place tokens proper h = (rest, place + length text, proper.2, ap tail h)
rest_of (lexemes.Quoted text ∷ rest) place tokens proper h = (rest, place + length (show (lexemes.Quoted text)), proper.2, ap tail h)

-- a string that is the first token is a text
quoted_text : (lexemes : List Lexeme) (place : ℕ) (part : Part) (more : List _) → AreLexemes lexemes → tokens_at place lexemes ≡ tokens_of (Quoted part) ++ more
    → is_utf8 part.text ≡ true
quoted_text [] place part more proper h = absurd cc
quoted_text (lexemes.Space ∷ rest) place part more proper h = quoted_text rest (place + 1) part more proper h
quoted_text (lexemes.Marked mark ∷ rest) place part more proper h = absurd cc
quoted_text (lexemes.Word text ∷ rest) place part more proper h = absurd cc
quoted_text (lexemes.Quoted text ∷ rest) place part more proper h =
    let same : part_at place text ≡ part = cc in
    let IsText : Part → Type 0 = λ p. is_utf8 p.text ≡ true in
    subst IsText same proper.0

mutual
  -- lexemes whose tokens are those of a value and more: the rest has the other tokens, and the value's strings are texts
  texts_of : (shape : Shape) (lexemes : List Lexeme) (place : ℕ) (more : List _) → AreLexemes lexemes → tokens_at place lexemes ≡ tokens_of shape ++ more
      → ((rest : List Lexeme) × (next : ℕ) × AreLexemes rest × (tokens_at next rest ≡ more)) × HasTexts shape
  texts_of (Word part) lexemes place more proper h = (rest_of lexemes place (tokens_of (Word part) ++ more) proper h, tt)
  texts_of (Quoted part) lexemes place more proper h =
      (rest_of lexemes place (tokens_of (Quoted part) ++ more) proper h, quoted_text lexemes place part more proper h)
  texts_of (Braces shapes) lexemes place more proper h =
      let one = rest_of lexemes place (tokens_of (Braces shapes) ++ more) proper h in
      texts_in shapes one.0 one.1 more one.2 one.3
  texts_of (Named part shape) lexemes place more proper h =
      let one = rest_of lexemes place (tokens_of (Named part shape) ++ more) proper h in
      texts_of shape one.0 one.1 more one.2 one.3
  texts_of (Chosen part shape) lexemes place more proper h =
      let one = rest_of lexemes place (tokens_of (Chosen part shape) ++ more) proper h in
      let two = rest_of one.0 one.1 (tail (tokens_of (Chosen part shape) ++ more)) one.2 one.3 in
      texts_of shape two.0 two.1 more two.2 two.3

  -- the values in braces, behind the first brace
  texts_in : (shapes : Shapes) (lexemes : List Lexeme) (place : ℕ) (more : List _) → AreLexemes lexemes → tokens_at place lexemes ≡ tokens_in shapes ++ more
      → ((rest : List Lexeme) × (next : ℕ) × AreLexemes rest × (tokens_at next rest ≡ more)) × HaveTextsIn shapes
  texts_in None lexemes place more proper h = (rest_of lexemes place (tokens_in None ++ more) proper h, tt)
  texts_in (Some shape shapes) lexemes place more proper h =
      let one = texts_of shape lexemes place (tokens_behind shapes ++ more) proper (h ∙ append_assoc (tokens_of shape) (tokens_behind shapes) more) in
      let others = texts_behind shapes one.0.0 one.0.1 more one.0.2 one.0.3 in
      (others.0, (one.1, others.1))

  -- the values behind one in braces
  texts_behind : (shapes : Shapes) (lexemes : List Lexeme) (place : ℕ) (more : List _) → AreLexemes lexemes → tokens_at place lexemes ≡ tokens_behind shapes ++ more
      → ((rest : List Lexeme) × (next : ℕ) × AreLexemes rest × (tokens_at next rest ≡ more)) × HaveTextsIn shapes
  texts_behind None lexemes place more proper h = (rest_of lexemes place (tokens_behind None ++ more) proper h, tt)
  texts_behind (Some shape shapes) lexemes place more proper h =
      let comma = rest_of lexemes place (tokens_behind (Some shape shapes) ++ more) proper h in
      let one = texts_of shape comma.0 comma.1 (tokens_behind shapes ++ more) comma.2
      (comma.3 ∙ append_assoc (tokens_of shape) (tokens_behind shapes) more) in
      let others = texts_behind shapes one.0.0 one.0.1 more one.0.2 one.0.3 in
      (others.0, (one.1, others.1))

pub HasTexts-from_IsTextOf : (shape : Shape) (text : List ℕ) → IsTextOf shape text → HasTexts shape
HasTexts-from_IsTextOf shape text written =
    (texts_of shape written.lexemes 0 [] written.proper (written.shaped ∙ sym (append-nil (tokens_of shape)))).1
