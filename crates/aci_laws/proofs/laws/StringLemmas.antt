-- Values whose strings are texts, and their parts.
use Rattle.std.proofs.Common.{◌≡◌, ℕ, Bool, true, false, List, [], ◌∷◌, subst}
use Rattle.std.specs.Prelude as std
use Rattle.std.specs.List.{AllByRecursion}
use Rattle.std.specs.Str.{is_utf8, bytes_eq}
use Rattle.std.specs.Prelude.{◌&&◌, if◌then◌else◌}
use Rattle.std.proofs.lemmas.Option.{same_Some}
use Rattle.gser_tree.specs.declared.part.Part.{Part}
use Rattle.gser_tree.specs.looking.Looking.{Behind, chosen_in, component, flag, is_null, members_in, string_in}
use Rattle.gser_tree.specs.looking.Shapes.{Shape, Shapes, Word, Quoted, Braces, Named, Chosen, None, Some, listed}

abbrev mutual
  -- each string is a text
  pub HasTexts : Shape → Type 0
  HasTexts (Word part) = Unit {0}
  HasTexts (Quoted part) = is_utf8 part.text ≡ true
  HasTexts (Braces shapes) = HaveTextsIn shapes
  HasTexts (Named part shape) = HasTexts shape
  HasTexts (Chosen part shape) = HasTexts shape

  pub HaveTextsIn : Shapes → Type 0
  HaveTextsIn None = Unit {0}
  HaveTextsIn (Some shape shapes) = HasTexts shape × HaveTextsIn shapes

abbrev pub HaveTexts : List Shape → Type 0
HaveTexts shapes = AllByRecursion HasTexts shapes

-- ---- of parts of a value

texts_listed : (shapes : Shapes) → HaveTextsIn shapes → HaveTexts (listed shapes)
texts_listed None all = tt
texts_listed (Some shape shapes) all = (all.0, texts_listed shapes all.1)

pub members_texts : (shape : Shape) (members : List Shape) → members_in shape ≡ std.Some members → HasTexts shape → HaveTexts members
members_texts (Braces shapes) members is texts =
    let same : listed shapes ≡ members = cc in
    let Texts : List Shape → Type 0 = λ m. HaveTexts m in
    subst Texts same (texts_listed shapes texts)
members_texts (Word part) members is texts = absurd cc
members_texts (Quoted part) members is texts = absurd cc
members_texts (Named part shape) members is texts = absurd cc
members_texts (Chosen part shape) members is texts = absurd cc

pub chosen_texts : (shape : Shape) (chosen : Part × Shape) → chosen_in shape ≡ std.Some chosen → HasTexts shape → HasTexts chosen.1
chosen_texts (Chosen part inner) chosen is texts =
    let same : (part, inner) ≡ chosen = same_Some (part, inner) chosen is in
    let Texts : Part × Shape → Type 0 = λ c. HasTexts c.1 in
    subst Texts same texts
chosen_texts (Word part) chosen is texts = absurd cc
chosen_texts (Quoted part) chosen is texts = absurd cc
chosen_texts (Braces shapes) chosen is texts = absurd cc
chosen_texts (Named part shape) chosen is texts = absurd cc

pub string_text : (shape : Shape) (part : Part) → string_in shape ≡ std.Some part → HasTexts shape → is_utf8 part.text ≡ true
string_text (Quoted other) part is texts =
    let same : other ≡ part = cc in
    let IsText : Part → Type 0 = λ p. is_utf8 p.text ≡ true in
    subst IsText same texts
string_text (Word other) part is texts = absurd cc
string_text (Braces shapes) part is texts = absurd cc
string_text (Named other shape) part is texts = absurd cc
string_text (Chosen other shape) part is texts = absurd cc

unwrapped_behind : (one other : Behind Shape) → std.Some one ≡ std.Some other → one ≡ other
unwrapped_behind one other h = cc

pub component_texts : (name : List ℕ) (members : List Shape) (found : Behind Shape) → component name members ≡ std.Some found → HaveTexts members
    → HasTexts found.value × HaveTexts found.rest
component_texts name [] found is texts = absurd cc
component_texts name (Named part shape ∷ rest) found is texts = inner (bytes_eq part.text name) is
  where
    inner : (b : Bool) → (if b then std.Some (record { value = shape; rest = rest }) else std.None) ≡ std.Some found → HasTexts found.value × HaveTexts found.rest
    inner true is =
        let same : record { value = shape; rest = rest } ≡ found = unwrapped_behind (record { value = shape; rest = rest }) found is in
        let Texts : Behind Shape → Type 0 = λ f. HasTexts f.value × HaveTexts f.rest in
        subst Texts same texts
    inner false is = absurd cc
component_texts name (Word part ∷ rest) found is texts = absurd cc
component_texts name (Quoted part ∷ rest) found is texts = absurd cc
component_texts name (Braces shapes ∷ rest) found is texts = absurd cc
component_texts name (Chosen part shape ∷ rest) found is texts = absurd cc

pub flag_texts : (name : List ℕ) (members rest : List Shape) → flag name members ≡ std.Some rest → HaveTexts members → HaveTexts rest
flag_texts name [] rest is texts = absurd cc
flag_texts name (Word part ∷ others) rest is texts = inner (bytes_eq part.text name) is
  where
    inner : (b : Bool) → (if b then std.Some others else std.None) ≡ std.Some rest → HaveTexts rest
    inner true is =
        let same : others ≡ rest = cc in
        let Texts : List Shape → Type 0 = λ m. HaveTexts m in
        subst Texts same texts.1
    inner false is = absurd cc
flag_texts name (Named part shape ∷ others) rest is texts = inner (bytes_eq part.text name && is_null shape) is
  where
    inner : (b : Bool) → (if b then std.Some others else std.None) ≡ std.Some rest → HaveTexts rest
    inner true is =
        let same : others ≡ rest = cc in
        let Texts : List Shape → Type 0 = λ m. HaveTexts m in
        subst Texts same texts.1
    inner false is = absurd cc
flag_texts name (Quoted part ∷ others) rest is texts = absurd cc
flag_texts name (Braces shapes ∷ others) rest is texts = absurd cc
flag_texts name (Chosen part shape ∷ others) rest is texts = absurd cc
