-- A text is written for one value at most.
use Rattle.std.proofs.Common.{◌≡◌, ℕ, List, [], ◌∷◌, ◌++◌, refl, sym, ap, ◌∙◌, append_assoc}
use Rattle.std.proofs.lemmas.List.{append-nil}
use Rattle.std.specs.Prelude.{flat_map}
use Rattle.gser_tree.specs.declared.part.Part.{Part}
use Rattle.gser_tree.specs.looking.Shapes.{Shape, Shapes, Word, Quoted, Braces, Named, Chosen, None, Some, tokens_of, tokens_in, tokens_behind}
use Rattle.gser_tree.specs.TextOf.{IsTextOf, tokens_at}
use Rattle.aci_laws.proofs.laws.LexemeLemmas.{lexemes-unique}

tail_same : {T : Type 0} (one other : T) (a b : List T) → one ∷ a ≡ other ∷ b → a ≡ b
tail_same one other a b h = cc

-- the tokens behind a value, up to the ends of the braces around it, are not those of a value
no_value : (shape : Shape) (around : List Shapes) (a : _) → flat_map tokens_behind around ≡ tokens_of shape ++ a → ⊥
no_value (Word part) [] a h = cc
no_value (Word part) (None ∷ around) a h = cc
no_value (Word part) (Some one others ∷ around) a h = cc
no_value (Quoted part) [] a h = cc
no_value (Quoted part) (None ∷ around) a h = cc
no_value (Quoted part) (Some one others ∷ around) a h = cc
no_value (Braces shapes) [] a h = cc
no_value (Braces shapes) (None ∷ around) a h = cc
no_value (Braces shapes) (Some one others ∷ around) a h = cc
no_value (Named part shape) [] a h = cc
no_value (Named part shape) (None ∷ around) a h = cc
no_value (Named part shape) (Some one others ∷ around) a h = cc
no_value (Chosen part shape) [] a h = cc
no_value (Chosen part shape) (None ∷ around) a h = cc
no_value (Chosen part shape) (Some one others ∷ around) a h = cc

-- a word is no choice, and nor is a component
no_choice : (part other : Part) (shape : Shape) (around : List Shapes) (a : _)
    → tokens_of (Word part) ++ flat_map tokens_behind around ≡ tokens_of (Chosen other shape) ++ a → ⊥
no_choice part other shape [] a h = cc
no_choice part other shape (None ∷ around) a h = cc
no_choice part other shape (Some one others ∷ around) a h = cc

no_component : (part other : Part) (shape value : Shape) (a b : _) → tokens_of (Named part shape) ++ a ≡ tokens_of (Chosen other value) ++ b → ⊥
no_component part other (Word word) value a b h = cc
no_component part other (Quoted word) value a b h = cc
no_component part other (Braces shapes) value a b h = cc
no_component part other (Named word shape) value a b h = cc
no_component part other (Chosen word shape) value a b h = cc

-- braces with a member are not those without
no_member : (shape : Shape) (shapes : Shapes) (a b : _) → tokens_in None ++ a ≡ tokens_in (Some shape shapes) ++ b → ⊥
no_member (Word part) shapes a b h = cc
no_member (Quoted part) shapes a b h = cc
no_member (Braces inside) shapes a b h = cc
no_member (Named part shape) shapes a b h = cc
no_member (Chosen part shape) shapes a b h = cc

-- the tokens behind the first of values
first_parted : (shape : Shape) (shapes : Shapes) (around : List Shapes)
    → (tokens_of shape ++ tokens_behind shapes) ++ flat_map tokens_behind around ≡ tokens_of shape ++ flat_map tokens_behind (shapes ∷ around)
first_parted shape shapes around = append_assoc (tokens_of shape) (tokens_behind shapes) (flat_map tokens_behind around)

mutual
  -- values of the same tokens are the same, and so are the tokens behind them
  value_same : (one other : Shape) (a b : List Shapes) → tokens_of one ++ flat_map tokens_behind a ≡ tokens_of other ++ flat_map tokens_behind b
      → (one ≡ other) × (flat_map tokens_behind a ≡ flat_map tokens_behind b)
  value_same (Word part) (Word part') a b h = let same : part ≡ part' = cc in (ap Word same, tail_same _ _ _ _ h)
  value_same (Word part) (Quoted part') a b h = absurd cc
  value_same (Word part) (Braces shapes) a b h = absurd cc
  value_same (Word part) (Named part' other) a b h = absurd (no_value other a (flat_map tokens_behind b) (tail_same _ _ _ _ h))
  value_same (Word part) (Chosen part' other) a b h = absurd (no_choice part part' other a (flat_map tokens_behind b) h)
  value_same (Quoted part) (Word part') a b h = absurd cc
  value_same (Quoted part) (Quoted part') a b h = let same : part ≡ part' = cc in (ap Quoted same, tail_same _ _ _ _ h)
  value_same (Quoted part) (Braces shapes) a b h = absurd cc
  value_same (Quoted part) (Named part' other) a b h = absurd cc
  value_same (Quoted part) (Chosen part' other) a b h = absurd cc
  value_same (Braces shapes) (Word part') a b h = absurd cc
  value_same (Braces shapes) (Quoted part') a b h = absurd cc
  value_same (Braces shapes) (Braces shapes') a b h =
      let inside = members_same shapes shapes' a b (tail_same _ _ _ _ h) in (ap Braces inside.0, inside.1)
  value_same (Braces shapes) (Named part' other) a b h = absurd cc
  value_same (Braces shapes) (Chosen part' other) a b h = absurd cc
  value_same (Named part one) (Word part') a b h = absurd (no_value one b (flat_map tokens_behind a) (sym (tail_same _ _ _ _ h)))
  value_same (Named part one) (Quoted part') a b h = absurd cc
  value_same (Named part one) (Braces shapes) a b h = absurd cc
  value_same (Named part one) (Named part' other) a b h =
      let same : part ≡ part' = cc in
      let inside = value_same one other a b (tail_same _ _ _ _ h) in
      (ap (λ w. Named w one) same ∙ ap (Named part') inside.0, inside.1)
  value_same (Named part one) (Chosen part' other) a b h = absurd (no_component part part' one other (flat_map tokens_behind a) (flat_map tokens_behind b) h)
  value_same (Chosen part one) (Word part') a b h = absurd (no_choice part' part one b (flat_map tokens_behind a) (sym h))
  value_same (Chosen part one) (Quoted part') a b h = absurd cc
  value_same (Chosen part one) (Braces shapes) a b h = absurd cc
  value_same (Chosen part one) (Named part' other) a b h = absurd (no_component part' part other one (flat_map tokens_behind b) (flat_map tokens_behind a) (sym h))
  value_same (Chosen part one) (Chosen part' other) a b h =
      let same : part ≡ part' = cc in
      let inside = value_same one other a b (tail_same _ _ _ _ (tail_same _ _ _ _ h)) in
      (ap (λ w. Chosen w one) same ∙ ap (Chosen part') inside.0, inside.1)

  -- the same of values in braces
  members_same : (one other : Shapes) (a b : List Shapes) → tokens_in one ++ flat_map tokens_behind a ≡ tokens_in other ++ flat_map tokens_behind b
      → (one ≡ other) × (flat_map tokens_behind a ≡ flat_map tokens_behind b)
  members_same None None a b h = (refl, tail_same _ _ _ _ h)
  members_same None (Some shape shapes) a b h = absurd (no_member shape shapes (flat_map tokens_behind a) (flat_map tokens_behind b) h)
  members_same (Some shape shapes) None a b h = absurd (no_member shape shapes (flat_map tokens_behind b) (flat_map tokens_behind a) (sym h))
  members_same (Some one ones) (Some other others) a b h =
      let first = value_same one other (ones ∷ a) (others ∷ b) (sym (first_parted one ones a) ∙ h ∙ first_parted other others b) in
      let rest = behind_same ones others a b first.1 in
      (ap (λ s. Some s ones) first.0 ∙ ap (Some other) rest.0, rest.1)

  behind_same : (one other : Shapes) (a b : List Shapes) → tokens_behind one ++ flat_map tokens_behind a ≡ tokens_behind other ++ flat_map tokens_behind b
      → (one ≡ other) × (flat_map tokens_behind a ≡ flat_map tokens_behind b)
  behind_same None None a b h = (refl, tail_same _ _ _ _ h)
  behind_same None (Some shape shapes) a b h = absurd cc
  behind_same (Some shape shapes) None a b h = absurd cc
  behind_same (Some one ones) (Some other others) a b h =
      let first = value_same one other (ones ∷ a) (others ∷ b) (sym (first_parted one ones a) ∙ tail_same _ _ _ _ h ∙ first_parted other others b) in
      let rest = behind_same ones others a b first.1 in
      (ap (λ s. Some s ones) first.0 ∙ ap (Some other) rest.0, rest.1)

-- the values of a text
pub IsTextOf-unique : (one other : Shape) (text : List ℕ) → IsTextOf one text → IsTextOf other text → one ≡ other
IsTextOf-unique one other text first second =
    let lexemes = lexemes-unique first.lexemes second.lexemes first.proper second.proper (first.joined ∙ sym second.joined) in
    let tokens = sym first.shaped ∙ ap (tokens_at 0) lexemes ∙ second.shaped in
    (value_same one other [] [] (append-nil (tokens_of one) ∙ tokens ∙ sym (append-nil (tokens_of other)))).0
