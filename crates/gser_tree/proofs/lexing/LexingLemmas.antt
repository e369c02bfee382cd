-- The tokens of a text behind those that were found.
use Rattle.std.proofs.Common.{◌≡◌, ℕ, List, ◌∷◌, ◌++◌, refl, ap, subst, append_assoc}
use Rattle.std.specs.Prelude.{Option, Some, None, option_map, option_and_then, ◌+◌}
use Rattle.gser_tree.specs.declared.token.Token.{Token}
use Rattle.gser_tree.specs.declared.lexing.Mode.{Mode}
use Rattle.gser_tree.specs.Lexing.{Step, stepped, left, lex_from, step}

-- tokens behind some, and behind more
pub behind_both : (front more : List Token) (found : Option (List Token)) → option_map (λ tokens. (front ++ more) ++ tokens) found
    ≡ option_map (λ tokens. front ++ tokens) (option_map (λ tokens. more ++ tokens) found)
behind_both front more None = refl
behind_both front more (Some tokens) = ap Some (append_assoc front more tokens)

-- a step that went on leaves the tokens of what is left
pub goes_on : (tokens new : List Token) (mode next : Mode) (place octet : ℕ) (rest : List ℕ)
    → stepped tokens (step mode place octet) ≡ left new (Some next)
    → option_map (λ more. new ++ more) (lex_from next (place + 1) rest) ≡ option_map (λ more. tokens ++ more) (lex_from mode place (octet ∷ rest))
goes_on tokens new mode next place octet rest = went (step mode place octet)
  where
    went : (found : Option Step) → stepped tokens found ≡ left new (Some next)
        → option_map (λ more. new ++ more) (lex_from next (place + 1) rest)
        ≡ option_map (λ more. tokens ++ more) (option_and_then (λ step. option_map (λ more. step.ended ++ more) (lex_from step.mode (place + 1) rest)) found)
    went None h = cc
    went (Some found) h =
        let both : (tokens ++ found.ended, found.mode) ≡ (new, next) = cc in
        let front : tokens ++ found.ended ≡ new = ap (λ (p : List Token × Mode). p.0) both in
        let same : found.mode ≡ next = ap (λ (p : List Token × Mode). p.1) both in
        let out = behind_both tokens found.ended (lex_from found.mode (place + 1) rest) in
        subst (λ (n : List Token). option_map (λ more. n ++ more) (lex_from next (place + 1) rest)
        ≡ option_map (λ more. tokens ++ more) (option_map (λ more. found.ended ++ more) (lex_from found.mode (place + 1) rest))) front
        (subst (λ (m : Mode). option_map (λ more. (tokens ++ found.ended) ++ more) (lex_from m (place + 1) rest)
        ≡ option_map (λ more. tokens ++ more) (option_map (λ more. found.ended ++ more) (lex_from found.mode (place + 1) rest))) same out)
