-- The item is that of the question.
use Rattle.std.proofs.Common.{◌≡◌, List, ℕ, subst}
use Rattle.std.specs.Prelude.{string_bytes, IfOk}
use Rattle.explanation.proofs.texts.TextLemmas.{same_item}
use Rattle.explanation.proofs.texts.explain_text.Goals as goal

pub returns : goal.returns
returns g c = record {
  ok = subst (λ (whole : List ℕ). IfOk c.target_text.result (λ text. string_bytes text ≡ whole)) (same_item _ _ _ _ _ _ c.item-item.ensures.exact) c.target_text.ensures.ok;
}
