-- The word, and the permission's name behind it.
use Rattle.std.proofs.Common.{◌≡◌, ◌++◌, ◌∷◌, [], List, ℕ, codes, map, ap, subst, ◌∙◌}
use Rattle.std.specs.Prelude.{OnOk}
use Rattle.certify.specs.Lines.{line_of, whole}
use Rattle.certify.proofs.questions.put_permission.Goals as goal

pub returns : goal.returns
returns c = record {
  ok = subst (λ (text : List ℕ). OnOk c.put_whole.result (map line_of c.put_whole.new.lines.items ≡ map line_of c.args.lines.now.items ++ whole text ∷ []))
      (c.in_ok-text.ensures.ok ∙ ap (λ (name : List ℕ). codes "permission " ++ name) c.permission_name-name.ensures.exact) c.put_whole.ensures.ok;
}
