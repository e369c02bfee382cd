-- Nothing is written where there is no entry.
use Rattle.std.proofs.Common.{◌++◌, List, ℕ, sym, ap, ◌∙◌}
use Rattle.std.specs.Prelude.{string_bytes}
use Rattle.std.proofs.lemmas.List.{append-nil}
use Rattle.explanation.proofs.texts.TextLemmas.{print_name-none}
use Rattle.explanation.proofs.lines.put_name_at.Goals as goal

pub returns-in-None : goal.returns-in-None
returns-in-None c = record {
  ok = sym (append-nil (string_bytes c.args.out.now))
      ∙ ap (λ (t : List ℕ). string_bytes c.args.out.now ++ t) (sym (print_name-none c.args.tree.now c.args.number.0 (sym c.in-None.ensures.exact)));
}
