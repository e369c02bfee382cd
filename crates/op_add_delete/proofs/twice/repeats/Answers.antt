-- Fewer keys than values.
use Rattle.std.proofs.Common.{◌∙◌, sym, ap, not, length, ℕ}
use Rattle.std.specs.Prelude.{◌==◌}
use Rattle.dir_tree.specs.Entry.{is_match}
use Rattle.op_add_delete.proofs.twice.CountLemmas.{repeats-count, repeats-short}
use Rattle.op_add_delete.proofs.twice.repeats.Goals as goal

-- there are no two
pub returns-then-values-lt2 : goal.returns-then-values-lt2
returns-then-values-lt2 c = record { ok = sym (repeats-short is_match c.args.values.now c.if-values-lt2.true) }

pub returns : goal.returns
returns c = record { ok = ap (λ (n : ℕ). not (n == length c.args.values.now)) c.in_ok-count.ensures.ok ∙ sym (repeats-count c.args.values.now) }
