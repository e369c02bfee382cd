-- The front is as long as the path key without what is left of it.
use Rattle.std.proofs.Common.{ℕ, take, ap, ◌∙◌}
use Rattle.dn_names.proofs.path.PathLemmas.{path_key-front}
use Rattle.dn_names.proofs.path.path_front.Goals as goal

pub returns : goal.returns
returns c = record {
  exact = λ name whole few.
      c.front.ensures.exact
      ∙ ap (λ (size : ℕ). take size c.args.path.now) c.saturating_sub.ensures
      ∙ path_key-front c.args.count name c.args.path.now c.after_rdns.result.now whole (c.after_rdns.ensures.exact name whole few);
}
