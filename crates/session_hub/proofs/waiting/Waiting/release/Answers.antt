use Rattle.std.proofs.Common.{◌==◌, nat_eq, not, rules, subst, sym}
use Rattle.std.specs.List.{IsDistinct}
use Rattle.std.proofs.lemmas.Fn.{filter_same}
use Rattle.session_hub.proofs.waiting.WaitLemmas.{puts_out, distinct_filter}
use Rattle.session_hub.proofs.waiting.Waiting.release.Goals as goal

pub returns-clause-released : goal.returns-clause-released
returns-clause-released c = puts_out c.args.conn _ _ (filter_same _ (λ d. not (c.args.conn == d)) _ (λ other passes after call. search rules) _ _ c.retain.ensures.filtered)

-- and the others are apart still
pub invariant_of-self-clause-once : goal.invariant_of-self-clause-once
invariant_of-self-clause-once c =
    subst (IsDistinct nat_eq) (sym (filter_same _ (λ d. not (c.args.conn == d)) _ (λ other passes after call. search rules) _ _ c.retain.ensures.filtered))
    (distinct_filter (λ d. not (c.args.conn == d)) c.args.self.now.on_hold.items c.args.self.now.once)
