use Rattle.std.proofs.Common.{◌≡◌, take, drop, sym, ap, ◌∙◌}
use Rattle.ldap_msg.specs.declared.kinds.Frame.TheVariants.{Whole}
use Rattle.ldap_msg.specs.Streams.{frame_at}
use Rattle.fair_pieces.specs.Wide.{is_wide}
use Rattle.fair_pieces.proofs.cuts.FrontLemmas.{front_passes, front_ends, front_stops}
use Rattle.fair_pieces.proofs.cuts.front.Goals as goal

-- no whole message is left
pub returns-in_default : goal.returns-in_default
returns-in_default c = record {
  exact = front_stops c.args.octets.now c.messages.read c.messages.invariant.so_far
      (λ n e. c.in_default.not-Whole n (c.frame.ensures.exact ∙ ap frame_at c.split_at.ensures.back ∙ e));
  within = c.messages.invariant.within;
}

-- the message is wide
pub returns-then-is_wide-clause-exact : goal.returns-then-is_wide-clause-exact
returns-then-is_wide-clause-exact c =
    let rest = drop c.messages.read c.args.octets.now in
    let is : frame_at rest ≡ Whole c.in-Whole.count = ap frame_at (sym c.split_at.ensures.back) ∙ sym c.in-Whole.ensures.exact in
    let same : c.split_at-in-messages.result.0.now ≡ take c.in-Whole.count rest = c.split_at-in-messages.ensures.front ∙ ap (take c.in-Whole.count) c.split_at.ensures.back in
    front_ends c.args.octets.now c.messages.read c.in-Whole.count c.messages.invariant.so_far is
    (ap is_wide (sym same) ∙ sym c.is_wide.ensures ∙ c.if-is_wide.true)

-- the message is passed
pub messages-preserved : goal.messages-preserved
messages-preserved c =
    let rest = drop c.messages.read c.args.octets.now in
    let is : frame_at rest ≡ Whole c.in-Whole.count = ap frame_at (sym c.split_at.ensures.back) ∙ sym c.in-Whole.ensures.exact in
    let same : c.split_at-in-messages.result.0.now ≡ take c.in-Whole.count rest = c.split_at-in-messages.ensures.front ∙ ap (take c.in-Whole.count) c.split_at.ensures.back in
    let passes = front_passes c.args.octets.now c.messages.read c.in-Whole.count c.messages.invariant.within c.messages.invariant.so_far is
    (ap is_wide (sym same) ∙ sym c.is_wide.ensures ∙ c.if-is_wide.false) in
    record { within = passes.0; so_far = passes.1 }
