use Rattle.std.proofs.Common.{◌≡◌, ◌∙◌, ap, sym, Ok}
use Rattle.client_core.specs.Steps.{IsStep}
use Rattle.client_core.proofs.asking.AskLemmas.{joined-step, joined-end, few-step}
use Rattle.client_core.proofs.asking.OwnLemmas.{sendable-put}
use Rattle.client_core.proofs.asking.read_asks.Goals as goal

-- a request more was read
pub loop-asks-preserved : goal.loop-asks-preserved
loop-asks-preserved c =
    let step : IsStep c.args.text.now c.loop-asks.at c.loop-asks.asks.items c.in-Some.next c.ask_next.new.asks.items = rw c.in-Some.is at c.in_ok-next.ensures.more in
    record {
      whole = c.loop-asks.invariant.whole ∙ joined-step _ _ _ _ _ step;
      sendable = sendable-put _ _ _ step.put c.loop-asks.invariant.sendable;
      few = few-step _ _ _ _ _ step c.loop-asks.invariant.few;
      place = step.next.place;
    }

-- no record is left
pub returns-clause-exact : goal.returns-clause-exact
returns-clause-exact c =
    let none = rw c.in_default.is at c.in_ok-next.ensures.end in
    let kept : c.ask_next.new.asks.items ≡ c.loop-asks.asks.items = rw c.in_default.is at c.in_ok-next.ensures.kept in
    c.loop-asks.invariant.whole ∙ joined-end _ _ _ none ∙ ap Ok (sym kept)
