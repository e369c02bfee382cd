-- Nobody asks on a connection that is closing.
use Rattle.std.proofs.Common.{sym, ◌∙◌}
use Rattle.hush_looks.proofs.looks.LookLemmas.{asks_closing, asks_open}
use Rattle.hush_looks.proofs.looks.asking.Goals as goal

pub returns-then-closing : goal.returns-then-closing
returns-then-closing c = record { exact = asks_closing c.args.number c.args.hub.now.kept (sym c.closing.ensures.exact ∙ c.if-closing.true) }

pub returns-else-closing : goal.returns-else-closing
returns-else-closing c =
    record { exact = c.requester.ensures.exact ∙ asks_open c.args.number c.args.hub.now.kept (sym c.closing.ensures.exact ∙ c.if-closing.false) }
