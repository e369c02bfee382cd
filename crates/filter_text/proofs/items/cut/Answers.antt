-- An asterisk comes, or none.
use Rattle.filter_text.proofs.items.PartLemmas.{parts_of-first, parts_of-none}
use Rattle.filter_text.proofs.items.cut.Goals as goal

pub returns-then-place-text-clause-exact : goal.returns-then-place-text-clause-exact
returns-then-place-text-clause-exact c =
    parts_of-first c.args.text.now c.position_of-place.result c.split_at.result.0.now c.split_at.result.1.now c.split_at-then-place-text.result.1.now
    c.position_of-place.ensures.exact c.if-place-text.true c.split_at.ensures.front c.split_at.ensures.back c.split_at-then-place-text.ensures.back

pub returns-else-place-text-clause-exact : goal.returns-else-place-text-clause-exact
returns-else-place-text-clause-exact c =
    parts_of-none c.args.text.now c.position_of-place.result c.position_of-place.ensures.exact c.if-place-text.false
