-- By whether octets are left from the first mark on.
use Rattle.std.proofs.Common.{sym, ◌∙◌}
use Rattle.dn_names.specs.Reading.{parts_of}
use Rattle.dn_names.proofs.parts.PartsLemmas.{cut_last, cut_more}
use Rattle.dn_names.proofs.parts.cut.Goals as goal

pub returns-then-is_empty-clause-exact : goal.returns-then-is_empty-clause-exact
unfolding parts_of
returns-then-is_empty-clause-exact c =
    rw (c.split_at.ensures.front, c.mark_place.ensures.exact)
    (cut_last c.args.mark c.args.text.now c.split_at.result.1.now (rw (← c.mark_place.ensures.exact) c.split_at.ensures.back) (sym c.is_empty.ensures ∙ c.if-is_empty.true))

pub returns-else-is_empty-clause-exact : goal.returns-else-is_empty-clause-exact
unfolding parts_of
returns-else-is_empty-clause-exact c =
    rw (c.split_at.ensures.front, c.split_at-else-is_empty.ensures.back, c.mark_place.ensures.exact)
    (cut_more c.args.mark c.args.text.now c.split_at.result.1.now (rw (← c.mark_place.ensures.exact) c.split_at.ensures.back) (sym c.is_empty.ensures ∙ c.if-is_empty.false))
