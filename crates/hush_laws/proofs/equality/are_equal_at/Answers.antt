-- Both have an RDN at the place: these and what follows decide.
use Rattle.std.proofs.Common.{sym, add-one}
use Rattle.std.specs.Cmp.Lexicographic.{pointwise}
use Rattle.hush_laws.specs.Equality.{are_equal_pairs}
use Rattle.hush_laws.proofs.equality.PointwiseLemmas.{pointwise-at}
use Rattle.hush_laws.proofs.equality.are_equal_at.Goals as goal

pub returns : goal.returns
returns c = record {
  exact = rw (c.are_all_pairs.ensures.exact, add-one c.args.index)
      (pointwise-at (pointwise are_equal_pairs) c.args.one.now c.args.other.now c.args.index _ _ (sym c.in-Some.ensures.exact) (sym c.in-Some-rdn.ensures.exact));
}
