-- All numbers in use are below the bound.
use Rattle.std.proofs.Common.{◌≡◌, ℕ, ◌<◌, length, subst, arith}
use Rattle.std.specs.List.{AllByRecursion}
use Rattle.aci_lists.proofs.making.MakingLemmas.{kept-all}
use Rattle.aci_lists.proofs.making.make_all.Goals as goal

pub returns : goal.returns
returns c =
    let rows = c.args.tree.now in
    let kept = c.loop-index.kept.items in
    let same : c.bound-index-end.result ≡ length kept = omega arith in
    record {
      ok = kept-all kept rows (subst (λ (n : ℕ). AllByRecursion (λ row. row.id < n) rows) same c.bound-index-end.ensures.exact) c.loop-index.invariant.below;
    }
