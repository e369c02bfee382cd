-- Point by point, and by whether a specific one was met.
use Rattle.std.proofs.Common.{◌≡◌, ◌++◌, ◌||◌, List, [], map, length, sym, ap, ◌∙◌}
use Rattle.std.specs.Prelude.{flat_map}
use Rattle.dir_tree.specs.declared.number.EntryNo.{EntryNo}
use Rattle.admin_scope.specs.Walking.{points_up}
use Rattle.admin_scope.specs.Finding.{numbers_by}
use Rattle.admin_scope.proofs.subentries.ListLemmas.{flat_map-step}
use Rattle.admin_scope.proofs.subentries.WalkLemmas.{any_specific, specific-found, specific-step, walk-none}
use Rattle.admin_scope.proofs.subentries.below_points.Goals as goal

pub loop-point-init : goal.loop-point-init
loop-point-init c =
    let rows = c.args.tree.now in
    let name = c.args.entry.now.name in
    let below = numbers_by rows c.args.entry.now c.args.subtrees.now in
    let all = c.into_iter-point-iterator.ensures.into_iter_gives ∙ c.walk_up-point-items.ensures.exact ∙ ap (λ name. points_up (length name) name rows) c.name.ensures.exact in (
      ap (λ (items : List EntryNo). map (λ no. no.0) items ++ flat_map below c.into_iter-point-iterator.result) c.new-found.ensures.items ∙ ap (flat_map below) all,
      ap (any_specific rows) all ∙ specific-found (length name) name rows,
    )

pub loop-point-preserved : goal.loop-point-preserved
loop-point-preserved c =
    let rows = c.args.tree.now in
    let below = numbers_by rows c.args.entry.now c.args.subtrees.now in (
      flat_map-step below _ _ _ _ _ _ c.in-Some.ensures.steps c.in_ok-list_below.ensures.ok c.loop-point.invariant.0,
      specific-step rows _ _ _ _ _ _ c.in-Some.ensures.steps c.if-is_governed.false c.is_specific-is_governed.ensures.exact c.loop-point.invariant.1,
    )

pub returns-else-is_governed-2 : goal.returns-else-is_governed-2
returns-else-is_governed-2 c =
    let rows = c.args.tree.now in
    let below = numbers_by rows c.args.entry.now c.args.subtrees.now in
    let none = walk-none c.args.entry.now.name rows _ _ c.in-None.ensures.steps.0 c.if-is_governed-2.false c.loop-point.invariant.1 in
    record { exact = ap (λ (items : List EntryNo). map (λ no. no.0) items) c.new.ensures.items ∙ ap (flat_map below) (sym none) }
