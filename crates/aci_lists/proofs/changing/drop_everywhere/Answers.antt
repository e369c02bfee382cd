-- The number is dropped from the lists at the index, and the others stay.
use Rattle.std.proofs.Common.{◌≡◌, ◌<◌, length, sym, ap, ◌∙◌, arith}
use Rattle.aci_lists.specs.declared.kept.Kept.{Kept}
use Rattle.aci_lists.specs.kept.Lists.{lists_of}
use Rattle.aci_lists.specs.kept.Holdings.{without_number}
use Rattle.aci_lists.proofs.changing.DropLemmas.{drop_step, others_step}
use Rattle.aci_lists.proofs.changing.drop_everywhere.Goals as goal

pub loop-index-preserved : goal.loop-index-preserved
loop-index-preserved c =
    let at = c.loop-index.index in
    let begun = c.args.kept.now in
    let kept = c.loop-index.kept in
    let before = c.loop-index.invariant in
    let within : at < length kept = omega arith in
    let made : lists_of c.drop_in_force.new.kept ≡ without_number c.args.number.0 (lists_of c.index-kept-index.result) =
    c.drop_in_force.ensures ∙ ap (λ (one : Kept). without_number c.args.number.0 (lists_of one)) (sym c.index-kept-index.is) in
    record {
      dropped = drop_step c.args.number.0 at begun kept c.index-kept-index.result c.drop_in_force.new.kept within c.index-kept-index.is made before.dropped before.others;
      others = others_step at begun kept c.drop_in_force.new.kept before.others;
    }
