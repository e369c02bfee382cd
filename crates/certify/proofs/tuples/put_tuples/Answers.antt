-- One tuple more.
use Rattle.std.proofs.Common.{◌≡◌, ◌+◌, ◌∷◌, drop, map, arith}
use Rattle.std.proofs.lemmas.Grind.{common_steps}
use Rattle.certify.specs.Lines.{line_of}
use Rattle.certify.proofs.tuples.StepLemmas.{one_put}
use Rattle.certify.proofs.tuples.put_tuples.Goals as goal

pub loop-tuple-preserved : goal.loop-tuple-preserved
loop-tuple-preserved c =
    let index = c.loop-tuple.tuple-index in
    let rest = drop (index + 1) c.args.tuples.now in
    let next : drop index c.args.tuples.now ≡ c.tuple-item.result ∷ rest = grind (arith, common_steps) in
    one_put c.args.question.now c.args.seen c.args.tag.now c.tuple-item.result rest (drop index c.args.tuples.now) next
    (map line_of c.loop-tuple.lines.items) (map line_of c.put_tuple.new.lines.items) _ c.in_ok-put_tuple.ensures.ok c.loop-tuple.invariant
