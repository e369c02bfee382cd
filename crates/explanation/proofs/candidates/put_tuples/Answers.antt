-- One tuple more.
use Rattle.std.proofs.Common.{◌≡◌, ◌+◌, ◌∷◌, drop, arith}
use Rattle.std.proofs.lemmas.Grind.{common_steps}
use Rattle.explanation.specs.Explained.{name_at}
use Rattle.explanation.specs.Candidates.{described_all}
use Rattle.explanation.proofs.candidates.CandidateLemmas.{one_more}
use Rattle.explanation.proofs.candidates.put_tuples.Goals as goal

pub loop-tuple-preserved : goal.loop-tuple-preserved
loop-tuple-preserved c =
    let question = c.args.question.now in
    let index = c.loop-tuple.tuple-index in
    let rest = drop (index + 1) c.args.tuples.now in
    let next : drop index c.args.tuples.now ≡ c.tuple-item.result ∷ rest = grind (arith, common_steps) in
    one_more question (name_at question.tree.now c.args.source.0) c.args.tag.now c.tuple-item.result rest (drop index c.args.tuples.now) next
    (described_all question.tree.now c.loop-tuple.out.items) (described_all question.tree.now c.put_tuple.new.out.items) _ c.in_ok-put_tuple.ensures.ok c.loop-tuple.invariant
