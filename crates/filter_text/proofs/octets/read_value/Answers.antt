-- By what the octet is: within an escape, or the end of a piece.
use Rattle.std.proofs.Common.{arith}
use Rattle.filter_text.proofs.octets.ValueLemmas.{next-within, next-octet}
use Rattle.filter_text.proofs.octets.read_value.Goals as goal
use Rattle.filter_text.proofs.octets.read_value.Goals.{in-Within, in-Octet+in_ok-push-in-Octet}

pub loop-octet-preserved : goal.loop-octet-preserved
loop-octet-preserved c =
    let l = c.loop-octet in
    let text = c.args.text.now in
    elim c.match-read_piece.branch [
      | in-Within w ↦ rw (w.octets-is, w.reading-is)
          (next-within l.octets.items text _ l.reading l.octet-index c.read_piece.result (omega arith) c.read_piece.ensures.exact l.invariant w.in-Within.escape w.in-Within.is)
      | in-Octet+in_ok-push-in-Octet w ↦ rw (w.octets-is, w.reading-is)
          (next-octet l.octets.items text _ l.reading l.octet-index c.read_piece.result (omega arith) c.read_piece.ensures.exact l.invariant w.in-Octet.octet w.push.new.self.items w.in-Octet.is w.in_ok-push-in-Octet.ensures.items)
    ]
