-- By what the octet is: within an escape, a bare space, or the end of a piece.
use Rattle.std.proofs.Common.{◌∷◌, [], arith, length-append}
use Rattle.dn_names.proofs.octets.OctetsLemmas.{next-within, next-space, next-octet}
use Rattle.dn_names.proofs.octets.read_octets.Goals as goal
use Rattle.dn_names.proofs.octets.read_octets.Goals.{in-Within, in-BareSpace+in_ok-push-in-BareSpace, in-Octet+in_ok-push-in-Octet}

pub loop-octet-preserved : goal.loop-octet-preserved
loop-octet-preserved c =
    let l = c.loop-octet in
    let text = c.skip_spaces-text.result.now in
    elim c.match-read_piece.branch [
      | in-Within w ↦ record {
        within = rw (w.kept-is, w.octets-is) l.invariant.within;
        exact = rw (w.kept-is, w.octets-is, w.reading-is)
            (next-within l.kept l.octets.items text _ l.reading l.octet-index c.read_piece.result (omega arith) c.read_piece.ensures.exact l.invariant.exact w.in-Within.escape w.in-Within.is);
      }
      | in-BareSpace+in_ok-push-in-BareSpace w ↦ record {
        within = rw (w.kept-is, w.octets-is, w.in_ok-push-in-BareSpace.ensures.items) (omega (arith, l.invariant.within, length-append l.octets.items (32 ∷ [])));
        exact = rw (w.kept-is, w.octets-is, w.reading-is)
            (next-space l.kept l.octets.items text _ l.reading l.octet-index c.read_piece.result (omega arith) c.read_piece.ensures.exact l.invariant.exact l.invariant.within w.in-BareSpace.is w.push.new.self.items w.in_ok-push-in-BareSpace.ensures.items);
      }
      | in-Octet+in_ok-push-in-Octet w ↦ record {
        within = rw (w.kept-is, w.octets-is) (omega (arith, w.len-kept.ensures));
        exact = rw (w.kept-is, w.octets-is, w.reading-is)
            (next-octet l.kept l.octets.items text _ l.reading l.octet-index c.read_piece.result (omega arith) c.read_piece.ensures.exact l.invariant.exact w.in-Octet.octet w.len-kept.result w.push-in-Octet.new.self.items w.in-Octet.is w.in_ok-push-in-Octet.ensures.items (omega (arith, w.len-kept.ensures)));
      }
    ]
