-- Nothing is left.
use Rattle.std.proofs.Common.{◌∙◌, sym}
use Rattle.line_text.proofs.reading.ReadingLemmas.{read_back-end}
use Rattle.line_text.proofs.reading.read_back.Goals as goal

pub returns : goal.returns
returns c = let empty = rw c.in_default.is at c.split_first.ensures.cases in
    record { exact = sym (read_back-end c.octets.octets.items c.octets.rest.now empty) ∙ sym c.octets.invariant }
