-- All octets are written.
use Rattle.std.proofs.Common.{◌++◌, ◌∙◌, ap, arith}
use Rattle.std.specs.List.{flat_map}
use Rattle.std.proofs.lemmas.List.{take_all}
use Rattle.line_text.specs.Escapes.{one_line_octet, one_line}
use Rattle.line_text.proofs.escapes.put_one_line.Goals as goal

pub returns-clause-ok : goal.returns-clause-ok
unfolding one_line
returns-clause-ok c =
    c.loop-octet.invariant.written
    ∙ ap (λ octets. c.args.out.now.items ++ flat_map one_line_octet octets) (take_all c.loop-octet.octet-index c.args.octets.now (omega arith))
