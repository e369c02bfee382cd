-- All octets are written.
use Rattle.std.proofs.Common.{◌++◌, ◌∙◌, ap, arith}
use Rattle.std.specs.List.{flat_map}
use Rattle.std.proofs.lemmas.List.{take_all}
use Rattle.line_text.specs.Escapes.{escaped_octet, escaped}
use Rattle.line_text.proofs.escapes.put_escaped.Goals as goal

pub returns-clause-ok : goal.returns-clause-ok
unfolding escaped
returns-clause-ok c =
    c.loop-octet.invariant.written
    ∙ ap (λ octets. c.args.out.now.items ++ flat_map escaped_octet octets) (take_all c.loop-octet.octet-index c.args.octets.now (omega arith))
