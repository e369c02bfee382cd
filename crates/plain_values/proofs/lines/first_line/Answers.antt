use Rattle.std.proofs.Common.{◌≡◌, ◌<◌, ◌==◌, ◌∙◌, sym, ap, arith, length, ◌∷◌}
use Rattle.std.proofs.lemmas.List.{drop_all}
use Rattle.std.specs.List.{position_or_len}
use Rattle.std.specs.Str.Lines.{lines}
use Rattle.plain_values.proofs.lines.LinesLemmas.{lines-first, lines-last}
use Rattle.plain_values.proofs.lines.first_line.Goals as goal

-- a line feed ends the first line
pub returns-then-end-text-clause-exact : goal.returns-then-end-text-clause-exact
returns-then-end-text-clause-exact c =
    let within : position_or_len (λ octet. octet == 10) c.args.text.now < length c.args.text.now = omega arith in
    let first = lines-first c.args.text.now within in
    cc (first, c.position_of-end.ensures.exact)

-- no line feed: the whole text is the one line
pub returns-else-end-text-clause-exact : goal.returns-else-end-text-clause-exact
returns-else-end-text-clause-exact c =
    let all : position_or_len (λ octet. octet == 10) c.args.text.now ≡ length c.args.text.now = omega arith in
    lines-last c.args.text.now c.requires all
    ∙ ap (λ rest. c.args.text.now ∷ lines rest) (sym (drop_all c.position_of-end.result c.args.text.now c.if-end-text.false))
