use Rattle.std.proofs.Common.{codes, sym, ap, ◌∙◌}
use Rattle.clap.specs.Matches.{found_of}
use Rattle.clap.specs.Walk.{all_of, rows_of}
use Rattle.clap.proofs.WalkLemmas.{raw_values-rows}
use Rattle.command_words.specs.parser.Parser.{kept_in}
use Rattle.command_words.proofs.parser.kept.Goals as goal

pub returns-in-Operands : goal.returns-in-Operands
returns-in-Operands c =
    c.get_raw.ensures ∙ raw_values-rows (found_of c.args.matches.now) (codes "operands") ∙ ap (kept_in c.args.matches.now) (sym c.in-Operands.is)

pub returns-in-Arguments : goal.returns-in-Arguments
returns-in-Arguments c =
    c.get_raw-in-Arguments.ensures ∙ raw_values-rows (found_of c.args.matches.now) c.word.result.now
    ∙ ap (λ id. all_of id (rows_of (found_of c.args.matches.now))) c.word.ensures ∙ ap (kept_in c.args.matches.now) (sym c.in-Arguments.is)
