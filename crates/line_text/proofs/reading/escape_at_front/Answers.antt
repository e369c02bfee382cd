-- The two octets behind the backslash are digits of an escape, or they aren't, or there are fewer.
use Rattle.std.proofs.Common.{◌∙◌, sym, ap, arith}
use Rattle.line_text.specs.Escapes.{octet_of}
use Rattle.line_text.proofs.reading.ReadingLemmas.{read_back-cut, read_back-short, read_back-refused}
use Rattle.line_text.proofs.reading.escape_at_front.Goals as goal

pub returns-then-text-lt2-clause-none : goal.returns-then-text-lt2-clause-none
returns-then-text-lt2-clause-none c = read_back-short c.args.text.now (omega arith)

pub returns-in-Some-clause-found : goal.returns-in-Some-clause-found
returns-in-Some-clause-found c =
    read_back-cut c.args.text.now c.split_at.result.0.now c.split_at.result.1.now _ (omega arith) c.split_at.ensures.front c.split_at.ensures.back (sym c.octet_of.ensures ∙ c.in-Some.is)

pub returns-in-None-clause-none : goal.returns-in-None-clause-none
returns-in-None-clause-none c =
    read_back-refused c.args.text.now (ap octet_of (sym c.split_at.ensures.front) ∙ sym c.octet_of.ensures ∙ c.in-None.is)
