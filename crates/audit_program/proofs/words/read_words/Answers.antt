-- The four words are all.
use Rattle.std.proofs.Common.{◌≡◌, string_bytes, Some, IfOk, option_map, subst}
use Rattle.audit_program.specs.Words.{AuditView, IsAsked, view}
use Rattle.audit_program.proofs.words.WordLemmas.{four_texts}
use Rattle.audit_program.proofs.words.read_words.Goals as goal

pub returns-in-len4-clause-only : goal.returns-in-len4-clause-only
returns-in-len4-clause-only c =
    let four = four_texts string_bytes c.args.words.now c.data-item.result c.script-item.result c.number-item.result c.name-item.result _ _ _ _
    c.in-len4.len_at_least c.in-len4.len_below c.data-item.is c.script-item.is c.number-item.is c.name-item.is
    c.as_str.ensures.value c.as_str-in-len4.ensures.value c.as_str-in-len4-2.ensures.value c.as_str-in-len4-3.ensures.value in
    subst (λ all. IfOk c.read_four.result (λ read. (asked : AuditView) → IsAsked all asked → option_map view read ≡ Some asked)) four c.read_four.ensures.only
