-- One part more has its key, or has none.
use Rattle.std.proofs.Common.{ℕ, List, Some, ap, sym, ◌∙◌, take_all}
use Rattle.std.proofs.lemmas.Result.{err_from_is_err_and}
use Rattle.dir_tree.specs.match_rules.declared.parts.Part.TheVariants.{Middle}
use Rattle.dir_tree.specs.match_rules.Parts.{part_key_of}
use Rattle.filter_match.specs.Tests.{middle_keys}
use Rattle.filter_match.proofs.preparing.PreparingLemmas.{middle_keys-more, middle_keys-stop, fails_so}
use Rattle.filter_match.proofs.preparing.middle.Goals as goal

pub returns-in_err-key : goal.returns-in_err-key
returns-in_err-key c =
    let p = err_from_is_err_and c.from_residual-in_err-key.result c.from_residual-in_err-key.ensures.1 in
    let rule = c.args.rule in
    let part = c.part-item.result in
    rw (p.1, p.2) (fails_so c.in_err-key.field-0.0 (part_key_of rule Middle c.as_slice.result.now) (middle_keys rule c.args.parts.now)
    (λ stops. middle_keys-stop rule c.args.parts.now c.loop-part.part-index part _ c.loop-part-test.true c.part-item.is c.loop-part.invariant
    (ap (part_key_of rule Middle) (sym c.as_slice.ensures.exact) ∙ stops)) c.in_err-key.ensures)

pub loop-part-preserved : goal.loop-part-preserved
loop-part-preserved c =
    let rule = c.args.rule in
    let part = c.part-item.result in
    middle_keys-more rule c.args.parts.now c.loop-part.part-index part c.in_ok-key.key.items _ c.loop-part-test.true c.part-item.is c.loop-part.invariant
    (ap (part_key_of rule Middle) (sym c.as_slice.ensures.exact) ∙ c.in_ok-key.ensures)
    ∙ ap (λ (keys : List (List ℕ)). Some keys) (sym c.in_ok-put_key.ensures)

pub returns : goal.returns
returns c =
    ap (middle_keys c.args.rule) (sym (take_all c.loop-part.part-index c.args.parts.now c.loop-part-test.false)) ∙ c.loop-part.invariant
