-- A value of the syntax has a key, and the want of memory is no fault of it.
use Rattle.std.proofs.Common.{◌∙◌, ap, sym, Some, refl}
use Rattle.std.proofs.lemmas.Bool.{iff_false}
use Rattle.std.proofs.lemmas.Result.{err_from_is_err_and}
use Rattle.match_rules.proofs.keys.KeysLemmas.{key_of-value, key_of-other}
use Rattle.match_rules.proofs.keys.prepare.Goals as goal

-- not of the syntax: no key
pub returns-then-not-is_of-clause-not_of_syntax : goal.returns-then-not-is_of-clause-not_of_syntax
returns-then-not-is_of-clause-not_of_syntax c =
    (λ _. key_of-other c.args.rule c.args.octets.now (iff_false c.is_of.ensures c.if-not-is_of.true), λ _. refl)

-- no memory: there is a key
pub returns-in_err-prepare_value-clause-not_of_syntax : goal.returns-in_err-prepare_value-clause-not_of_syntax
returns-in_err-prepare_value-clause-not_of_syntax c =
    let key = key_of-value c.args.rule c.args.octets.now (c.is_of.ensures.0 c.if-not-is_of.false) in
    let fault = err_from_is_err_and c.from_residual.result c.from_residual.ensures.1 in
    (λ is. absurd (cc (fault.1, fault.2)), λ none. absurd (cc key))

-- and here it is
pub returns-clause-ok : goal.returns-clause-ok
returns-clause-ok c =
    key_of-value c.args.rule c.args.octets.now (c.is_of.ensures.0 c.if-not-is_of.false) ∙ ap Some (sym c.in_ok-prepare_value.ensures)

pub returns-clause-not_of_syntax : goal.returns-clause-not_of_syntax
returns-clause-not_of_syntax c =
    let key = key_of-value c.args.rule c.args.octets.now (c.is_of.ensures.0 c.if-not-is_of.false) in
    (λ is. absurd (cc is), λ none. absurd (cc key))
