-- A message's number, its operation and what follows.
use Rattle.std.proofs.Common.{◌≡◌, ◌==◌, true, false, Some, None, ap, ◌∙◌, arith, rules}
use Rattle.std.proofs.lemmas.Bool.Decides.{nat_tests}
use Rattle.session_model.specs.ldap_msg.Binds.{bind_of}
use Rattle.session_model.specs.ldap_msg.reading.Messages.{message_in}
use Rattle.session_model.specs.ber_layout.Layouts.{reads_into}
use Rattle.session_model.specs.ber_layout.components.Components.{required_of, any_of}
use Rattle.session_hub.specs.SimpleBinds.{credentials_of, simple_in, says_no_controls}
use Rattle.session_hub.proofs.simple.ControlLemmas.{message_before, other_controls}
use Rattle.session_hub.proofs.simple.BindLemmas.{numbered, none_before, simple_before, message_simple}
use Rattle.session_hub.proofs.simple.bind_in.Goals as goal

pub returns-in_err-first-clause-exact : goal.returns-in_err-first-clause-exact
unfolding message_in reads_into required_of
returns-in_err-first-clause-exact c = search rules

pub returns-in_err-id-clause-exact : goal.returns-in_err-id-clause-exact
unfolding message_in reads_into required_of
returns-in_err-id-clause-exact c = search rules

pub returns-in_err-operation-clause-exact : goal.returns-in_err-operation-clause-exact
unfolding message_in reads_into required_of any_of
returns-in_err-operation-clause-exact c = search rules

-- it is another request
pub returns-then-operation-tag-clause-exact : goal.returns-then-operation-tag-clause-exact
unfolding message_in reads_into required_of any_of
returns-then-operation-tag-clause-exact c =
    let id = c.in_ok-id.id in
    let operation = c.in_ok-operation.operation in
    let before : message_in c.args.content.now ≡ message_before id (operation.tag, operation.content.now) operation.rest.now = search rules in
    let other : operation.tag == 0x60 ≡ false = grind (arith, nat_tests, c.if-operation-tag.true, c.tag.ensures.exact) in
    ap simple_in before ∙ none_before id operation.tag operation.content.now operation.rest.now other

-- controls follow it, or what is none
pub returns-then-not-has_no_controls-clause-exact : goal.returns-then-not-has_no_controls-clause-exact
unfolding message_in reads_into required_of any_of
returns-then-not-has_no_controls-clause-exact c =
    let id = c.in_ok-id.id in
    let operation = c.in_ok-operation.operation in
    let before : message_in c.args.content.now ≡ message_before id (operation.tag, operation.content.now) operation.rest.now = search rules in
    let others : says_no_controls operation.rest.now ≡ false = search rules in
    ap simple_in before ∙ other_controls id (operation.tag, operation.content.now) operation.rest.now others

-- it is a bind, with the credentials of one or not
pub returns-in_err-name-clause-exact : goal.returns-in_err-name-clause-exact
unfolding message_in reads_into required_of any_of
returns-in_err-name-clause-exact c =
    let id = c.in_ok-id.id in
    let operation = c.in_ok-operation.operation in
    let before : message_in c.args.content.now ≡ message_before id (operation.tag, operation.content.now) operation.rest.now = search rules in
    let none : says_no_controls operation.rest.now ≡ true = search rules in
    let bind : operation.tag ≡ 0x60 = grind (arith, nat_tests, c.if-operation-tag.false, c.tag.ensures.exact) in
    let credentials : credentials_of (bind_of operation.content.now) ≡ None = search rules in
    let found : simple_in (message_in c.args.content.now) ≡ None =
    ap simple_in before ∙ simple_before id operation.tag operation.content.now operation.rest.now bind none ∙ ap (numbered id) credentials in
    search rules

pub returns-clause-exact : goal.returns-clause-exact
unfolding message_in reads_into required_of any_of
returns-clause-exact c =
    let id = c.in_ok-id.id in
    let operation = c.in_ok-operation.operation in
    let before : message_in c.args.content.now ≡ message_before id (operation.tag, operation.content.now) operation.rest.now = search rules in
    let none : says_no_controls operation.rest.now ≡ true = search rules in
    let bind : operation.tag ≡ 0x60 = grind (arith, nat_tests, c.if-operation-tag.false, c.tag.ensures.exact) in
    let credentials : credentials_of (bind_of operation.content.now) ≡ Some (c.in_ok-name.field-0.name.now, c.in_ok-name.field-0.password.now) = search rules in
    ap simple_in before ∙ simple_before id operation.tag operation.content.now operation.rest.now bind none ∙ ap (numbered id) credentials

-- a message with these parts is the bind's
pub returns-clause-message : goal.returns-clause-message
returns-clause-message c = message_simple (message_in c.args.content.now) c.in_ok-id.id c.in_ok-name.field-0.name.now c.in_ok-name.field-0.password.now (returns-clause-exact c)
