-- A value with the scheme is a digest, and any other one the password itself.
use Rattle.std.proofs.Common.{◌≡◌, List, ℕ, ◌++◌, Some, None, sym, ap, ◌∙◌}
use Rattle.std.proofs.lemmas.Bool.Decides.{Decides-eqb}
use Rattle.std.proofs.lemmas.Slice.Eq.{strip_prefix_is}
use Rattle.op_bind.specs.Passwords.{scheme, accepts}
use Rattle.op_bind.proofs.passwords.PasswordLemmas.{accepts-digest, accepts-other}
use Rattle.op_bind.proofs.passwords.accepts.Goals as goal

pub returns-in-Some : goal.returns-in-Some
returns-in-Some c = record {
  exact =
      let value : c.args.value.now ≡ scheme ++ c.in-Some.text.now = strip_prefix_is Decides-eqb c.args.value.now scheme (Some c.in-Some.text) c.in-Some.ensures.cases in
      c.is_digest_text.ensures.exact
      ∙ sym (accepts-digest c.in-Some.text.now c.args.password.now)
      ∙ ap (λ (octets : List ℕ). accepts octets c.args.password.now) (sym value);
}

pub returns-in-None : goal.returns-in-None
returns-in-None c = record {
  exact =
      c.is_in_clear.ensures.exact
      ∙ sym (accepts-other c.args.value.now c.args.password.now (strip_prefix_is Decides-eqb c.args.value.now scheme None c.in-None.ensures.cases));
}
