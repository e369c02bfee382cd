-- The octets have ended before the front.
use Rattle.std.proofs.Common.{sym, ◌∙◌, arith}
use Rattle.dn_names.proofs.is_key.StripLemmas.{strip_ended}
use Rattle.dn_names.proofs.is_key.after.Goals as goal

pub returns-then-is_empty : goal.returns-then-is_empty
returns-then-is_empty c = record {
  exact = strip_ended c.args.front.now c.loop-octet.octet-index c.loop-octet.rest.now _ (omega arith) (sym c.is_empty.ensures ∙ c.if-is_empty.true) c.loop-octet.invariant;
}
