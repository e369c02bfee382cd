-- A value of each of these rules is text.
use Rattle.match_rules.proofs.keys.SyntaxesLemmas.{IsUtf8-value}
use Rattle.match_rules.proofs.keys.prepare_value.Goals as goal

pub prepare_text-requires-in-Ascii : goal.prepare_text-requires-in-Ascii
prepare_text-requires-in-Ascii c = IsUtf8-value c.args.rule c.args.octets.now c.requires (λ is. cc)

pub prepare_phone-requires : goal.prepare_phone-requires
prepare_phone-requires c = IsUtf8-value c.args.rule c.args.octets.now c.requires (λ is. cc)

pub prepare_text-requires-in-Country : goal.prepare_text-requires-in-Country
prepare_text-requires-in-Country c = IsUtf8-value c.args.rule c.args.octets.now c.requires (λ is. cc)
