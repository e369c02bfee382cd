-- A part of each of these rules is text.
use Rattle.match_rules.proofs.keys.SyntaxesLemmas.{IsUtf8-part}
use Rattle.match_rules.proofs.parts.prepare_piece.Goals as goal

pub prepare_part_text-requires-in-Ascii : goal.prepare_part_text-requires-in-Ascii
prepare_part_text-requires-in-Ascii c = IsUtf8-part c.args.rule c.args.octets.now c.requires (λ is. cc)

pub prepare_part_phone-requires : goal.prepare_part_phone-requires
prepare_part_phone-requires c = IsUtf8-part c.args.rule c.args.octets.now c.requires (λ is. cc)

pub prepare_part_text-requires-in-Country : goal.prepare_part_text-requires-in-Country
prepare_part_text-requires-in-Country c = IsUtf8-part c.args.rule c.args.octets.now c.requires (λ is. cc)
