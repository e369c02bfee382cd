-- A permission of the tuple is one that its bits have.
use Rattle.std.proofs.Common.{sym, ◌∙◌}
use Rattle.aci_item.proofs.bits.BitLemmas.{has_permission}
use Rattle.aci_item.proofs.splitting.AciTuple.has.Goals as goal

pub returns : goal.returns
returns c =
    record { exact = c.has.ensures.exact ∙ sym (has_permission c.args.permission c.args.self.now.grants c.args.self.now.bits) }
