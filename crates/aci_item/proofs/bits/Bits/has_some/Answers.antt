-- Some permission is granted, or denied, where one of all is.
use Rattle.std.proofs.Common.{ap, sym, ◌∙◌}
use Rattle.std.specs.List.{list_any}
use Rattle.aci_item.specs.Permission.{has_bit, permissions}
use Rattle.aci_item.proofs.bits.BitLemmas.{some_filtered}
use Rattle.aci_item.proofs.bits.Bits.has_some.Goals as goal

pub returns : goal.returns
returns c =
    record {
      exact = c.has_any.ensures.exact
          ∙ ap (list_any (λ permission. has_bit permission c.args.grants c.args.self.now)) c.all.ensures.exact
          ∙ sym (some_filtered (λ permission. has_bit permission c.args.grants c.args.self.now) permissions);
    }
