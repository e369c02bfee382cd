-- The first row of the name is that of the bit.
use Rattle.std.proofs.Common.{ap, sym, ◌∙◌}
use Rattle.std.specs.Prelude.{option_map}
use Rattle.std.specs.Option.{option_copied}
use Rattle.aci_item.specs.Rows.{row_of}
use Rattle.aci_item.proofs.bits.BitLemmas.{row_named}
use Rattle.aci_item.proofs.bits.bit_named.Goals as goal

pub returns-in-Some : goal.returns-in-Some
returns-in-Some c =
    record {
      exact = ap (option_map (λ row. (row_of row).1)) (sym (ap option_copied c.in-Some.is) ∙ c.row_named.ensures.exact)
          ∙ row_named c.rows.result.now c.args.text.now c.rows.ensures.exact;
    }

pub returns-in-None : goal.returns-in-None
returns-in-None c =
    record {
      exact = ap (option_map (λ row. (row_of row).1)) (sym (ap option_copied c.in-None.is) ∙ c.row_named.ensures.exact)
          ∙ row_named c.rows.result.now c.args.text.now c.rows.ensures.exact;
    }
