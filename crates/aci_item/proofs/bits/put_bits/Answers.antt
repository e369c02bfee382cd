-- One more row is written where its bit is there, and then the end of the set.
use Rattle.std.proofs.Common.{false, get_or, true, []}
use Rattle.std.proofs.lemmas.List.{get_or_default}
use Rattle.std.specs.Prelude.{string_bytes}
use Rattle.gser_tree.specs.Writing.{print_word}
use Rattle.aci_item.specs.declared.bits.Row.{Row}
use Rattle.aci_item.specs.declared.permission.Permission.TheVariants.{Add}
use Rattle.aci_item.specs.Permission.{has_bit}
use Rattle.aci_item.proofs.printing.PrintedLemmas.{put_rows, put_tested}
use Rattle.aci_item.proofs.bits.put_bits.Goals as goal

pub loop-row-preserved : goal.loop-row-preserved
loop-row-preserved c =
    let rows = c.rows-row-items.result.now in
    let index = c.loop-row.row-index in
    let default : Row = record { name = record { ref_ptr = (0, 0); now = [] }; permission = Add; grants = false } in
    let row : Row = get_or rows index default in
    put_tested (λ (row : Row). has_bit row.permission row.grants c.args.bits.now) (λ (row : Row). print_word row.name.now) (string_bytes c.args.out.now)
    (string_bytes c.loop-row.out) (string_bytes c.put_word.new.out) true c.loop-row.first c.in_ok-first.first rows index row c.has.result c.loop-row-test.true
    (get_or_default rows index default row c.loop-row-test.true) c.has.ensures.exact c.loop-row.invariant c.in_ok-first.ensures.ok

pub returns : goal.returns
returns c = record {
  ok = put_rows (string_bytes c.args.out.now) (string_bytes c.loop-row.out) (string_bytes c.put_end.new.out) c.loop-row.first c.rows-row-items.result.now
      c.loop-row.row-index c.args.bits.now c.loop-row-test.false c.rows-row-items.ensures.exact c.stand_in_order.ensures.ordered c.loop-row.invariant
      c.in_ok-put_end.ensures.ok;
}
