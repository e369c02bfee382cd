-- The type and what limits it, in braces.
use Rattle.std.specs.Prelude.{codes, string_bytes}
use Rattle.aci_item.specs.ItemPrinted.{print_kind}
use Rattle.aci_item.proofs.printing.PrintedLemmas.{put_braced_pair}
use Rattle.aci_item.proofs.kind_printing.put_restricted_value.Goals as goal

pub returns : goal.returns
returns c = record {
  ok = put_braced_pair (string_bytes c.args.out.now) (string_bytes c.put_name.new.out) (string_bytes c.put_attribute.new.out) (string_bytes c.put_name-2.new.out)
      (string_bytes c.put_attribute-2.new.out) (string_bytes c.put_end.new.out) (codes "type") (codes "valuesIn") (print_kind c.args.limit.kind.0) (print_kind c.args.limit.values_in.0)
      c.in_ok-put_name.ensures.ok c.in_ok-put_attribute.ensures.ok c.in_ok-put_name-2.ensures.ok c.in_ok-put_attribute-2.ensures.ok c.in_ok-put_end.ensures.ok;
}
