-- A set that is empty is left out.
use Rattle.std.proofs.Common.{ap, sym, ◌∙◌}
use Rattle.std.proofs.lemmas.List.{length-map}
use Rattle.std.specs.Prelude.{◌==◌, codes, map, string_bytes}
use Rattle.aci_item.specs.item.Views.{restricted_value_of}
use Rattle.aci_item.specs.ItemPrinted.{print_restricted_value}
use Rattle.aci_item.proofs.printing.PrintedLemmas.{put_nothing, put_filled}
use Rattle.aci_item.proofs.kind_printing.put_restricted_values.Goals as goal

pub returns-then-is_empty : goal.returns-then-is_empty
returns-then-is_empty c =
    let count = length-map (map restricted_value_of c.args.limits.now) print_restricted_value ∙ length-map c.args.limits.now restricted_value_of in
    record {
      ok = put_nothing (string_bytes c.args.out.now) c.args.first (codes "restrictedBy") (map print_restricted_value (map restricted_value_of c.args.limits.now)) c.is_empty.result
          (c.is_empty.ensures ∙ ap (λ n. n == 0) (sym count)) c.if-is_empty.true;
    }

pub returns : goal.returns
returns c =
    let count = length-map (map restricted_value_of c.args.limits.now) print_restricted_value ∙ length-map c.args.limits.now restricted_value_of in
    record {
      ok = put_filled (string_bytes c.args.out.now) (string_bytes c.put_name.new.out) (string_bytes c.put_restricted_value_set.new.out) c.args.first (codes "restrictedBy")
          (map print_restricted_value (map restricted_value_of c.args.limits.now)) c.is_empty.result (c.is_empty.ensures ∙ ap (λ n. n == 0) (sym count)) c.if-is_empty.false
          c.in_ok-put_name.ensures.ok c.in_ok-put_restricted_value_set.ensures.ok;
    }
