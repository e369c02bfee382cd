-- A set that is empty is left out.
use Rattle.std.proofs.Common.{ap, sym, ◌∙◌}
use Rattle.std.proofs.lemmas.List.{length-map}
use Rattle.std.specs.Prelude.{◌==◌, codes, map, string_bytes}
use Rattle.aci_item.specs.item.Views.{max_value_count_of}
use Rattle.aci_item.specs.ItemPrinted.{print_max_value_count}
use Rattle.aci_item.proofs.printing.PrintedLemmas.{put_nothing, put_filled}
use Rattle.aci_item.proofs.kind_printing.put_max_value_counts.Goals as goal

pub returns-then-is_empty : goal.returns-then-is_empty
returns-then-is_empty c =
    let count = length-map (map max_value_count_of c.args.limits.now) print_max_value_count ∙ length-map c.args.limits.now max_value_count_of in
    record {
      ok = put_nothing (string_bytes c.args.out.now) c.args.first (codes "maxValueCount") (map print_max_value_count (map max_value_count_of c.args.limits.now)) c.is_empty.result
          (c.is_empty.ensures ∙ ap (λ n. n == 0) (sym count)) c.if-is_empty.true;
    }

pub returns : goal.returns
returns c =
    let count = length-map (map max_value_count_of c.args.limits.now) print_max_value_count ∙ length-map c.args.limits.now max_value_count_of in
    record {
      ok = put_filled (string_bytes c.args.out.now) (string_bytes c.put_name.new.out) (string_bytes c.put_max_value_count_set.new.out) c.args.first (codes "maxValueCount")
          (map print_max_value_count (map max_value_count_of c.args.limits.now)) c.is_empty.result (c.is_empty.ensures ∙ ap (λ n. n == 0) (sym count)) c.if-is_empty.false
          c.in_ok-put_name.ensures.ok c.in_ok-put_max_value_count_set.ensures.ok;
    }
