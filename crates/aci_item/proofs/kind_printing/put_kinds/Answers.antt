-- A set that is empty is left out.
use Rattle.std.proofs.Common.{ap, sym, ◌∙◌}
use Rattle.std.proofs.lemmas.List.{length-map}
use Rattle.std.specs.Prelude.{◌==◌, map, string_bytes}
use Rattle.aci_item.specs.ItemPrinted.{print_kind}
use Rattle.aci_item.proofs.printing.PrintedLemmas.{put_nothing, put_filled}
use Rattle.aci_item.proofs.kind_printing.put_kinds.Goals as goal

pub returns-then-is_empty : goal.returns-then-is_empty
returns-then-is_empty c =
    let count = length-map (map (λ kind. kind.0) c.args.kinds.now) print_kind ∙ length-map c.args.kinds.now (λ kind. kind.0) in
    record {
      ok = put_nothing (string_bytes c.args.out.now) c.args.first c.args.name.now (map print_kind (map (λ kind. kind.0) c.args.kinds.now)) c.is_empty.result
          (c.is_empty.ensures ∙ ap (λ n. n == 0) (sym count)) c.if-is_empty.true;
    }

pub returns : goal.returns
returns c =
    let count = length-map (map (λ kind. kind.0) c.args.kinds.now) print_kind ∙ length-map c.args.kinds.now (λ kind. kind.0) in
    record {
      ok = put_filled (string_bytes c.args.out.now) (string_bytes c.put_name.new.out) (string_bytes c.put_kind_set.new.out) c.args.first c.args.name.now
          (map print_kind (map (λ kind. kind.0) c.args.kinds.now)) c.is_empty.result (c.is_empty.ensures ∙ ap (λ n. n == 0) (sym count)) c.if-is_empty.false
          c.in_ok-put_name.ensures.ok c.in_ok-put_kind_set.ensures.ok;
    }
