-- A set that is empty is left out.
use Rattle.std.proofs.Common.{ap, sym, ◌∙◌}
use Rattle.std.proofs.lemmas.List.{length-map}
use Rattle.std.specs.Prelude.{◌==◌, codes, map, string_bytes}
use Rattle.subtree_spec.specs.Subtrees.{subtree_of}
use Rattle.subtree_spec.specs.SubtreePrinted.{print_subtree}
use Rattle.aci_item.proofs.printing.PrintedLemmas.{put_nothing, put_filled}
use Rattle.aci_item.proofs.printing.put_subtrees.Goals as goal

pub returns-then-is_empty : goal.returns-then-is_empty
returns-then-is_empty c =
    let count = length-map (map subtree_of c.args.subtrees.now) print_subtree ∙ length-map c.args.subtrees.now subtree_of in
    record {
      ok = put_nothing (string_bytes c.args.out.now) c.args.first (codes "subtree") (map print_subtree (map subtree_of c.args.subtrees.now)) c.is_empty.result
          (c.is_empty.ensures ∙ ap (λ n. n == 0) (sym count)) c.if-is_empty.true;
    }

pub returns : goal.returns
returns c =
    let count = length-map (map subtree_of c.args.subtrees.now) print_subtree ∙ length-map c.args.subtrees.now subtree_of in
    record {
      ok = put_filled (string_bytes c.args.out.now) (string_bytes c.put_name.new.out) (string_bytes c.put_subtree_set.new.out) c.args.first (codes "subtree")
          (map print_subtree (map subtree_of c.args.subtrees.now)) c.is_empty.result (c.is_empty.ensures ∙ ap (λ n. n == 0) (sym count)) c.if-is_empty.false
          c.in_ok-put_name.ensures.ok c.in_ok-put_subtree_set.ensures.ok;
    }
