-- One more exclusion is written.
use Rattle.std.specs.Prelude.{string_bytes}
use Rattle.gser_tree.specs.Writing.{print_choice}
use Rattle.subtree_spec.specs.SubtreePrinted.{print_dn}
use Rattle.subtree_spec.proofs.printing.PrintedLemmas.{put_next}
use Rattle.subtree_spec.proofs.printing.put_chops.Goals as goal

pub loop-name-preserved : goal.loop-name-preserved
loop-name-preserved c =
    put_next (λ name. print_choice c.args.kind.now (print_dn name)) (string_bytes c.args.out.now) (string_bytes c.loop-name.out)
    (string_bytes c.put_separator.new.out) (string_bytes c.put_chop.new.out) c.args.first c.loop-name.first c.args.names.now
    c.loop-name.name-index c.name-item.result c.loop-name-test.true c.name-item.is c.loop-name.invariant
    c.in_ok-put_separator.ensures.ok c.in_ok-put_chop.ensures.ok
