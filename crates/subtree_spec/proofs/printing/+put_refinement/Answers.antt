-- One more refinement is written, and then the end of the set.
use Rattle.std.proofs.Common.{true}
use Rattle.std.specs.Prelude.{string_bytes}
use Rattle.subtree_spec.specs.Subtrees.{choice_of}
use Rattle.subtree_spec.specs.SubtreePrinted.{print_refinement}
use Rattle.subtree_spec.specs.declared.spec.Refinement.{Refinement}
use Rattle.subtree_spec.proofs.printing.PrintedLemmas.{put_next, put_all}
use Rattle.subtree_spec.proofs.printing.+put_refinement.Goals as goal

pub put_refinements-loop-member-preserved : goal.put_refinements-loop-member-preserved
put_refinements-loop-member-preserved t c =
    put_next (λ (member : Refinement). print_refinement (choice_of member)) (string_bytes c.args.out.now) (string_bytes c.loop-member.out)
    (string_bytes c.put_separator.new.out) (string_bytes c.put_refinement.new.out) true c.loop-member.first c.args.members.now
    c.loop-member.member-index c.member-item.result c.loop-member-test.true c.member-item.is c.loop-member.invariant
    c.in_ok-put_separator.ensures.ok c.in_ok-put_refinement.ensures.ok

pub put_refinements-returns : goal.put_refinements-returns
put_refinements-returns t c =
    record {
      ok = put_all (string_bytes c.args.out.now) (string_bytes c.loop-member.out) (string_bytes c.put_end.new.out) c.loop-member.first
          c.args.members.now c.loop-member.member-index c.loop-member-test.false c.loop-member.invariant c.in_ok-put_end.ensures.ok;
    }
