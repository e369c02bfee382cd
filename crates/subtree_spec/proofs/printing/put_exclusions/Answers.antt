-- The exclusions of both kinds, and the end of the set.
use Rattle.std.proofs.Common.{true}
use Rattle.std.specs.Prelude.{string_bytes, codes}
use Rattle.gser_tree.proofs.Theorems.{PutsMembers-append, PutsMembers-braces}
use Rattle.subtree_spec.specs.SubtreePrinted.{print_chops, print_exclusions}
use Rattle.subtree_spec.proofs.printing.put_exclusions.Goals as goal

pub returns : goal.returns
returns c =
    let spec = c.args.spec.now in
    let before = print_chops (codes "chopBefore") spec.before.items in
    let after = print_chops (codes "chopAfter") spec.after.items in
    let one = rw c.deref.ensures.value at c.in_ok-first.ensures.ok in
    let two = rw c.deref-2.ensures.value at c.in_ok-first-2.ensures.ok in
    let both = PutsMembers-append (string_bytes c.args.out.now) (string_bytes c.put_chops.new.out) (string_bytes c.put_chops-2.new.out)
    true c.in_ok-first.first c.in_ok-first-2.first before after one two in
    record {
      ok = PutsMembers-braces (string_bytes c.args.out.now) (string_bytes c.put_chops-2.new.out) (string_bytes c.put_end.new.out)
          c.in_ok-first-2.first (print_exclusions spec.before.items spec.after.items) both c.in_ok-put_end.ensures.ok;
    }
