-- The components one behind the other, and the end of the braces.
use Rattle.std.proofs.Common.{◌++◌, true}
use Rattle.std.specs.Prelude.{codes, map, string_bytes}
use Rattle.gser_tree.specs.Writing.{print_filled, print_flag, print_optional}
use Rattle.gser_tree.proofs.Theorems.{PutsMembers-append, PutsMembers-braces}
use Rattle.subtree_spec.specs.SubtreePrinted.{print_subtree}
use Rattle.aci_item.specs.ItemPrinted.{print_class_list, print_classes, print_user}
use Rattle.aci_item.specs.item.Views.{classes_of}
use Rattle.aci_item.proofs.printing.put_classes.Goals as goal

pub returns : goal.returns
unfolding print_classes
returns c =
    let value = classes_of c.args.classes.now in
    let all = print_flag (codes "allUsers") value.all in
    let this_entry = print_flag (codes "thisEntry") value.this_entry in
    let names = print_optional (codes "name") (print_filled (map print_user value.names)) in
    let groups = print_optional (codes "userGroup") (print_filled (map print_user value.groups)) in
    let subtrees = print_optional (codes "subtree") (print_filled (map print_subtree value.subtrees)) in
    let text0 = string_bytes c.args.out.now in
    let text1 = string_bytes c.put_flag.new.out in
    let text2 = string_bytes c.put_flag-2.new.out in
    let text3 = string_bytes c.put_users.new.out in
    let text4 = string_bytes c.put_users-2.new.out in
    let text5 = string_bytes c.put_subtrees.new.out in
    let first0 = true in
    let first1 = c.in_ok-first.first in
    let first2 = c.in_ok-first-2.first in
    let first3 = c.in_ok-first-3.first in
    let first4 = c.in_ok-first-4.first in
    let first5 = c.in_ok-first-5.first in
    let from3 = PutsMembers-append text3 text4 text5 first3 first4 first5 groups subtrees (rw c.deref-2.ensures.value at c.in_ok-first-4.ensures.ok) (rw c.deref-3.ensures.value at c.in_ok-first-5.ensures.ok) in
    let from2 = PutsMembers-append text2 text3 text5 first2 first3 first5 names (groups ++ subtrees) (rw c.deref.ensures.value at c.in_ok-first-3.ensures.ok) from3 in
    let from1 = PutsMembers-append text1 text2 text5 first1 first2 first5 this_entry (names ++ (groups ++ subtrees)) c.in_ok-first-2.ensures.ok from2 in
    let from0 = PutsMembers-append text0 text1 text5 first0 first1 first5 all (this_entry ++ (names ++ (groups ++ subtrees))) c.in_ok-first.ensures.ok from1 in
    record { ok = PutsMembers-braces text0 text5 (string_bytes c.put_end.new.out) first5 (print_class_list value) from0 c.in_ok-put_end.ensures.ok }
