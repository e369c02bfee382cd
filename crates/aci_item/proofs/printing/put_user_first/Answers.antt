-- The kind, the two components and the end of the braces.
use Rattle.std.proofs.Common.{true, false, [], ◌∷◌, map}
use Rattle.std.specs.Prelude.{codes, string_bytes}
use Rattle.gser_tree.specs.Writing.{print_braces, print_component}
use Rattle.gser_tree.proofs.Theorems.{put_choice, PutsMembers-braces}
use Rattle.aci_item.specs.ItemPrinted.{print_classes, print_user_permission}
use Rattle.aci_item.specs.item.Views.{classes_of, user_permission_of}
use Rattle.aci_item.proofs.printing.PrintedLemmas.{put_pair}
use Rattle.aci_item.proofs.printing.put_user_first.Goals as goal

pub returns : goal.returns
returns c =
    let one = print_classes (classes_of c.args.classes.now) in
    let two = print_braces (map print_user_permission (map user_permission_of c.args.permissions.now)) in
    let items = print_component (codes "userClasses") one ∷ print_component (codes "userPermissions") two ∷ [] in
    let text0 = string_bytes c.args.out.now in
    let text1 = string_bytes c.put_kind.new.out in
    let text2 = string_bytes c.put_name.new.out in
    let text3 = string_bytes c.put_classes.new.out in
    let text4 = string_bytes c.put_name-2.new.out in
    let text5 = string_bytes c.put_user_permission_set.new.out in
    let text6 = string_bytes c.put_end.new.out in
    record {
      ok = put_choice text0 text1 text6 (codes "userFirst") (print_braces items) c.in_ok-put_kind.ensures.ok
          (PutsMembers-braces text1 text5 text6 false items
          (put_pair text1 text2 text3 text4 text5 true (codes "userClasses") (codes "userPermissions") one two c.in_ok-put_name.ensures.ok
          c.in_ok-put_classes.ensures.ok c.in_ok-put_name-2.ensures.ok c.in_ok-put_user_permission_set.ensures.ok) c.in_ok-put_end.ensures.ok);
    }
