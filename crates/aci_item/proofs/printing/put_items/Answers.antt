-- The components one behind the other, and the end of the braces.
use Rattle.std.proofs.Common.{◌++◌, true}
use Rattle.std.specs.Prelude.{codes, map, string_bytes}
use Rattle.gser_tree.specs.Writing.{print_filled, print_flag, print_optional}
use Rattle.gser_tree.proofs.Theorems.{PutsMembers-append, PutsMembers-braces}
use Rattle.aci_item.specs.ItemPrinted.{print_item_list, print_items, print_kind, print_max_value_count, print_restricted_value, print_value}
use Rattle.aci_item.specs.item.Views.{items_of}
use Rattle.aci_item.proofs.printing.put_items.Goals as goal

pub returns : goal.returns
unfolding print_items
returns c =
    let value = items_of c.args.items.now in
    let entry = print_flag (codes "entry") value.entry in
    let all_kinds = print_flag (codes "allUserAttributeTypes") value.all_kinds in
    let kinds = print_optional (codes "attributeType") (print_filled (map print_kind value.kinds)) in
    let all_values = print_optional (codes "allAttributeValues") (print_filled (map print_kind value.all_values)) in
    let all_kinds_and_values = print_flag (codes "allUserAttributeTypesAndValues") value.all_kinds_and_values in
    let values = print_optional (codes "attributeValue") (print_filled (map print_value value.values)) in
    let self_values = print_optional (codes "selfValue") (print_filled (map print_kind value.self_values)) in
    let max_counts = print_optional (codes "maxValueCount") (print_filled (map print_max_value_count value.max_counts)) in
    let restricted = print_optional (codes "restrictedBy") (print_filled (map print_restricted_value value.restricted)) in
    let behind6 = max_counts ++ restricted in
    let behind5 = self_values ++ behind6 in
    let behind4 = values ++ behind5 in
    let behind3 = all_kinds_and_values ++ behind4 in
    let behind2 = all_values ++ behind3 in
    let behind1 = kinds ++ behind2 in
    let behind0 = all_kinds ++ behind1 in
    let text0 = string_bytes c.args.out.now in
    let text1 = string_bytes c.put_flag.new.out in
    let text2 = string_bytes c.put_flag-2.new.out in
    let text3 = string_bytes c.put_kinds.new.out in
    let text4 = string_bytes c.put_kinds-2.new.out in
    let text5 = string_bytes c.put_flag-3.new.out in
    let text6 = string_bytes c.put_values.new.out in
    let text7 = string_bytes c.put_kinds-3.new.out in
    let text8 = string_bytes c.put_max_value_counts.new.out in
    let text9 = string_bytes c.put_restricted_values.new.out in
    let first0 = true in
    let first1 = c.in_ok-first.first in
    let first2 = c.in_ok-first-2.first in
    let first3 = c.in_ok-first-3.first in
    let first4 = c.in_ok-first-4.first in
    let first5 = c.in_ok-first-5.first in
    let first6 = c.in_ok-first-6.first in
    let first7 = c.in_ok-first-7.first in
    let first8 = c.in_ok-first-8.first in
    let first9 = c.in_ok-first-9.first in
    let from7 = PutsMembers-append text7 text8 text9 first7 first8 first9 max_counts restricted (rw c.deref-5.ensures.value at c.in_ok-first-8.ensures.ok) (rw c.deref-6.ensures.value at c.in_ok-first-9.ensures.ok) in
    let from6 = PutsMembers-append text6 text7 text9 first6 first7 first9 self_values behind6 (rw c.deref-4.ensures.value at c.in_ok-first-7.ensures.ok) from7 in
    let from5 = PutsMembers-append text5 text6 text9 first5 first6 first9 values behind5 (rw c.deref-3.ensures.value at c.in_ok-first-6.ensures.ok) from6 in
    let from4 = PutsMembers-append text4 text5 text9 first4 first5 first9 all_kinds_and_values behind4 c.in_ok-first-5.ensures.ok from5 in
    let from3 = PutsMembers-append text3 text4 text9 first3 first4 first9 all_values behind3 (rw c.deref-2.ensures.value at c.in_ok-first-4.ensures.ok) from4 in
    let from2 = PutsMembers-append text2 text3 text9 first2 first3 first9 kinds behind2 (rw c.deref.ensures.value at c.in_ok-first-3.ensures.ok) from3 in
    let from1 = PutsMembers-append text1 text2 text9 first1 first2 first9 all_kinds behind1 c.in_ok-first-2.ensures.ok from2 in
    let from0 = PutsMembers-append text0 text1 text9 first0 first1 first9 entry behind0 c.in_ok-first.ensures.ok from1 in
    record { ok = PutsMembers-braces text0 text9 (string_bytes c.put_end.new.out) first9 (print_item_list value) from0 c.in_ok-put_end.ensures.ok }
