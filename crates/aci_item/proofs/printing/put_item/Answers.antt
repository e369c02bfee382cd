-- The four components one behind the other, and the end of the braces.
use Rattle.std.proofs.Common.{◌++◌, ◌∷◌, [], true, false}
use Rattle.std.specs.Prelude.{codes, string_bytes}
use Rattle.gser_tree.specs.Writing.{print_component, print_number, print_string}
use Rattle.gser_tree.proofs.Theorems.{PutsMembers-append, PutsMembers-braces}
use Rattle.aci_item.specs.ItemPrinted.{print_first, print_item, print_level}
use Rattle.aci_item.specs.item.Views.{item_of_code}
use Rattle.aci_item.proofs.printing.PrintedLemmas.{put_pair}
use Rattle.aci_item.proofs.printing.put_item.Goals as goal

pub returns : goal.returns
unfolding print_item
returns c =
    let value = item_of_code c.args.item.now in
    let tag = print_string value.tag in
    let rank = print_number value.precedence in
    let level = print_level value.level in
    let begins = print_first value.first in
    let front = print_component (codes "identificationTag") tag ∷ print_component (codes "precedence") rank ∷ [] in
    let back = print_component (codes "authenticationLevel") level ∷ print_component (codes "itemOrUserFirst") begins ∷ [] in
    let text0 = string_bytes c.args.out.now in
    let text1 = string_bytes c.put_name.new.out in
    let text2 = string_bytes c.put_string.new.out in
    let text3 = string_bytes c.put_name-2.new.out in
    let text4 = string_bytes c.put_number.new.out in
    let text5 = string_bytes c.put_name-3.new.out in
    let text6 = string_bytes c.put_level.new.out in
    let text7 = string_bytes c.put_name-4.new.out in
    let text8 = string_bytes c.put_first.new.out in
    let one = put_pair text0 text1 text2 text3 text4 true (codes "identificationTag") (codes "precedence") tag rank c.in_ok-put_name.ensures.ok
    (rw c.as_str.ensures.value at c.in_ok-put_string.ensures.ok) c.in_ok-put_name-2.ensures.ok (rw c.from.ensures at c.in_ok-put_number.ensures.ok) in
    let two = put_pair text4 text5 text6 text7 text8 false (codes "authenticationLevel") (codes "itemOrUserFirst") level begins
    c.in_ok-put_name-3.ensures.ok c.in_ok-put_level.ensures.ok c.in_ok-put_name-4.ensures.ok c.in_ok-put_first.ensures.ok in
    let both = PutsMembers-append text0 text4 text8 true false false front back one two in
    record { ok = PutsMembers-braces text0 text8 (string_bytes c.put_end.new.out) false (front ++ back) both c.in_ok-put_end.ensures.ok }
