-- The precedence, the two components behind it and the end of the braces.
use Rattle.std.proofs.Common.{◌++◌, ◌∷◌, [], true, false}
use Rattle.std.specs.Prelude.{codes, string_bytes}
use Rattle.gser_tree.specs.Writing.{print_component}
use Rattle.gser_tree.proofs.Theorems.{PutsMembers-append, PutsMembers-braces}
use Rattle.aci_item.specs.ItemPrinted.{print_bits, print_precedence, print_items, print_user_permission}
use Rattle.aci_item.specs.item.Views.{user_permission_of}
use Rattle.aci_item.proofs.printing.PrintedLemmas.{put_pair}
use Rattle.aci_item.proofs.printing.put_user_permission.Goals as goal

pub returns : goal.returns
unfolding print_user_permission
returns c =
    let value = user_permission_of c.args.permission.now in
    let own = print_precedence value.precedence in
    let part = print_items value.items in
    let granted = print_bits value.bits in
    let rest = print_component (codes "protectedItems") part ∷ print_component (codes "grantsAndDenials") granted ∷ [] in
    let text0 = string_bytes c.args.out.now in
    let text1 = string_bytes c.put_precedence.new.out in
    let text2 = string_bytes c.put_name.new.out in
    let text3 = string_bytes c.put_items.new.out in
    let text4 = string_bytes c.put_name-2.new.out in
    let text5 = string_bytes c.put_bits.new.out in
    let text6 = string_bytes c.put_end.new.out in
    let first = c.in_ok-first.first in
    let behind = put_pair text1 text2 text3 text4 text5 first (codes "protectedItems") (codes "grantsAndDenials") part granted
    c.in_ok-put_name.ensures.ok (rw c.deref.ensures at c.in_ok-put_items.ensures.ok) c.in_ok-put_name-2.ensures.ok c.in_ok-put_bits.ensures.ok in
    let all = PutsMembers-append text0 text1 text5 true first false own rest c.in_ok-first.ensures.ok behind in
    record { ok = PutsMembers-braces text0 text5 text6 false (own ++ rest) all c.in_ok-put_end.ensures.ok }
