-- What is kept, where an entry takes the place of one that is the same as a point.
use Rattle.std.proofs.Common.{◌≡◌, ℕ, true, List, sym, subst, ◌∙◌, Some}
use Rattle.dir_tree.specs.Entry.{EntryInformation}
use Rattle.dir_tree.specs.tree.Numbered.{Numbered, IsNumberedTree, entry_of, put_entry, without}
use Rattle.aci_index.proofs.laws.RowLemmas.{change-replaced}
use Rattle.aci_lists.specs.declared.kept.Holdings.{Holdings}
use Rattle.aci_lists.specs.kept.Lists.{AreOf, lists_at}
use Rattle.aci_lists.specs.kept.Holdings.{IsHeld}
use Rattle.aci_index.specs.Steps.{OthersStay, is_own_change}
use Rattle.aci_index.proofs.points.PointLemmas.{own-change}
use Rattle.aci_index.proofs.inserting.HeldLemmas.{held-aside, lists-aside}

pub held-own : (id : ℕ) (old one : EntryInformation) (rows : List Numbered) (held made : Holdings) → IsNumberedTree rows → IsNumberedTree (put_entry id one (without id rows))
    → entry_of id rows ≡ Some old → is_own_change old one ≡ true → IsHeld held rows → OthersStay id held made
    → AreOf rows one (lists_at made.lists.items id) → IsHeld made (put_entry id one (without id rows))
held-own id old one rows held made tree also known e is stay are =
    let new = put_entry id one (without id rows) in
    let own = own-change old one e in
    let change = change-replaced id old one rows known in
    let lists = lists_at made.lists.items id in
    held-aside id rows new (Some old) (Some one) held made tree also change own.first own.second (λ number entry differs there. own.aside entry) is stay
    (λ entry there.
    let found : Some one ≡ Some entry = sym change.after ∙ there in
    let same : one ≡ entry = cc in
    subst (λ (x : EntryInformation). AreOf new x lists) same
    (lists-aside id rows new (Some old) (Some one) one lists tree also change (own.aside one) are))
