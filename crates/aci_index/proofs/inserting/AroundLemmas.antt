-- What comes, goes or changes immediately below a name stands aside from all entries that are not at or below that name.
use Rattle.std.proofs.Common.{◌≡◌, ◌≢◌, ◌+◌, ◌==◌, true, false, [], length, sym, ◌∙◌, Some, None}
use Rattle.std.proofs.lemmas.Bool.{and_parts}
use Rattle.dir_tree.specs.dn_names.NameOrder.{is_prefix_of}
use Rattle.dir_tree.specs.Entry.{EntryInformation}
use Rattle.dir_tree.proofs.TreeTheorems.{child_is}
use Rattle.aci_index.specs.Aside.{IsAside, IsUnderOther}
use Rattle.aci_index.proofs.laws.AsideLemmas.{aside-under}
use Rattle.aci_index.proofs.inserting.ReachLemmas.{IsApart}

-- what is apart is not at or below the name that the one is immediately below
under_other : (one entry : EntryInformation) → one.name ≢ [] → IsApart one entry → IsUnderOther entry one
under_other one entry filled h = record { top = h.top; outside = h.outside; under = child_is h.top one filled ∙ h.superior }

-- one that is put in
pub apart-put : (one entry : EntryInformation) → one.name ≢ [] → IsApart one entry → IsAside entry None (Some one)
apart-put one entry filled h = aside-under entry None (Some one) tt (under_other one entry filled h)

-- no entry is apart from itself
pub apart-itself : (one : EntryInformation) → one.name ≢ [] → IsApart one one → ⊥
apart-itself one filled h =
    let parts = and_parts (is_prefix_of h.top one.name) (length one.name == length h.top + 1) (child_is h.top one filled ∙ h.superior) in
    let clash : true ≡ false = sym parts.0 ∙ h.outside in
    absurd cc

-- one that takes a place
pub apart-replaced : (old one entry : EntryInformation) → old.name ≢ [] → one.name ≢ [] → IsApart old entry → IsApart one entry → IsAside entry (Some old) (Some one)
apart-replaced old one entry before after h k =
    aside-under entry (Some old) (Some one) (under_other old entry before h) (under_other one entry after k)
