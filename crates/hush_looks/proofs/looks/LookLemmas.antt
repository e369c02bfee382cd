-- Who asks on a connection that is held, and the part that a look tells of it.
use Rattle.std.proofs.Common.{◌≡◌, ℕ, true, false, List, Option, Some, None, option_map, refl, ap, ap₂, sym, ◌∙◌}
use Rattle.std.specs.Prelude.{option_and_then}
use Rattle.dir_tree.specs.dn_names.name.Names.{RdnSequence}
use Rattle.session_hub.specs.session_model.Kept.{Kept, kept_of, closing_of}
use Rattle.session_hub.specs.session_model.Places.{asker_in}
use Rattle.session_hub.proofs.session_model_proofs.Theorems.{closing_in, closing_of_is, asks_kept}
use Rattle.session_hub.specs.Parties.{DirectoryEntries, Requester}
use Rattle.session_hub.specs.hub.Hubs.{HubState, held}
use Rattle.hush_laws.specs.declared.part.Part.{Part}
use Rattle.hush_laws.specs.TwinParts.{failing_twins}
use Rattle.hush_looks.specs.Looks.{failing_look, LooksAt}

-- nobody asks on a connection that is closing, and on another its requester
found_closing : {W : Type 0} (found : Option (Kept W)) → closing_in found ≡ true → None ≡ asker_in found
found_closing None closes = refl
found_closing (Some connection) closes = rw closes refl

found_open : {W : Type 0} (found : Option (Kept W)) → closing_in found ≡ false → option_map (λ connection. connection.who) found ≡ asker_in found
found_open None stays = refl
found_open (Some connection) stays = rw stays refl

pub asks_closing : (number : ℕ) (kept : List (Kept Requester)) → closing_of number kept ≡ true → None ≡ asker_in (kept_of number kept)
asks_closing number kept closes = found_closing (kept_of number kept) (sym (closing_of_is number kept) ∙ closes)

pub asks_open : (number : ℕ) (kept : List (Kept Requester)) → closing_of number kept ≡ false
    → option_map (λ (connection : Kept Requester). connection.who) (kept_of number kept) ≡ asker_in (kept_of number kept)
asks_open number kept stays = found_open (kept_of number kept) (sym (closing_of_is number kept) ∙ stays)

-- what is told is said of the sessions too, whatever they are
pub looks-held : (top : RdnSequence) (before now : DirectoryEntries) (hub : HubState) (number : ℕ) (part : Option Part)
    → part ≡ failing_look number top before now hub.kept → LooksAt top before now hub number part
unfolding LooksAt
looks-held top before now hub number part is =
    λ sessions taken keeps.
    is ∙ ap₂ (λ (entries : DirectoryEntries) (asked : Option Requester). option_and_then (λ who. failing_twins top before entries who) asked)
    keeps.tree (sym (asks_kept sessions taken (held now hub) number keeps))

-- nobody asks, and so no part is told
pub looks-nobody : (top : RdnSequence) (before now : DirectoryEntries) (number : ℕ) (kept : List (Kept Requester))
    → None ≡ asker_in (kept_of number kept) → None ≡ failing_look number top before now kept
looks-nobody top before now number kept none = ap (option_and_then (λ who. failing_twins top before now who)) none

-- the part is that for the one who asks
pub looks-asker : (top : RdnSequence) (before now : DirectoryEntries) (number : ℕ) (kept : List (Kept Requester)) (who : Requester) (part : Option Part)
    → Some who ≡ asker_in (kept_of number kept) → part ≡ failing_twins top before now who → part ≡ failing_look number top before now kept
looks-asker top before now number kept who part asks is = is ∙ ap (option_and_then (λ who. failing_twins top before now who)) asks
