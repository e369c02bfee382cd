-- The text for the entry of a name, found or not.
use Rattle.std.proofs.Common.{◌≡◌, List, Option, Some, None, ap, ◌∙◌}
use Rattle.std.specs.Prelude.{codes}
use Rattle.std.specs.Option.{option_map_or}
use Rattle.dir_tree.specs.dn_names.name.Names.{RdnSequence}
use Rattle.dir_tree.specs.Entry.{EntryInformation}
use Rattle.dir_tree.specs.tree.Trees.{named_in}
use Rattle.dir_tree.specs.tree.Numbered.{Numbered, entries_of}
use Rattle.acdf_filters.specs.aci_item.declared.permission.Permission.{Permission}
use Rattle.acdf_filters.specs.declared.asking.Requester.{Requester}
use Rattle.acdf_filters.specs.Asking.{Protected, asked_on}
use Rattle.certify.specs.Certificate.{certificate_text, proved_text}
use Rattle.certify.specs.RightsTable.{rights_text, rights_at}

-- the certificate of the entry that was found
pub proved_text-found : (tree rows : List Numbered) (who : Requester) (target : RdnSequence) (item : Protected) (permission : Permission) (entry : EntryInformation)
    → tree ≡ rows → Some entry ≡ named_in target (entries_of tree)
    → certificate_text (entries_of rows) (asked_on who entry item permission) entry ≡ proved_text (entries_of rows) who target item permission
unfolding proved_text
proved_text-found tree rows who target item permission entry same found =
    ap (λ (o : Option EntryInformation). option_map_or (λ e. certificate_text (entries_of rows) (asked_on who e item permission) e) o (codes "absent\n"))
    (found ∙ ap (λ (all : List Numbered). named_in target (entries_of all)) same)

pub proved_text-absent : (tree rows : List Numbered) (who : Requester) (target : RdnSequence) (item : Protected) (permission : Permission)
    → tree ≡ rows → None ≡ named_in target (entries_of tree) → codes "absent\n" ≡ proved_text (entries_of rows) who target item permission
unfolding proved_text
proved_text-absent tree rows who target item permission same none =
    ap (λ (o : Option EntryInformation). option_map_or (λ e. certificate_text (entries_of rows) (asked_on who e item permission) e) o (codes "absent\n"))
    (none ∙ ap (λ (all : List Numbered). named_in target (entries_of all)) same)

-- the item that is asked for, as the decision takes it
pub same_item : (entries : List EntryInformation) (who : Requester) (target : RdnSequence) (taken asked : Protected) (permission : Permission)
    → taken ≡ asked → proved_text entries who target taken permission ≡ proved_text entries who target asked permission
same_item entries who target taken asked permission is = ap (λ item. proved_text entries who target item permission) is

-- the table of the entry that was found
pub rights_at-found : (tree rows : List Numbered) (who : Requester) (target : RdnSequence) (entry : EntryInformation)
    → tree ≡ rows → Some entry ≡ named_in target (entries_of tree) → rights_text (entries_of rows) who entry ≡ rights_at (entries_of rows) who target
unfolding rights_at
rights_at-found tree rows who target entry same found =
    ap (λ (o : Option EntryInformation). option_map_or (rights_text (entries_of rows) who) o (codes "absent\n"))
    (found ∙ ap (λ (all : List Numbered). named_in target (entries_of all)) same)

pub rights_at-absent : (tree rows : List Numbered) (who : Requester) (target : RdnSequence)
    → tree ≡ rows → None ≡ named_in target (entries_of tree) → codes "absent\n" ≡ rights_at (entries_of rows) who target
unfolding rights_at
rights_at-absent tree rows who target same none =
    ap (λ (o : Option EntryInformation). option_map_or (rights_text (entries_of rows) who) o (codes "absent\n"))
    (none ∙ ap (λ (all : List Numbered). named_in target (entries_of all)) same)
