-- What each of the four changes leaves of a loadable tree is loadable.
use Rattle.std.proofs.Common.{◌≡◌, ℕ, List, [], ◌∷◌, Ok, refl, sym, ap, ◌∙◌, subst}
use Rattle.std.specs.List.{AllByRecursion}
use Rattle.dir_tree.proofs.base_laws_proofs.Theorems.{all_map}
use Rattle.dir_tree.specs.dn_names.name.Names.{RdnSequence, last_rdn}
use Rattle.dir_tree.specs.dn_names.name.GoodNames.{IsGoodName}
use Rattle.dir_tree.specs.dn_names.parsing.NameText.{read_name}
use Rattle.dir_tree.proofs.dn_names_proofs.Theorems.{IsGoodName-from_NameText, NameText-read_name}
use Rattle.dir_tree.specs.Entry.{Attribute, EntryInformation, IsGoodAttributes}
use Rattle.dir_tree.specs.tree.Trees.{is_named, put_in, taken_out}
use Rattle.change_replay.specs.aci_item.Rules.{IsGoodTree}
use Rattle.session_hub.specs.Parties.{Requester}
use Rattle.session_hub.specs.session_model.ldap_msg.declared.kinds.AddRequest.{AddRequest}
use Rattle.session_hub.specs.session_model.ldap_msg.declared.kinds.DeleteRequest.{DeleteRequest}
use Rattle.session_hub.specs.session_model.ldap_msg.declared.kinds.ModifyRequest.{ModifyRequest}
use Rattle.session_hub.specs.session_model.ldap_msg.declared.kinds.RenameRequest.{RenameRequest}
use Rattle.session_hub.specs.session_model.ldap_msg.declared.kinds.Request.{Request}
use Rattle.session_hub.specs.session_model.ldap_msg.declared.kinds.Request.TheVariants as request
use Rattle.session_hub.specs.session_model.ldap_msg.declared.kinds.Update.TheVariants as update
use Rattle.entry_changes.specs.Renaming.{renamed_entry}
use Rattle.entry_changes.proofs.Theorems.{name-renamed_entry}
use Rattle.change_laws.specs.op_add_delete.reading.NewEntries.{new_entry}
use Rattle.change_laws.specs.op_add_delete.adding.Updates.{Changed, Refused, Made, left_by, added, deleted}
use Rattle.change_laws.specs.op_modify.Modifying.{asker_of, modified}
use Rattle.change_laws.specs.op_modify.Renames.{new_name, renamed}
use Rattle.change_laws.specs.Granting.{MayDelete, MayAdd}
use Rattle.change_laws.specs.ChangeGranting.{MayModify, MayRename}
use Rattle.change_replay.specs.Accepted.{outcome}
use Rattle.change_replay.specs.Laws.{HasOctets, ChangesOctets, IsOfOctets}
use Rattle.data_file.specs.Loadable.{IsLoadableValue, IsLoadable}
use Rattle.loading_laws.specs.LoadableTrees.{IsLoadableTree}
use Rattle.loading_laws.proofs.laws.ValueLemmas.{last_rdn-own}
use Rattle.loading_laws.proofs.laws.EffectLemmas.{AllValues, HasAll, all-with_pairs, all-changed, all-renamed, all-put_in, put_in-has, all-taken_out, all-found}
use Rattle.loading_laws.proofs.laws.ReadLemmas.{attributes-loadable, changes-loadable}

-- each value of the entry is loadable
abbrev pub HasLoadable : EntryInformation → Type 0
HasLoadable entry = HasAll IsLoadableValue entry

-- and of each of the entries
abbrev pub AllLoadable : List EntryInformation → Type 0
AllLoadable entries = AllByRecursion HasLoadable entries

-- what holds of the entries, and of those that a change leaves where it is made, holds of what is left
by_change : (entries : List EntryInformation) (changed : Changed) (P : List EntryInformation → Type 0) → P entries
    → ((after : List EntryInformation) → changed ≡ Made after → P after) → P (left_by entries changed)
by_change entries (Refused refusal) P here made = here
by_change entries (Made after) P here made = made after refl

good-read : (text : List ℕ) (name : RdnSequence) → read_name text ≡ Ok name → IsGoodName name
good-read text name is = IsGoodName-from_NameText name text (NameText-read_name name text is)

-- ---- an add

new-loadable : (name : RdnSequence) (attributes : List Attribute) → IsGoodName name → AllValues IsLoadableValue attributes → HasLoadable (new_entry name attributes)
new-loadable name attributes good all =
    all-with_pairs IsLoadableValue (last_rdn name) (record { name = name; attributes = attributes }) (last_rdn-own name good) all

module _
    (adds : (entries : List EntryInformation) (who : Requester) (asked : AddRequest) (entry : EntryInformation) → MayAdd entries who asked entry
    → added entries who asked ≡ Made (put_in entry entries))
    (only : (entries : List EntryInformation) (who : Requester) (asked : AddRequest) (after : List EntryInformation) → added entries who asked ≡ Made after
    → (entry : EntryInformation) × MayAdd entries who asked entry)
  where
    pub added-loadable : (entries : List EntryInformation) (who : Requester) (asked : AddRequest) → AllByRecursion HasOctets asked.attributes
        → AllLoadable entries → AllLoadable (left_by entries (added entries who asked))
    added-loadable entries who asked bytes all = by_change entries (added entries who asked) AllLoadable all made
      where
        made : (after : List EntryInformation) → added entries who asked ≡ Made after → AllLoadable after
        made after is =
            let found = only entries who asked after is in
            let may = found.1 in
            let new : HasLoadable (new_entry may.name may.attributes) =
            new-loadable may.name may.attributes (good-read asked.name may.name may.name_read) (attributes-loadable asked.attributes may.attributes bytes may.attributes_read) in
            subst AllLoadable (ap (left_by entries) (sym (adds entries who asked found.0 may) ∙ is)) (all-put_in HasLoadable found.0 entries (subst HasLoadable (sym may.is) new) all)

-- ---- a delete

module _
    (deletes : (entries : List EntryInformation) (who : Requester) (asked : DeleteRequest) (target : EntryInformation) → MayDelete entries who asked target
    → deleted entries who asked ≡ Made (taken_out target.name entries))
    (only : (entries : List EntryInformation) (who : Requester) (asked : DeleteRequest) (after : List EntryInformation) → deleted entries who asked ≡ Made after
    → (target : EntryInformation) × MayDelete entries who asked target)
  where
    pub deleted-loadable : (entries : List EntryInformation) (who : Requester) (asked : DeleteRequest) → AllLoadable entries → AllLoadable (left_by entries (deleted entries who asked))
    deleted-loadable entries who asked all = by_change entries (deleted entries who asked) AllLoadable all made
      where
        made : (after : List EntryInformation) → deleted entries who asked ≡ Made after → AllLoadable after
        made after is =
            let found = only entries who asked after is in
            subst AllLoadable (ap (left_by entries) (sym (deletes entries who asked found.0 found.1) ∙ is)) (all-taken_out HasLoadable found.0.name entries all)

-- ---- a modify

module _
    (modifies : (entries : List EntryInformation) (who : Requester) (asked : ModifyRequest) (target left : EntryInformation) → MayModify entries who asked target left
    → modified entries who asked ≡ Made (put_in left (taken_out target.name entries)))
    (only : (entries : List EntryInformation) (who : Requester) (asked : ModifyRequest) (after : List EntryInformation) → modified entries who asked ≡ Made after
    → (target : EntryInformation) × (left : EntryInformation) × MayModify entries who asked target left)
  where
    pub modified-loadable : (entries : List EntryInformation) (who : Requester) (asked : ModifyRequest) → AllByRecursion ChangesOctets asked.changes
        → AllLoadable entries → AllLoadable (left_by entries (modified entries who asked))
    modified-loadable entries who asked bytes all = by_change entries (modified entries who asked) AllLoadable all made
      where
        made : (after : List EntryInformation) → modified entries who asked ≡ Made after → AllLoadable after
        made after is =
            let found = only entries who asked after is in
            let target = found.0 in
            let left = found.1 in
            let may = found.2 in
            let was : HasLoadable target = all-found HasLoadable (is_named may.name) entries target all may.found in
            let new : HasLoadable left =
            all-changed IsLoadableValue (asker_of entries who target) target may.changes left (changes-loadable asked.changes may.changes bytes may.changes_read) was may.changed in
            subst AllLoadable (ap (left_by entries) (sym (modifies entries who asked target left may) ∙ is))
            (all-put_in HasLoadable left (taken_out target.name entries) new (all-taken_out HasLoadable target.name entries all))

-- ---- a rename, which leaves a good tree

module _
    (renames : (entries : List EntryInformation) (who : Requester) (asked : RenameRequest) (target entry : EntryInformation) → MayRename entries who asked target entry
    → renamed entries who asked ≡ Made (put_in entry (taken_out target.name entries)))
    (only : (entries : List EntryInformation) (who : Requester) (asked : RenameRequest) (after : List EntryInformation) → renamed entries who asked ≡ Made after
    → (target : EntryInformation) × (entry : EntryInformation) × MayRename entries who asked target entry)
  where
    pub renamed-loadable : (entries : List EntryInformation) (who : Requester) (asked : RenameRequest) → IsGoodTree (left_by entries (renamed entries who asked))
        → AllLoadable entries → AllLoadable (left_by entries (renamed entries who asked))
    renamed-loadable entries who asked good all = by_change entries (renamed entries who asked) AllLoadable all made
      where
        made : (after : List EntryInformation) → renamed entries who asked ≡ Made after → AllLoadable after
        made after is =
            let found = only entries who asked after is in
            let target = found.0 in
            let entry = found.1 in
            let may = found.2 in
            let left = renames entries who asked target entry may in
            let name = new_name entries may.renaming in
            let names : AllByRecursion (λ (entry : EntryInformation). IsGoodName entry.name) (put_in entry (taken_out target.name entries)) =
            subst (AllByRecursion (λ (entry : EntryInformation). IsGoodName entry.name)) (ap (left_by entries) left) good.good.names in
            let same : entry.name ≡ name =
            ap (λ (entry : EntryInformation). entry.name) may.is ∙ name-renamed_entry name may.renaming.delete_old target in
            let good_name : IsGoodName name = subst IsGoodName same (put_in-has (λ entry. IsGoodName entry.name) entry (taken_out target.name entries) names) in
            let was : HasLoadable target = all-found HasLoadable (is_named may.renaming.name) entries target all may.found in
            let new : HasLoadable (renamed_entry name may.renaming.delete_old target) =
            all-renamed IsLoadableValue name may.renaming.delete_old target (last_rdn-own name good_name) was in
            subst AllLoadable (ap (left_by entries) (sym left ∙ is))
            (all-put_in HasLoadable entry (taken_out target.name entries) (subst HasLoadable (sym may.is) new) (all-taken_out HasLoadable target.name entries all))

-- ---- any request

-- good entries of loadable values are loadable
each_loadable : (entries : List EntryInformation) → AllByRecursion (λ entry. IsGoodName entry.name) entries → AllByRecursion (λ entry. IsGoodAttributes entry.attributes) entries
    → AllLoadable entries → AllByRecursion IsLoadable entries
each_loadable [] names attributes values = tt
each_loadable (entry ∷ entries) names attributes values =
    (record { name = names.0; good = attributes.0; values = values.0 }, each_loadable entries names.1 attributes.1 values.1)

tree-loadable : (entries : List EntryInformation) → IsGoodTree entries → AllLoadable entries → IsLoadableTree entries
tree-loadable entries good values = record { good = good; loadable = each_loadable entries good.good.names good.good.attributes values }

values-loadable : (entries : List EntryInformation) → IsLoadableTree entries → AllLoadable entries
values-loadable entries is = all_map IsLoadable HasLoadable (λ entry loadable. loadable.values) entries is.loadable

module _
    (adds : (entries : List EntryInformation) (who : Requester) (asked : AddRequest) → AllByRecursion HasOctets asked.attributes → AllLoadable entries → AllLoadable (left_by entries (added entries who asked)))
    (deletes : (entries : List EntryInformation) (who : Requester) (asked : DeleteRequest) → AllLoadable entries → AllLoadable (left_by entries (deleted entries who asked)))
    (modifies : (entries : List EntryInformation) (who : Requester) (asked : ModifyRequest) → AllByRecursion ChangesOctets asked.changes → AllLoadable entries
    → AllLoadable (left_by entries (modified entries who asked)))
    (renames : (entries : List EntryInformation) (who : Requester) (asked : RenameRequest) → IsGoodTree (left_by entries (renamed entries who asked)) → AllLoadable entries
    → AllLoadable (left_by entries (renamed entries who asked)))
    (good_added : (entries : List EntryInformation) (who : Requester) (asked : AddRequest) → IsGoodTree entries → IsGoodTree (left_by entries (added entries who asked)))
    (good_deleted : (entries : List EntryInformation) (who : Requester) (asked : DeleteRequest) → IsGoodTree entries → IsGoodTree (left_by entries (deleted entries who asked)))
    (good_modified : (entries : List EntryInformation) (who : Requester) (asked : ModifyRequest) → IsGoodTree entries → IsGoodTree (left_by entries (modified entries who asked)))
    (good_renamed : (entries : List EntryInformation) (who : Requester) (asked : RenameRequest) → IsGoodTree entries → IsGoodTree (left_by entries (renamed entries who asked)))
  where
    pub outcome-loadable : (entries : List EntryInformation) (who : Requester) (asked : Request) → IsOfOctets asked → IsLoadableTree entries
        → IsLoadableTree (left_by entries (outcome entries who asked))
    outcome-loadable entries who (request.Update (update.Modify modify)) bytes is =
        tree-loadable (left_by entries (modified entries who modify)) (good_modified entries who modify is.good) (modifies entries who modify bytes.1 (values-loadable entries is))
    outcome-loadable entries who (request.Update (update.Add add)) bytes is =
        tree-loadable (left_by entries (added entries who add)) (good_added entries who add is.good) (adds entries who add bytes.1 (values-loadable entries is))
    outcome-loadable entries who (request.Update (update.Delete delete)) bytes is =
        tree-loadable (left_by entries (deleted entries who delete)) (good_deleted entries who delete is.good) (deletes entries who delete (values-loadable entries is))
    outcome-loadable entries who (request.Update (update.Rename rename)) bytes is =
        tree-loadable (left_by entries (renamed entries who rename)) (good_renamed entries who rename is.good)
        (renames entries who rename (good_renamed entries who rename is.good) (values-loadable entries is))
    outcome-loadable entries who other bytes is = is
