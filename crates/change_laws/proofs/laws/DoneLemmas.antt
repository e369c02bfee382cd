-- An add is done exactly where nothing refuses it.
use Rattle.std.proofs.Common.{◌≡◌, ◌≢◌, List, [], ◌∷◌, None, Result, Ok, Err, refl, sym, ap, subst, ◌∙◌}
use Rattle.dir_tree.specs.dn_names.name.Names.{RdnSequence}
use Rattle.dir_tree.specs.dn_names.parsing.NameText.{read_name}
use Rattle.dir_tree.specs.dn_names.declared.error.BadName.{BadName}
use Rattle.dir_tree.specs.Entry.{Attribute, EntryInformation}
use Rattle.dir_tree.specs.tree.Trees.{put_in}
use Rattle.acdf_filters.specs.declared.asking.Requester.{Requester}
use Rattle.acdf_filters.specs.Granted.{granted_new}
use Rattle.ldap_msg.specs.declared.operations.ResultCode.{ResultCode}
use Rattle.ldap_msg.specs.declared.kinds.AddRequest.{AddRequest}
use Rattle.op_add_delete.specs.adding.Adding.{add_refusal}
use Rattle.op_add_delete.specs.reading.NewEntries.{read_attributes, new_entry}
use Rattle.op_add_delete.specs.adding.Updates.{Made, unless, added_entry, added_named, added}
use Rattle.op_add_delete.proofs.Theorems.{unless-made}
use Rattle.change_laws.specs.Granting.{MayAdd}
use Rattle.change_laws.proofs.laws.AllowedLemmas.{MayAddEach-unrefused, unrefused-MayAddEach}
use Rattle.change_laws.proofs.laws.AddLemmas.{IsAddable, IsAddable-unrefused, unrefused-IsAddable}

-- what nothing refuses is done
added_by :
    (entries : List EntryInformation) (who : Requester) (request : AddRequest) (name : RdnSequence) (attributes : List Attribute)
    → read_name request.name ≡ Ok name → name ≢ [] → read_attributes request.attributes ≡ Ok attributes
    → add_refusal entries who name (new_entry name attributes) ≡ None
    → added entries who request ≡ Made (put_in (new_entry name attributes) entries)
unfolding added
added_by entries who request [] attributes name_read some attributes_read none = absurd (some refl)
added_by entries who request (rdn ∷ rdns) attributes name_read some attributes_read none =
    ap (added_named entries who request.attributes) name_read
    ∙ ap (added_entry entries who (rdn ∷ rdns)) attributes_read
    ∙ ap (λ refusal. unless refusal (put_in (new_entry (rdn ∷ rdns) attributes) entries)) none

addable :
    (entries : List EntryInformation) (who : Requester) (request : AddRequest) (entry : EntryInformation)
    → (may : MayAdd entries who request entry) → IsAddable entries who may.name entry
addable entries who request entry may = record {
  free = may.free;
  under = may.under;
  allowed = unrefused-MayAddEach (granted_new entries who entry) entry may.allowed;
  unbroken = may.unbroken;
}

pub added-may :
    (entries : List EntryInformation) (who : Requester) (request : AddRequest) (entry : EntryInformation)
    → MayAdd entries who request entry → added entries who request ≡ Made (put_in entry entries)
added-may entries who request entry may =
    let may_here = subst (λ entry. IsAddable entries who may.name entry) may.is (addable entries who request entry may) in
    added_by entries who request may.name may.attributes may.name_read may.named may.attributes_read
    (unrefused-IsAddable entries who may.name (new_entry may.name may.attributes) may_here)
    ∙ ap (λ (entry : EntryInformation). Made (put_in entry entries)) (sym may.is)

-- and what was done was granted
may-added_entry :
    (entries : List EntryInformation) (who : Requester) (request : AddRequest) (name : RdnSequence)
    (found : Result (List Attribute) ResultCode) (after : List EntryInformation) → read_name request.name ≡ Ok name → name ≢ []
    → read_attributes request.attributes ≡ found → added_entry entries who name found ≡ Made after
    → (entry : EntryInformation) × MayAdd entries who request entry
may-added_entry entries who request name (Err fault) after name_read some read made = absurd cc
may-added_entry entries who request name (Ok attributes) after name_read some read made =
    let entry = new_entry name attributes in
    let may = IsAddable-unrefused entries who name entry
    (unless-made (add_refusal entries who name entry) (put_in entry entries) after made) in (
      entry,
      record {
        name = name;
        name_read = name_read;
        named = some;
        attributes = attributes;
        attributes_read = read;
        is = refl;
        free = may.free;
        under = may.under;
        allowed = MayAddEach-unrefused (granted_new entries who entry) entry may.allowed;
        unbroken = may.unbroken;
      },
    )

may-added_named :
    (entries : List EntryInformation) (who : Requester) (request : AddRequest) (found : Result RdnSequence BadName)
    (after : List EntryInformation)
    → read_name request.name ≡ found → added_named entries who request.attributes found ≡ Made after
    → (entry : EntryInformation) × MayAdd entries who request entry
may-added_named entries who request (Err bad) after read made = absurd cc
may-added_named entries who request (Ok []) after read made = absurd cc
may-added_named entries who request (Ok (rdn ∷ rdns)) after read made =
    may-added_entry entries who request (rdn ∷ rdns) (read_attributes request.attributes) after read (λ none. cc) refl made

pub may-added :
    (entries : List EntryInformation) (who : Requester) (request : AddRequest) (after : List EntryInformation)
    → added entries who request ≡ Made after
    → (entry : EntryInformation) × MayAdd entries who request entry
unfolding added
may-added entries who request after made = may-added_named entries who request (read_name request.name) after refl made
