-- Deletes: what they leave, and when they are done.
use Rattle.std.proofs.Common.{◌≡◌, ◌≢◌, Bool, true, false, not, List, [], ◌∷◌, Option, Some, None, Result, Ok, Err, refl, sym, ap, ◌∙◌, if◌then◌else◌}
use Rattle.std.proofs.lemmas.Bool.{not-false, not_from_true}
use Rattle.dir_tree.specs.dn_names.name.Names.{RdnSequence}
use Rattle.dir_tree.specs.dn_names.parsing.NameText.{read_name}
use Rattle.dir_tree.specs.dn_names.declared.error.BadName.{BadName}
use Rattle.dir_tree.specs.Entry.{EntryInformation}
use Rattle.dir_tree.specs.tree.Trees.{is_named, named_in, has_below, taken_out}
use Rattle.dir_tree.proofs.TreeTheorems.{found_by_own_name}
use Rattle.acdf_filters.specs.aci_item.Rules.{IsGoodTree}
use Rattle.acdf_filters.specs.aci_item.declared.permission.Permission.TheVariants.{Remove}
use Rattle.acdf_filters.specs.declared.asking.Requester.{Requester}
use Rattle.acdf_filters.specs.Asking.{Entry}
use Rattle.acdf_filters.specs.Granted.{granted}
use Rattle.ldap_msg.specs.declared.kinds.DeleteRequest.{DeleteRequest}
use Rattle.op_add_delete.specs.directory.Targets.{is_suffix}
use Rattle.op_add_delete.specs.Deleting.{delete_refusal}
use Rattle.op_add_delete.specs.adding.Updates.{Made, left_by, unless, deleted_target, deleted_named, deleted}
use Rattle.op_add_delete.proofs.Theorems.{unless-good, unless-made}
use Rattle.change_laws.specs.Granting.{MayDelete}
use Rattle.op_add_delete.proofs.ldif_load_proofs.schema_rules_proofs.Theorems.{AreGood-taken_out}
use Rattle.ldap_msg.proofs.plain_values_proofs.Theorems.{none_of, none_from, not_when, when_not}

-- the suffix stays where another entry is taken out
kept_first : (mine : Bool) (first : EntryInformation) (later : List EntryInformation) → mine ≡ false → (if not mine then first ∷ later else later) ≢ []
kept_first true first later other is = absurd cc
kept_first false first later other is = cc

some_left : (name : RdnSequence) (entries : List EntryInformation) → entries ≢ [] → is_suffix name entries ≡ false → taken_out name entries ≢ []
some_left name [] some other = some
some_left name (first ∷ rest) some other = kept_first (is_named name first) first (taken_out name rest) other

-- what a target meets that is deleted
record IsDeletable (entries : List EntryInformation) (who : Requester) (target : EntryInformation) : Type 0 where
  allowed : granted entries who target Entry Remove ≡ true
  other : is_suffix target.name entries ≡ false
  alone : has_below target.name entries ≡ false

IsDeletable-unrefused :
    (entries : List EntryInformation) (who : Requester) (name : RdnSequence) (target : EntryInformation)
    → delete_refusal entries who name target ≡ None → IsDeletable entries who target
unfolding delete_refusal
IsDeletable-unrefused entries who name target none =
    let first = none_of _ _ none in
    let second = none_of _ _ first.1 in
    let third = none_of _ _ second.1 in
    record {
      allowed = not-false _ (not_when _ _ first.0);
      other = not_when _ _ second.0;
      alone = not_when _ _ third.0;
    }

unrefused-IsDeletable :
    (entries : List EntryInformation) (who : Requester) (name : RdnSequence) (target : EntryInformation)
    → IsDeletable entries who target → delete_refusal entries who name target ≡ None
unfolding delete_refusal
unrefused-IsDeletable entries who name target is =
    none_from _ _ (when_not _ _ (not_from_true _ is.allowed))
    (none_from _ _ (when_not _ _ is.other) (none_from _ _ (when_not _ _ is.alone) refl))

-- a good tree stays good
good-deleted_target :
    (entries : List EntryInformation) (who : Requester) (name : RdnSequence) (found : Option EntryInformation)
    → named_in name entries ≡ found → IsGoodTree entries → IsGoodTree (left_by entries (deleted_target entries who name found))
good-deleted_target entries who name None is good = good
good-deleted_target entries who name (Some target) is good =
    unless-good (delete_refusal entries who name target) entries (taken_out target.name entries) good (λ none.
    let may = IsDeletable-unrefused entries who name target none in
    record {
      some = some_left target.name entries good.some may.other;
      good = AreGood-taken_out target entries good.good (found_by_own_name name target entries is) may.alone;
    })

good-deleted_named :
    (entries : List EntryInformation) (who : Requester) (found : Result RdnSequence BadName) → IsGoodTree entries
    → IsGoodTree (left_by entries (deleted_named entries who found))
good-deleted_named entries who (Err bad) good = good
good-deleted_named entries who (Ok []) good = good
good-deleted_named entries who (Ok (rdn ∷ rdns)) good =
    good-deleted_target entries who (rdn ∷ rdns) (named_in (rdn ∷ rdns) entries) refl good

pub good-deleted :
    (entries : List EntryInformation) (who : Requester) (request : DeleteRequest) → IsGoodTree entries
    → IsGoodTree (left_by entries (deleted entries who request))
unfolding deleted
good-deleted entries who request good = good-deleted_named entries who (read_name request.name) good

-- what nothing refuses is done
deleted_by :
    (entries : List EntryInformation) (who : Requester) (request : DeleteRequest) (name : RdnSequence) (target : EntryInformation)
    → read_name request.name ≡ Ok name → name ≢ [] → named_in name entries ≡ Some target
    → delete_refusal entries who name target ≡ None
    → deleted entries who request ≡ Made (taken_out target.name entries)
unfolding deleted
deleted_by entries who request [] target read some found none = absurd (some refl)
deleted_by entries who request (rdn ∷ rdns) target read some found none =
    ap (deleted_named entries who) read
    ∙ ap (deleted_target entries who (rdn ∷ rdns)) found
    ∙ ap (λ refusal. unless refusal (taken_out target.name entries)) none

pub deleted-may :
    (entries : List EntryInformation) (who : Requester) (request : DeleteRequest) (target : EntryInformation)
    → MayDelete entries who request target → deleted entries who request ≡ Made (taken_out target.name entries)
deleted-may entries who request target may =
    deleted_by entries who request may.name target may.name_read may.named may.found
    (unrefused-IsDeletable entries who may.name target (record { allowed = may.allowed; other = may.other; alone = may.alone }))

-- and what was done was granted
may-deleted_target :
    (entries : List EntryInformation) (who : Requester) (request : DeleteRequest) (name : RdnSequence) (found : Option EntryInformation)
    (after : List EntryInformation)
    → read_name request.name ≡ Ok name → name ≢ [] → named_in name entries ≡ found
    → deleted_target entries who name found ≡ Made after
    → (target : EntryInformation) × MayDelete entries who request target
may-deleted_target entries who request name None after read some is made = absurd cc
may-deleted_target entries who request name (Some target) after read some is made =
    let may = IsDeletable-unrefused entries who name target
    (unless-made (delete_refusal entries who name target) (taken_out target.name entries) after made) in (
      target,
      record {
        name = name;
        name_read = read;
        named = some;
        found = is;
        allowed = may.allowed;
        other = may.other;
        alone = may.alone;
      },
    )

may-deleted_named :
    (entries : List EntryInformation) (who : Requester) (request : DeleteRequest) (found : Result RdnSequence BadName)
    (after : List EntryInformation)
    → read_name request.name ≡ found → deleted_named entries who found ≡ Made after
    → (target : EntryInformation) × MayDelete entries who request target
may-deleted_named entries who request (Err bad) after read made = absurd cc
may-deleted_named entries who request (Ok []) after read made = absurd cc
may-deleted_named entries who request (Ok (rdn ∷ rdns)) after read made =
    may-deleted_target entries who request (rdn ∷ rdns) (named_in (rdn ∷ rdns) entries) after read (λ none. cc) refl made

pub may-deleted :
    (entries : List EntryInformation) (who : Requester) (request : DeleteRequest) (after : List EntryInformation)
    → deleted entries who request ≡ Made after
    → (target : EntryInformation) × MayDelete entries who request target
unfolding deleted
may-deleted entries who request after made = may-deleted_named entries who request (read_name request.name) after refl made
