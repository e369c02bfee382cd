-- What is read of a rename request: an RDN, and a new superior below which another may stand.
use Rattle.std.proofs.Common.{◌≡◌, ◌≢◌, ◌⊎◌, inl, inr, ℕ, ◌<◌, ◌==◌, true, false, List, [], ◌∷◌, length, Option, Some, None, Result, Ok, Err, if◌then◌else◌, refl, sym, ap, subst, ◌∙◌, arith}
use Rattle.std.specs.Prelude.{nat_lt}
use Rattle.std.specs.Option.{option_map, option_and_then}
use Rattle.std.specs.Result.{result_ok}
use Rattle.std.proofs.lemmas.Bool.{cases_Bool, cond-true, cond-false, ltb-true}
use Rattle.std.proofs.lemmas.Bool.Decides.{nat_tests}
use Rattle.std.proofs.lemmas.Option.{same_Some}
use Rattle.dir_tree.specs.dn_names.name.Names.{RdnSequence}
use Rattle.dir_tree.specs.dn_names.NameOrder.{is_same}
use Rattle.dir_tree.specs.dn_names.parsing.NameText.{read_name, read_rdn}
use Rattle.dir_tree.specs.dn_names.declared.error.BadName.{BadName}
use Rattle.dir_tree.specs.Entry.{EntryInformation}
use Rattle.dir_tree.specs.tree.Trees.{superior_name}
use Rattle.acdf_filters.specs.declared.asking.Requester.{Requester}
use Rattle.change_laws.specs.op_modify.ldap_msg.declared.operations.ResultCode.TheVariants as code
use Rattle.change_laws.specs.op_modify.ldap_msg.declared.kinds.RenameRequest.{RenameRequest}
use Rattle.op_add_delete.specs.read_model.Views.{result_of}
use Rattle.change_laws.specs.op_modify.declared.renaming.Renaming.{Renaming}
use Rattle.change_laws.specs.op_modify.ReadRenames.{with_room, read_superior, new_superior, read_renaming}
use Rattle.change_laws.specs.op_modify.Renames.{renamed_by, renamed}

-- a superior that is new was given
given_superior :
    (name : RdnSequence) (given : Option RdnSequence) (superior : RdnSequence) → new_superior name given ≡ Some superior
    → given ≡ Some superior
given_superior name None superior is = absurd cc
given_superior name (Some given) superior is =
    (elim (is_same (superior_name name) given) as (λ same. (if same then None else Some given) ≡ Some superior → Some given ≡ Some superior) [
      | true ↦ λ (is : None ≡ Some superior). absurd cc
      | false ↦ λ is. is
    ]) is

-- below one that is given another may stand
room_found :
    (found : Option RdnSequence) (superior : RdnSequence)
    → option_map (λ name. Some name) (option_and_then with_room found) ≡ Some (Some superior) → length superior < 64
room_found None superior is = absurd cc
room_found (Some name) superior is = by (cases_Bool (nat_lt (length name) 64))
  where
    by : ((nat_lt (length name) 64 ≡ true) ⊎ (nat_lt (length name) 64 ≡ false)) → length superior < 64
    by (inl e) =
        let kept = ap (option_map (λ (name : RdnSequence). Some name)) (cond-true (nat_lt (length name) 64) (Some name) None e) in
        let both : Some (Some name) ≡ Some (Some superior) = sym kept ∙ is in
        let same : name ≡ superior = same_Some name superior (same_Some (Some name) (Some superior) both) in
        subst (λ (name : RdnSequence). length name < 64) same (ltb-true (length name) 64 e)
    by (inr e) =
        let none = ap (option_map (λ (name : RdnSequence). Some name)) (cond-false (nat_lt (length name) 64) (Some name) None e) in
        let clash : None ≡ Some (Some superior) = sym none ∙ is in
        absurd cc

room_given :
    (given : Option (List ℕ)) (superior : RdnSequence) → read_superior given ≡ Some (Some superior) → length superior < 64
room_given None superior is = absurd cc
room_given (Some text) superior is = room_found (result_ok (read_name text)) superior is

-- what is read is an RDN, and below a new superior another may stand
pub record IsRead (request : RenameRequest) (renaming : Renaming) : Type 0 where
  pub rdn_read : read_rdn request.new_rdn ≡ Ok renaming.rdn
  pub room : (superior : RdnSequence) → renaming.superior ≡ Some superior → length superior < 64

module _ (request : RenameRequest) (renaming : Renaming) where
  by_superior :
      (name rdn : RdnSequence) (found : Option (Option RdnSequence)) → read_rdn request.new_rdn ≡ Ok rdn → read_superior request.superior ≡ found
      → option_map (λ given. record { name = name; rdn = rdn; delete_old = request.delete_old; superior = new_superior name given }) found ≡ Some renaming
      → IsRead request renaming
  by_superior name rdn None rdn_is given_is is = absurd cc
  by_superior name rdn (Some given) rdn_is given_is is =
      let one : Renaming = record { name = name; rdn = rdn; delete_old = request.delete_old; superior = new_superior name given } in
      subst (IsRead request) (same_Some one renaming is) (record {
        rdn_read = rdn_is;
        room = λ superior new. room_given request.superior superior (given_is ∙ ap (λ (given : Option RdnSequence). Some given) (given_superior name given superior new));
      })

  by_rdn :
      (name : RdnSequence) (found : Result RdnSequence BadName) → read_rdn request.new_rdn ≡ found
      → option_and_then (λ rdn. option_map
      (λ given. record { name = name; rdn = rdn; delete_old = request.delete_old; superior = new_superior name given })
      (read_superior request.superior)) (result_ok found) ≡ Some renaming
      → IsRead request renaming
  by_rdn name (Err fault) rdn_is is = absurd cc
  by_rdn name (Ok rdn) rdn_is is = by_superior name rdn (read_superior request.superior) rdn_is refl is

  by_name :
      (found : Result RdnSequence BadName)
      → option_and_then (λ name. option_and_then (λ rdn. option_map
      (λ given. record { name = name; rdn = rdn; delete_old = request.delete_old; superior = new_superior name given })
      (read_superior request.superior)) (result_ok (read_rdn request.new_rdn))) (result_ok found) ≡ Some renaming
      → IsRead request renaming
  by_name (Err fault) is = absurd cc
  by_name (Ok name) is = by_rdn name (read_rdn request.new_rdn) refl is

  pub IsRead-read : read_renaming request ≡ Some renaming → IsRead request renaming
  unfolding read_renaming
  IsRead-read is = by_name (read_name request.name) is
