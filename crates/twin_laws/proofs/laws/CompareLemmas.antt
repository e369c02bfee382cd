-- What a compare is answered over a view without rows that show nothing: what it is answered over the view.
use Rattle.std.proofs.Common.{◌≡◌, ℕ, false, List, [], ◌∷◌, Option, Some, None, Result, Ok, Err, refl, ap, ◌∙◌, filter}
use Rattle.std.proofs.lemmas.Bool.{and_right}
use Rattle.dir_tree.proofs.base_laws_proofs.Theorems.{filter-filter_kept}
use Rattle.dir_tree.specs.schema_tables.Attributes.{attr_of}
use Rattle.dir_tree.specs.dn_names.name.Names.{Keyed, RdnSequence}
use Rattle.dir_tree.specs.dn_names.declared.error.BadName.{BadName}
use Rattle.dir_tree.specs.dn_names.parsing.NameText.{read_name}
use Rattle.dir_tree.specs.dn_names.NameValues.{value_of}
use Rattle.acdf_filters.specs.aci_item.declared.permission.Permission.TheVariants.{Read}
use Rattle.acdf_filters.specs.Asking.{Entry}
use Rattle.ldap_msg.specs.declared.kinds.CompareRequest.{CompareRequest}
use Rattle.read_model.specs.Views.{Row, View, has_name}
use Rattle.read_model.specs.CompareReplies.{readable, compared_in, compared_value, compared_kind, compared_by, compare_result}
use Rattle.twin_laws.specs.Twins.{rows_outside}
use Rattle.twin_laws.proofs.laws.SeenLemmas.{IsHidden, AreHidden, none_out, is_left, hidden-outside}

-- what a compare is answered stays
compared_in-outside : (top : RdnSequence) (view : View) → AreHidden top view
    → (name : RdnSequence) (kind : ℕ) (asserted : Keyed) (rows : List Row)
    → compared_in (rows_outside top view) name kind asserted rows ≡ compared_in view name kind asserted rows
compared_in-outside top view h name kind asserted [] = hidden-outside top view h name
compared_in-outside top view h name kind asserted (row ∷ rows) = refl

readable-outside : (top : RdnSequence) (view : View) → AreHidden top view → (name : RdnSequence)
    → filter (readable name) (rows_outside top view) ≡ filter (readable name) view
readable-outside top view h name =
    filter-filter_kept (readable name) (is_left top) view (none_out top (readable name) view unread h)
  where
    unread : (row : Row) → IsHidden row → readable name row ≡ false
    unread row hides = and_right (has_name name row) (row.allows Entry Read) hides.read

compared_value-outside : (top : RdnSequence) (view : View) → AreHidden top view
    → (name : RdnSequence) (kind : ℕ) (asserted : Option Keyed)
    → compared_value (rows_outside top view) name kind asserted ≡ compared_value view name kind asserted
compared_value-outside top view h name kind None = refl
compared_value-outside top view h [] kind (Some asserted) = refl
compared_value-outside top view h (rdn ∷ rdns) kind (Some asserted) =
    ap (compared_in (rows_outside top view) (rdn ∷ rdns) kind asserted) (readable-outside top view h (rdn ∷ rdns))
    ∙ compared_in-outside top view h (rdn ∷ rdns) kind asserted (filter (readable (rdn ∷ rdns)) view)

compared_kind-outside : (top : RdnSequence) (view : View) → AreHidden top view
    → (name : RdnSequence) (octets : List ℕ) (kind : Option ℕ)
    → compared_kind (rows_outside top view) name octets kind ≡ compared_kind view name octets kind
compared_kind-outside top view h name octets None = refl
compared_kind-outside top view h name octets (Some kind) = compared_value-outside top view h name kind (value_of kind octets)

compared_by-outside : (top : RdnSequence) (view : View) → AreHidden top view
    → (request : CompareRequest) (name : Result RdnSequence BadName)
    → compared_by (rows_outside top view) request name ≡ compared_by view request name
compared_by-outside top view h request (Err bad) = refl
compared_by-outside top view h request (Ok name) = compared_kind-outside top view h name request.value (attr_of request.kind)

pub compare_result-outside : (top : RdnSequence) (view : View) → AreHidden top view → (request : CompareRequest)
    → compare_result (rows_outside top view) request ≡ compare_result view request
unfolding compare_result
compare_result-outside top view h request = compared_by-outside top view h request (read_name request.name)
