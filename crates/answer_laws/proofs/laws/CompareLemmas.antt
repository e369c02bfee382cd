-- What a compare that is granted is answered.
use Rattle.std.proofs.Common.{◌≡◌, ◌≢◌, ◌⊎◌, inl, inr, ℕ, true, List, [], ◌∷◌, Some, refl, ap, ◌∙◌, map, filter}
use Rattle.std.proofs.lemmas.Bool.{cases_Bool}
use Rattle.dir_tree.specs.dn_names.name.Names.{Keyed, RdnSequence}
use Rattle.dir_tree.specs.Entry.{EntryInformation, has_kind}
use Rattle.dir_tree.specs.tree.Trees.{is_named, named_in}
use Rattle.acdf_filters.specs.aci_item.declared.permission.Permission.TheVariants.{Read, Compare}
use Rattle.acdf_filters.specs.declared.asking.Requester.{Requester}
use Rattle.acdf_filters.specs.Asking.{Entry, Kind}
use Rattle.acdf_filters.specs.Granted.{granted}
use Rattle.ldap_msg.specs.declared.operations.ResultCode.TheVariants as code
use Rattle.ldap_msg.specs.declared.kinds.LdapResult.{LdapResult}
use Rattle.ldap_msg.specs.declared.kinds.CompareRequest.{CompareRequest}
use Rattle.read_model.specs.Views.{Row, View, row_of, view_of, result_of}
use Rattle.read_model.specs.CompareReplies.{has_equal, compared, readable, compared_in, compared_value, compared_kind, compared_by, compare_result}
use Rattle.answer_laws.specs.Complete.{IsComparable}

-- the compare was done
abbrev pub IsCompared : LdapResult → Type 0
IsCompared result = (result ≡ result_of code.CompareTrue) ⊎ (result ≡ result_of code.CompareFalse)

-- on an entry that has the attribute, whose type may be compared
compared-granted : (kind : ℕ) (asserted : Keyed) (row : Row) → row.allows (Kind kind) Compare ≡ true
    → has_kind kind row.entry.attributes ≡ true → IsCompared (compared kind asserted row)
unfolding compared
compared-granted kind asserted row allowed there = elim (cases_Bool (has_equal kind asserted row)) [
  | inl e ↦ inl (rw (allowed, there, e) refl)
  | inr e ↦ inr (rw (allowed, there, e) refl)
]

-- the entry of the name, which may be read, is the first row that is looked at
compared_in-found : (all : List EntryInformation) (who : Requester) (view : View) (name : RdnSequence) (kind : ℕ)
    (asserted : Keyed) (entry : EntryInformation) → granted all who entry Entry Read ≡ true → (entries : List EntryInformation)
    → named_in name entries ≡ Some entry
    → compared_in view name kind asserted (filter (readable name) (map (row_of all who) entries))
    ≡ compared kind asserted (row_of all who entry)
compared_in-found all who view name kind asserted entry reads [] found = absurd cc
compared_in-found all who view name kind asserted entry reads (first ∷ rest) found = elim (cases_Bool (is_named name first)) [
  | inl e ↦ (let is : Some first ≡ Some entry = rw e at found in let same : first ≡ entry = cc in
      rw (e, ap (λ one. granted all who one Entry Read) same ∙ reads) (ap (λ one. compared kind asserted (row_of all who one)) same))
  | inr e ↦ rw e (compared_in-found all who view name kind asserted entry reads rest (rw e at found))
]

compared_value-found : (entries : List EntryInformation) (who : Requester) (name : RdnSequence) (kind : ℕ) (asserted : Keyed)
    (entry : EntryInformation) → name ≢ [] → named_in name entries ≡ Some entry → granted entries who entry Entry Read ≡ true
    → compared_value (view_of entries who) name kind (Some asserted) ≡ compared kind asserted (row_of entries who entry)
compared_value-found entries who [] kind asserted entry filled found reads = absurd (filled refl)
compared_value-found entries who (rdn ∷ rdns) kind asserted entry filled found reads =
    compared_in-found entries who (view_of entries who) (rdn ∷ rdns) kind asserted entry reads entries found

compare_result-found : (entries : List EntryInformation) (who : Requester) (request : CompareRequest)
    → (c : IsComparable entries who request)
    → compare_result (view_of entries who) request ≡ compared c.kind c.asserted (row_of entries who c.entry)
unfolding compare_result
compare_result-found entries who request c =
    ap (compared_by (view_of entries who) request) c.reads
    ∙ ap (compared_kind (view_of entries who) c.name request.value) c.known
    ∙ ap (compared_value (view_of entries who) c.name c.kind) c.fits
    ∙ compared_value-found entries who c.name c.kind c.asserted c.entry c.filled c.named c.readable

pub compare_result-granted : (entries : List EntryInformation) (who : Requester) (request : CompareRequest)
    → IsComparable entries who request → IsCompared (compare_result (view_of entries who) request)
compare_result-granted entries who request c =
    rw (compare_result-found entries who request c)
    (compared-granted c.kind c.asserted (row_of entries who c.entry) c.compared c.there)
