-- A new entry is refused exactly where one of the decisions on it is.
use Rattle.std.proofs.Common.{◌≡◌, ℕ, Bool, true, false, not, List, [], ◌∷◌, refl}
use Rattle.std.specs.List.{AllByRecursion, list_any}
use Rattle.std.proofs.lemmas.Bool.{or_parts, or_from, not-false, not_from_true}
use Rattle.dir_tree.specs.dn_names.name.Names.{Keyed}
use Rattle.dir_tree.specs.Entry.{Attribute, EntryInformation}
use Rattle.acdf_filters.specs.aci_item.declared.permission.Permission.{Permission}
use Rattle.acdf_filters.specs.aci_item.declared.permission.Permission.TheVariants.{Add}
use Rattle.acdf_filters.specs.Asking.{Protected, Entry, Kind, Value}
use Rattle.op_add_delete.specs.adding.Adding.{refuses_attribute, refuses_entry}
use Rattle.change_laws.specs.Granting.{MayAddAttribute, MayAddEach}

module _ (allows : Protected → Permission → Bool) where
  values-unrefused :
      (kind : ℕ) (values : List Keyed) → list_any (λ value. not (allows (Value kind value) Add)) values ≡ false
      → AllByRecursion (λ value. allows (Value kind value) Add ≡ true) values
  values-unrefused kind [] none = tt
  values-unrefused kind (value ∷ values) none =
      let parts = or_parts (not (allows (Value kind value) Add)) (list_any (λ value. not (allows (Value kind value) Add)) values) none in
      (not-false _ parts.0, values-unrefused kind values parts.1)

  unrefused-values :
      (kind : ℕ) (values : List Keyed) → AllByRecursion (λ value. allows (Value kind value) Add ≡ true) values
      → list_any (λ value. not (allows (Value kind value) Add)) values ≡ false
  unrefused-values kind [] all = refl
  unrefused-values kind (value ∷ values) all = or_from _ _ (not_from_true _ all.0) (unrefused-values kind values all.1)

  MayAddAttribute-unrefused : (attribute : Attribute) → refuses_attribute allows attribute ≡ false → MayAddAttribute allows attribute
  MayAddAttribute-unrefused attribute none =
      let parts = or_parts (not (allows (Kind attribute.kind) Add)) (list_any (λ value. not (allows (Value attribute.kind value) Add)) attribute.values) none in
      record { kind = not-false _ parts.0; values = values-unrefused attribute.kind attribute.values parts.1 }

  unrefused-MayAddAttribute : (attribute : Attribute) → MayAddAttribute allows attribute → refuses_attribute allows attribute ≡ false
  unrefused-MayAddAttribute attribute may =
      or_from _ _ (not_from_true _ may.kind) (unrefused-values attribute.kind attribute.values may.values)

  attributes-unrefused :
      (attributes : List Attribute) → list_any (refuses_attribute allows) attributes ≡ false
      → AllByRecursion (MayAddAttribute allows) attributes
  attributes-unrefused [] none = tt
  attributes-unrefused (attribute ∷ attributes) none =
      let parts = or_parts (refuses_attribute allows attribute) (list_any (refuses_attribute allows) attributes) none in
      (MayAddAttribute-unrefused attribute parts.0, attributes-unrefused attributes parts.1)

  unrefused-attributes :
      (attributes : List Attribute) → AllByRecursion (MayAddAttribute allows) attributes
      → list_any (refuses_attribute allows) attributes ≡ false
  unrefused-attributes [] all = refl
  unrefused-attributes (attribute ∷ attributes) all =
      or_from _ _ (unrefused-MayAddAttribute attribute all.0) (unrefused-attributes attributes all.1)

  pub MayAddEach-unrefused : (entry : EntryInformation) → refuses_entry allows entry ≡ false → MayAddEach allows entry
  unfolding refuses_entry
  MayAddEach-unrefused entry none =
      let parts = or_parts (not (allows Entry Add)) (list_any (refuses_attribute allows) entry.attributes) none in
      record { whole = not-false _ parts.0; attributes = attributes-unrefused entry.attributes parts.1 }

  pub unrefused-MayAddEach : (entry : EntryInformation) → MayAddEach allows entry → refuses_entry allows entry ≡ false
  unfolding refuses_entry
  unrefused-MayAddEach entry may = or_from _ _ (not_from_true _ may.whole) (unrefused-attributes entry.attributes may.attributes)
