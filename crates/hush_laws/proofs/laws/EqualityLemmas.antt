-- The tests of equal entries decide.
use Rattle.std.proofs.Common.{◌≡◌, ◌==◌, Bool, List, refl, ap, ap₂}
use Rattle.std.specs.Bool.{Decides}
use Rattle.std.specs.Str.{bytes_eq}
use Rattle.std.specs.Cmp.Lexicographic.{pointwise}
use Rattle.std.proofs.lemmas.Bool.Decides.{Decides-eqb, Decides-and, Decides-like}
use Rattle.std.proofs.lemmas.Slice.Eq.{bytes_eq-Decides, slice_eq-Decides}
use Rattle.dir_tree.specs.dn_names.name.Names.{Keyed, TypeAndValue, RdnSequence}
use Rattle.dir_tree.specs.Entry.{Attribute, EntryInformation}
use Rattle.hush_laws.specs.Equality.{are_equal_values, are_equal_pairs, are_equal_names, are_equal_attributes, are_equal_entries, are_all_equal}

-- lists, where their elements do
lists : {A : Type 0} (E : A → A → Bool) → ((a b : A) → Decides (E a b) (a ≡ b)) → (xs ys : List A) → Decides (pointwise E xs ys) (xs ≡ ys)
lists E decides xs ys = slice_eq-Decides decides xs ys (pointwise E xs ys) refl

values-decide : (a b : Keyed) → Decides (are_equal_values a b) (a ≡ b)
values-decide a b =
    Decides-like (are_equal_values a b) (λ h. ap₂ (λ octets key. record { octets = octets; key = key }) h.0 h.1)
    (λ e. (ap (λ (value : Keyed). value.octets) e, ap (λ (value : Keyed). value.key) e))
    (Decides-and (bytes_eq a.octets b.octets) (bytes_eq a.key b.key) (bytes_eq-Decides a.octets b.octets) (bytes_eq-Decides a.key b.key))

pairs-decide : (a b : TypeAndValue) → Decides (are_equal_pairs a b) (a ≡ b)
pairs-decide a b =
    Decides-like (are_equal_pairs a b) (λ h. ap₂ (λ kind value. record { kind = kind; value = value }) h.0 h.1)
    (λ e. (ap (λ (pair : TypeAndValue). pair.kind) e, ap (λ (pair : TypeAndValue). pair.value) e))
    (Decides-and (a.kind == b.kind) (are_equal_values a.value b.value) (Decides-eqb a.kind b.kind) (values-decide a.value b.value))

names-decide : (a b : RdnSequence) → Decides (are_equal_names a b) (a ≡ b)
names-decide = lists (pointwise are_equal_pairs) (lists are_equal_pairs pairs-decide)

attributes-decide : (a b : Attribute) → Decides (are_equal_attributes a b) (a ≡ b)
attributes-decide a b =
    Decides-like (are_equal_attributes a b) (λ h. ap₂ (λ kind values. record { kind = kind; values = values }) h.0 h.1)
    (λ e. (ap (λ (attribute : Attribute). attribute.kind) e, ap (λ (attribute : Attribute). attribute.values) e))
    (Decides-and (a.kind == b.kind) (pointwise are_equal_values a.values b.values) (Decides-eqb a.kind b.kind) (lists are_equal_values values-decide a.values b.values))

entries-decide : (a b : EntryInformation) → Decides (are_equal_entries a b) (a ≡ b)
entries-decide a b =
    Decides-like (are_equal_entries a b) (λ h. ap₂ (λ name attributes. record { name = name; attributes = attributes }) h.0 h.1)
    (λ e. (ap (λ (entry : EntryInformation). entry.name) e, ap (λ (entry : EntryInformation). entry.attributes) e))
    (Decides-and (are_equal_names a.name b.name) (pointwise are_equal_attributes a.attributes b.attributes) (names-decide a.name b.name) (lists are_equal_attributes attributes-decide a.attributes b.attributes))

pub are_all_equal-decide : (one other : List EntryInformation) → Decides (are_all_equal one other) (one ≡ other)
are_all_equal-decide = lists are_equal_entries entries-decide
