-- Lemmas on the types of the schema: each text that names one may stand in a record.
use Rattle.std.proofs.Common.{◌≡◌, ℕ, ◌==◌, ◌&&◌, ◌||◌, not, sym, ◌∙◌, ap, subst, refl, arith, true, false, List, [], ◌∷◌, map, Option, Some, IsTrue, IsSomeAnd, inl, inr}
use Rattle.std.specs.Prelude.{codes}
use Rattle.std.specs.Char.{is_ascii_alphabetic, is_ascii_alphanumeric, to_ascii_lowercase}
use Rattle.std.specs.List.{list_all}
use Rattle.std.specs.Option.{option_map_or}
use Rattle.std.specs.Str.{bytes_eq, str_to_ascii_lowercase as lower}
use Rattle.std.proofs.lemmas.Bool.{and_parts, or_cases, not-true}
use Rattle.std.proofs.lemmas.Bool.Decides.{nat_tests}
use Rattle.std.proofs.lemmas.Slice.Eq.{bytes_eq-Decides}
use Rattle.dir_tree.specs.schema_tables.Attributes.{Attribute, attributes, attribute_at, attr_of, IsAttrId}
use Rattle.dir_tree.specs.schema_tables.Naming.{is_keystring, is_same_name}
use Rattle.dir_tree.specs.schema_tables.Oids.{is_dotted_oid}
use Rattle.dir_tree.proofs.schema_tables_proofs.Theorems.{NamesAttribute-from_attr_of, IsAttrId-from_attr_of, attribute_at-Some, is_keystring-name_of}
use Rattle.dir_tree.proofs.base_laws_proofs.Theorems.{passes_at}
use Rattle.ldif_records.specs.Fields.{is_kind, is_changetype}
use Rattle.ldif_records.proofs.Theorems.{not_changetype-name_of}
use Rattle.change_records.specs.Laws.{CanBeWritten}
use Rattle.change_records.proofs.laws.KindLemmas.{keystring-kind}

-- the case of letters makes no difference to a keystring
alphabetic-lower : (octet : ℕ) → is_ascii_alphabetic (to_ascii_lowercase octet) ≡ is_ascii_alphabetic octet
alphabetic-lower octet = grind (arith, nat_tests)

key-lower : (octet : ℕ) → (is_ascii_alphanumeric (to_ascii_lowercase octet) || (to_ascii_lowercase octet == 45)) ≡ (is_ascii_alphanumeric octet || (octet == 45))
key-lower octet = grind (arith, nat_tests)

keys-lower : (xs : List ℕ) → list_all (λ octet. is_ascii_alphanumeric octet || octet == 45) (map to_ascii_lowercase xs) ≡ list_all (λ octet. is_ascii_alphanumeric octet || octet == 45) xs
keys-lower [] = refl
keys-lower (x ∷ xs) =
    ap (λ first. first && list_all (λ octet. is_ascii_alphanumeric octet || octet == 45) (map to_ascii_lowercase xs)) (key-lower x)
    ∙ ap (λ rest. (is_ascii_alphanumeric x || x == 45) && rest) (keys-lower xs)

keystring-lower : (xs : List ℕ) → is_keystring (map to_ascii_lowercase xs) ≡ is_keystring xs
keystring-lower [] = refl
keystring-lower (x ∷ xs) =
    ap (λ first. first && list_all (λ octet. is_ascii_alphanumeric octet || octet == 45) (map to_ascii_lowercase xs)) (alphabetic-lower x)
    ∙ ap (λ rest. is_ascii_alphabetic x && rest) (keys-lower xs)

-- a text that is a name but for case
same-name : (name text : List ℕ) → is_same_name name text ≡ true → lower name ≡ lower text
same-name name text = (bytes_eq-Decides (lower name) (lower text)).0

name-written : (name text : List ℕ) → is_same_name name text ≡ true → is_keystring name ≡ true → is_changetype name ≡ false → CanBeWritten text
unfolding is_changetype
name-written name text same key other =
    let letters = same-name name text same in
    record {
      kind = keystring-kind text (sym (keystring-lower text) ∙ ap is_keystring (sym letters) ∙ keystring-lower name ∙ key);
      other = ap (λ letters. bytes_eq letters (lower (codes "changetype"))) (sym letters) ∙ other;
    }

-- the object identifiers of the table
oids-written : list_all (λ (row : Attribute). is_kind row.oid && not (is_changetype row.oid)) attributes ≡ true
unfolding attributes is_kind is_dotted_oid is_changetype
oids-written = refl

oid-written : (oid text : List ℕ) → bytes_eq oid text ≡ true → (is_kind oid && not (is_changetype oid)) ≡ true → CanBeWritten text
oid-written oid text same both =
    let is = (bytes_eq-Decides oid text).0 same in
    let parts = and_parts (is_kind oid) (not (is_changetype oid)) both in
    subst CanBeWritten is (record { kind = parts.0; other = not-true (is_changetype oid) parts.1 })

row-written : (text : List ℕ) (number : ℕ) (row : Attribute) → IsAttrId number → attribute_at number ≡ Some row → IsTrue (is_same_name row.name text || bytes_eq row.oid text) → CanBeWritten text
row-written text number row is there names =
    let name = ap (λ found. option_map_or (λ (row : Attribute). row.name) found []) there in
    elim (or_cases (is_same_name row.name text) (bytes_eq row.oid text) names) [
      | inl same ↦
          name-written row.name text same (sym (ap is_keystring name) ∙ is_keystring-name_of number is) (sym (ap is_changetype name) ∙ not_changetype-name_of number is)
      | inr same ↦ oid-written row.oid text same (passes_at (λ (row : Attribute). is_kind row.oid && not (is_changetype row.oid)) attributes number row oids-written there)
    ]

pub known-written : (text : List ℕ) (number : ℕ) → attr_of text ≡ Some number → CanBeWritten text
known-written text number found =
    let is = IsAttrId-from_attr_of text number found in
    let row = attribute_at-Some number is in
    row-written text number row.0 is row.1 (subst (λ (found : Option Attribute). IsSomeAnd found (λ row. IsTrue (is_same_name row.name text || bytes_eq row.oid text))) row.1 (NamesAttribute-from_attr_of text number found))
