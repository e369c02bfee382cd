-- What crates above may cite: what is written is read again, line by line and whole, how lines between empty ones are
-- read, and the types of the table stay as values come.
use Rattle.std.proofs.Common.{◌≡◌, ℕ, ◌==◌, refl, Bool, true, false, List, [], ◌∷◌}
use Rattle.dir_tree.specs.schema_tables.Attributes.{IsAttrId}
use Rattle.dir_tree.specs.dn_names.name.Names.{Keyed}
use Rattle.dir_tree.specs.Entry.{Attribute, EntryInformation, values_of, has_key}
use Rattle.dir_tree.specs.attributes.Changes.{put_value, with_value}
use Rattle.ldif_records.specs.writing.Written.{AreInTable}
pub use Rattle.ldif_records.proofs.content.AfterLemmas.{after_both}
pub use Rattle.ldif_records.proofs.content.ContentLemmas.{body-later, later-still, IsRead-blank}
pub use Rattle.ldif_records.proofs.reading.RecordLemmas.{before-blank, before-line, before-nil, after-blank, after-line, after-nil, lines-cons}
pub use Rattle.ldif_records.proofs.laws.OctetLemmas.{is_inside, list_all-join, keystring-inside, written-inside}
pub use Rattle.ldif_records.proofs.laws.WrittenLineLemmas.{SaysField, says, attribute-says, name-says, lines-inside, lines-written, IsRow, row-of, filled-of}
pub use Rattle.ldif_records.proofs.laws.WrittenFileLemmas.{content-read}
pub use Rattle.ldif_records.proofs.laws.TableNames.{not_changetype-name_of}
pub use Rattle.ldif_records.proofs.laws.OnLiterals.{ldif_on_literals}
pub use Rattle.ldif_records.proofs.laws.RereadLemmas.{file-reread, entry-reread, value-reread, decoded-exact}
pub use Rattle.ldif_records.proofs.laws.KindForms.{IsNext-kinds, is_kind-ascii}

put-in_table : (kind : ℕ) (value : Keyed) (first : Attribute) (rest : List Attribute) (same : Bool) → (kind == first.kind) ≡ same → AreInTable (first ∷ rest) → AreInTable (put_value kind value rest)
    → AreInTable (put_value kind value (first ∷ rest))
put-in_table kind value first rest true is was more = rw is was
put-in_table kind value first rest false is was more = rw is (was.0, more)

AreInTable-put_value : (kind : ℕ) (value : Keyed) (attributes : List Attribute) → IsAttrId kind → AreInTable attributes → AreInTable (put_value kind value attributes)
AreInTable-put_value kind value [] is was = (is, tt)
AreInTable-put_value kind value (first ∷ rest) is was = put-in_table kind value first rest (kind == first.kind) refl was (AreInTable-put_value kind value rest is was.1)

with-in_table : (kind : ℕ) (value : Keyed) (entry : EntryInformation) (there : Bool) → has_key value.key (values_of kind entry.attributes) ≡ there → IsAttrId kind → AreInTable entry.attributes
    → AreInTable (with_value kind value entry).attributes
with-in_table kind value entry true here is was = rw here was
with-in_table kind value entry false here is was = rw here (AreInTable-put_value kind value entry.attributes is was)

pub AreInTable-with_value : (kind : ℕ) (value : Keyed) (entry : EntryInformation) → IsAttrId kind → AreInTable entry.attributes → AreInTable (with_value kind value entry).attributes
AreInTable-with_value kind value entry is was = with-in_table kind value entry (has_key value.key (values_of kind entry.attributes)) refl is was
