-- What an example unfolds to compute the definitions of this crate on a literal.
use Rattle.std.specs.Prelude.{⊤}
use Rattle.base64.proofs.OnLiterals.{base64_on_literals}
use Rattle.dir_tree.specs.schema_tables.Oids.{is_dotted_oid}
use Rattle.ldif_records.specs.lines.Lines.{continued, beginning, logical}
use Rattle.ldif_records.specs.Fields.{is_kind, field_of, after_spaces, decoded, is_changetype, is_dn}
use Rattle.ldif_records.specs.reading.Records.{without_comments, is_version, without_version, attribute_lines, record_of, records}
use Rattle.ldif_records.specs.lines.Places.{physical_from, logical_from, content_from, body_from, records_from}
use Rattle.ldif_records.specs.writing.Written.{is_plain, written_value}

unfoldable pub ldif_on_literals : ⊤
unfolding base64_on_literals is_dotted_oid continued beginning logical is_kind field_of after_spaces decoded is_changetype is_dn without_comments is_version without_version attribute_lines record_of records physical_from logical_from content_from body_from records_from is_plain written_value
ldif_on_literals = tt
