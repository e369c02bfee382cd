-- The values that the lines of a record may have.
use Rattle.std.specs.Prelude.{ℕ, ◌==◌, ◌&&◌, ◌||◌, nat_le, not, Bool, true, List, length, codes, Option, Some, None, is_some, is_ok, if◌then◌else◌}
use Rattle.std.specs.Char.{is_ascii_digit}
use Rattle.std.specs.List.{list_all}
use Rattle.std.specs.Str.{bytes_eq}
use Rattle.std.specs.Str.Parse.{digits_value}
use Rattle.filter_text.specs.Reading.{filter_in}
use Rattle.ldif_records.specs.Fields.{is_kind}
use Rattle.client_core.specs.declared.rows.Cell.{Cell}
use Rattle.client_core.specs.declared.rows.Cell.TheVariants.{Password, Scope, Limit, Only, Subentries, Filter, Select, Attribute, Change, ChangeOrValue, NewRdn, Keep, NewSuperior}
use Rattle.client_core.specs.Rows.{is_value}

-- the text is one of these (RFC 4511 4.5.1.2)
abbrev pub is_scope : List ℕ → Bool
is_scope text = bytes_eq text (codes "base") || bytes_eq text (codes "one") || bytes_eq text (codes "sub")

-- the text is a truth value
abbrev pub is_truth : List ℕ → Bool
is_truth text = bytes_eq text (codes "TRUE") || bytes_eq text (codes "FALSE")

-- the number, where it is at most maxInt (RFC 4511 4.1.1)
abbrev pub in_range : ℕ → Option ℕ
in_range number = if nat_le number 2147483647 then Some number else None

-- there are one to ten octets, and all are digits
abbrev pub are_digits : List ℕ → Bool
are_digits text = not (length text == 0) && nat_le (length text) 10 && list_all is_ascii_digit text

-- the number that one to ten digits write
unfoldable pub limit_in : List ℕ → Option ℕ
limit_in text = if are_digits text then in_range (digits_value 10 text) else None

-- a line of the type, which may stand in the cell, may have the value
abbrev pub accepts : Cell → List ℕ → List ℕ → Bool
accepts Password kind value = true
accepts Scope kind value = is_scope value
accepts Limit kind value = is_some (limit_in value)
accepts Only kind value = bytes_eq value (codes "types")
accepts Subentries kind value = is_truth value
accepts Filter kind value = is_ok (filter_in value)
accepts Select kind value = true
accepts Attribute kind value = true
accepts Change kind value = is_kind value
accepts ChangeOrValue kind value = is_value kind || is_kind value
accepts NewRdn kind value = true
accepts Keep kind value = bytes_eq value (codes "TRUE")
accepts NewSuperior kind value = true
