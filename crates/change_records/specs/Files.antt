-- Files of changes: a head, which says of which data file the entries were changed, and the records of the changes.
use Rattle.std.specs.Prelude.{ℕ, nat_lt, if◌then◌else◌, List, ◌++◌, length, take, drop, codes, Option, Some, None, Result, Ok, Err}
use Rattle.std.specs.List.{flat_map}
use Rattle.std.specs.Result.{result_ok}
use Rattle.std.specs.Str.{bytes_eq}
use Rattle.hex.specs.Hex.{encode_lower, decode_sized}
use Rattle.dir_tree.specs.plain_values.Results.{◌>>=◌}
use Rattle.ldap_msg.specs.declared.kinds.Request.{Request}
use Rattle.ldif_records.specs.declared.types.Position.{Position}
use Rattle.ldif_records.specs.declared.types.LineCause.TheVariants.{Syntax}
use Rattle.ldif_records.specs.reading.Faults.{LineFault, Bad}
use Rattle.ldif_records.specs.lines.Places.{content_from}
use Rattle.change_records.specs.declared.types.RecordedChange.{RecordedChange}
use Rattle.change_records.specs.declared.types.ChangeFile.{ChangeFile}
use Rattle.change_records.specs.Written.{record_text}
use Rattle.change_records.specs.Reading.{changes_from}

-- the head: the version of the format (RFC 2849), a comment that has the SHA-256 of the data file in hexadecimal digits,
-- and an empty line
unfoldable pub head_text : List ℕ → List ℕ
head_text digest = codes "version: 1\n# of sha256 " ++ (encode_lower digest ++ codes "\n\n")

-- the place behind the head of a digest of 32 octets
abbrev pub head_end : Position
head_end = record { offset = 89; line = 4 }

-- the file of changes
unfoldable pub file_text : List ℕ → List Request → List ℕ
file_text digest changes = head_text digest ++ flat_map record_text changes

-- the digest, where the octets are its head
abbrev pub headed_by : List ℕ → Option (List ℕ) → Option (List ℕ)
headed_by octets None = None
headed_by octets (Some digest) = if bytes_eq octets (head_text digest) then Some digest else None

-- the digest of the head at the front of a text, if one stands there
unfoldable pub digest_of : List ℕ → Option (List ℕ)
digest_of text =
    if nat_lt (length text) 89 then None
    else headed_by (take 89 text) (result_ok (decode_sized (take 64 (drop 23 text)) 32))

-- what a file says: the digest and the changes
pub record Changes : Type 0 where
  pub digest : List ℕ
  pub changes : List RecordedChange

-- what the program holds
abbrev pub said_by : ChangeFile → Changes
said_by file = record { digest = file.digest; changes = file.changes.items }

-- the changes behind a head, if there is one; a text without one is bad at line 1
abbrev pub file_by : List ℕ → Option (List ℕ) → Result Changes LineFault
file_by text None = Err (Bad 1 Syntax)
file_by text (Some digest) =
    changes_from (content_from text head_end) >>= λ changes. Ok (record { digest = digest; changes = changes })

-- what the text of a file says, or its first bad line
unfoldable pub file_of : List ℕ → Result Changes LineFault
file_of text = file_by text (digest_of text)
