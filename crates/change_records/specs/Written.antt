-- The records of changes (RFC 2849, ldif-change-record): the lines of a modify, an add, a delete and a modify DN.
use Rattle.std.specs.Prelude.{ℕ, Bool, if◌then◌else◌, List, [], ◌∷◌, ◌++◌, map, codes, Option, Some, None}
use Rattle.std.specs.List.{flat_map}
use Rattle.whole_blocks.specs.Blocks.{block_text}
use Rattle.ldap_msg.specs.declared.kinds.KindValues.{KindValues}
use Rattle.ldap_msg.specs.declared.kinds.ModifyOperation.{ModifyOperation}
use Rattle.ldap_msg.specs.declared.kinds.ModifyOperation.TheVariants.{Add, Delete, Replace, Other}
use Rattle.ldap_msg.specs.declared.kinds.Change.{Change}
use Rattle.ldap_msg.specs.declared.kinds.Request.{Request}
use Rattle.ldap_msg.specs.declared.kinds.Request.TheVariants as request
use Rattle.ldap_msg.specs.declared.kinds.Update.TheVariants as update
use Rattle.ldif_records.specs.writing.Written.{written_value}

-- a line of a type and a value, which stands as it is or in base64
abbrev pub row : List ℕ → List ℕ → List ℕ
row kind value = kind ++ written_value value

-- a line for each value of an attribute
abbrev pub value_rows : KindValues → List (List ℕ)
value_rows given = map (λ value. row given.kind value) given.values

-- what is done with a type (RFC 4511 4.6); no change by another operation is made, and so none is written
abbrev pub operation_word : ModifyOperation → List ℕ
operation_word Add = codes "add"
operation_word Delete = codes "delete"
operation_word Replace = codes "replace"
operation_word (Other other) = codes "replace"

-- the lines of one change of a modify: what is done with which type, the values, and a hyphen
abbrev pub change_rows : Change → List (List ℕ)
change_rows change = row (operation_word change.operation) change.body.kind ∷ (value_rows change.body ++ codes "-" ∷ [])

-- whether the values of the old RDN go
abbrev pub flag_word : Bool → List ℕ
flag_word delete_old = if delete_old then codes "1" else codes "0"

-- the line of the new superior, where there is one
abbrev pub superior_rows : Option (List ℕ) → List (List ℕ)
superior_rows None = []
superior_rows (Some superior) = row (codes "newsuperior") superior ∷ []

-- the lines of a new name
abbrev pub rename_rows : List ℕ → Bool → Option (List ℕ) → List (List ℕ)
rename_rows new_rdn delete_old superior =
    row (codes "newrdn") new_rdn ∷ row (codes "deleteoldrdn") (flag_word delete_old) ∷ superior_rows superior

-- the lines of a record: the name, the kind of the change, and the lines behind them
abbrev pub record_rows : List ℕ → List ℕ → List (List ℕ) → List (List ℕ)
record_rows name word rows = row (codes "dn") name ∷ row (codes "changetype") word ∷ rows

-- the lines of the record of a request; one that changes nothing has none
abbrev pub lines_of : Request → List (List ℕ)
lines_of (request.Bind bind) = []
lines_of request.Unbind = []
lines_of (request.Search search) = []
lines_of (request.Update (update.Modify modify)) = record_rows modify.name (codes "modify") (flat_map change_rows modify.changes)
lines_of (request.Update (update.Add add)) = record_rows add.name (codes "add") (flat_map value_rows add.attributes)
lines_of (request.Update (update.Delete delete)) = record_rows delete.name (codes "delete") []
lines_of (request.Update (update.Rename rename)) =
    record_rows rename.name (codes "modrdn") (rename_rows rename.new_rdn rename.delete_old rename.superior)
lines_of (request.Compare compare) = []
lines_of (request.Abandon id) = []
lines_of (request.Extended name value) = []

-- the text of lines with an empty line behind them, and of no lines none
abbrev pub text_of : List (List ℕ) → List ℕ
text_of [] = []
text_of (line ∷ rest) = block_text (line ∷ rest)

-- the record of a request
unfoldable pub record_text : Request → List ℕ
record_text request = text_of (lines_of request)
