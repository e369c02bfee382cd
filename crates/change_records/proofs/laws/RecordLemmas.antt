-- Lemmas on the record of a change, read again.
use Rattle.std.proofs.Common.{◌≡◌, ℕ, zero, suc, ◌+◌, ◌==◌, ◌∙◌, ap, refl, arith, Bool, true, false, List, [], ◌∷◌, ◌++◌, length, map, Option, Some, None, Ok}
use Rattle.std.specs.Prelude.{codes, nat_lt, slice_index}
use Rattle.std.specs.List.{flat_map, list_all, AllByRecursion}
use Rattle.std.proofs.lemmas.Bool.{and_parts, ltb-true}
use Rattle.std.proofs.lemmas.Bool.Decides.{nat_tests}
use Rattle.base64.specs.GeneralPurpose.{IsBytes}
use Rattle.dir_tree.specs.plain_values.Results.{◌>>=◌}
use Rattle.ldap_msg.specs.declared.kinds.KindValues.{KindValues}
use Rattle.ldap_msg.specs.declared.kinds.ModifyOperation.{ModifyOperation}
use Rattle.ldap_msg.specs.declared.kinds.ModifyOperation.TheVariants.{Add, Delete, Replace, Other}
use Rattle.ldap_msg.specs.declared.kinds.Change.{Change}
use Rattle.ldap_msg.specs.declared.kinds.RenameRequest.{RenameRequest}
use Rattle.ldap_msg.specs.declared.kinds.Request.{Request}
use Rattle.ldap_msg.specs.declared.kinds.Request.TheVariants as request
use Rattle.ldap_msg.specs.declared.kinds.Update.TheVariants as update
use Rattle.ldif_records.specs.lines.Lines.{Line, numbered}
use Rattle.ldif_records.specs.Fields.{is_kind, name_line}
use Rattle.ldif_records.proofs.Theorems.{name-says}
use Rattle.change_records.specs.Written.{row, value_rows, operation_word, change_rows, flag_word, superior_rows, rename_rows, record_rows, lines_of}
use Rattle.change_records.specs.Reading.{value_line, flag_of, flag_line, superior_in, nothing_in, rename_in, change_of_kind, change_named, change_in, record_in}
use Rattle.change_records.specs.Writable.{IsWritableChange, IsWritableGiven, AreBytes, IsWritable}
use Rattle.change_records.proofs.laws.KindLemmas.{keystring-kind}
use Rattle.change_records.proofs.laws.LineLemmas.{row-says, value-read, IsWrittenRow, row-written, hyphen-written}
use Rattle.change_records.proofs.laws.ModifyLemmas.{changes-read}
use Rattle.change_records.proofs.laws.AddLemmas.{attributes-read}

-- ---- each line is a row

both-rows : (xs ys : List (List ℕ)) → AllByRecursion IsWrittenRow xs → AllByRecursion IsWrittenRow ys → AllByRecursion IsWrittenRow (xs ++ ys)
both-rows [] ys are more = more
both-rows (x ∷ xs) ys are more = (are.0, both-rows xs ys are.1 more)

values-rows : (kind : List ℕ) (values : List (List ℕ)) → is_kind kind ≡ true → AllByRecursion IsWrittenRow (map (row kind) values)
values-rows kind [] is = tt
values-rows kind (value ∷ values) is = (row-written kind value is, values-rows kind values is)

word-row : (operation : ModifyOperation) (kind : List ℕ) → IsWrittenRow (row (operation_word operation) kind)
word-row Add kind = row-written (codes "add") kind (keystring-kind (codes "add") refl)
word-row Delete kind = row-written (codes "delete") kind (keystring-kind (codes "delete") refl)
word-row Replace kind = row-written (codes "replace") kind (keystring-kind (codes "replace") refl)
word-row (Other other) kind = row-written (codes "replace") kind (keystring-kind (codes "replace") refl)

changes-rows : (changes : List Change) → AllByRecursion IsWritableChange changes → AllByRecursion IsWrittenRow (flat_map change_rows changes)
changes-rows [] are = tt
changes-rows (change ∷ changes) are =
    both-rows (change_rows change) (flat_map change_rows changes)
    (word-row change.operation change.body.kind, both-rows (map (row change.body.kind) change.body.values) (codes "-" ∷ []) (values-rows change.body.kind change.body.values are.0.body.kind) (hyphen-written, tt))
    (changes-rows changes are.1)

given-rows : (attributes : List KindValues) → AllByRecursion IsWritableGiven attributes → AllByRecursion IsWrittenRow (flat_map value_rows attributes)
given-rows [] are = tt
given-rows (given ∷ rest) are =
    both-rows (value_rows given) (flat_map value_rows rest) (values-rows given.kind given.values are.0.body.kind) (given-rows rest are.1)

superior-rows : (superior : Option (List ℕ)) → AllByRecursion IsWrittenRow (superior_rows superior)
superior-rows None = tt
superior-rows (Some superior) = (row-written (codes "newsuperior") superior (keystring-kind (codes "newsuperior") refl), tt)

front-rows : (name word : List ℕ) (rows : List (List ℕ)) → AllByRecursion IsWrittenRow rows → AllByRecursion IsWrittenRow (record_rows name word rows)
front-rows name word rows are =
    (row-written (codes "dn") name (keystring-kind (codes "dn") refl), (row-written (codes "changetype") word (keystring-kind (codes "changetype") refl), are))

pub lines-written : (change : Request) → IsWritable change → AllByRecursion IsWrittenRow (lines_of change)
lines-written (request.Bind bind) is = absurd is
lines-written request.Unbind is = absurd is
lines-written (request.Search search) is = absurd is
lines-written (request.Update (update.Modify modify)) is = front-rows modify.name (codes "modify") (flat_map change_rows modify.changes) (changes-rows modify.changes is.1)
lines-written (request.Update (update.Add add)) is = front-rows add.name (codes "add") (flat_map value_rows add.attributes) (given-rows add.attributes is.1)
lines-written (request.Update (update.Delete delete)) is = front-rows delete.name (codes "delete") [] tt
lines-written (request.Update (update.Rename rename)) is =
    front-rows rename.name (codes "modrdn") (rename_rows rename.new_rdn rename.delete_old rename.superior) (
      row-written (codes "newrdn") rename.new_rdn (keystring-kind (codes "newrdn") refl),
      (row-written (codes "deleteoldrdn") (flag_word rename.delete_old) (keystring-kind (codes "deleteoldrdn") refl), superior-rows rename.superior),
    )
lines-written (request.Compare compare) is = absurd is
lines-written (request.Abandon id) is = absurd is
lines-written (request.Extended name value) is = absurd is

-- ---- the lines behind the first two

-- a text that passes a test of each octet is of octets
below-at : (text : List ℕ) → list_all (λ octet. nat_lt octet 256) text ≡ true → (i : ℕ) → nat_lt (slice_index text i) 256 ≡ true
below-at [] all i = refl
below-at (octet ∷ rest) all zero = (and_parts (nat_lt octet 256) (list_all (λ octet. nat_lt octet 256) rest) all).0
below-at (octet ∷ rest) all (suc i) = below-at rest (and_parts (nat_lt octet 256) (list_all (λ octet. nat_lt octet 256) rest) all).1 i

short-bytes : (text : List ℕ) → list_all (λ octet. nat_lt octet 256) text ≡ true → IsBytes text
short-bytes text all i = ltb-true _ 256 (below-at text all i)

word-read : (number : ℕ) (kind value : List ℕ) → is_kind kind ≡ true → IsBytes value → value_line kind (record { number = number; octets = row kind value }) ≡ Ok value
word-read number kind value is bytes = value-read number kind value (row kind value) (row-says kind value is bytes)

flag-read : (number : ℕ) (flag : Bool) → flag_line (record { number = number; octets = row (codes "deleteoldrdn") (flag_word flag) }) ≡ Ok flag
flag-read number true = ap (λ read. read >>= flag_of number) (word-read number (codes "deleteoldrdn") (codes "1") (keystring-kind (codes "deleteoldrdn") refl) (short-bytes (codes "1") refl))
flag-read number false = ap (λ read. read >>= flag_of number) (word-read number (codes "deleteoldrdn") (codes "0") (keystring-kind (codes "deleteoldrdn") refl) (short-bytes (codes "0") refl))

superior-read : (number : ℕ) (superior : Option (List ℕ)) → AreBytes superior → superior_in (numbered number (superior_rows superior)) ≡ Ok superior
superior-read number None are = refl
superior-read number (Some superior) are =
    ap (λ read. read >>= λ superior. nothing_in [] >>= λ nothing. Ok (Some superior)) (word-read number (codes "newsuperior") superior (keystring-kind (codes "newsuperior") refl) are)

rename-read : (rename : RenameRequest) (number at : ℕ) → IsBytes rename.new_rdn → AreBytes rename.superior
    → rename_in rename.name number (numbered at (rename_rows rename.new_rdn rename.delete_old rename.superior)) ≡ Ok rename
rename-read rename number at bytes are =
    let rest = numbered (at + 1 + 1) (superior_rows rename.superior) in
    ap (λ read. read >>= λ new_rdn. flag_line (record { number = at + 1; octets = row (codes "deleteoldrdn") (flag_word rename.delete_old) }) >>= λ delete_old. superior_in rest >>= λ superior. Ok (record { name = rename.name; new_rdn = new_rdn; delete_old = delete_old; superior = superior }))
    (word-read at (codes "newrdn") rename.new_rdn (keystring-kind (codes "newrdn") refl) bytes)
    ∙ ap (λ read. read >>= λ delete_old. superior_in rest >>= λ superior. Ok (record { name = rename.name; new_rdn = rename.new_rdn; delete_old = delete_old; superior = superior })) (flag-read (at + 1) rename.delete_old)
    ∙ ap (λ read. read >>= λ superior. Ok (record { name = rename.name; new_rdn = rename.new_rdn; delete_old = rename.delete_old; superior = superior })) (superior-read (at + 1 + 1) rename.superior are)

-- ---- a whole record

some_lines : (line : Line) (lines : List Line) → (length (line ∷ lines) == 0) ≡ false
some_lines line lines = grind (arith, nat_tests)

front-read : (number : ℕ) (name word : List ℕ) (rows : List (List ℕ)) (change : Request) → IsBytes name → IsBytes word
    → change_of_kind name (number + 1) word (numbered (number + 1 + 1) rows) ≡ Ok change
    → record_in (numbered number (record_rows name word rows)) ≡ Ok (Some (record { line = number; change = change }))
unfolding change_in
front-read number name word rows change bytes letters is =
    let rest = numbered (number + 1) (row (codes "changetype") word ∷ rows) in
    ap (λ alone. (name_line alone (record { number = number; octets = row (codes "dn") name }) >>= λ name. change_named name number rest) >>= λ change. Ok (Some (record { line = number; change = change })))
    (some_lines (record { number = number + 1; octets = row (codes "changetype") word }) (numbered (number + 1 + 1) rows))
    ∙ ap (λ read. (read >>= λ name. change_named name number rest) >>= λ change. Ok (Some (record { line = number; change = change })))
    (name-says number name (row (codes "dn") name) (row-says (codes "dn") name (keystring-kind (codes "dn") refl) bytes))
    ∙ ap (λ read. (read >>= λ word. change_of_kind name (number + 1) word (numbered (number + 1 + 1) rows)) >>= λ change. Ok (Some (record { line = number; change = change })))
    (word-read (number + 1) (codes "changetype") word (keystring-kind (codes "changetype") refl) letters)
    ∙ ap (λ read. read >>= λ change. Ok (Some (record { line = number; change = change }))) is

pub record-read : (number : ℕ) (change : Request) → IsWritable change → record_in (numbered number (lines_of change)) ≡ Ok (Some (record { line = number; change = change }))
record-read number (request.Bind bind) is = absurd is
record-read number request.Unbind is = absurd is
record-read number (request.Search search) is = absurd is
record-read number (request.Update (update.Modify modify)) is =
    front-read number modify.name (codes "modify") (flat_map change_rows modify.changes) (request.Update (update.Modify modify)) is.0 (short-bytes (codes "modify") refl)
    (ap (λ read. read >>= λ changes. Ok (request.Update (update.Modify (record { name = modify.name; changes = changes })))) (changes-read (number + 1) (number + 1 + 1) modify.changes is.1))
record-read number (request.Update (update.Add add)) is =
    front-read number add.name (codes "add") (flat_map value_rows add.attributes) (request.Update (update.Add add)) is.0 (short-bytes (codes "add") refl)
    (ap (λ read. read >>= λ attributes. Ok (request.Update (update.Add (record { name = add.name; attributes = attributes })))) (attributes-read None (number + 1 + 1) add.attributes is.1 is.2))
record-read number (request.Update (update.Delete delete)) is =
    front-read number delete.name (codes "delete") [] (request.Update (update.Delete delete)) is (short-bytes (codes "delete") refl) refl
record-read number (request.Update (update.Rename rename)) is =
    front-read number rename.name (codes "modrdn") (rename_rows rename.new_rdn rename.delete_old rename.superior) (request.Update (update.Rename rename)) is.0 (short-bytes (codes "modrdn") refl)
    (ap (λ read. read >>= λ rename. Ok (request.Update (update.Rename rename))) (rename-read rename (number + 1) (number + 1 + 1) is.1 is.2))
record-read number (request.Compare compare) is = absurd is
record-read number (request.Abandon id) is = absurd is
record-read number (request.Extended name value) is = absurd is
