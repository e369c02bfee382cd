-- Lemmas on the lines of a modify, read again.
use Rattle.std.proofs.Common.{◌≡◌, ℕ, ◌+◌, sym, ◌∙◌, ap, refl, arith, true, false, List, [], ◌∷◌, ◌++◌, length, map, Option, Some, None, Result, Ok, Err}
use Rattle.std.specs.Prelude.{codes}
use Rattle.std.specs.List.{flat_map, AllByRecursion}
use Rattle.std.proofs.lemmas.List.{append_assoc, append-nil}
use Rattle.base64.specs.GeneralPurpose.{IsBytes}
use Rattle.dir_tree.specs.plain_values.Results.{◌>>=◌}
use Rattle.dir_tree.specs.schema_tables.Naming.{is_keystring}
use Rattle.dir_tree.proofs.base_laws_proofs.Theorems.{other_choice}
use Rattle.ldap_msg.specs.declared.kinds.ModifyOperation.{ModifyOperation}
use Rattle.ldap_msg.specs.declared.kinds.ModifyOperation.TheVariants.{Add, Delete, Replace, Other}
use Rattle.ldap_msg.specs.declared.kinds.Change.{Change}
use Rattle.ldif_records.specs.lines.Lines.{Line, numbered}
use Rattle.ldif_records.specs.reading.Faults.{LineFault}
use Rattle.ldif_records.specs.Fields.{is_kind, is_changetype}
use Rattle.ldif_records.proofs.Theorems.{attribute-says, is_kind-ascii}
use Rattle.change_records.specs.Written.{row, operation_word, change_rows}
use Rattle.change_records.specs.Reading.{is_hyphen, operation_named, change_with, and_value, going_on, ended_by, changes_in}
use Rattle.change_records.specs.Writable.{is_standard, IsWritableChange}
use Rattle.change_records.proofs.laws.KindLemmas.{keystring-kind}
use Rattle.change_records.proofs.laws.LineLemmas.{row-says, value-read, row-hyphen}
use Rattle.change_records.proofs.laws.RowsLemmas.{numbered-append}

-- the change with more values
abbrev and_values : Change → List (List ℕ) → Change
and_values change values =
    record { operation = change.operation; body = record { kind = change.body.kind; values = change.body.values ++ values } }

-- one step over a line
step : (number : ℕ) (before next : Option Change) (ended : List Change) (line : Line) (rest : List Line) → going_on before line ≡ Ok next → ended_by before line ≡ ended
    → changes_in number before (line ∷ rest) ≡ (changes_in number next rest >>= λ others. Ok (ended ++ others))
unfolding changes_in
step number before next ended line rest goes ends =
    ap (λ found. found >>= λ next. changes_in number next rest >>= λ others. Ok (ended_by before line ++ others)) goes
    ∙ ap (λ items. changes_in number next rest >>= λ others. Ok (items ++ others)) ends

-- nothing was ended
pub nothing_more : {A : Type 0} (reading : Result (List A) LineFault) → (reading >>= λ others. Ok ([] ++ others)) ≡ reading
nothing_more (Ok others) = refl
nothing_more (Err bad) = refl

-- a line of a value
value-goes : (number : ℕ) (change : Change) (value : List ℕ) → is_kind change.body.kind ≡ true → IsBytes value
    → going_on (Some change) (record { number = number; octets = row change.body.kind value }) ≡ Ok (Some (and_value change value))
value-goes number change value is bytes =
    other_choice (is_hyphen (record { number = number; octets = row change.body.kind value })) _ _ (row-hyphen number change.body.kind value is)
    ∙ ap (λ read. (read >>= λ value. Ok (and_value change value)) >>= λ more. Ok (Some more))
    (value-read number change.body.kind value (row change.body.kind value) (row-says change.body.kind value is bytes))

value-ends : (number : ℕ) (change : Change) (value : List ℕ) → is_kind change.body.kind ≡ true → ended_by (Some change) (record { number = number; octets = row change.body.kind value }) ≡ []
value-ends number change value is =
    other_choice (is_hyphen (record { number = number; octets = row change.body.kind value })) _ _ (row-hyphen number change.body.kind value is)

-- the lines of values
values-go : (number at : ℕ) (change : Change) (values : List (List ℕ)) (more : List Line) → is_kind change.body.kind ≡ true → AllByRecursion IsBytes values
    → changes_in number (Some change) (numbered at (map (row change.body.kind) values) ++ more) ≡ changes_in number (Some (and_values change values)) more
values-go number at change [] more is are =
    ap (λ values. changes_in number (Some (record { operation = change.operation; body = record { kind = change.body.kind; values = values } })) more) (sym (append-nil change.body.values))
values-go number at change (value ∷ values) more is are =
    step number (Some change) (Some (and_value change value)) [] (record { number = at; octets = row change.body.kind value })
    (numbered (at + 1) (map (row change.body.kind) values) ++ more) (value-goes at change value is are.0) (value-ends at change value is)
    ∙ nothing_more (changes_in number (Some (and_value change value)) (numbered (at + 1) (map (row change.body.kind) values) ++ more))
    ∙ values-go number (at + 1) (and_value change value) values more is are.1
    ∙ ap (λ all. changes_in number (Some (record { operation = change.operation; body = record { kind = change.body.kind; values = all } })) more)
    (append_assoc change.body.values (value ∷ []) values)

-- the line that begins a change
record IsWord (operation : ModifyOperation) : Type 0 where
  key : is_keystring (operation_word operation) ≡ true
  other : is_changetype (operation_word operation) ≡ false
  named : operation_named (operation_word operation) ≡ Some operation

is-word : (operation : ModifyOperation) → is_standard operation ≡ true → IsWord operation
unfolding is_changetype
is-word Add standard = record { key = refl; other = refl; named = refl }
is-word Delete standard = record { key = refl; other = refl; named = refl }
is-word Replace standard = record { key = refl; other = refl; named = refl }
is-word (Other other) standard = absurd cc

kind-bytes : (kind : List ℕ) → is_kind kind ≡ true → IsBytes kind
kind-bytes kind is i = let low = is_kind-ascii kind is i in omega (arith, low)

begins : (number : ℕ) (operation : ModifyOperation) (kind : List ℕ) → is_standard operation ≡ true → is_kind kind ≡ true
    → going_on None (record { number = number; octets = row (operation_word operation) kind }) ≡ Ok (Some (record { operation = operation; body = record { kind = kind; values = [] } }))
begins number operation kind standard is =
    let word = is-word operation standard in
    ap (λ read. (read >>= λ read. change_with number read.value (operation_named read.kind)) >>= λ change. Ok (Some change))
    (attribute-says number (operation_word operation) kind (row (operation_word operation) kind)
    (row-says (operation_word operation) kind (keystring-kind (operation_word operation) word.key) (kind-bytes kind is)) word.other)
    ∙ ap (λ found. change_with number kind found >>= λ change. Ok (Some change)) word.named

-- the lines of one change, before others
pub change-read : (number at : ℕ) (change : Change) (more : List Line) → IsWritableChange change
    → changes_in number None (numbered at (change_rows change) ++ more) ≡ (changes_in number None more >>= λ others. Ok (change ∷ others))
change-read number at change more is =
    let kind = change.body.kind in
    let begun : Change = record { operation = change.operation; body = record { kind = kind; values = [] } } in
    let rows = map (row kind) change.body.values in
    step number None (Some begun) [] (record { number = at; octets = row (operation_word change.operation) kind })
    (numbered (at + 1) (rows ++ codes "-" ∷ []) ++ more) (begins at change.operation kind is.operation is.body.kind) refl
    ∙ nothing_more (changes_in number (Some begun) (numbered (at + 1) (rows ++ codes "-" ∷ []) ++ more))
    ∙ ap (λ lines. changes_in number (Some begun) (lines ++ more)) (numbered-append (at + 1) rows (codes "-" ∷ []))
    ∙ ap (changes_in number (Some begun)) (append_assoc (numbered (at + 1) rows) (record { number = at + 1 + length rows; octets = codes "-" } ∷ []) more)
    ∙ values-go number (at + 1) begun change.body.values (record { number = at + 1 + length rows; octets = codes "-" } ∷ more) is.body.kind is.body.values
    ∙ step number (Some change) None (change ∷ []) (record { number = at + 1 + length rows; octets = codes "-" }) more refl refl

-- the lines of all changes
pub changes-read : (number at : ℕ) (changes : List Change) → AllByRecursion IsWritableChange changes → changes_in number None (numbered at (flat_map change_rows changes)) ≡ Ok changes
unfolding changes_in
changes-read number at [] are = refl
changes-read number at (change ∷ changes) are =
    ap (changes_in number None) (numbered-append at (change_rows change) (flat_map change_rows changes))
    ∙ change-read number at change (numbered (at + length (change_rows change)) (flat_map change_rows changes)) are.0
    ∙ ap (λ reading. reading >>= λ others. Ok (change ∷ others)) (changes-read number (at + length (change_rows change)) changes are.1)
