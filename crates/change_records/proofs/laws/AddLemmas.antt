-- Lemmas on the lines of an add, read again.
use Rattle.std.proofs.Common.{◌≡◌, ℕ, ◌+◌, ◌<◌, sym, ◌∙◌, ap, refl, arith, true, false, List, [], ◌∷◌, ◌++◌, length, map, Option, Some, None, Ok}
use Rattle.std.specs.List.{flat_map, AllByRecursion}
use Rattle.std.specs.Str.{bytes_eq}
use Rattle.std.proofs.lemmas.List.{append_assoc, append-nil}
use Rattle.base64.specs.GeneralPurpose.{IsBytes}
use Rattle.dir_tree.specs.plain_values.Results.{◌>>=◌}
use Rattle.dir_tree.proofs.base_laws_proofs.Theorems.{choose, other_choice}
use Rattle.ldap_msg.specs.declared.kinds.KindValues.{KindValues}
use Rattle.ldif_records.specs.declared.types.RecordLine.{RecordLine}
use Rattle.ldif_records.specs.lines.Lines.{Line, numbered}
use Rattle.ldif_records.specs.Fields.{is_kind, is_changetype, attribute_line}
use Rattle.ldif_records.proofs.Theorems.{attribute-says}
use Rattle.change_records.specs.Written.{row, value_rows}
use Rattle.change_records.specs.Reading.{attribute_with, whole_before, whole_last, attributes_in}
use Rattle.change_records.specs.Writable.{IsWritableGiven, AreApart}
use Rattle.change_records.proofs.laws.LineLemmas.{row-says, same-text}
use Rattle.change_records.proofs.laws.RowsLemmas.{numbered-append}
use Rattle.change_records.proofs.laws.ModifyLemmas.{nothing_more}

-- the line of a value of an attribute
abbrev line_at : ℕ → List ℕ → List ℕ → RecordLine
line_at number kind value = record { line = number; kind = kind; value = value }

line-read : (number : ℕ) (kind value : List ℕ) → is_kind kind ≡ true → is_changetype kind ≡ false → IsBytes value
    → attribute_line (record { number = number; octets = row kind value }) ≡ Ok (line_at number kind value)
line-read number kind value is other bytes = attribute-says number kind value (row kind value) (row-says kind value is bytes) other

-- one step over a line
step : (before : Option KindValues) (line : Line) (rest : List Line) (read : RecordLine) (next : KindValues) (whole : List KindValues)
    → attribute_line line ≡ Ok read → attribute_with before read ≡ next → whole_before before read ≡ whole
    → attributes_in before (line ∷ rest) ≡ (attributes_in (Some next) rest >>= λ others. Ok (whole ++ others))
unfolding attributes_in
step before line rest read next whole good goes ends =
    ap (λ found. found >>= λ read. attributes_in (Some (attribute_with before read)) rest >>= λ others. Ok (whole_before before read ++ others)) good
    ∙ ap (λ found. attributes_in (Some found) rest >>= λ others. Ok (whole_before before read ++ others)) goes
    ∙ ap (λ items. attributes_in (Some next) rest >>= λ others. Ok (items ++ others)) ends

-- the attribute with more values
abbrev and_values : KindValues → List (List ℕ) → KindValues
and_values given values = record { kind = given.kind; values = given.values ++ values }

-- a further value of the type
values-go : (at : ℕ) (given : KindValues) (values : List (List ℕ)) (more : List Line) → is_kind given.kind ≡ true → is_changetype given.kind ≡ false → AllByRecursion IsBytes values
    → attributes_in (Some given) (numbered at (map (row given.kind) values) ++ more) ≡ attributes_in (Some (and_values given values)) more
values-go at given [] more is other are =
    ap (λ values. attributes_in (Some (record { kind = given.kind; values = values })) more) (sym (append-nil given.values))
values-go at given (value ∷ values) more is other are =
    let same = same-text given.kind given.kind refl in
    let rest = numbered (at + 1) (map (row given.kind) values) ++ more in
    step (Some given) (record { number = at; octets = row given.kind value }) rest (line_at at given.kind value) (and_values given (value ∷ [])) []
    (line-read at given.kind value is other are.0) (choose (bytes_eq given.kind given.kind) _ _ same) (choose (bytes_eq given.kind given.kind) _ _ same)
    ∙ nothing_more (attributes_in (Some (and_values given (value ∷ []))) rest)
    ∙ values-go (at + 1) (and_values given (value ∷ [])) values more is other are.1
    ∙ ap (λ all. attributes_in (Some (record { kind = given.kind; values = all })) more) (append_assoc given.values (value ∷ []) values)

-- a first value of another type than the one before
abbrev IsApart : Option KindValues → List ℕ → Type 0
IsApart None kind = Unit {0}
IsApart (Some given) kind = bytes_eq kind given.kind ≡ false

begins : (before : Option KindValues) (at : ℕ) (kind value : List ℕ) → IsApart before kind
    → (attribute_with before (line_at at kind value) ≡ record { kind = kind; values = value ∷ [] }) × (whole_before before (line_at at kind value) ≡ whole_last before)
begins None at kind value apart = (refl, refl)
begins (Some given) at kind value apart =
    (other_choice (bytes_eq kind given.kind) _ _ apart, other_choice (bytes_eq kind given.kind) _ _ apart)

-- the lines of one attribute, before others
given-read : (before : Option KindValues) (at : ℕ) (given : KindValues) (more : List Line) → IsApart before given.kind → IsWritableGiven given
    → attributes_in before (numbered at (value_rows given) ++ more) ≡ (attributes_in (Some given) more >>= λ others. Ok (whole_last before ++ others))
given-read before at given more apart is = by given.values is.filled is.body.values
  where
    by : (values : List (List ℕ)) → 0 < length values → AllByRecursion IsBytes values
        → attributes_in before (numbered at (map (row given.kind) values) ++ more) ≡ (attributes_in (Some (record { kind = given.kind; values = values })) more >>= λ others. Ok (whole_last before ++ others))
    by [] filled are = absurd (omega arith)
    by (value ∷ values) filled are =
        let first = begins before at given.kind value apart in
        let rest = numbered (at + 1) (map (row given.kind) values) ++ more in
        step before (record { number = at; octets = row given.kind value }) rest (line_at at given.kind value) (record { kind = given.kind; values = value ∷ [] }) (whole_last before)
        (line-read at given.kind value is.body.kind is.other are.0) first.0 first.1
        ∙ ap (λ reading. reading >>= λ others. Ok (whole_last before ++ others))
        (values-go (at + 1) (record { kind = given.kind; values = value ∷ [] }) values more is.body.kind is.other are.1)

-- the attributes behind one are apart from it
abbrev AreBehind : Option KindValues → List KindValues → Type 0
AreBehind None attributes = AreApart attributes
AreBehind (Some given) attributes = AreApart (given ∷ attributes)

behind-first : (before : Option KindValues) (given : KindValues) (rest : List KindValues) → AreBehind before (given ∷ rest) → IsApart before given.kind × AreApart (given ∷ rest)
behind-first None given rest apart = (tt, apart)
behind-first (Some other) given rest apart = (apart.0, apart.1)

-- the lines of all attributes
pub attributes-read : (before : Option KindValues) (at : ℕ) (attributes : List KindValues) → AllByRecursion IsWritableGiven attributes → AreBehind before attributes
    → attributes_in before (numbered at (flat_map value_rows attributes)) ≡ Ok (whole_last before ++ attributes)
unfolding attributes_in
attributes-read before at [] are apart = ap Ok (sym (append-nil (whole_last before)))
attributes-read before at (given ∷ rest) are apart =
    let first = behind-first before given rest apart in
    ap (attributes_in before) (numbered-append at (value_rows given) (flat_map value_rows rest))
    ∙ given-read before at given (numbered (at + length (value_rows given)) (flat_map value_rows rest)) first.0 are.0
    ∙ ap (λ reading. reading >>= λ others. Ok (whole_last before ++ others)) (attributes-read (Some given) (at + length (value_rows given)) rest are.1 first.1)
