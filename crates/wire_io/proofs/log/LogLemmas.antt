-- Lemmas on a journal kept as rows and octets.
use Rattle.std.proofs.Common.{◌≡◌, ℕ, ◌+◌, ◌≤◌, ap, ◌∙◌, sym, refl, arith, length, take, drop, sum_by, List, [], ◌∷◌, ◌++◌, append-nil}
use Rattle.std.proofs.lemmas.List.{take_all, take-append-le, drop-append-le, length-drop, append_assoc}
use Rattle.std.proofs.lemmas.List.Sums.{sum_by-cons}
use Rattle.wire_io.specs.declared.journal.Item.{Item}
use Rattle.wire_io.specs.declared.log.Note.{Note}
use Rattle.wire_io.specs.declared.log.Note.TheVariants.{Apart}
use Rattle.wire_io.specs.declared.log.NoteRow.{NoteRow}
use Rattle.wire_io.specs.Log.{item_of, apart_in, items_from, IsPacked}

-- nothing is left where it is counted and there is nothing
nil-counted : {X : Type 0} (list : List X) → 0 ≡ length list → list ≡ []
nil-counted [] none = refl
nil-counted (first ∷ list) none = absurd (omega arith)

-- one more row
items-push : (rows : List NoteRow) (octets piece : List ℕ) (apart more : List Item) (row : NoteRow)
    → sum_by (λ r. r.size) rows ≡ length octets → sum_by (λ r. apart_in r.note) rows ≡ length apart
    → items_from (rows ++ row ∷ []) (octets ++ piece) (apart ++ more) ≡ items_from rows octets apart ++ (item_of row.note row.conn (take row.size piece) ++ take (apart_in row.note) more)
unfolding items_from
items-push [] octets piece apart more row sized counted =
    rw (nil-counted octets sized, nil-counted apart counted) (append-nil (item_of row.note row.conn (take row.size piece) ++ take (apart_in row.note) more))
items-push (first ∷ rows) octets piece apart more row sized counted =
    let size : sum_by (λ r. r.size) (first ∷ rows) ≡ first.size + sum_by (λ r. r.size) rows = sum_by-cons (λ r. r.size) first rows in
    let count : sum_by (λ r. apart_in r.note) (first ∷ rows) ≡ apart_in first.note + sum_by (λ r. apart_in r.note) rows = sum_by-cons (λ r. apart_in r.note) first rows in
    let within : first.size ≤ length octets = omega arith in
    let among : apart_in first.note ≤ length apart = omega arith in
    let sizes : sum_by (λ r. r.size) rows ≡ length (drop first.size octets) = omega (arith, length-drop first.size octets) in
    let counts : sum_by (λ r. apart_in r.note) rows ≡ length (drop (apart_in first.note) apart) = omega (arith, length-drop (apart_in first.note) apart) in
    rw (take-append-le first.size octets piece within, drop-append-le first.size octets piece within, take-append-le (apart_in first.note) apart more among, drop-append-le (apart_in first.note) apart more among)
    (ap (λ later. (item_of first.note first.conn (take first.size octets) ++ take (apart_in first.note) apart) ++ later)
    (items-push rows (drop first.size octets) piece (drop (apart_in first.note) apart) more row sizes counts)
    ∙ sym (append_assoc (item_of first.note first.conn (take first.size octets) ++ take (apart_in first.note) apart) (items_from rows (drop first.size octets) (drop (apart_in first.note) apart)) (item_of row.note row.conn (take row.size piece) ++ take (apart_in row.note) more)))

-- a row with octets
pub items-put : (rows rows' : List NoteRow) (octets octets' piece : List ℕ) (apart before : List Item) (note : Note) (conn : ℕ) → IsPacked rows octets apart → apart_in note ≡ 0
    → items_from rows octets apart ≡ before → rows' ≡ rows ++ record { note = note; conn = conn; size = length piece } ∷ [] → octets' ≡ octets ++ piece
    → items_from rows' octets' apart ≡ before ++ item_of note conn piece
items-put rows rows' octets octets' piece apart before note conn is none was pushed extended =
    let row : NoteRow = record { note = note; conn = conn; size = length piece } in
    ap (λ all. items_from all octets' apart) pushed
    ∙ ap (λ all. items_from (rows ++ row ∷ []) all apart) extended
    ∙ ap (λ all. items_from (rows ++ row ∷ []) (octets ++ piece) all) (sym (append-nil apart))
    ∙ items-push rows octets piece apart [] row is.sized is.counted
    ∙ ap (λ all. items_from rows octets apart ++ (item_of note conn all ++ take (apart_in note) [])) (take_all (length piece) piece (omega arith))
    ∙ ap (λ count. items_from rows octets apart ++ (item_of note conn piece ++ take count [])) none
    ∙ ap (λ all. items_from rows octets apart ++ all) (append-nil (item_of note conn piece))
    ∙ ap (λ all. all ++ item_of note conn piece) was

-- an item that is kept apart
pub items-apart : (rows rows' : List NoteRow) (octets : List ℕ) (apart apart' before : List Item) (item : Item) → IsPacked rows octets apart
    → items_from rows octets apart ≡ before → rows' ≡ rows ++ record { note = Apart; conn = 0; size = 0 } ∷ [] → apart' ≡ apart ++ item ∷ []
    → items_from rows' octets apart' ≡ before ++ item ∷ []
items-apart rows rows' octets apart apart' before item is was pushed grown =
    let row : NoteRow = record { note = Apart; conn = 0; size = 0 } in
    ap (λ all. items_from all octets apart') pushed
    ∙ ap (λ all. items_from (rows ++ row ∷ []) octets all) grown
    ∙ ap (λ all. items_from (rows ++ row ∷ []) all (apart ++ item ∷ [])) (sym (append-nil octets))
    ∙ items-push rows octets [] apart (item ∷ []) row is.sized is.counted
    ∙ ap (λ all. all ++ item ∷ []) was

-- nothing was put yet
pub items-none : (rows : List NoteRow) (octets : List ℕ) (apart : List Item) → rows ≡ [] → items_from rows octets apart ≡ []
unfolding items_from
items-none rows octets apart none = rw none refl
