-- Lemmas on a file of changes, read again.
use Rattle.std.proofs.Common.{◌≡◌, ℕ, zero, suc, ◌+◌, ◌/◌, ◌%◌, sym, ◌∙◌, ap, subst, refl, arith, true, false, List, [], ◌∷◌, ◌++◌, length, take, drop, Some, None, Ok}
use Rattle.std.specs.Prelude.{codes, nat_lt, slice_index}
use Rattle.std.specs.List.{flat_map, list_all, AllByRecursion}
use Rattle.std.proofs.lemmas.Bool.{and_parts, and_from}
use Rattle.std.specs.Result.{result_ok}
use Rattle.std.proofs.lemmas.Bool.Decides.{nat_tests}
use Rattle.std.specs.Str.{bytes_eq}
use Rattle.std.specs.Str.Lines.{lines}
use Rattle.std.proofs.lemmas.List.{append_assoc, length-append, take_at, drop_at}
use Rattle.std.proofs.lemmas.List.Splits.{slice_split_at}
use Rattle.std.proofs.lemmas.List.Elements.{All-from_recursion}
use Rattle.hex.specs.Hex.{encode_lower, encode_with, decode_sized, decode_pairs, lower_digits}
use Rattle.hex.proofs.HexLemmas.{length-encode_with, decode_pairs-encode_with, IsDigits-lower_digits}
use Rattle.dir_tree.specs.plain_values.Results.{◌>>=◌}
use Rattle.dir_tree.proofs.base_laws_proofs.Theorems.{choose, other_choice}
use Rattle.whole_blocks.specs.Blocks.{block_text}
use Rattle.ldap_msg.specs.declared.kinds.Request.{Request}
use Rattle.ldap_msg.specs.declared.kinds.Request.TheVariants as request
use Rattle.ldap_msg.specs.declared.kinds.Update.TheVariants as update
use Rattle.ldif_records.specs.lines.Lines.{Line, numbered}
use Rattle.ldif_records.specs.reading.Records.{is_blank}
use Rattle.ldif_records.specs.lines.Places.{physical_from}
use Rattle.ldif_records.proofs.Theorems.{is_inside, IsRow}
use Rattle.change_records.specs.Written.{lines_of, record_text}
use Rattle.change_records.specs.Reading.{record_in, and_others, changes_of, changes_from}
use Rattle.change_records.specs.Files.{head_text, head_end, file_text, headed_by, digest_of, file_by, file_of}
use Rattle.change_records.specs.Writable.{IsWritable, IsDigest}
use Rattle.change_records.specs.Laws.{recorded, Says}
use Rattle.change_records.proofs.laws.LineLemmas.{IsWrittenRow, same-text}
use Rattle.change_records.proofs.laws.RowsLemmas.{numbered-append, block-read, numbered-rows, content-read, row-filled}
use Rattle.change_records.proofs.laws.RecordLemmas.{lines-written, record-read}

-- ---- the records

-- the lines of the records, each with an empty line behind it
abbrev all_rows : List Request → List (List ℕ)
all_rows [] = []
all_rows (change ∷ rest) = lines_of change ++ [] ∷ all_rows rest

-- the record of a writable change is a block
pub text-block : (change : Request) → IsWritable change → record_text change ≡ block_text (lines_of change)
unfolding record_text
text-block (request.Bind bind) is = absurd is
text-block request.Unbind is = absurd is
text-block (request.Search search) is = absurd is
text-block (request.Update (update.Modify modify)) is = refl
text-block (request.Update (update.Add add)) is = refl
text-block (request.Update (update.Delete delete)) is = refl
text-block (request.Update (update.Rename rename)) is = refl
text-block (request.Compare compare) is = absurd is
text-block (request.Abandon id) is = absurd is
text-block (request.Extended name value) is = absurd is

rows-read : (changes : List Request) → AllByRecursion IsWritable changes → lines (flat_map record_text changes) ≡ all_rows changes
rows-read [] are = refl
rows-read (change ∷ rest) are =
    ap (λ text. lines (text ++ flat_map record_text rest)) (text-block change are.0)
    ∙ block-read (lines_of change) (flat_map record_text rest) (lines-written change are.0)
    ∙ ap (λ later. lines_of change ++ [] ∷ later) (rows-read rest are.1)

both-rows : (xs ys : List Line) → AllByRecursion IsRow xs → AllByRecursion IsRow ys → AllByRecursion IsRow (xs ++ ys)
both-rows [] ys are more = more
both-rows (x ∷ xs) ys are more = (are.0, both-rows xs ys are.1 more)

-- the lines of a first record, and those behind it
first-rows : (number : ℕ) (change : Request) (rest : List Request)
    → numbered number (all_rows (change ∷ rest)) ≡ numbered number (lines_of change) ++ record { number = number + length (lines_of change); octets = [] } ∷ numbered (number + length (lines_of change) + 1) (all_rows rest)
first-rows number change rest = numbered-append number (lines_of change) ([] ∷ all_rows rest)

rows-content : (number : ℕ) (changes : List Request) → AllByRecursion IsWritable changes → AllByRecursion IsRow (numbered number (all_rows changes))
rows-content number [] are = tt
rows-content number (change ∷ rest) are =
    let next = number + length (lines_of change) in
    subst (AllByRecursion IsRow) (sym (first-rows number change rest))
    (both-rows (numbered number (lines_of change)) (record { number = next; octets = [] } ∷ numbered (next + 1) (all_rows rest))
    (numbered-rows number (lines_of change) (lines-written change are.0)) (record { begins = refl; says = refl }, rows-content (next + 1) rest are.1))

filled-rows : (number : ℕ) (rows : List (List ℕ)) → AllByRecursion IsWrittenRow rows → AllByRecursion (λ line. is_blank line ≡ false) (numbered number rows)
filled-rows number [] are = tt
filled-rows number (row ∷ rows) are = (row-filled number row are.0, filled-rows (number + 1) rows are.1)

changes-nil : changes_from [] ≡ Ok []
unfolding changes_from changes_of
changes-nil = refl

changes-first : (lines : List Line) (blank : Line) (rest : List Line) → AllByRecursion (λ line. is_blank line ≡ false) lines → is_blank blank ≡ true
    → changes_from (lines ++ blank ∷ rest) ≡ (record_in lines >>= λ found. changes_from rest >>= λ others. Ok (and_others found others))
unfolding changes_from changes_of
changes-first lines blank rest filled is = ap changes_of (slice_split_at is_blank lines blank rest (All-from_recursion (λ line. is_blank line ≡ false) lines filled) is)

changes-read : (number : ℕ) (changes : List Request) → AllByRecursion IsWritable changes → changes_from (numbered number (all_rows changes)) ≡ Ok (recorded number changes)
changes-read number [] are = changes-nil
changes-read number (change ∷ rest) are =
    let next = number + length (lines_of change) in
    ap changes_from (first-rows number change rest)
    ∙ changes-first (numbered number (lines_of change)) (record { number = next; octets = [] }) (numbered (next + 1) (all_rows rest)) (filled-rows number (lines_of change) (lines-written change are.0)) refl
    ∙ ap (λ read. read >>= λ found. changes_from (numbered (next + 1) (all_rows rest)) >>= λ others. Ok (and_others found others)) (record-read number change are.0)
    ∙ ap (λ read. read >>= λ others. Ok (record { line = number; change = change } ∷ others)) (changes-read (next + 1) rest are.1)

-- ---- the head

length-head : (digest : List ℕ) → IsDigest digest → length (head_text digest) ≡ 89
unfolding head_text
length-head digest is =
    let digits = length-encode_with lower_digits digest in
    let front = length-append (codes "version: 1\n# of sha256 ") (encode_lower digest ++ codes "\n\n") in
    let back = length-append (encode_lower digest) (codes "\n\n") in
    let first : length (codes "version: 1\n# of sha256 ") ≡ 23 = refl in
    let last : length (codes "\n\n") ≡ 2 = refl in
    omega (arith, digits, front, back, first, last, is.size)

digits-read : (digest : List ℕ) → IsDigest digest → decode_sized (encode_lower digest) 32 ≡ Ok digest
digits-read digest is =
    let digits = length-encode_with lower_digits digest in
    sized (encode_lower digest) (omega (arith, digits, is.size)) ∙ decode_pairs-encode_with lower_digits IsDigits-lower_digits 0 digest is.octets
  where
    sized : (text : List ℕ) → length text ≡ 64 → decode_sized text 32 ≡ decode_pairs 0 text
    sized text is = rw is refl

digits-there : (digest rest : List ℕ) → IsDigest digest → take 64 (drop 23 (head_text digest ++ rest)) ≡ encode_lower digest
unfolding head_text
digits-there digest rest is =
    let digits = length-encode_with lower_digits digest in
    let whole = append_assoc (codes "version: 1\n# of sha256 ") (encode_lower digest ++ codes "\n\n") rest in
    ap (λ text. take 64 (drop 23 text)) whole
    ∙ ap (take 64) (drop_at (codes "version: 1\n# of sha256 ") ((encode_lower digest ++ codes "\n\n") ++ rest) 23 refl)
    ∙ ap (take 64) (append_assoc (encode_lower digest) (codes "\n\n") rest)
    ∙ take_at (encode_lower digest) (codes "\n\n" ++ rest) 64 (omega (arith, digits, is.size))

not_short : (text rest : List ℕ) → length text ≡ 89 → nat_lt (length (text ++ rest)) 89 ≡ false
not_short text rest is = let whole = length-append text rest in grind (arith, nat_tests)

head-read : (digest rest : List ℕ) → IsDigest digest → digest_of (head_text digest ++ rest) ≡ Some digest
unfolding digest_of
head-read digest rest is =
    let front = take_at (head_text digest) rest 89 (length-head digest is) in
    other_choice (nat_lt (length (head_text digest ++ rest)) 89) None _ (not_short (head_text digest) rest (length-head digest is))
    ∙ ap (λ digits. headed_by (take 89 (head_text digest ++ rest)) (result_ok (decode_sized digits 32))) (digits-there digest rest is)
    ∙ ap (λ read. headed_by (take 89 (head_text digest ++ rest)) (result_ok read)) (digits-read digest is)
    ∙ ap (λ octets. headed_by octets (Some digest)) front
    ∙ choose (bytes_eq (head_text digest) (head_text digest)) (Some digest) None (same-text (head_text digest) (head_text digest) refl)

-- ---- the file

pub file-read : (digest : List ℕ) (changes : List Request) → IsDigest digest → AllByRecursion IsWritable changes → Says digest changes (file_text digest changes)
unfolding file_of file_text physical_from
file-read digest changes is are =
    let text = head_text digest ++ flat_map record_text changes in
    let behind = ap (λ rest. numbered 4 (lines rest)) (drop_at (head_text digest) (flat_map record_text changes) 89 (length-head digest is)) ∙ ap (numbered 4) (rows-read changes are) in
    ap (file_by text) (head-read digest (flat_map record_text changes) is)
    ∙ ap (λ rows. changes_from rows >>= λ changes. Ok (record { digest = digest; changes = changes }))
    (content-read text head_end (numbered 4 (all_rows changes)) behind (rows-content 4 changes are))
    ∙ ap (λ read. read >>= λ changes. Ok (record { digest = digest; changes = changes })) (changes-read 4 changes are)

-- the digits of a digest are no line's end
slice-inside : (digits : List ℕ) (octets : List ℕ) → ((k : ℕ) → is_inside (slice_index digits k) ≡ true) → list_all is_inside (encode_with digits octets) ≡ true
unfolding encode_with
slice-inside digits [] each = refl
slice-inside digits (octet ∷ octets) each =
    and_from _ _ (each (octet / 16)) (and_from _ _ (each (octet % 16)) (slice-inside digits octets each))

at-inside : (xs : List ℕ) → list_all is_inside xs ≡ true → (k : ℕ) → is_inside (slice_index xs k) ≡ true
at-inside [] all k = refl
at-inside (x ∷ xs) all zero = (and_parts (is_inside x) (list_all is_inside xs) all).0
at-inside (x ∷ xs) all (suc k) = at-inside xs (and_parts (is_inside x) (list_all is_inside xs) all).1 k

pub digits-inside : (octets : List ℕ) → list_all is_inside (encode_lower octets) ≡ true
digits-inside octets = slice-inside lower_digits octets (at-inside lower_digits refl)
