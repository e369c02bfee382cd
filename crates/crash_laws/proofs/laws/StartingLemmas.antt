-- A start applies the changes of a written file, whatever is torn behind it.
use Rattle.std.proofs.Common.{◌≡◌, ◌≤◌, ◌<◌, ◌+◌, ◌-◌, ℕ, suc, Bool, true, false, List, [], ◌∷◌, length, take, Ok, Err, refl, ap, ◌∙◌, arith, length-append}
use Rattle.std.specs.Prelude.{◌==◌, ◌&&◌, if◌then◌else◌, nat_eq}
use Rattle.std.specs.List.{flat_map, starts_with}
use Rattle.std.specs.Cmp.Lexicographic.{pointwise}
use Rattle.std.proofs.lemmas.Bool.{le-ltb, lt-ltb}
use Rattle.std.proofs.lemmas.List.{length-take-le}
use Rattle.std.proofs.lemmas.Slice.Eq.{bytes_eq-Decides}
use Rattle.sha2.specs.Sha256.{sha256}
use Rattle.session_hub.specs.Parties.{DirectoryEntries}
use Rattle.command_files.specs.plain_values.Results.{◌>>=◌}
use Rattle.whole_blocks.specs.Blocks.{ends_block, whole_before, whole_part}
use Rattle.change_replay.specs.change_records.Written.{lines_of, record_text}
use Rattle.change_replay.specs.change_records.Files.{head_text, file_text}
use Rattle.change_replay.specs.change_records.Laws.{recorded}
use Rattle.change_replay.specs.Accepted.{AcceptedChange, requests_of, left_after}
use Rattle.command_files.specs.declared.changing.ChangesCause.TheVariants as cause
use Rattle.command_files.specs.loading.Changing.{changed, is_torn_head, said_or_bad, tied_to, left_by, applied_to, changed_by_whole, changed_by}
use Rattle.crash_laws.specs.Written.{IsWrittenFile, IsReadAgain}
use Rattle.crash_laws.specs.Starting.{IsStartedWith}

-- the whole part of a text is no longer than it
whole_within : (text : List ℕ) → length (whole_part text) ≤ length text
unfolding whole_part
whole_within [] = omega arith
whole_within (octet ∷ rest) = by_found octet rest (whole_part rest) (whole_within rest)
  where
    by_end : (ends : Bool) (octet next : ℕ) (rest : List ℕ) → length (if ends then octet ∷ 10 ∷ [] else []) ≤ length (octet ∷ next ∷ rest)
    by_end true octet next rest = omega arith
    by_end false octet next rest = omega arith

    no_end : (feed : Bool) (octet : ℕ) → length (if feed && false then octet ∷ 10 ∷ [] else []) ≤ length (octet ∷ [])
    no_end true octet = omega arith
    no_end false octet = omega arith

    by_found : (octet : ℕ) (rest found : List ℕ) → length found ≤ length rest → length (whole_before octet rest found) ≤ length (octet ∷ rest)
    by_found octet rest (first ∷ found) within = omega arith
    by_found octet [] [] within = no_end (octet == 10) octet
    by_found octet (next ∷ rest) [] within = by_end (ends_block (octet ∷ next ∷ rest)) octet next rest

-- a file has its head whole, and so has a text whose whole part is one
head_whole : (first : DirectoryEntries) (digest : List ℕ) (done : List AcceptedChange) (text : List ℕ) → IsWrittenFile first digest done (whole_part text)
    → is_torn_head (head_text digest) text ≡ false
unfolding file_text
head_whole first digest done text written =
    let records = flat_map record_text (requests_of done) in
    let whole : length (whole_part text) ≡ length (head_text digest) + length records =
    ap length written.text_is ∙ length-append (head_text digest) records in
    let within = whole_within text in
    let enough : length (head_text digest) ≤ length text = omega arith in
    ap (λ less. less && starts_with nat_eq (head_text digest) text) (le-ltb (length text) (length (head_text digest)) enough)

-- a front of the head that isn't all of it is torn
head_torn : (head : List ℕ) (count : ℕ) → count < length head → is_torn_head head (take count head) ≡ true
head_torn head count less =
    let text = take count head in
    let size : length text ≡ count = length-take-le count head (omega arith) in
    let shorter : length text < length head = omega arith in
    ap (λ test. test && starts_with nat_eq head text) (lt-ltb (length text) (length head) shorter)
    ∙ ap (λ octets. pointwise nat_eq text (take octets head)) size ∙ (bytes_eq-Decides text text).1 refl

pub torn_started : (first : DirectoryEntries) (content : List ℕ) (count : ℕ) → count < length (head_text (sha256 content))
    → changed_by first content (take count (head_text (sha256 content))) ≡ Ok (changed first 0 0 count)
unfolding changed_by
torn_started first content count less =
    let head = head_text (sha256 content) in
    let text = take count head in
    let size : length text ≡ count = length-take-le count head (omega arith) in
    ap (λ begun. if begun then Ok (changed first 0 0 (length text)) else changed_by_whole first (sha256 content) text (whole_part text)) (head_torn head count less)
    ∙ ap (λ octets. Ok (changed first 0 0 octets)) size

-- as many changes are read as were written
length-recorded : (number : ℕ) (done : List AcceptedChange) → length (recorded number (requests_of done)) ≡ length done
length-recorded number [] = refl
length-recorded number (change ∷ done) = ap (λ count. suc count) (length-recorded (number + length (lines_of change.request) + 1) done)

pub written_started : (first : DirectoryEntries) (content : List ℕ) (done : List AcceptedChange) (text : List ℕ)
    → IsWrittenFile first (sha256 content) done (whole_part text) → IsReadAgain first (sha256 content) done (whole_part text)
    → IsStartedWith first content done text
unfolding changed_by
written_started first content done text written read =
    let digest = sha256 content in
    let whole = whole_part text in
    let torn = length text - length whole in
    let changes = recorded 4 (requests_of done) in
    ap (λ begun. if begun then Ok (changed first 0 0 (length text)) else changed_by_whole first digest text whole) (head_whole first digest done text written)
    ∙ ap (λ said. (said_or_bad said >>= λ file. tied_to digest file) >>= λ found. applied_to first (length whole) torn found) read.says
    ∙ ap (λ same. (if same then Ok changes else Err (record { line = 2; cause = cause.Digest })) >>= λ found. applied_to first (length whole) torn found)
    ((bytes_eq-Decides digest digest).1 refl)
    ∙ ap (λ left. left_by (length changes) (length whole) torn left) read.left
    ∙ ap (λ count. Ok (changed (left_after first done) count (length whole) torn)) (length-recorded 4 done)
