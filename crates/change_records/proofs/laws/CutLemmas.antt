-- Lemmas on a file of changes that is cut.
use Rattle.std.proofs.Common.{◌≡◌, ℕ, zero, suc, ◌<◌, ◌≤◌, ◌==◌, not, sym, ◌∙◌, ap, subst, refl, arith, true, List, [], ◌∷◌, ◌++◌, length, take, map}
use Rattle.std.specs.Prelude.{codes}
use Rattle.std.specs.List.{flat_map, AllByRecursion}
use Rattle.std.proofs.lemmas.Bool.{and_parts}
use Rattle.std.proofs.lemmas.List.{append_assoc, append-nil}
use Rattle.hex.specs.Hex.{encode_lower}
use Rattle.whole_blocks.specs.Blocks.{is_within, IsLine, IsBlock, block_text, blocks_text, whole_part}
use Rattle.whole_blocks.proofs.Theorems.{whole-cut}
use Rattle.ldap_msg.specs.declared.kinds.Request.{Request}
use Rattle.ldap_msg.specs.declared.kinds.Request.TheVariants as request
use Rattle.ldap_msg.specs.declared.kinds.Update.TheVariants as update
use Rattle.ldif_records.proofs.Theorems.{is_inside}
use Rattle.change_records.specs.Written.{lines_of, record_text}
use Rattle.change_records.specs.Files.{head_text, file_text, file_of}
use Rattle.change_records.specs.Writable.{IsWritable, IsDigest}
use Rattle.change_records.specs.Laws.{SaysFront}
use Rattle.change_records.proofs.laws.KindLemmas.{weaker}
use Rattle.change_records.proofs.laws.LineLemmas.{IsWrittenRow}
use Rattle.change_records.proofs.laws.RecordLemmas.{lines-written}
use Rattle.change_records.proofs.laws.FileLemmas.{text-block, digits-inside, file-read}

-- ---- the text of a file is one of blocks

abbrev head_block : List ℕ → List (List ℕ)
head_block digest = codes "version: 1" ∷ (codes "# of sha256 " ++ encode_lower digest) ∷ []

head-text : (digest : List ℕ) → head_text digest ≡ block_text (head_block digest)
unfolding head_text
head-text digest = ap (λ rest. codes "version: 1\n# of sha256 " ++ rest) (ends (encode_lower digest))
  where
    ends : (digits : List ℕ) → digits ++ codes "\n\n" ≡ ((digits ++ 10 ∷ []) ++ []) ++ 10 ∷ []
    ends digits = sym (ap (λ line. line ++ 10 ∷ []) (append-nil (digits ++ 10 ∷ [])) ∙ append_assoc digits (10 ∷ []) (10 ∷ []))

records-text : (changes : List Request) → AllByRecursion IsWritable changes → flat_map record_text changes ≡ blocks_text (map lines_of changes)
records-text [] are = refl
records-text (change ∷ rest) are =
    ap (λ text. text ++ flat_map record_text rest) (text-block change are.0) ∙ ap (λ later. block_text (lines_of change) ++ later) (records-text rest are.1)

file-text : (digest : List ℕ) (changes : List Request) → AllByRecursion IsWritable changes → file_text digest changes ≡ blocks_text (head_block digest ∷ map lines_of changes)
unfolding file_text
file-text digest changes are =
    ap (λ head. head ++ flat_map record_text changes) (head-text digest) ∙ ap (λ later. block_text (head_block digest) ++ later) (records-text changes are)

-- ---- its blocks

octet-within : (octet : ℕ) → is_inside octet ≡ true → is_within octet ≡ true
octet-within octet is = (and_parts (not (octet == 10)) (not (octet == 13)) is).0

line-of : (line : List ℕ) → IsWrittenRow line → IsLine line
line-of line is = record { filled = is.filled; within = weaker is_inside is_within octet-within line is.inside }

lines-of : (rows : List (List ℕ)) → AllByRecursion IsWrittenRow rows → AllByRecursion IsLine rows
lines-of [] are = tt
lines-of (row ∷ rows) are = (line-of row are.0, lines-of rows are.1)

filled-of : (change : Request) → IsWritable change → 0 < length (lines_of change)
filled-of (request.Bind bind) is = absurd is
filled-of request.Unbind is = absurd is
filled-of (request.Search search) is = absurd is
filled-of (request.Update (update.Modify modify)) is = omega arith
filled-of (request.Update (update.Add add)) is = omega arith
filled-of (request.Update (update.Delete delete)) is = omega arith
filled-of (request.Update (update.Rename rename)) is = omega arith
filled-of (request.Compare compare) is = absurd is
filled-of (request.Abandon id) is = absurd is
filled-of (request.Extended name value) is = absurd is

record-block : (change : Request) → IsWritable change → IsBlock (lines_of change)
record-block change is = record { filled = filled-of change is; lines = lines-of (lines_of change) (lines-written change is) }

record-blocks : (changes : List Request) → AllByRecursion IsWritable changes → AllByRecursion IsBlock (map lines_of changes)
record-blocks [] are = tt
record-blocks (change ∷ rest) are = (record-block change are.0, record-blocks rest are.1)

head-is_block : (digest : List ℕ) → IsBlock (head_block digest)
head-is_block digest = record {
  filled = omega arith;
  lines = (
    record { filled = omega arith; within = refl },
    (record { filled = omega arith; within = weaker is_inside is_within octet-within (encode_lower digest) (digits-inside digest) }, tt),
  );
}

-- ---- fronts

take-map : (count : ℕ) (changes : List Request) → take count (map lines_of changes) ≡ map lines_of (take count changes)
take-map zero changes = refl
take-map (suc count) [] = refl
take-map (suc count) (change ∷ rest) = ap (λ later. lines_of change ∷ later) (take-map count rest)

map-both : (xs ys : List Request) → map lines_of (xs ++ ys) ≡ map lines_of xs ++ map lines_of ys
map-both [] ys = refl
map-both (x ∷ xs) ys = ap (λ later. lines_of x ∷ later) (map-both xs ys)

all-both : (xs ys : List Request) → AllByRecursion IsWritable xs → AllByRecursion IsWritable ys → AllByRecursion IsWritable (xs ++ ys)
all-both [] ys are more = more
all-both (x ∷ xs) ys are more = (are.0, all-both xs ys are.1 more)

all-front : (count : ℕ) (xs : List Request) → AllByRecursion IsWritable xs → AllByRecursion IsWritable (take count xs)
all-front zero xs are = tt
all-front (suc count) [] are = tt
all-front (suc count) (x ∷ xs) are = (are.0, all-front count xs are.1)

pub file-cut : (digest : List ℕ) (done more : List Request) (count : ℕ) → IsDigest digest → AllByRecursion IsWritable done → AllByRecursion IsWritable more
    → length (file_text digest done) ≤ count → SaysFront digest done more (take count (file_text digest (done ++ more)))
file-cut digest done more count is these others within =
    let front = whole-cut (head_block digest ∷ map lines_of done) (map lines_of more) count (head-is_block digest, record-blocks done these) (record-blocks more others)
    (subst (λ (text : List ℕ). length text ≤ count) (file-text digest done these) within) in
    let kept = done ++ take front.kept more in
    let whole = file-text digest (done ++ more) (all-both done more these others) ∙ ap (λ blocks. blocks_text (head_block digest ∷ blocks)) (map-both done more) in
    let are = all-both done (take front.kept more) these (all-front front.kept more others) in
    let left =
    ap (λ text. whole_part (take count text)) whole
    ∙ front.front
    ∙ ap (λ blocks. blocks_text (head_block digest ∷ (map lines_of done ++ blocks))) (take-map front.kept more)
    ∙ ap (λ blocks. blocks_text (head_block digest ∷ blocks)) (sym (map-both done (take front.kept more)))
    ∙ sym (file-text digest kept are) in
    record { kept = front.kept; front = left; says = ap file_of left ∙ file-read digest kept is are }
