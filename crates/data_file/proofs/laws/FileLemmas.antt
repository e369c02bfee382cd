-- The lines of a file of octets are of octets.
use Rattle.std.proofs.Common.{ℕ, ◌+◌, ◌-◌, ◌<◌, ◌==◌, List, [], ◌∷◌, ◌++◌, length, take, drop, slice_index}
use Rattle.std.specs.List.{AllByRecursion, slice_split}
use Rattle.std.specs.Str.Lines.{strip_carriage_return, lines_of_parts, lines}
use Rattle.dir_tree.proofs.base_laws_proofs.Theorems.{all_filter}
use Rattle.ldif_load.specs.ldif_records.declared.types.Position.{Position}
use Rattle.ldif_load.specs.ldif_records.lines.Lines.{Line, numbered, is_continuation, continued, unfolded, beginning, logical}
use Rattle.ldif_load.specs.ldif_records.reading.Records.{without_comments, is_version, without_version}
use Rattle.ldif_load.specs.ldif_records.lines.Places.{physical_from, logical_from, content_from, body_from}
use Rattle.data_file.proofs.laws.OctetLemmas.{AreBelow, below_take, below_drop, AreBelow-append}
use Rattle.data_file.proofs.laws.PartLemmas.{either_way, all_slice_split}

-- a line of octets, and lines of octets
abbrev pub OfOctets : Line → Type 0
OfOctets line = AreBelow line.octets

abbrev pub AreOfOctets : List Line → Type 0
AreOfOctets lines = AllByRecursion OfOctets lines

-- the lines as they stand
below-strip_carriage_return : (line : List ℕ) → AreBelow line → AreBelow (strip_carriage_return line)
below-strip_carriage_return line below =
    either_way AreBelow (slice_index line (length line - 1) == 13) (take (length line - 1) line) line
    (below_take (length line - 1) line below) below

below-lines_of_parts : (parts : List (List ℕ)) → AllByRecursion AreBelow parts → AllByRecursion AreBelow (lines_of_parts parts)
below-lines_of_parts [] all = tt
below-lines_of_parts (part ∷ []) all =
    either_way (λ (lines : List (List ℕ)). AllByRecursion AreBelow lines) (length part == 0) [] (part ∷ []) tt all
below-lines_of_parts (part ∷ next ∷ parts) all =
    (below-strip_carriage_return part all.0, below-lines_of_parts (next ∷ parts) all.1)

AreOfOctets-numbered : (number : ℕ) (found : List (List ℕ)) → AllByRecursion AreBelow found → AreOfOctets (numbered number found)
AreOfOctets-numbered number [] all = tt
AreOfOctets-numbered number (octets ∷ found) all = (all.0, AreOfOctets-numbered (number + 1) found all.1)

AreOfOctets-physical_from : (text : List ℕ) (place : Position) → AreBelow text → AreOfOctets (physical_from text place)
unfolding physical_from
AreOfOctets-physical_from text place below =
    let rest = drop place.offset text in
    AreOfOctets-numbered place.line (lines rest)
    (below-lines_of_parts (slice_split (λ octet. octet == 10) rest)
    (all_slice_split (λ octet. octet < 256) (λ octet. octet == 10) rest (below_drop place.offset text below)))

-- the lines with their continuations
below-continued : (lines : List Line) → AreOfOctets lines → AreBelow (continued lines)
unfolding continued
below-continued [] all = tt
below-continued (line ∷ rest) all =
    either_way AreBelow (is_continuation line) (drop 1 line.octets ++ continued rest) []
    (AreBelow-append (drop 1 line.octets) (continued rest) (below_drop 1 line.octets all.0) (below-continued rest all.1)) tt

OfOctets-unfolded : (line : Line) (rest : List Line) → OfOctets line → AreOfOctets rest → OfOctets (unfolded line rest)
OfOctets-unfolded line rest here later = AreBelow-append line.octets (continued rest) here (below-continued rest later)

AreOfOctets-beginning : (lines : List Line) → AreOfOctets lines → AreOfOctets (beginning lines)
unfolding beginning
AreOfOctets-beginning [] all = tt
AreOfOctets-beginning (line ∷ rest) all =
    let later = AreOfOctets-beginning rest all.1 in
    either_way AreOfOctets (is_continuation line) (beginning rest) (unfolded line rest ∷ beginning rest) later
    (OfOctets-unfolded line rest all.0 all.1, later)

AreOfOctets-logical : (lines : List Line) → AreOfOctets lines → AreOfOctets (logical lines)
unfolding logical
AreOfOctets-logical [] all = tt
AreOfOctets-logical (line ∷ rest) all = (OfOctets-unfolded line rest all.0 all.1, AreOfOctets-beginning rest all.1)

-- the lines that are no comments, and those of the records
AreOfOctets-content_from : (text : List ℕ) (place : Position) → AreBelow text → AreOfOctets (content_from text place)
unfolding content_from logical_from without_comments
AreOfOctets-content_from text place below =
    all_filter OfOctets _ (logical (physical_from text place))
    (AreOfOctets-logical (physical_from text place) (AreOfOctets-physical_from text place below))

AreOfOctets-without_version : (lines : List Line) → AreOfOctets lines → AreOfOctets (without_version lines)
unfolding without_version
AreOfOctets-without_version [] all = tt
AreOfOctets-without_version (line ∷ rest) all = either_way AreOfOctets (is_version line) rest (line ∷ rest) all.1 all

pub AreOfOctets-body_from : (text : List ℕ) (place : Position) → AreBelow text → AreOfOctets (body_from text place)
unfolding body_from
AreOfOctets-body_from text place below =
    let content = AreOfOctets-content_from text place below in
    either_way AreOfOctets (place.offset == 0) (without_version (content_from text place)) (content_from text place)
    (AreOfOctets-without_version (content_from text place) content) content
