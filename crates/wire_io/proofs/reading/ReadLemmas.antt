-- Lemmas on a file that is read piece by piece.
use Rattle.std.proofs.Common.{◌≡◌, ℕ, ◌+◌, ◌<◌, ◌≤◌, List, [], ◌++◌, length, take, drop, Option, Some, None, Ok, Err, Bool, true, false, refl, ap, sym, ◌∙◌, subst, min, arith, length-append}
use Rattle.std.proofs.Math.Seq.{take-add}
use Rattle.std.proofs.lemmas.List.{take_all, length-take, length-take-le, take-append-le, take-append-drop}
use Rattle.wire_io.specs.Files.{Files, file_of, FetchGives, ReadsFile, ReadsFrom}
use Rattle.wire_io.specs.declared.answers.ReadFault.TheVariants.{TooLong}
use Rattle.wire_io.specs.ReadWhole.{HasRead, IsFrontOf, GivesFile, PieceGives, PieceCause, ReadCause, IsLonger, IsLongerFile, line_past}

-- a front of the content and the piece that follows it are a front
IsFrontOf-more :
    (content read buf : List ℕ) (count : ℕ) → count ≤ length buf → read ≡ take (length read) content → take count buf ≡ take count (drop (length read) content)
    → read ++ take count buf ≡ take (length (read ++ take count buf)) content
IsFrontOf-more content read buf count within front piece =
    let whole : read ++ take count buf ≡ take (length read + count) content = ap (λ octets. read ++ octets) piece ∙ ap (λ octets. octets ++ take count (drop (length read) content)) front ∙ sym (take-add (length read) count content) in
    let counted : length (read ++ take count buf) ≡ length read + count = grind (arith, length-append {A = ℕ}, length-take-le count buf within) in
    whole ∙ ap (λ size. take size content) (sym counted)

-- the same, where the file may not be there
IsFrontOf-found :
    (content : Option (List ℕ)) (read buf : List ℕ) (count : ℕ)
    → count ≤ length buf → IsFrontOf read content → ReadsFile content (length read) buf count → IsFrontOf (read ++ take count buf) content
unfolding IsFrontOf ReadsFile ReadsFrom
IsFrontOf-found None read buf count within front reads = absurd reads
IsFrontOf-found (Some content) read buf count within front reads = IsFrontOf-more content read buf count within front reads.0

-- the octets read so far, with the piece that a call put at the front of the buffer
pub HasRead-more :
    (files : Option Files) (name read buf : List ℕ) (count : ℕ)
    → count ≤ length buf → HasRead files name read → FetchGives files name (length read) buf (Ok count) → HasRead files name (read ++ take count buf)
unfolding HasRead IsFrontOf FetchGives ReadsFile ReadsFrom
HasRead-more None name read buf count within front gives = tt
HasRead-more (Some files) name read buf count within front gives = IsFrontOf-found (file_of name files) read buf count within front gives

-- no octets came: those read so far are the whole content
IsWhole-found :
    (content : Option (List ℕ)) (read buf : List ℕ) → IsFrontOf read content → ReadsFile content (length read) buf 0 → content ≡ Some read
unfolding IsFrontOf ReadsFile ReadsFrom
IsWhole-found None read buf front reads = absurd reads
IsWhole-found (Some content) read buf front reads =
    let short : length content ≤ length read = reads.1 refl in
    ap Some (sym (front ∙ take_all (length read) content short))

-- the same, where the shelf tells
pub GivesFile-read :
    (files : Option Files) (name read buf : List ℕ) → HasRead files name read → FetchGives files name (length read) buf (Ok 0) → GivesFile files name read
unfolding HasRead FetchGives GivesFile
GivesFile-read None name read buf front gives = tt
GivesFile-read (Some files) name read buf front gives = IsWhole-found (file_of name files) read buf front gives

-- nothing is a front of each content
IsFrontOf-nothing : (content : Option (List ℕ)) → IsFrontOf [] content
unfolding IsFrontOf
IsFrontOf-nothing None = refl
IsFrontOf-nothing (Some content) = refl

-- before the first piece nothing was read
pub HasRead-nothing : (files : Option Files) (name : List ℕ) → HasRead files name []
unfolding HasRead
HasRead-nothing None name = tt
HasRead-nothing (Some files) name = IsFrontOf-nothing (file_of name files)

-- what `read_piece` says where a call brought octets
pub PieceGives-more :
    (files : Option Files) (name read buf new : List ℕ) (from count : ℕ)
    → from ≡ length read → new ≡ read ++ take count buf → 0 < count → count ≤ length buf → HasRead files name read
    → FetchGives files name from buf (Ok count) → PieceGives files name read (Ok true) new
unfolding PieceGives
PieceGives-more files name read buf new from count at_end is_new some within front gives =
    let P : ℕ → Type 0 = λ place. FetchGives files name place buf (Ok count) in
    let Q : List ℕ → Type 0 = HasRead files name in
    let longer : length read < length new = omega (arith, ap length is_new, length-append read (take count buf), length-take-le count buf within) in
    (longer, subst Q (sym is_new) (HasRead-more files name read buf count within front (subst P at_end gives)))

-- what it says where a call brought none
pub PieceGives-whole :
    (files : Option Files) (name read buf : List ℕ) (from count : ℕ)
    → from ≡ length read → count ≡ 0 → HasRead files name read → FetchGives files name from buf (Ok count) → PieceGives files name read (Ok false) read
unfolding PieceGives
PieceGives-whole files name read buf from count at_end none front gives =
    let P : ℕ → Type 0 = λ place. FetchGives files name place buf (Ok count) in
    let Q : ℕ → Type 0 = λ size. FetchGives files name (length read) buf (Ok size) in
    (refl, GivesFile-read files name read buf front (subst Q none (subst P at_end gives)))

-- a front that is longer than the limit has the content's first octets
IsLongerFile-read :
    (content : Option (List ℕ)) (read : List ℕ) (limit : ℕ) → IsFrontOf read content → limit < length read → IsLongerFile content limit (line_past (take limit read))
unfolding IsFrontOf IsLongerFile
IsLongerFile-read None read limit front past = absurd (omega (arith, ap length front))
IsLongerFile-read (Some content) read limit front past =
    let counted : length read ≡ min (length read) (length content) = ap length front ∙ length-take (length read) content in
    let shorter : length read ≤ length content = omega arith in
    let fronts : take limit read ≡ take limit content = sym (take-append-le limit read (drop (length read) content) (omega arith)) ∙ ap (take limit) (ap (λ octets. octets ++ drop (length read) content) front ∙ take-append-drop (length read) content) in
    (omega arith, ap line_past fronts)

-- the same, where the shelf tells
IsLonger-read : (files : Option Files) (name read : List ℕ) (limit : ℕ) → HasRead files name read → limit < length read → IsLonger files name limit (line_past (take limit read))
unfolding HasRead IsLonger
IsLonger-read None name read limit front past = tt
IsLonger-read (Some files) name read limit front past = IsLongerFile-read (file_of name files) read limit front past

-- what `read_all` says where the octets read are more than the limit
pub ReadCause-longer :
    (T : Type 0) (files first_files : Option Files) (name old new : List ℕ) (more : Bool) (limit before middle after line : ℕ)
    → more ≡ true → PieceGives files name old (Ok more) new → PieceCause files name middle after (Ok more) → limit < length new
    → line ≡ line_past (take limit new) → middle ≡ before → files ≡ first_files
    → ReadCause {T = T} first_files name limit before after (Err (TooLong line))
unfolding PieceGives PieceCause ReadCause
ReadCause-longer T files first_files name old new more limit before middle after line is_more gives cause past is_line stays same =
    let P : Bool → Type 0 = λ answer. PieceGives files name old (Ok answer) new in
    let Q : ℕ → Type 0 = IsLonger first_files name limit in
    let R : Option Files → Type 0 = λ shelf. IsLonger shelf name limit (line_past (take limit new)) in
    let front : HasRead files name new = (subst P is_more gives).1 in
    (subst Q (sym is_line) (subst R same (IsLonger-read files name new limit front past)), cause ∙ stays)

-- the same of an empty list
pub HasRead-empty : (files : Option Files) (name read : List ℕ) → read ≡ [] → HasRead files name read
HasRead-empty files name read none = let P : List ℕ → Type 0 = HasRead files name in subst P (sym none) (HasRead-nothing files name)
