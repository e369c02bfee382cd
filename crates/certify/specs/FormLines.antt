-- What a line of a certificate's text is by its form: in which part of the text it may stand.
use Rattle.std.specs.Prelude.{ℕ, Bool, true, false, ◌==◌, ◌&&◌, ◌||◌, List, [], ◌∷◌, codes, Option, Some, None, option_and_then, is_some, if◌then◌else◌}
use Rattle.std.specs.Int.{is_in_range}
use Rattle.std.specs.Option.{option_map_or}
use Rattle.std.specs.Str.{bytes_eq}
use Rattle.dir_tree.specs.dn_names.value.Values.{of_text}
use Rattle.acdf_filters.specs.Asking.{Protected}
use Rattle.line_text.specs.Escapes.{read_back}
use Rattle.explanation.specs.Cutting.{after}
use Rattle.explanation.specs.NameWords.{name_in}
use Rattle.explanation.specs.ItemWords.{item_of}
use Rattle.certify.specs.declared.form_lines.Part.{Part}
use Rattle.certify.specs.declared.form_lines.Part.TheVariants.{Scopes, Tuples, Outcome}

-- what stands behind a word, read
abbrev pub behind : {A : Type 0} → List ℕ → (List ℕ → Option A) → List ℕ → Option A
behind word read line = option_and_then read (after word line)

-- on what of the entry: the escapes are read back, and then the word, which is UTF-8
abbrev pub item_in : List ℕ → Option Protected
item_in text = option_and_then (of_text item_of) (read_back text)

-- a word before a spelling of a name
abbrev pub is_before_name : List ℕ → List ℕ → Bool
is_before_name word line = is_some (behind word name_in line)

-- `in NAME` or `out NAME`
abbrev pub is_scope : List ℕ → Bool
is_scope line = is_before_name (codes "in ") line || is_before_name (codes "out ") line

-- what follows an opening quotation mark: the last octet closes it, and before that each quotation mark stands twice;
-- `half` says that one of two has come, which the end makes the last
abbrev pub is_closed : Bool → List ℕ → Bool
is_closed half [] = half
is_closed true (octet ∷ octets) = octet == 34 && is_closed false octets
is_closed false (octet ∷ octets) = is_closed (octet == 34) octets

-- a string (RFC 3641 3.2), of any octets
abbrev pub is_quoted : List ℕ → Bool
is_quoted [] = false
is_quoted (octet ∷ octets) = octet == 34 && is_closed false octets

-- ` grant "TAG"` or ` deny "TAG"`
abbrev pub is_effect : List ℕ → Bool
is_effect text = option_map_or is_quoted (after (codes " grant ") text) false || option_map_or is_quoted (after (codes " deny ") text) false

-- a digit from 0 to 6 before that
abbrev pub is_numbered : List ℕ → Bool
is_numbered [] = false
is_numbered (digit ∷ text) = is_in_range 48 54 digit && is_effect text

-- `tuple K grant "TAG"` or `tuple K deny "TAG"`
abbrev pub is_tuple : List ℕ → Bool
is_tuple line = option_map_or is_numbered (after (codes "tuple ") line) false

-- `granted` or `refused`
abbrev pub is_outcome : List ℕ → Bool
is_outcome line = bytes_eq line (codes "granted") || bytes_eq line (codes "refused")

-- the part in which a line may stand behind the first four
unfoldable pub part_of : List ℕ → Option Part
part_of line =
    if is_scope line then Some Scopes else if is_tuple line then Some Tuples else if is_outcome line then Some Outcome else None

-- a line of a part behind one of another: no part comes again once a later one has begun, and the outcome is one line
abbrev pub following : Part → Part → Option Part
following Scopes next = Some next
following Tuples Scopes = None
following Tuples Tuples = Some Tuples
following Tuples Outcome = Some Outcome
following Outcome next = None

-- the part that a line behind one of a part begins or goes on with
abbrev pub part_after : Part → List ℕ → Option Part
part_after part line = option_and_then (following part) (part_of line)
