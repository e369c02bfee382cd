-- The lines behind the question stand in their parts, in order, and so they are the body of a certificate.
use Rattle.std.proofs.Common.{◌≡◌, ℕ, ◌+◌, ◌==◌, ◌∙◌, ap, refl, Bool, true, false, List, [], ◌∷◌, ◌++◌, map, Some, None, is_some, Ok}
use Rattle.std.specs.Prelude.{codes, decimal, if◌then◌else◌, option_and_then}
use Rattle.std.specs.Fmt.{digits}
use Rattle.std.specs.Int.{is_in_range}
use Rattle.std.specs.List.{AllByRecursion}
use Rattle.std.specs.Option.{option_map_or}
use Rattle.std.proofs.lemmas.Bool.{and_from, or_left, or_right, cond-true}
use Rattle.dir_tree.specs.dn_names.Printing.{print_name}
use Rattle.dir_tree.specs.dn_names.name.Names.{RdnSequence}
use Rattle.dir_tree.specs.dn_names.name.GoodNames.{IsGoodName}
use Rattle.acdf_filters.specs.Asking.{Asked}
use Rattle.acdf_filters.specs.Filters.{Placed}
use Rattle.acdf_filters.specs.gser_tree.Writing.{text_of, print_string}
use Rattle.line_text.specs.Escapes.{one_line, escaped}
use Rattle.explanation.specs.Texts.{effect}
use Rattle.certify.specs.declared.form_lines.Part.{Part}
use Rattle.certify.specs.declared.form_lines.Part.TheVariants.{Scopes, Tuples, Outcome}
use Rattle.certify.specs.LastFilter.{last_filter}
use Rattle.certify.specs.Lines.{Line}
use Rattle.certify.specs.Certificate.{scope_word, tuple_text, outcome_word}
use Rattle.certify.specs.FormLines.{is_before_name, is_scope, is_effect, is_numbered, is_tuple, is_outcome, part_of, following}
use Rattle.certify.specs.Form.{or_form, body_from}
use Rattle.certify.proofs.laws.WordLemmas.{after-front}
use Rattle.certify.proofs.laws.WhoLemmas.{behind-name}
use Rattle.certify.proofs.laws.LineLemmas.{shown}
use Rattle.certify.proofs.laws.QuotedLemmas.{is_quoted-string, is_effect-printed}

-- `in NAME` and `out NAME`
scope-line : (holds : Bool) (name : RdnSequence) → IsGoodName name → is_scope (scope_word holds ++ one_line (print_name name)) ≡ true
scope-line true name good =
    let line = codes "in " ++ one_line (print_name name) in
    or_left (is_before_name (codes "in ") line) (is_before_name (codes "out ") line) (ap is_some (behind-name (codes "in ") name good))
scope-line false name good =
    let line = codes "out " ++ one_line (print_name name) in
    or_right (is_before_name (codes "in ") line) (is_before_name (codes "out ") line) (ap is_some (behind-name (codes "out ") name good))

pub part_of-scope : (holds : Bool) (name : RdnSequence) → IsGoodName name → part_of (scope_word holds ++ one_line (print_name name)) ≡ Some Scopes
unfolding part_of
part_of-scope holds name good =
    let line = scope_word holds ++ one_line (print_name name) in
    cond-true (is_scope line) (Some Scopes) (if is_tuple line then Some Tuples else if is_outcome line then Some Outcome else None) (scope-line holds name good)

-- the number is written as one digit, from 0 to 6
pub record IsDigit (number : ℕ) : Type 0 where
  pub digit : ℕ
  pub exact : decimal number ≡ digit ∷ []
  pub within : is_in_range 48 54 digit ≡ true
  pub other : (digit == 10) ≡ false

-- each of seven numbers is
digit-by : (a b c d e f : Bool) → IsDigit (if a then 0 else if b then 1 else if c then 2 else if d then 3 else if e then 4 else if f then 5 else 6)
unfolding digits
digit-by true b c d e f = record { digit = 48; exact = refl; within = refl; other = refl }
digit-by false true c d e f = record { digit = 49; exact = refl; within = refl; other = refl }
digit-by false false true d e f = record { digit = 50; exact = refl; within = refl; other = refl }
digit-by false false false true e f = record { digit = 51; exact = refl; within = refl; other = refl }
digit-by false false false false true f = record { digit = 52; exact = refl; within = refl; other = refl }
digit-by false false false false false true = record { digit = 53; exact = refl; within = refl; other = refl }
digit-by false false false false false false = record { digit = 54; exact = refl; within = refl; other = refl }

pub last_filter-digit : (asked : Asked) (xs : List Placed) (x : Placed) → IsDigit (last_filter asked xs x)
unfolding last_filter
last_filter-digit asked xs x = digit-by _ _ _ _ _ _

-- `tuple K grant "TAG"` and `tuple K deny "TAG"`
tuple-line : (number : ℕ) (grants : Bool) (tag : List ℕ) → IsDigit number → is_tuple (tuple_text number grants tag) ≡ true
tuple-line number grants tag digit =
    let text = codes " " ++ (effect grants ++ (codes " " ++ escaped (text_of (print_string tag)))) in
    let is = is_effect-printed grants (escaped (text_of (print_string tag))) (is_quoted-string tag) in
    ap (λ found. option_map_or is_numbered found false) (after-front (codes "tuple ") (decimal number ++ text))
    ∙ ap (λ digits. is_numbered (digits ++ text)) digit.exact
    ∙ and_from (is_in_range 48 54 digit.digit) (is_effect text) digit.within is

pub part_of-tuple : (number : ℕ) (grants : Bool) (tag : List ℕ) → IsDigit number → part_of (tuple_text number grants tag) ≡ Some Tuples
unfolding part_of
part_of-tuple number grants tag digit =
    let line = tuple_text number grants tag in
    cond-true (is_tuple line) (Some Tuples) (if is_outcome line then Some Outcome else None) (tuple-line number grants tag digit)

-- `granted` and `refused`
pub part_of-outcome : (granted : Bool) → part_of (outcome_word granted) ≡ Some Outcome
unfolding part_of
part_of-outcome true = refl
part_of-outcome false = refl

-- the line stands in the part
abbrev pub IsIn : Part → Line → Type 0
IsIn part line = part_of (shown line) ≡ Some part

-- a line goes on with a part
goes-on : {A : Type 0} (number : ℕ) (part next : Part) (rest : List ℕ) (found : A) (line : Line) (lines : List (List ℕ)) → IsIn next line
    → following part next ≡ Some next → body_from number part rest found (shown line ∷ lines) ≡ body_from (number + 1) next rest found lines
goes-on number part next rest found line lines is follows =
    ap (λ of. or_form number (option_and_then (following part) of) (λ next. body_from (number + 1) next rest found lines)) is
    ∙ ap (λ of. or_form number of (λ next. body_from (number + 1) next rest found lines)) follows

-- tuples behind a part, and the outcome
from-tuples : {A : Type 0} (number : ℕ) (part : Part) (found : A) (tuples : List Line) (outcome : Line)
    → following part Tuples ≡ Some Tuples → following part Outcome ≡ Some Outcome → AllByRecursion (IsIn Tuples) tuples → IsIn Outcome outcome
    → body_from number part [] found (map shown tuples ++ shown outcome ∷ []) ≡ Ok found
from-tuples number part found [] outcome tuple last each is = goes-on number part Outcome [] found outcome [] is last
from-tuples number part found (line ∷ tuples) outcome tuple last each is =
    goes-on number part Tuples [] found line (map shown tuples ++ shown outcome ∷ []) each.0 tuple
    ∙ from-tuples (number + 1) Tuples found tuples outcome refl refl each.1 is

-- subentries before them
pub from-scopes : {A : Type 0} (number : ℕ) (found : A) (scopes tuples : List Line) (outcome : Line)
    → AllByRecursion (IsIn Scopes) scopes → AllByRecursion (IsIn Tuples) tuples → IsIn Outcome outcome
    → body_from number Scopes [] found (map shown scopes ++ (map shown tuples ++ shown outcome ∷ [])) ≡ Ok found
from-scopes number found [] tuples outcome each later is = from-tuples number Scopes found tuples outcome refl refl later is
from-scopes number found (line ∷ scopes) tuples outcome each later is =
    goes-on number Scopes Scopes [] found line (map shown scopes ++ (map shown tuples ++ shown outcome ∷ [])) each.0 refl
    ∙ from-scopes (number + 1) found scopes tuples outcome each.1 later is
