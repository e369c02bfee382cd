-- Each line of a certificate is printed, and those behind the question stand in their parts.
use Rattle.std.proofs.Common.{◌≡◌, ℕ, ◌==◌, ◌∙◌, ap, refl, Bool, true, false, List, [], ◌∷◌, ◌++◌, map, filter, Option, Some, None}
use Rattle.std.specs.Prelude.{codes, decimal, flat_map, if◌then◌else◌}
use Rattle.std.specs.List.{AllByRecursion}
use Rattle.std.proofs.lemmas.Bool.{or_from}
use Rattle.std.proofs.lemmas.List.{append-nil}
use Rattle.dir_tree.specs.dn_names.name.Names.{RdnSequence}
use Rattle.dir_tree.specs.dn_names.name.GoodNames.{IsGoodName}
use Rattle.dir_tree.specs.Entry.{EntryInformation}
use Rattle.dir_tree.specs.Points.{is_subentry, is_access_subentry}
use Rattle.dir_tree.specs.Scope.{is_child}
use Rattle.dir_tree.proofs.base_laws_proofs.Theorems.{all_true, all_map, all_append, all_filter}
use Rattle.acdf_filters.specs.admin_scope.Areas.{areas}
use Rattle.acdf_filters.specs.admin_scope.InForce.{subtree_holds}
use Rattle.acdf_filters.specs.aci_item.ItemPrinted.{permission_name}
use Rattle.acdf_filters.specs.Asking.{Asked}
use Rattle.acdf_filters.specs.Filters.{Placed}
use Rattle.acdf_filters.specs.gser_tree.Writing.{text_of, print_string}
use Rattle.line_text.specs.Escapes.{escaped}
use Rattle.explanation.specs.Texts.{effect}
use Rattle.certify.specs.declared.form_lines.Part.{Part}
use Rattle.certify.specs.declared.form_lines.Part.TheVariants.{Scopes, Tuples, Outcome}
use Rattle.certify.specs.LastFilter.{last_filter}
use Rattle.certify.specs.Lines.{Line, whole}
use Rattle.certify.specs.Certificate.{who_line, item_word, question_lines, scope_word, scope_line, scope_lines_at, scope_lines, tuple_text, tuple_line, outcome_word}
use Rattle.certify.specs.FormLines.{part_of}
use Rattle.certify.specs.Readable.{HaveGoodNames}
use Rattle.certify.proofs.laws.EndLemmas.{has_end, has_end-append, has_end-escaped}
use Rattle.certify.proofs.laws.LineLemmas.{HasGoodName, IsPrinted}
use Rattle.certify.proofs.laws.PartLemmas.{IsIn, IsDigit, last_filter-digit, part_of-scope, part_of-tuple, part_of-outcome}

-- the line is printed, and stands in the part
pub record IsFormed (part : Part) (line : Line) : Type 0 where
  pub printed : IsPrinted line
  pub placed : IsIn part line

-- what holds of each made from those of a list
all-mapped : {A B : Type 0} (P : B → Type 0) (f : A → B) (xs : List A) → AllByRecursion (λ x. P (f x)) xs → AllByRecursion P (map f xs)
all-mapped P f [] each = tt
all-mapped P f (x ∷ xs) each = (each.0, all-mapped P f xs each.1)

all-made : {A B : Type 0} (P : B → Type 0) (f : A → List B) → ((x : A) → AllByRecursion P (f x)) → (xs : List A) → AllByRecursion P (flat_map f xs)
all-made P f each [] = tt
all-made P f each (x ∷ xs) = all_append P (f x) (flat_map f xs) (each x) (all-made P f each xs)

-- the line of a subentry
word-kept : (holds : Bool) → has_end (scope_word holds) ≡ false
word-kept true = refl
word-kept false = refl

scope-formed : (entry point subentry : EntryInformation) → IsGoodName subentry.name → IsFormed Scopes (scope_line entry point subentry)
scope-formed entry point subentry good = record {
  printed = record { kept = word-kept (subtree_holds point subentry entry); name = good };
  placed = part_of-scope (subtree_holds point subentry entry) subentry.name good;
}

-- those of all
scopes-at : (entries : List EntryInformation) (entry point : EntryInformation) → HaveGoodNames entries
    → AllByRecursion (IsFormed Scopes) (scope_lines_at entries entry point)
scopes-at entries entry point good =
    let named = all_map (λ (subentry : EntryInformation). IsGoodName subentry.name) (λ subentry. IsFormed Scopes (scope_line entry point subentry)) (scope-formed entry point) entries good in
    let P : EntryInformation → Type 0 = λ subentry. IsFormed Scopes (scope_line entry point subentry) in
    all-mapped (IsFormed Scopes) (scope_line entry point) (filter (λ subentry. is_child point.name subentry) (filter is_access_subentry entries))
    (all_filter P (λ subentry. is_child point.name subentry) (filter is_access_subentry entries) (all_filter P is_access_subentry entries named))

pub scopes-formed : (entries : List EntryInformation) (entry : EntryInformation) → HaveGoodNames entries → AllByRecursion (IsFormed Scopes) (scope_lines entries entry)
scopes-formed entries entry good = by (is_subentry entry)
  where
    by : (is : Bool) → AllByRecursion (IsFormed Scopes) (if is then [] else flat_map (scope_lines_at entries entry) (areas entries entry))
    by true = tt
    by false = all-made (IsFormed Scopes) (scope_lines_at entries entry) (λ point. scopes-at entries entry point good) (areas entries entry)

-- the line of a tuple
effect-kept : (grants : Bool) → has_end (effect grants) ≡ false
effect-kept true = refl
effect-kept false = refl

digit-kept : (number : ℕ) → IsDigit number → has_end (decimal number) ≡ false
digit-kept number digit = ap has_end digit.exact ∙ or_from (digit.digit == 10) false digit.other refl

tuple-kept : (number : ℕ) (grants : Bool) (tag : List ℕ) → IsDigit number → has_end (tuple_text number grants tag) ≡ false
tuple-kept number grants tag digit =
    let string = escaped (text_of (print_string tag)) in
    let tail = has_end-append (codes " ") string refl (has_end-escaped (text_of (print_string tag))) in
    let done = has_end-append (effect grants) (codes " " ++ string) (effect-kept grants) tail in
    let text = codes " " ++ (effect grants ++ (codes " " ++ string)) in
    has_end-append (codes "tuple ") (decimal number ++ text) refl
    (has_end-append (decimal number) text (digit-kept number digit) (has_end-append (codes " ") (effect grants ++ (codes " " ++ string)) refl done))

tuple-formed : (asked : Asked) (xs : List Placed) (x : Placed) → IsFormed Tuples (tuple_line asked xs x)
tuple-formed asked xs x =
    let number = last_filter asked xs x in
    let digit = last_filter-digit asked xs x in
    let grants = x.listed.tuple.grants in
    record {
      printed = record { kept = tuple-kept number grants x.listed.tag digit; name = tt };
      placed = ap part_of (append-nil (tuple_text number grants x.listed.tag)) ∙ part_of-tuple number grants x.listed.tag digit;
    }

pub tuples-formed : (asked : Asked) (xs : List Placed) → AllByRecursion (IsFormed Tuples) (map (tuple_line asked xs) xs)
tuples-formed asked xs = all-mapped (IsFormed Tuples) (tuple_line asked xs) xs (all_true (λ x. IsFormed Tuples (tuple_line asked xs x)) (tuple-formed asked xs) xs)

-- that of the outcome
outcome-kept : (granted : Bool) → has_end (outcome_word granted) ≡ false
outcome-kept true = refl
outcome-kept false = refl

pub outcome-formed : (granted : Bool) → IsFormed Outcome (whole (outcome_word granted))
outcome-formed granted = record {
  printed = record { kept = outcome-kept granted; name = tt };
  placed = ap part_of (append-nil (outcome_word granted)) ∙ part_of-outcome granted;
}

-- the four lines of the question
who-printed : (name : Option RdnSequence) → HasGoodName name → IsPrinted (who_line name)
who-printed None good = record { kept = refl; name = tt }
who-printed (Some name) good = record { kept = refl; name = good }

pub question-printed : (entry : EntryInformation) (asked : Asked) → IsGoodName entry.name → HasGoodName asked.who.name
    → has_end (permission_name asked.permission) ≡ false → AllByRecursion IsPrinted (question_lines entry asked)
question-printed entry asked good who permission = (
  who-printed asked.who.name who,
  (
    record { kept = refl; name = good },
    (
      record { kept = has_end-append (codes "item ") (escaped (item_word asked.item)) refl (has_end-escaped (item_word asked.item)); name = tt },
      (record { kept = has_end-append (codes "permission ") (permission_name asked.permission) refl permission; name = tt }, tt),
    ),
  ),
)
