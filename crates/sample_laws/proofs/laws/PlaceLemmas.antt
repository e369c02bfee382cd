-- A person joins the entries of a sample of fewer persons: its name is new, its unit is there, and it breaks no rule.
use Rattle.std.proofs.Common.{◌≡◌, ℕ, zero, suc, ◌+◌, ◌%◌, ◌^◌, ◌<◌, ◌≤◌, ◌==◌, Bool, true, false, ◌||◌, if◌then◌else◌, List, [], ◌∷◌, ◌++◌, length, drop, find, decimal, Option, Some, None, Ok, refl, ap, ◌∙◌, arith}
use Rattle.std.specs.Prelude.{codes}
use Rattle.std.proofs.lemmas.Bool.{false_from_ne_true, or_from, or_right, lt-leb, le-ltb, cond-false}
use Rattle.std.proofs.lemmas.Fmt.{decimal_injective}
use Rattle.dir_tree.specs.schema_tables.Attributes.{attributes}
use Rattle.dir_tree.specs.schema_tables.classes.Classes.{classes}
use Rattle.dir_tree.specs.dn_names.NameOrder.{name_cmp, is_same, types_and_keys}
use Rattle.dir_tree.proofs.dn_names_proofs.Theorems.{is_same-types_and_keys}
use Rattle.dir_tree.specs.Entry.{EntryInformation}
use Rattle.dir_tree.specs.EntryClasses.{has_class}
use Rattle.dir_tree.specs.Points.{is_subentry, is_access_subentry}
use Rattle.dir_tree.specs.tree.Trees.{is_before, is_named, has_name, named_in, put_in, most_entries}
use Rattle.dir_tree.proofs.TreeTheorems.{any_put, has_superior}
use Rattle.aci_item.specs.Rules.{lacks_own_value, has_other_structural, breaks_classes, has_unread, has_two_values, stands_wrong, is_misplaced, is_past_limits, octets_in, most_octets_in, broken_rule}
use Rattle.ldif_load.proofs.schema_rules_proofs.Theorems.{broken_rule-from_Meets}
use Rattle.ldif_load.specs.load.Loading.{ruled, placed}
use Rattle.sample_laws.specs.SampleEntries.{unit_name, unit_entry, person, head_entries, sample_entries}
use Rattle.sample_laws.proofs.laws.WordLemmas.{IsIdentifier, IsIdentifier-of}
use Rattle.sample_laws.proofs.laws.TextLemmas.{unit_text, person_of}
use Rattle.sample_laws.proofs.laws.ReadLemmas.{itself}

-- ---- an entry that is put in

put_length : (test : Bool) (entry first : EntryInformation) (rest later : List EntryInformation) → length later ≡ suc (length rest)
    → length (if test then first ∷ later else entry ∷ first ∷ rest) ≡ suc (suc (length rest))
put_length true entry first rest later is = ap suc is
put_length false entry first rest later is = refl

length-put_in : (entry : EntryInformation) (entries : List EntryInformation) → length (put_in entry entries) ≡ suc (length entries)
length-put_in entry [] = refl
length-put_in entry (first ∷ rest) = put_length (is_before first.name entry.name) entry first rest (put_in entry rest) (length-put_in entry rest)

-- a test finds the same where it is false of the entry
put_find : (before : Bool) (test : EntryInformation → Bool) (entry first : EntryInformation) (rest later : List EntryInformation) → test entry ≡ false
    → find test later ≡ find test rest → find test (if before then first ∷ later else entry ∷ first ∷ rest) ≡ find test (first ∷ rest)
put_find true test entry first rest later is same = ap (λ (found : Option EntryInformation). if test first then Some first else found) same
put_find false test entry first rest later is same = cond-false (test entry) (Some entry) (find test (first ∷ rest)) is

find-put_in : (test : EntryInformation → Bool) (entry : EntryInformation) (entries : List EntryInformation) → test entry ≡ false
    → find test (put_in entry entries) ≡ find test entries
find-put_in test entry [] is = cond-false (test entry) (Some entry) None is
find-put_in test entry (first ∷ rest) is =
    put_find (is_before first.name entry.name) test entry first rest (put_in entry rest) is (find-put_in test entry rest is)

-- ---- the entries of a sample

pub length-sample_entries : (count : ℕ) → length (sample_entries count) ≡ count + 4
unfolding sample_entries
length-sample_entries zero = refl
length-sample_entries (suc count) =
    let put = length-put_in (person (suc count)) (sample_entries count) in
    let before = length-sample_entries count in
    omega (arith, put, before)

-- the identifier in a name
identifier_in : List (List (ℕ × List ℕ)) → List ℕ
identifier_in [] = []
identifier_in (root ∷ []) = []
identifier_in (root ∷ unit ∷ []) = []
identifier_in (root ∷ unit ∷ [] ∷ rest) = []
identifier_in (root ∷ unit ∷ (pair ∷ pairs) ∷ rest) = pair.1

-- persons of different numbers have different names
same_number : (number other : ℕ) → number < 2 ^ 64 → other < 2 ^ 64 → is_same (person number).name (person other).name ≡ true → number ≡ other
unfolding identifier_in
same_number number other fits small same =
    let keys : types_and_keys (person number).name ≡ types_and_keys (person other).name = (is_same-types_and_keys (person number).name (person other).name).0 same in
    decimal_injective number other fits small (ap (λ name. drop 1 (identifier_in name)) keys)

apart : (number other : ℕ) → number < 2 ^ 64 → other < number → is_same (person number).name (person other).name ≡ false
apart number other fits below =
    false_from_ne_true (is_same (person number).name (person other).name)
    (λ same. let one = same_number number other fits (omega arith) same in absurd (omega (arith, one)))

-- none of the others is a person
new_in_head : (is_open : Bool) (identifier : List ℕ) → has_name (person_of is_open identifier).name head_entries ≡ false
unfolding name_cmp is_same
new_in_head true identifier = refl
new_in_head false identifier = refl

-- so the name of a further person is new
is_new : (number count : ℕ) → number < 2 ^ 64 → count < number → has_name (person number).name (sample_entries count) ≡ false
unfolding sample_entries
is_new number zero fits below = new_in_head ((number % 2) == 1) (codes "u" ++ decimal number)
is_new number (suc count) fits below =
    any_put (is_named (person number).name) (person (suc count)) (sample_entries count)
    ∙ or_from _ _ (apart number (suc count) fits below) (is_new number count fits (omega arith))

-- both units are there
unit_in_head : (is_open : Bool) → named_in (unit_name (unit_text is_open)) head_entries ≡ Some (unit_entry (unit_text is_open))
unfolding name_cmp is_same
unit_in_head true = refl
unit_in_head false = refl

there_in_head : (is_open : Bool) → has_name (unit_name (unit_text is_open)) head_entries ≡ true
unfolding name_cmp is_same
there_in_head true = refl
there_in_head false = refl

no_unit : (is_open other : Bool) (identifier : List ℕ) → is_same (unit_name (unit_text is_open)) (person_of other identifier).name ≡ false
unfolding name_cmp is_same
no_unit true true identifier = refl
no_unit true false identifier = refl
no_unit false true identifier = refl
no_unit false false identifier = refl

unit_found : (is_open : Bool) (count : ℕ) → named_in (unit_name (unit_text is_open)) (sample_entries count) ≡ Some (unit_entry (unit_text is_open))
unfolding sample_entries
unit_found is_open zero = unit_in_head is_open
unit_found is_open (suc count) =
    find-put_in (is_named (unit_name (unit_text is_open))) (person (suc count)) (sample_entries count)
    (no_unit is_open ((suc count % 2) == 1) (codes "u" ++ decimal (suc count))) ∙ unit_found is_open count

unit_there : (is_open : Bool) (count : ℕ) → has_name (unit_name (unit_text is_open)) (sample_entries count) ≡ true
unfolding sample_entries
unit_there is_open zero = there_in_head is_open
unit_there is_open (suc count) =
    any_put (is_named (unit_name (unit_text is_open))) (person (suc count)) (sample_entries count)
    ∙ or_right _ _ (unit_there is_open count)

-- ---- the rules

has_own : (is_open : Bool) (identifier : List ℕ) → lacks_own_value (person_of is_open identifier) ≡ false
unfolding lacks_own_value
has_own is_open identifier = rw (itself identifier)

of_classes : (is_open : Bool) (identifier : List ℕ) → breaks_classes (person_of is_open identifier) ≡ false
unfolding breaks_classes has_class is_subentry classes attributes
of_classes is_open identifier = refl

of_syntaxes : (is_open : Bool) (identifier : List ℕ) → has_unread (person_of is_open identifier) ≡ false
unfolding has_unread attributes
of_syntaxes is_open identifier = refl

of_single_values : (is_open : Bool) (identifier : List ℕ) → has_two_values (person_of is_open identifier) ≡ false
unfolding has_two_values attributes
of_single_values is_open identifier = refl

below_unit : (is_open : Bool) (identifier : List ℕ) → stands_wrong (Some (unit_entry (unit_text is_open))) (person_of is_open identifier) ≡ false
unfolding has_class is_subentry classes
below_unit is_open identifier = refl

well_placed : (is_open : Bool) (identifier : List ℕ) (count : ℕ) → is_misplaced None (sample_entries count) (person_of is_open identifier) ≡ false
unfolding is_misplaced
well_placed is_open identifier count =
    ap (λ (superior : Option EntryInformation). stands_wrong superior (person_of is_open identifier) || false) (unit_found is_open count)
    ∙ or_from _ _ (below_unit is_open identifier) refl

no_subentry : (is_open : Bool) (identifier : List ℕ) → is_access_subentry (person_of is_open identifier) ≡ false
unfolding is_access_subentry has_class is_subentry classes
no_subentry is_open identifier = refl

within_limits : (is_open : Bool) (identifier : List ℕ) (count : ℕ) → IsIdentifier identifier → count + 5 ≤ most_entries
    → is_past_limits (sample_entries count) (person_of is_open identifier) ≡ false
unfolding is_past_limits
within_limits is_open identifier count is fits =
    let many = length-sample_entries count in
    let octets : octets_in (person_of is_open identifier) ≤ most_octets_in = omega (arith, is.fits) in
    or_from _ _ (or_from _ _ (lt-leb most_entries (length (sample_entries count)) (omega (arith, many))) (rw (no_subentry is_open identifier)))
    (le-ltb most_octets_in (octets_in (person_of is_open identifier)) octets)

unbroken : (is_open : Bool) (identifier : List ℕ) (count : ℕ) → IsIdentifier identifier → count + 5 ≤ most_entries
    → broken_rule None (sample_entries count) (person_of is_open identifier) ≡ None
unfolding has_other_structural
unbroken is_open identifier count is fits = broken_rule-from_Meets None (sample_entries count) (person_of is_open identifier) (record {
  own_values = has_own is_open identifier;
  structural = refl;
  classes = of_classes is_open identifier;
  syntaxes = of_syntaxes is_open identifier;
  single = of_single_values is_open identifier;
  placed = well_placed is_open identifier count;
  limits = within_limits is_open identifier count is fits;
})

-- so the next person is placed
pub placed-person : (count line : ℕ) → count + 5 ≤ most_entries → placed (sample_entries count) line (person (suc count)) ≡ Ok (person (suc count))
unfolding placed
placed-person count line fits =
    let is_open : Bool = (suc count % 2) == 1 in
    let identifier = codes "u" ++ decimal (suc count) in
    let new = is_new (suc count) count (omega arith) (omega arith) in
    let has = has_superior (person (suc count)).name (sample_entries count) (unit_there is_open count) in
    let none = unbroken is_open identifier count (IsIdentifier-of (suc count) (omega arith)) fits in
    rw (new, has) (ap (ruled line (person (suc count))) none)
