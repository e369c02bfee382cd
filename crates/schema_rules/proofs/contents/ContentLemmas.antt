-- The types of a class as the program holds them.
use Rattle.std.proofs.Common.{◌≡◌, ℕ, ◌<◌, ◌==◌, Bool, true, false, ◌||◌, List, length, map, ◌++◌, get_or, set, ◌≢◌, refl, sym, ap, ◌∙◌, inl, inr, arith}
use Rattle.std.specs.List.{list_any}
use Rattle.std.proofs.lemmas.Bool.{cases_Bool}
use Rattle.std.proofs.lemmas.Bool.Decides.{nat_tests}
use Rattle.std.proofs.lemmas.List.{get_or-set_same, get_or-set_other}
use Rattle.std.proofs.lemmas.List.Folds.{list_any-append}
use Rattle.std.proofs.Math.Bool.{or-false, or-true}
use Rattle.dir_tree.specs.schema_tables.declared.kinds.AttrId.{AttrId}
use Rattle.schema_rules.specs.Classes.{MarksAlso}
use Rattle.schema_rules.proofs.values.ListLemmas.{list_any-map}

-- a test of the types is one of their numbers
pub by_numbers :
    (test : ℕ → Bool) (kinds : List AttrId) (numbers : List ℕ) → map (λ kind. kind.0) kinds ≡ numbers
    → list_any (λ kind. test kind.0) kinds ≡ list_any test numbers
by_numbers test kinds numbers is = sym (list_any-map test (λ kind. kind.0) kinds) ∙ ap (list_any test) is

or_or : (a b c : Bool) → ((a || b) || c) ≡ (a || (b || c))
or_or true b c = refl
or_or false b c = refl

-- one number is marked
pub marked-one : (marks : List Bool) (kind : ℕ) → kind < length marks → MarksAlso marks (λ number. number == kind) (set marks kind true)
marked-one marks kind within number = elim (cases_Bool (number == kind)) [
  | inl same ↦
      let is : number ≡ kind = grind (arith, nat_tests) in
      rw (is, get_or-set_same marks kind true false within) (sym (ap (λ b. get_or marks kind false || b) (rw is at same) ∙ or-true (get_or marks kind false)))
  | inr other ↦
      let apart : number ≢ kind = grind (arith, nat_tests) in
      get_or-set_other marks kind number true false apart ∙ sym (or-false (get_or marks number false)) ∙ ap (λ b. get_or marks number false || b) (sym other)
]

-- what passes the one test or the other is marked
pub marked-both :
    (old now new : List Bool) (one other whole : ℕ → Bool) → MarksAlso old one now → MarksAlso now other new
    → ((number : ℕ) → (one number || other number) ≡ whole number) → MarksAlso old whole new
marked-both old now new one other whole first second same number =
    second number ∙ ap (λ b. b || other number) (first number)
    ∙ or_or (get_or old number false) (one number) (other number)
    ∙ ap (λ b. get_or old number false || b) (same number)

-- the types of a row
pub of_row :
    (number : ℕ) (kinds others : List AttrId) (required allowed : List ℕ) → map (λ kind. kind.0) kinds ≡ required
    → map (λ kind. kind.0) others ≡ allowed
    → (list_any (λ kind. number == kind.0) kinds || list_any (λ kind. number == kind.0) others)
    ≡ list_any (λ other. number == other) (required ++ allowed)
of_row number kinds others required allowed is is_other =
    ap (λ b. b || list_any (λ kind. number == kind.0) others) (by_numbers (λ other. number == other) kinds required is)
    ∙ ap (λ b. list_any (λ other. number == other) required || b) (by_numbers (λ other. number == other) others allowed is_other)
    ∙ sym (list_any-append (λ other. number == other) required allowed)
