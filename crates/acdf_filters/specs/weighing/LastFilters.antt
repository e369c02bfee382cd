-- The last three filters of the decision (X.501 18.8.4), which ask of a tuple what its keys say.
use Rattle.std.specs.Prelude.{ℕ, Bool, List}
use Rattle.acdf_filters.specs.users.Choices.{highest, lowest, passing_or_all}

-- what is asked of a tuple: its precedence, how specific the class is by which it stays, whether it names the item
-- explicitly, and whether it grants
pub record Keys (A : Type 0) : Type 0 where
  pub precedence : A → ℕ
  pub rank : A → ℕ
  pub explicit : A → Bool
  pub grants : A → Bool

-- those of the highest precedence
abbrev pub of_highest_precedence : {A : Type 0} → Keys A → List A → List A
of_highest_precedence keys xs = highest keys.precedence xs

-- those of the most specific user class
abbrev pub of_most_specific_class : {A : Type 0} → Keys A → List A → List A
of_most_specific_class keys xs = lowest keys.rank (of_highest_precedence keys xs)

-- those that name the item explicitly, if any does
abbrev pub of_most_specific_item : {A : Type 0} → Keys A → List A → List A
of_most_specific_item keys xs = passing_or_all keys.explicit (of_most_specific_class keys xs)
