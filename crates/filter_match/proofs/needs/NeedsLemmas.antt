-- Of an entry without the value a filter that needs it is not True.
use Rattle.std.proofs.Common.{◌≡◌, ℕ, Bool, true, false, ◌&&◌, List, refl, sym, ap, ◌∙◌, inl, inr}
use Rattle.std.specs.Prelude.{◌==◌, not}
use Rattle.std.specs.List.{list_any}
use Rattle.std.proofs.lemmas.Bool.{false≢true, true≢false, cases_Bool, and_parts, eqb-true, not_from_false, not-true}
use Rattle.std.proofs.lemmas.Slice.Eq.{bytes_eq-Decides}
use Rattle.dir_tree.specs.dn_names.name.Names.{Keyed}
use Rattle.dir_tree.specs.Entry.{EntryInformation, values_of, has_key}
use Rattle.ldap_filter.specs.filter.Filters.{Filter}
use Rattle.filter_match.specs.declared.question.Question.{Question}
use Rattle.filter_match.specs.declared.question.Question.TheVariants.{IsTrue, IsFalse, Settled}
use Rattle.filter_match.specs.Judging.{exact, judged}
use Rattle.filter_match.specs.Needs.{is_key, asks_for, without}
use Rattle.filter_match.specs.Tests.{Assertion, Test}
use Rattle.filter_match.specs.Tests.Assertion.{HasKey, IsClass, IsAtLeast, IsAtMost, HasParts}
use Rattle.filter_match.specs.Tests.Test.{Nothing, IsThere, HasValue}
use Rattle.filter_match.specs.Truth.{Permits, is_true, matches, has_match, test_truth, truth}
use Rattle.filter_match.proofs.evaluating.JudgingLemmas.{judged-exact, judged-weaker, found_so, list_any-weaker, not_so}

-- a value that matches has the key
matches-key : (key : List ℕ) (asserted : Assertion) (values : List Keyed) → is_key key asserted ≡ true → list_any (matches asserted) values ≡ true → has_key key values ≡ true
unfolding matches
matches-key key (HasKey asserted) values is found =
    ap (λ (key : List ℕ). has_key key values) (sym ((bytes_eq-Decides asserted key).0 is)) ∙ found
matches-key key (IsClass oid) values is found = absurd (false≢true is)
matches-key key (IsAtLeast asserted) values is found = absurd (false≢true is)
matches-key key (IsAtMost asserted) values is found = absurd (false≢true is)
matches-key key (HasParts first middle last) values is found = absurd (false≢true is)

-- an item that asks for the value is not True
not-found : (kind : ℕ) (key : List ℕ) (permits : Permits) (entry : EntryInformation) (other : ℕ) (asserted : Assertion)
    → has_key key (values_of kind entry.attributes) ≡ false
    → exact permits entry IsTrue (HasValue other asserted) ≡ true → asks_for kind key (HasValue other asserted) ≡ false
unfolding test_truth has_match
not-found kind key permits entry other asserted lacks holds = elim (cases_Bool (other == kind && is_key key asserted)) [
  | inl asks ↦
      let parts = and_parts (other == kind) (is_key key asserted) asks in
      let found : has_key key (values_of other entry.attributes) ≡ true =
      matches-key key asserted (values_of other entry.attributes) parts.1
      (list_any-weaker (matches asserted) (permits.value other) (values_of other entry.attributes) (found_so (permits.kind other) _ holds)) in
      absurd (true≢false (sym found ∙ ap (λ (kind : ℕ). has_key key (values_of kind entry.attributes)) (eqb-true other kind parts.0) ∙ lacks))
  | inr asks ↦ asks
]

-- what is answered with permission is answered so
without-weaker : (kind : ℕ) (key : List ℕ) (permits : Permits) (entry : EntryInformation) → has_key key (values_of kind entry.attributes) ≡ false
    → (question : Question) (test : Test) → exact permits entry question test ≡ true → without kind key question test ≡ true
without-weaker kind key permits entry lacks IsTrue Nothing holds = refl
without-weaker kind key permits entry lacks IsTrue (IsThere other) holds = refl
without-weaker kind key permits entry lacks IsTrue (HasValue other asserted) holds = not_from_false _ (not-found kind key permits entry other asserted lacks holds)
without-weaker kind key permits entry lacks IsFalse test holds = refl
without-weaker kind key permits entry lacks Settled test holds = holds

-- whatever is permitted
pub without-false : (kind : ℕ) (key : List ℕ) (filter : Filter) → judged (without kind key) IsTrue filter ≡ false
    → (permits : Permits) (entry : EntryInformation) → has_key key (values_of kind entry.attributes) ≡ false → is_true (truth permits entry filter) ≡ false
without-false kind key filter is permits entry lacks =
    not_so _ _ (λ holds. judged-weaker (exact permits entry) (without kind key) (without-weaker kind key permits entry lacks) IsTrue filter (judged-exact permits entry IsTrue filter ∙ holds)) is
