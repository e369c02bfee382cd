-- When octets have a key, and which.
use Rattle.std.proofs.Common.{inl, inr, ◌≡◌, ℕ, List, Some, None, sym, ◌∙◌}
use Rattle.std.proofs.lemmas.Bool.{cases_Bool, cond-true, cond-false, false_from_ne_true}
use Rattle.std.proofs.lemmas.Option.{same_Some}
use Rattle.match_rules.specs.declared.parts.Part.{Part}
use Rattle.match_rules.specs.declared.rules.Rule.{Rule}
use Rattle.match_rules.specs.Keys.{prepared, key_of}
use Rattle.match_rules.specs.Parts.{prepared_part, part_key_of}
use Rattle.match_rules.specs.Syntaxes.{IsOf, IsPartOf, is_of}
use Rattle.match_rules.proofs.keys.SyntaxesLemmas.{is_of-Decides, is_part_of-Decides}

-- a value has its prepared octets for a key
pub key_of-value : (rule : Rule) (octets : List ℕ) → IsOf rule octets → key_of rule octets ≡ Some (prepared rule octets)
unfolding key_of
key_of-value rule octets is = cond-true _ _ _ ((is_of-Decides rule octets).1 is)

-- and other octets have none
pub key_of-other : (rule : Rule) (octets : List ℕ) → ¬ (IsOf rule octets) → key_of rule octets ≡ None
unfolding key_of
key_of-other rule octets other = cond-false _ _ _ (false_from_ne_true _ (λ test. other ((is_of-Decides rule octets).0 test)))

-- the same of parts
pub part_key_of-part : (rule : Rule) (part : Part) (octets : List ℕ) → IsPartOf rule octets → part_key_of rule part octets ≡ Some (prepared_part rule part octets)
unfolding part_key_of
part_key_of-part rule part octets is = cond-true _ _ _ ((is_part_of-Decides rule octets).1 is)

pub part_key_of-other : (rule : Rule) (part : Part) (octets : List ℕ) → ¬ (IsPartOf rule octets) → part_key_of rule part octets ≡ None
unfolding part_key_of
part_key_of-other rule part octets other = cond-false _ _ _ (false_from_ne_true _ (λ test. other ((is_part_of-Decides rule octets).0 test)))

-- octets with a key are a value, and their prepared octets are the key
pub key_of-Some : (rule : Rule) (octets key : List ℕ) → key_of rule octets ≡ Some key → IsOf rule octets × (prepared rule octets ≡ key)
unfolding key_of
key_of-Some rule octets key has =
    elim (cases_Bool (is_of rule octets)) [
      | inl test ↦ ((is_of-Decides rule octets).0 test, same_Some _ _ (sym (cond-true _ _ _ test) ∙ has))
      | inr other ↦ absurd (cc (sym (cond-false (is_of rule octets) (Some (prepared rule octets)) None other) ∙ has))
    ]
