-- The keys of middle parts, one part after the other.
use Rattle.std.proofs.Common.{◌≡◌, ℕ, ◌+◌, ◌<◌, suc, List, [], ◌∷◌, ◌++◌, Option, Some, None, refl, sym, ap, ◌∙◌, take, drop, length, get_or, drop-cons}
use Rattle.std.proofs.lemmas.List.{take_more, take-append-drop}
use Rattle.dir_tree.specs.plain_values.Options.{◌>>=◌}
use Rattle.dir_tree.specs.match_rules.declared.parts.Part.TheVariants.{Middle}
use Rattle.dir_tree.specs.match_rules.declared.rules.Rule.{Rule}
use Rattle.dir_tree.specs.match_rules.Parts.{part_key_of}
use Rattle.dir_tree.specs.match_rules.declared.errors.PrepareFault.{PrepareFault}
use Rattle.dir_tree.specs.match_rules.declared.errors.PrepareFault.TheVariants.{NotOfSyntax, NoMemory}
use Rattle.filter_match.specs.Preparing.{Fails}
use Rattle.filter_match.specs.Tests.{middle_keys}

-- two lists of keys behind each other, where there are both
abbrev both : Option (List (List ℕ)) → Option (List (List ℕ)) → Option (List (List ℕ))
both front back = front >>= λ keys. (back >>= λ others. Some (keys ++ others))

both_none : (back : Option (List (List ℕ))) → back ≡ both (Some []) back
both_none None = refl
both_none (Some keys) = refl

both_more : (key : Option (List ℕ)) (keys front back : Option (List (List ℕ))) → keys ≡ both front back
    → (key >>= λ first. (keys >>= λ rest. Some (first ∷ rest))) ≡ both (key >>= λ first. (front >>= λ rest. Some (first ∷ rest))) back
both_more None keys front back is = refl
both_more (Some first) keys None back is = rw is refl
both_more (Some first) keys (Some front) None is = rw is refl
both_more (Some first) keys (Some front) (Some back) is = rw is refl

middle_keys-append : (rule : Rule) (front back : List (List ℕ)) → middle_keys rule (front ++ back) ≡ both (middle_keys rule front) (middle_keys rule back)
middle_keys-append rule [] back = both_none (middle_keys rule back)
middle_keys-append rule (part ∷ front) back =
    both_more (part_key_of rule Middle part) _ (middle_keys rule front) (middle_keys rule back) (middle_keys-append rule front back)

-- one part more
pub middle_keys-more : (rule : Rule) (parts : List (List ℕ)) (index : ℕ) (part key : List ℕ) (keys : List (List ℕ))
    → index < length parts → part ≡ get_or parts index part
    → middle_keys rule (take index parts) ≡ Some keys → part_key_of rule Middle part ≡ Some key
    → middle_keys rule (take (index + 1) parts) ≡ Some (keys ++ key ∷ [])
middle_keys-more rule parts index part key keys within is before found =
    ap (middle_keys rule) (take_more parts index part within ∙ ap (λ (last : List ℕ). take index parts ++ last ∷ []) (sym is))
    ∙ middle_keys-append rule (take index parts) (part ∷ [])
    ∙ rw (before, found) refl

-- a part without a key
pub middle_keys-stop : (rule : Rule) (parts : List (List ℕ)) (index : ℕ) (part : List ℕ) (keys : List (List ℕ))
    → index < length parts → part ≡ get_or parts index part
    → middle_keys rule (take index parts) ≡ Some keys → part_key_of rule Middle part ≡ None
    → middle_keys rule parts ≡ None
middle_keys-stop rule parts index part keys within is before found =
    ap (middle_keys rule) (sym (take-append-drop index parts))
    ∙ middle_keys-append rule (take index parts) (drop index parts)
    ∙ ap (λ (rest : List (List ℕ)). both (middle_keys rule (take index parts)) (middle_keys rule rest)) (drop-cons parts index part within ∙ ap (λ (first : List ℕ). first ∷ drop (suc index) parts) (sym is))
    ∙ rw (before, found) refl

-- what could not be made of a part could not be made of the whole
pub fails_so : {A B : Type 0} (fault : PrepareFault) (part : Option A) (whole : Option B)
    → (part ≡ None → whole ≡ None) → Fails fault part → Fails fault whole
fails_so NotOfSyntax part whole so failed = so failed
fails_so NoMemory part whole so failed = tt
