-- Lemmas on the words of an audit: four of them, which ask for one audit at most.
use Rattle.std.proofs.Common.{◌≡◌, ℕ, ◌<◌, ◌≤◌, List, [], ◌∷◌, length, map, get_or, sym, ap, ◌∙◌, arith}
use Rattle.audit_program.specs.Words.{AuditView, IsAsked, audit_of}

-- the texts of four words
pub four_texts :
    {S : Type 0} (text : S → List ℕ) (words : List S) (a b c d : S) (first second third fourth : List ℕ)
    → 4 ≤ length words → length words < 5 → a ≡ get_or words 0 a → b ≡ get_or words 1 b → c ≡ get_or words 2 c → d ≡ get_or words 3 d
    → first ≡ text a → second ≡ text b → third ≡ text c → fourth ≡ text d → first ∷ second ∷ third ∷ fourth ∷ [] ≡ map text words
four_texts text [] a b c d first second third fourth least most is_a is_b is_c is_d says_a says_b says_c says_d = absurd (omega (arith, least))
four_texts text (w ∷ []) a b c d first second third fourth least most is_a is_b is_c is_d says_a says_b says_c says_d = absurd (omega (arith, least))
four_texts text (w ∷ x ∷ []) a b c d first second third fourth least most is_a is_b is_c is_d says_a says_b says_c says_d = absurd (omega (arith, least))
four_texts text (w ∷ x ∷ y ∷ []) a b c d first second third fourth least most is_a is_b is_c is_d says_a says_b says_c says_d = absurd (omega (arith, least))
four_texts text (w ∷ x ∷ y ∷ z ∷ []) a b c d first second third fourth least most is_a is_b is_c is_d says_a says_b says_c says_d =
    cc (is_a, is_b, is_c, is_d, says_a, says_b, says_c, says_d)
four_texts text (w ∷ x ∷ y ∷ z ∷ v ∷ more) a b c d first second third fourth least most is_a is_b is_c is_d says_a says_b says_c says_d = absurd (omega (arith, most))

-- words ask for one audit at most
pub one_asked : (words : List (List ℕ)) (one other : AuditView) → IsAsked words one → IsAsked words other → one ≡ other
one_asked words one other is also =
    let same : one.data_file ∷ one.script ∷ is.number_word ∷ is.name_word ∷ [] ≡ other.data_file ∷ other.script ∷ also.number_word ∷ also.name_word ∷ [] = sym is.four ∙ also.four in
    let number_word : is.number_word ≡ also.number_word = cc same in
    let name_word : is.name_word ≡ also.name_word = cc same in
    let data_file : one.data_file ≡ other.data_file = cc same in
    let script : one.script ≡ other.script = cc same in
    let number : one.number ≡ other.number = cc (is.number.value, also.number.value, number_word) in
    let top : one.top ≡ other.top = cc (is.name.reads, also.name.reads, name_word) in
    ap (λ file. audit_of file one.script one.number one.top) data_file ∙ ap (λ file. audit_of other.data_file file one.number one.top) script
    ∙ ap (λ conn. audit_of other.data_file other.script conn one.top) number ∙ ap (λ name. audit_of other.data_file other.script other.number name) top
