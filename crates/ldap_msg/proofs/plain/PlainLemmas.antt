-- The octets of a messageID by their number (X.690 8.3.2), and of a reply that is a result with no matched name.
use Rattle.std.proofs.Common.{◌≡◌, ℕ, ◌+◌, ◌<◌, ◌≤◌, Bool, true, false, eqb, ltb, List, [], ◌∷◌, ◌++◌, length, length-append, refl, sym, ap, ◌∙◌, inl, inr, arith, w64}
use Rattle.std.specs.Prelude.{pos, ◌&&◌, Result, Ok, Err, OnOk, is_ok, if◌then◌else◌}
use Rattle.std.specs.Int.{byte_at, to_be_bytes}
use Rattle.std.proofs.lemmas.Bool.{cases_Bool, and_parts, eqb-true, ltb-true, eq-eqb, lt-ltb, le-ltb}
use Rattle.ber_elements.specs.Integer.{trimmed, int_octets}
use Rattle.ber_elements.specs.write.Spelling.{length_octets}
use Rattle.ber_layout.specs.Layouts.{writes}
use Rattle.ber_layout.specs.Spellings.{element_octets}
use Rattle.ldap_msg.specs.declared.kinds.Reply.{Reply}
use Rattle.ldap_msg.specs.declared.operations.ResultCode.{ResultCode}
use Rattle.ldap_msg.specs.operations.Operations.{response_tag}
use Rattle.ldap_msg.specs.operations.ResultCodes.{code_number}
use Rattle.ldap_msg.specs.Results.{result_layout}
use Rattle.ldap_msg.specs.Replies.{IsShortReply, response_for, reply_content, reply_octets}
use Rattle.ldap_msg.proofs.operations.CodeLemmas.{code_bound}

-- a zero before an octet with a clear first bit is spare
spare : (b c : ℕ) (octets : List ℕ) → b ≡ 0 → c < 128 → trimmed (b ∷ c ∷ octets) ≡ trimmed (c ∷ octets)
spare b c octets zero low = rw (eq-eqb b 0 zero, lt-ltb c 128 low) refl

-- any other first octet is needed
needed : (b c : ℕ) (octets : List ℕ) → (b ≡ 0 → c < 128 → ⊥) → trimmed (b ∷ c ∷ octets) ≡ b ∷ c ∷ octets
needed b c octets other =
    elim (cases_Bool (eqb b 0 && ltb c 128)) [
      | inl both ↦
          let parts = and_parts (eqb b 0) (ltb c 128) both in
          absurd (other (eqb-true b 0 parts.0) (ltb-true c 128 parts.1))
      | inr not_both ↦ rw not_both refl
    ]

natural : (n : ℕ) → int_octets (pos n) ≡ trimmed (to_be_bytes w64 n)
unfolding int_octets
natural n = let is : ltb n 0 ≡ false = le-ltb n 0 (omega arith) in rw is refl

-- the upper four of eight octets are spare
low_four : (n : ℕ) → n < 2147483648 → int_octets (pos n) ≡ trimmed (byte_at 3 n ∷ byte_at 2 n ∷ byte_at 1 n ∷ byte_at 0 n ∷ [])
low_four n below =
    natural n
    ∙ spare (byte_at 7 n) (byte_at 6 n) (byte_at 5 n ∷ byte_at 4 n ∷ byte_at 3 n ∷ byte_at 2 n ∷ byte_at 1 n ∷ byte_at 0 n ∷ []) (omega arith) (omega arith)
    ∙ spare (byte_at 6 n) (byte_at 5 n) (byte_at 4 n ∷ byte_at 3 n ∷ byte_at 2 n ∷ byte_at 1 n ∷ byte_at 0 n ∷ []) (omega arith) (omega arith)
    ∙ spare (byte_at 5 n) (byte_at 4 n) (byte_at 3 n ∷ byte_at 2 n ∷ byte_at 1 n ∷ byte_at 0 n ∷ []) (omega arith) (omega arith)
    ∙ spare (byte_at 4 n) (byte_at 3 n) (byte_at 2 n ∷ byte_at 1 n ∷ byte_at 0 n ∷ []) (omega arith) (omega arith)

pub four_octets : (n : ℕ) → 8388608 ≤ n → n < 2147483648 → int_octets (pos n) ≡ byte_at 3 n ∷ byte_at 2 n ∷ byte_at 1 n ∷ byte_at 0 n ∷ []
four_octets n more below = low_four n below ∙ needed (byte_at 3 n) (byte_at 2 n) (byte_at 1 n ∷ byte_at 0 n ∷ []) (λ zero low. omega arith)

pub three_octets : (n : ℕ) → 32768 ≤ n → n < 8388608 → int_octets (pos n) ≡ byte_at 2 n ∷ byte_at 1 n ∷ byte_at 0 n ∷ []
three_octets n more below =
    low_four n (omega arith)
    ∙ spare (byte_at 3 n) (byte_at 2 n) (byte_at 1 n ∷ byte_at 0 n ∷ []) (omega arith) (omega arith)
    ∙ needed (byte_at 2 n) (byte_at 1 n) (byte_at 0 n ∷ []) (λ zero low. omega arith)

pub two_octets : (n : ℕ) → 128 ≤ n → n < 32768 → int_octets (pos n) ≡ byte_at 1 n ∷ byte_at 0 n ∷ []
two_octets n more below =
    low_four n (omega arith)
    ∙ spare (byte_at 3 n) (byte_at 2 n) (byte_at 1 n ∷ byte_at 0 n ∷ []) (omega arith) (omega arith)
    ∙ spare (byte_at 2 n) (byte_at 1 n) (byte_at 0 n ∷ []) (omega arith) (omega arith)
    ∙ needed (byte_at 1 n) (byte_at 0 n) [] (λ zero low. omega arith)

pub one_octet : (n : ℕ) → n < 128 → int_octets (pos n) ≡ byte_at 0 n ∷ []
one_octet n below =
    low_four n (omega arith)
    ∙ spare (byte_at 3 n) (byte_at 2 n) (byte_at 1 n ∷ byte_at 0 n ∷ []) (omega arith) (omega arith)
    ∙ spare (byte_at 2 n) (byte_at 1 n) (byte_at 0 n ∷ []) (omega arith) (omega arith)
    ∙ spare (byte_at 1 n) (byte_at 0 n) [] (omega arith) (omega arith)

-- the octet of a number below 128 is the number
pub small : (n : ℕ) → n < 128 → int_octets (pos n) ≡ n ∷ []
small n below = let same : byte_at 0 n ≡ n = omega arith in one_octet n below ∙ ap (λ (k : ℕ). k ∷ []) same

-- the message of a result with no matched name
abbrev pub plain_octets : List ℕ → ℕ → List ℕ → List ℕ
plain_octets number tag code =
    element_octets 48 (element_octets 2 number ++ (element_octets tag (element_octets 10 code ++ (element_octets 4 [] ++ (element_octets 4 [] ++ []))) ++ []))

pub plain_is : (id octet tag : ℕ) (code : ResultCode) (answer : Reply) (number : List ℕ) → int_octets (pos id) ≡ number → octet ≡ code_number code
    → tag ≡ response_tag (response_for answer) → reply_content answer ≡ writes result_layout (code_number code, ([], (tt, tt)))
    → reply_octets id answer ≡ plain_octets number tag (octet ∷ [])
unfolding reply_octets
plain_is id octet tag code answer number is coded tagged content =
    ap (λ (s : List ℕ). element_octets 48 (element_octets 2 (int_octets (pos id)) ++ (element_octets (response_tag (response_for answer)) s ++ []))) content
    ∙ ap (λ (s : List ℕ). plain_octets s (response_tag (response_for answer)) (int_octets (pos (code_number code)))) is
    ∙ ap (λ (s : List ℕ). plain_octets number (response_tag (response_for answer)) s) (small (code_number code) (code_bound code))
    ∙ ap (λ (k : ℕ). plain_octets number (response_tag (response_for answer)) (k ∷ [])) (sym coded)
    ∙ ap (λ (t : ℕ). plain_octets number t (octet ∷ [])) (sym tagged)

-- octets that are trimmed are no more than they were
fewer : (test : Bool) (one other : List ℕ) (most : ℕ) → length one ≤ most → length other ≤ most → length (if test then one else other) ≤ most
fewer true one other most first second = first
fewer false one other most first second = second

length-trimmed : (octets : List ℕ) → length (trimmed octets) ≤ length octets
length-trimmed [] = omega arith
length-trimmed (first ∷ []) = omega arith
length-trimmed (first ∷ second ∷ octets) =
    let less = length-trimmed (second ∷ octets) in
    fewer (eqb first 0 && ltb second 128) (trimmed (second ∷ octets)) (first ∷ second ∷ octets) (length (first ∷ second ∷ octets)) (omega (arith, less)) (omega arith)

-- an element of few octets has two more
length-element : (tag : ℕ) (content : List ℕ) → length content < 128 → length (element_octets tag content) ≡ length content + 2
unfolding element_octets length_octets
length-element tag content few = rw (lt-ltb (length content) 128 few) (omega arith)

-- so the content of the message of such a reply is short
pub plain_short : (id : ℕ) (code : ResultCode) (answer : Reply) → id ≤ 2147483647 → reply_content answer ≡ writes result_layout (code_number code, ([], (tt, tt))) → IsShortReply id answer
plain_short id code answer most is =
    let tag = response_tag (response_for answer) in
    let number = int_octets (pos id) in
    let number_few : length number ≤ 4 =
    omega (arith, ap length (low_four id (omega arith)), length-trimmed (byte_at 3 id ∷ byte_at 2 id ∷ byte_at 1 id ∷ byte_at 0 id ∷ [])) in
    let coded = code_number code in
    let code_few : length (element_octets 10 (int_octets (pos coded))) ≡ 3 =
    ap (λ (s : List ℕ). length (element_octets 10 s)) (small coded (code_bound code)) ∙ length-element 10 (coded ∷ []) (omega arith) in
    let none : length (element_octets 4 []) ≡ 2 = length-element 4 [] (omega arith) in
    let content_few : length (reply_content answer) ≡ 7 =
    ap length is ∙ simp length-append (omega (arith, code_few, none)) in
    simp length-append (omega (arith, number_few, length-element 2 number (omega (arith, number_few)), length-element tag (reply_content answer) (omega (arith, content_few)), content_few))

-- what was appended, where there was memory
pub where_ok : {T E : Type 0} (r : Result T E) (new appended old : List ℕ) → new ≡ (if is_ok r then appended else old) → OnOk r (new ≡ appended)
where_ok (Ok x) new appended old is = is
where_ok (Err x) new appended old is = tt
