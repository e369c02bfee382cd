-- Lemmas on the text of a line: the event that is read from it, and the text of an event.
use Rattle.std.proofs.Common.{◌≡◌, ℕ, ◌+◌, ◌<◌, sym, ◌∙◌, ap, subst, refl, arith, true, false, List, [], ◌∷◌, ◌++◌, length, take, drop, get_or, Option, Some, None, nat_eq, inl, inr}
use Rattle.std.specs.Prelude.{codes}
use Rattle.std.specs.Char.{is_ascii_digit}
use Rattle.std.specs.List.{AllPass, starts_with, position_or_len, before_first, after_first}
use Rattle.std.specs.Option.{option_map}
use Rattle.std.proofs.lemmas.Bool.{cases_Bool, eqb-true, ne_eqb, cases_lt}
use Rattle.std.proofs.lemmas.Bool.Decides.{Decides-eqb}
use Rattle.std.proofs.lemmas.List.{append_assoc, get_or_append_left, get_or_at, length-append, take_at, drop_at, drop-drop, drop_all}
use Rattle.std.proofs.lemmas.List.Sums.{split_at_first, passes_at_first, position_or_len_is}
use Rattle.std.proofs.lemmas.Slice.Eq.{starts_is}
use Rattle.script_text.specs.declared.event.ScriptEvent.{ScriptEvent}
use Rattle.script_text.specs.declared.event.ScriptEvent.TheVariants.{Opened, Bytes, Ended}
use Rattle.script_text.specs.LineText.{IsNumber, IsHexadecimal, Spells}
use Rattle.script_text.specs.LineReading.{is_space, number_of, octets_of, sent, sent_by, event_of}
use Rattle.script_text.proofs.lines.LineLemmas.{number_of-some, IsNumber-read, octets_of-some, IsHexadecimal-read, no_octets_read, sent-some}
use Rattle.script_text.proofs.words.WordLemmas.{is_ascii_digit-from}
use Rattle.base_laws.proofs.Theorems.{choose, other_choice}

-- a line that starts with a text is that text and what follows
starts : (line text : List ℕ) → starts_with nat_eq line text ≡ true → line ≡ text ++ drop (length text) line
starts line text is = (starts_is Decides-eqb line text true (sym is)).0 refl

-- an event made of a number
option_map-some : (make : ℕ → ScriptEvent) (number : Option ℕ) (event : ScriptEvent) → option_map make number ≡ Some event
    → (n : ℕ) × (number ≡ Some n) × (event ≡ make n)
option_map-some make None event is = cc is
option_map-some make (Some n) event is = (n, refl, cc is)

opened_text : (line : List ℕ) (event : ScriptEvent) → starts_with nat_eq line (codes "open ") ≡ true → option_map Opened (number_of (drop 5 line)) ≡ Some event → Spells line event
opened_text line event begins is =
    let found = option_map-some Opened (number_of (drop 5 line)) event is in
    subst (λ (e : ScriptEvent). Spells line e) (sym found.2) (drop 5 line, starts line (codes "open ") begins, number_of-some (drop 5 line) found.0 found.1)

ended_text : (line : List ℕ) (event : ScriptEvent) → starts_with nat_eq line (codes "end ") ≡ true → option_map Ended (number_of (drop 4 line)) ≡ Some event → Spells line event
ended_text line event begins is =
    let found = option_map-some Ended (number_of (drop 4 line)) event is in
    subst (λ (e : ScriptEvent). Spells line e) (sym found.2) (drop 4 line, starts line (codes "end ") begins, number_of-some (drop 4 line) found.0 found.1)

-- two words with a space between
spaced : (front word rest : List ℕ) → front ++ (word ++ (32 ∷ rest)) ≡ ((front ++ word) ++ codes " ") ++ rest
spaced front word rest = simp append_assoc

-- a text with a space is what stands before it, the space, and what stands after
at_space : (text : List ℕ) → position_or_len is_space text < length text → text ≡ before_first is_space text ++ (32 ∷ after_first is_space text)
at_space text within =
    let space = eqb-true (get_or text (position_or_len is_space text) 0) 32 (passes_at_first is_space text 0 within) in
    split_at_first is_space text 0 within ∙ ap (λ octet. before_first is_space text ++ (octet ∷ after_first is_space text)) space

-- where octets are read after a space, there is one
has_space : (text octets : List ℕ) → octets_of (after_first is_space text) ≡ Some octets → position_or_len is_space text < length text
has_space text octets is =
    elim (cases_lt (position_or_len is_space text) (length text)) [
      | inl within ↦ within
      | inr past ↦
          let none : after_first is_space text ≡ [] = drop_all (position_or_len is_space text + 1) text (omega arith) in
          cc (no_octets_read, ap octets_of none, is)
    ]

sent_text : (line : List ℕ) (event : ScriptEvent) → starts_with nat_eq line (codes "send ") ≡ true → sent_by (drop 5 line) ≡ Some event → Spells line event
unfolding sent_by
sent_text line event begins is =
    let rest = drop 5 line in
    let digits = before_first is_space rest in
    let pairs = after_first is_space rest in
    let found = sent-some (number_of digits) (octets_of pairs) event is in
    let joined = starts line (codes "send ") begins ∙ ap (λ text. codes "send " ++ text) (at_space rest (has_space rest found.1 found.3)) ∙ spaced (codes "send ") digits pairs in
    subst (λ (e : ScriptEvent). Spells line e) (sym found.4) (digits, pairs, joined, number_of-some digits found.0 found.2, octets_of-some pairs found.1 found.3)

-- what is read is the text of the event
pub event_of-some : (line : List ℕ) (event : ScriptEvent) → event_of line ≡ Some event → Spells line event
unfolding event_of
event_of-some line event is =
    elim (cases_Bool (starts_with nat_eq line (codes "open "))) [
      | inl begins ↦ opened_text line event begins (sym (choose _ _ _ begins) ∙ is)
      | inr not_open ↦
          let not_opened = sym (other_choice _ _ _ not_open) ∙ is in
          elim (cases_Bool (starts_with nat_eq line (codes "send "))) [
            | inl begins ↦ sent_text line event begins (sym (choose _ _ _ begins) ∙ not_opened)
            | inr not_send ↦
                let not_sent = sym (other_choice _ _ _ not_send) ∙ not_opened in
                elim (cases_Bool (starts_with nat_eq line (codes "end "))) [
                  | inl begins ↦ ended_text line event begins (sym (choose _ _ _ begins) ∙ not_sent)
                  | inr not_end ↦ cc (sym (other_choice _ _ _ not_end) ∙ not_sent)
                ]
          ]
    ]

-- digits before a space are the text before the first space
first_space : (digits pairs : List ℕ) → AllPass is_ascii_digit digits → position_or_len is_space (digits ++ (32 ∷ pairs)) ≡ length digits
first_space digits pairs all =
    position_or_len_is is_space (digits ++ (32 ∷ pairs)) (length digits) 0
    (omega (arith, length-append digits (32 ∷ pairs)))
    (λ k below. ap is_space (get_or_append_left digits (32 ∷ pairs) 0 k below) ∙ no_space (get_or digits k 0) (all k 0 below))
    (λ _. ap is_space (get_or_at digits 32 pairs 0 (length digits) refl))
  where
    no_space : (octet : ℕ) → is_ascii_digit octet ≡ true → is_space octet ≡ false
    no_space octet digit = ne_eqb octet 32 (λ same. absurd (omega (arith, is_ascii_digit-from octet digit)))

-- reading `N HEX`
sent_by-text : (digits pairs octets : List ℕ) (number : ℕ) → IsNumber digits number → IsHexadecimal pairs octets → sent_by (digits ++ (32 ∷ pairs)) ≡ Some (Bytes number octets)
unfolding sent_by
sent_by-text digits pairs octets number written read =
    let space = first_space digits pairs written.digits_alone in
    let before : before_first is_space (digits ++ (32 ∷ pairs)) ≡ digits = ap (λ n. take n (digits ++ (32 ∷ pairs))) space ∙ take_at digits (32 ∷ pairs) (length digits) refl in
    let after : after_first is_space (digits ++ (32 ∷ pairs)) ≡ pairs =
    ap (λ n. drop (n + 1) (digits ++ (32 ∷ pairs))) space
    ∙ sym (drop-drop 1 (length digits) (digits ++ (32 ∷ pairs)))
    ∙ ap (λ xs. drop 1 xs) (drop_at digits (32 ∷ pairs) (length digits) refl) in
    ap (λ n. sent n (octets_of (after_first is_space (digits ++ (32 ∷ pairs))))) (ap number_of before ∙ IsNumber-read digits number written)
    ∙ ap (λ o. sent (Some number) o) (ap octets_of after ∙ IsHexadecimal-read pairs octets read)

-- the text of an event is read
pub Spells-read : (line : List ℕ) (event : ScriptEvent) → Spells line event → event_of line ≡ Some event
unfolding event_of
Spells-read line (Opened number) is = ap event_of is.1 ∙ ap (λ n. option_map Opened n) (IsNumber-read is.0 number is.2)
Spells-read line (Bytes number octets) is =
    ap event_of (is.2 ∙ sym (spaced (codes "send ") is.0 is.1)) ∙ sent_by-text is.0 is.1 octets number is.3 is.4
Spells-read line (Ended number) is = ap event_of is.1 ∙ ap (λ n. option_map Ended n) (IsNumber-read is.0 number is.2)
