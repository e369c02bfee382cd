-- The laws of keys of ASCII octets.
use Rattle.std.proofs.Common.{inl, inr, ◌≡◌, ◌≢◌, ◌<◌, ℕ, true, false, not, List, [], ◌∷◌, length, All, IsAscii, Some, None, if◌then◌else◌, ◌==◌, refl, sym, ap, ap₂, subst, ◌∙◌, arith}
use Rattle.std.proofs.lemmas.Bool.{cases_Bool, cond-true, cond-false, not-true, or_left, or_right, eq-eqb, both_ways}
use Rattle.std.proofs.lemmas.Bool.Decides.{nat_tests}
use Rattle.std.proofs.lemmas.List.{length-map}
use Rattle.std.proofs.lemmas.List.Elements.{filter_passes}
use Rattle.std.proofs.lemmas.Str.{IsUtf8-from_ascii}
use Rattle.std.proofs.lemmas.Str.Ascii.{IsAscii-from_all, All-from_ascii}
use Rattle.std.specs.Char.{to_ascii_lowercase}
use Rattle.match_rules.specs.declared.rules.Rule.{Rule}
use Rattle.match_rules.specs.declared.rules.Rule.TheVariants.{Text, Ascii, Phone, Country, Octets}
use Rattle.match_rules.specs.Keys.{is_separator, without_separators, prepared_text, prepared, key_of}
use Rattle.match_rules.specs.Laws.{lower_case}
use Rattle.match_rules.specs.Spaces.{is_space, cut_and_joined}
use Rattle.match_rules.specs.Syntaxes.{IsLetter, IsPrintable, is_of}
use Rattle.match_rules.proofs.laws.AsciiLemmas.{NoSpace, prepared_text-ascii, cut_and_joined-again, cut_and_joined-plain, Each-cut_and_joined, without_separators-cut_and_joined}
use Rattle.match_rules.proofs.laws.CutLemmas.{Each}
use Rattle.match_rules.proofs.folding.FoldingLemmas.{IsAscii-lower}
use Rattle.match_rules.proofs.keys.KeysLemmas.{key_of-value, key_of-Some}
use Rattle.match_rules.proofs.own.LowerLemmas.{Each-from_All, All-from_Each, Each-like, Each-lower, Each-small, lower_case-small, is_of-lower}
use Rattle.match_rules.proofs.keys.SyntaxesLemmas.{IsAscii-printable, IsAscii-letters}

-- a number is prepared by small letters and separators alone
pub prepared-phone : (octets : List ℕ) → IsAscii octets → prepared Phone octets ≡ without_separators (lower_case octets)
prepared-phone octets ascii =
    ap without_separators (prepared_text-ascii octets ascii) ∙ without_separators-cut_and_joined (lower_case octets)

-- letters in small letters have no space
small_letter : (octet : ℕ) → IsLetter octet → is_space (to_ascii_lowercase octet) ≡ false
small_letter octet letter = grind (arith, nat_tests)

-- a country is prepared by small letters alone
pub prepared-country : (octets : List ℕ) → All IsLetter octets → prepared Country octets ≡ lower_case octets
prepared-country octets letters =
    let plain : NoSpace (lower_case octets) =
    Each-lower (λ octet. is_space octet ≡ false) octets (Each-like IsLetter (λ octet. is_space (to_ascii_lowercase octet) ≡ false) small_letter octets (Each-from_All IsLetter octets letters)) in
    prepared_text-ascii octets (IsAscii-letters octets letters) ∙ cut_and_joined-plain (lower_case octets) plain

-- one preparation, one key
pub prepared-same : (rule : Rule) (left right : List ℕ) → rule ≢ Octets → prepared_text left ≡ prepared_text right → prepared rule left ≡ prepared rule right
prepared-same Text left right other same = same
prepared-same Ascii left right other same = same
prepared-same Phone left right other same = ap without_separators same
prepared-same Country left right other same = same
prepared-same Octets left right other same = absurd (other refl)

-- octets that differ only in the case of letters
pub key_of-case : (rule : Rule) (left right : List ℕ) → rule ≢ Octets → IsAscii left → IsAscii right → lower_case left ≡ lower_case right → key_of rule left ≡ key_of rule right
unfolding key_of
key_of-case rule left right other left_ascii right_ascii same =
    let valid = sym (is_of-lower rule left left_ascii) ∙ ap (is_of rule) same ∙ is_of-lower rule right right_ascii in
    let text = prepared_text-ascii left left_ascii ∙ ap cut_and_joined same ∙ sym (prepared_text-ascii right right_ascii) in
    ap₂ (λ test octets. if test then Some octets else None) valid (prepared-same rule left right other text)

-- the prepared form of an ASCII text is ASCII and its own prepared form
own_text : (octets key : List ℕ) → IsAscii octets → prepared_text octets ≡ key → IsAscii key × (prepared_text key ≡ key)
own_text octets key ascii is =
    let made : cut_and_joined (lower_case octets) ≡ key = sym (prepared_text-ascii octets ascii) ∙ is in
    let below = Each-cut_and_joined (λ octet. octet < 128) (lower_case octets) (Each-from_All (λ octet. octet < 128) (lower_case octets) (All-from_ascii _ (IsAscii-lower octets ascii))) in
    let key_ascii : IsAscii key = IsAscii-from_all key (All-from_Each (λ octet. octet < 128) key (subst (Each (λ octet. octet < 128)) made below)) in
    let small = Each-cut_and_joined (λ octet. to_ascii_lowercase octet ≡ octet) (lower_case octets) (Each-small octets) in
    let same : lower_case key ≡ key = lower_case-small key (subst (Each (λ octet. to_ascii_lowercase octet ≡ octet)) made small) in
    let again : cut_and_joined key ≡ key = subst (λ text. cut_and_joined text ≡ text) made (cut_and_joined-again (lower_case octets)) in
    (key_ascii, prepared_text-ascii key key_ascii ∙ ap cut_and_joined same ∙ again)

-- separators that are gone are gone
Each-filter : (P : ℕ → Type 0) (octets : List ℕ) → Each P octets → Each P (without_separators octets)
Each-filter P [] each = tt
Each-filter P (octet ∷ octets) each =
    let more = Each-filter P octets each.1 in
    elim (cases_Bool (not (is_separator octet))) [
      | inl stays ↦ subst (Each P) (sym (cond-true _ (octet ∷ without_separators octets) (without_separators octets) stays)) (each.0, more)
      | inr goes ↦ subst (Each P) (sym (cond-false _ (octet ∷ without_separators octets) (without_separators octets) goes)) more
    ]

without_separators-plain : (octets : List ℕ) → Each (λ octet. not (is_separator octet) ≡ true) octets → without_separators octets ≡ octets
without_separators-plain [] each = refl
without_separators-plain (octet ∷ octets) each =
    cond-true _ (octet ∷ without_separators octets) (without_separators octets) each.0 ∙ ap (λ text. octet ∷ text) (without_separators-plain octets each.1)

small_printable : (octet : ℕ) → IsPrintable octet → IsPrintable (to_ascii_lowercase octet)
small_printable octet printable = grind (arith, nat_tests)

small_letters : (octet : ℕ) → IsLetter octet → IsLetter (to_ascii_lowercase octet)
small_letters octet letter = grind (arith, nat_tests)

-- the key of ASCII octets is its own key, unless it is empty
pub key_of-key : (rule : Rule) (octets key : List ℕ) → IsAscii octets → key_of rule octets ≡ Some key → key ≢ [] → key_of rule key ≡ Some key
key_of-key Text octets key ascii has filled =
    let own = own_text octets key ascii (key_of-Some Text octets key has).1 in
    key_of-value Text key (filled, IsUtf8-from_ascii key own.0) ∙ ap Some own.1
key_of-key Ascii octets key ascii has filled =
    let own = own_text octets key ascii (key_of-Some Ascii octets key has).1 in
    key_of-value Ascii key (filled, own.0) ∙ ap Some own.1
key_of-key Phone octets key ascii has filled =
    let value = key_of-Some Phone octets key has in
    let made : without_separators (lower_case octets) ≡ key = sym (prepared-phone octets ascii) ∙ value.1 in
    let printed = Each-lower IsPrintable octets (Each-like IsPrintable (λ octet. IsPrintable (to_ascii_lowercase octet)) small_printable octets (Each-from_All IsPrintable octets value.0.1)) in
    let printable : All IsPrintable key = All-from_Each IsPrintable key (subst (Each IsPrintable) made (Each-filter IsPrintable (lower_case octets) printed)) in
    let small = Each-filter (λ octet. to_ascii_lowercase octet ≡ octet) (lower_case octets) (Each-small octets) in
    let same : lower_case key ≡ key = lower_case-small key (subst (Each (λ octet. to_ascii_lowercase octet ≡ octet)) made small) in
    let plain = Each-from_All (λ octet. not (is_separator octet) ≡ true) _ (filter_passes (λ octet. not (is_separator octet)) (lower_case octets)) in
    let again : without_separators key ≡ key = without_separators-plain key (subst (Each (λ octet. not (is_separator octet) ≡ true)) made plain) in
    key_of-value Phone key (filled, printable) ∙ ap Some (prepared-phone key (IsAscii-printable key printable) ∙ ap without_separators same ∙ again)
key_of-key Country octets key ascii has filled =
    let value = key_of-Some Country octets key has in
    let made : lower_case octets ≡ key = sym (prepared-country octets value.0.1) ∙ value.1 in
    let lowered = Each-lower IsLetter octets (Each-like IsLetter (λ octet. IsLetter (to_ascii_lowercase octet)) small_letters octets (Each-from_All IsLetter octets value.0.1)) in
    let letters : All IsLetter key = All-from_Each IsLetter key (subst (Each IsLetter) made lowered) in
    let two : length key ≡ 2 = ap length (sym made) ∙ length-map octets to_ascii_lowercase ∙ value.0.0 in
    let same : lower_case key ≡ key = lower_case-small key (subst (Each (λ octet. to_ascii_lowercase octet ≡ octet)) made (Each-small octets)) in
    key_of-value Country key (two, letters) ∙ ap Some (prepared-country key letters ∙ same)
key_of-key Octets octets key ascii has filled = key_of-value Octets key tt

-- what has no separator has neither space nor hyphen
plain_octet : (octet : ℕ) → not (is_separator octet) ≡ true → (octet ≢ 0x20) × (octet ≢ 0x2D)
plain_octet octet plain = (
  λ space. absurd (both_ways (is_separator octet) (not-true _ plain) (or_left (is_space octet) (octet == 0x2D) (eq-eqb octet 0x20 space))),
  λ hyphen. absurd (both_ways (is_separator octet) (not-true _ plain) (or_right (is_space octet) (octet == 0x2D) (eq-eqb octet 0x2D hyphen))),
)

-- so has the key of a telephone number
pub key_of-plain : (octets key : List ℕ) → key_of Phone octets ≡ Some key → All (λ octet. (octet ≢ 0x20) × (octet ≢ 0x2D)) key
key_of-plain octets key has =
    let made = (key_of-Some Phone octets key has).1 in
    let plain = filter_passes (λ octet. not (is_separator octet)) (prepared_text octets) in
    subst (All (λ octet. (octet ≢ 0x20) × (octet ≢ 0x2D))) made (λ k d within. plain_octet _ (plain k d within))
