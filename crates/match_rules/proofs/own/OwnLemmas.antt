-- Visible ASCII without capital letters is its own key.
use Rattle.std.proofs.Common.{◌≡◌, ◌<◌, ℕ, false, List, All, IsAscii, Some, ap, ◌∙◌, arith}
use Rattle.std.proofs.lemmas.Bool.Decides.{nat_tests}
use Rattle.std.proofs.lemmas.Str.{IsUtf8-from_ascii}
use Rattle.std.proofs.lemmas.Str.Ascii.{IsAscii-from_all}
use Rattle.std.specs.Char.{to_ascii_lowercase}
use Rattle.match_rules.specs.declared.rules.Rule.{Rule}
use Rattle.match_rules.specs.declared.rules.Rule.TheVariants.{Text, Ascii, Phone, Country, Octets}
use Rattle.match_rules.specs.Keys.{prepared_text, key_of}
use Rattle.match_rules.specs.Laws.{lower_case}
use Rattle.match_rules.specs.OwnKeys.{IsSmall, IsOwn}
use Rattle.match_rules.specs.Spaces.{is_space, cut_and_joined}
use Rattle.match_rules.proofs.laws.AsciiLemmas.{prepared_text-ascii, cut_and_joined-plain}
use Rattle.match_rules.proofs.keys.KeysLemmas.{key_of-value}
use Rattle.match_rules.proofs.own.LowerLemmas.{Each-from_All, Each-like, lower_case-small}

-- such an octet is ASCII, its own small letter, and no space
small_below : (octet : ℕ) → IsSmall octet → octet < 128
small_below octet small = grind (arith, nat_tests)

small_lower : (octet : ℕ) → IsSmall octet → to_ascii_lowercase octet ≡ octet
small_lower octet small = grind (arith, nat_tests)

small_other : (octet : ℕ) → IsSmall octet → is_space octet ≡ false
small_other octet small = grind (arith, nat_tests)

IsAscii-small : (octets : List ℕ) → All IsSmall octets → IsAscii octets
IsAscii-small octets all = IsAscii-from_all octets (λ k d within. small_below _ (all k d within))

-- preparation leaves them as they are
prepared_text-small : (octets : List ℕ) → All IsSmall octets → prepared_text octets ≡ octets
prepared_text-small octets all =
    let each = Each-from_All IsSmall octets all in
    let same : lower_case octets ≡ octets = lower_case-small octets (Each-like IsSmall (λ octet. to_ascii_lowercase octet ≡ octet) small_lower octets each) in
    let plain = cut_and_joined-plain octets (Each-like IsSmall (λ octet. is_space octet ≡ false) small_other octets each) in
    prepared_text-ascii octets (IsAscii-small octets all) ∙ ap cut_and_joined same ∙ plain

pub key_of-own : (rule : Rule) (octets : List ℕ) → IsOwn rule octets → key_of rule octets ≡ Some octets
key_of-own Text octets own =
    key_of-value Text octets (own.0, IsUtf8-from_ascii octets (IsAscii-small octets own.1)) ∙ ap Some (prepared_text-small octets own.1)
key_of-own Ascii octets own =
    key_of-value Ascii octets (own.0, IsAscii-small octets own.1) ∙ ap Some (prepared_text-small octets own.1)
key_of-own Phone octets own = absurd own
key_of-own Country octets own = absurd own
key_of-own Octets octets own = key_of-value Octets octets tt
