-- The definitions of keys computed on known cases: the Unicode Standard's own, and each rule's good and bad octets.
use Rattle.std.proofs.Common.{◌≡◌, [], ◌∷◌, ◌++◌, Some, None, codes, refl}
use lib.Utf8.{encode}
use Rattle.std.specs.Str.{chars, is_utf8}
use Rattle.caseless.proofs.Computing.{caseless}
use Rattle.match_rules.specs.declared.parts.Part.TheVariants.{First, Middle, Last}
use Rattle.match_rules.specs.declared.rules.Rule.TheVariants.{Text, Ascii, Phone, Country, Octets}
use Rattle.match_rules.specs.Folding.{folded_octets}
use Rattle.match_rules.specs.Keys.{prepared_text, key_of}
use Rattle.match_rules.specs.Parts.{prepared_part_text, part_key_of}
use Rattle.match_rules.specs.substrings.Substrings.{IsSubstring}
use Rattle.match_rules.specs.Syntaxes.{is_of, is_part_of}

-- what computes a key
unfoldable computed : Unit {0}
unfolding caseless encode chars is_utf8 folded_octets prepared_text prepared_part_text key_of part_key_of is_of is_part_of
computed = tt

-- the sharp s and its capital fold to two letters
sharp_s : key_of Text (codes "Stra" ++ 0xC3 ∷ 0x9F ∷ codes "e") ≡ Some (codes "strasse")
unfolding computed
sharp_s = refl

-- the final sigma folds to the sigma
final_sigma : key_of Text (0xCF ∷ 0x82 ∷ []) ≡ key_of Text (0xCE ∷ 0xA3 ∷ [])
unfolding computed
final_sigma = refl

-- a ligature is its letters
ligature : key_of Text (0xEF ∷ 0xAC ∷ 0x81 ∷ []) ≡ Some (codes "fi")
unfolding computed
ligature = refl

-- a full-width letter is the letter
full_width : key_of Text (0xEF ∷ 0xBC ∷ 0xA1 ∷ []) ≡ Some (codes "a")
unfolding computed
full_width = refl

-- the dotted capital I folds to i and a dot above
dotted_i : key_of Text (0xC4 ∷ 0xB0 ∷ []) ≡ Some (0x69 ∷ 0xCC ∷ 0x87 ∷ [])
unfolding computed
dotted_i = refl

-- marks above and below a letter stand in one order
combining_order : key_of Text (0x61 ∷ 0xCC ∷ 0x81 ∷ 0xCC ∷ 0xA3 ∷ []) ≡ key_of Text (0x61 ∷ 0xCC ∷ 0xA3 ∷ 0xCC ∷ 0x81 ∷ [])
unfolding computed
combining_order = refl

-- spaces are cut and joined
spaces : key_of Text (codes "  Ada   Lovelace ") ≡ Some (codes "ada lovelace")
unfolding computed
spaces = refl

-- no octets and broken UTF-8 are no text
no_text : key_of Text [] ≡ None
unfolding computed
no_text = refl

broken_text : key_of Text (0xC0 ∷ 0x80 ∷ []) ≡ None
unfolding computed
broken_text = refl

-- an octet of 128 or above is not ASCII
no_ascii : key_of Ascii (0xC3 ∷ 0xA4 ∷ []) ≡ None
unfolding computed
no_ascii = refl

-- a telephone number is compared without spaces and hyphens
phone : key_of Phone (codes "+1 555-0100 EXT 7") ≡ Some (codes "+15550100ext7")
unfolding computed
phone = refl

-- a control character stands in none
no_phone : key_of Phone (0x31 ∷ 0x09 ∷ []) ≡ None
unfolding computed
no_phone = refl

-- a country is two letters, and a part of one may be a letter
country : key_of Country (codes "dE") ≡ Some (codes "de")
unfolding computed
country = refl

no_country : key_of Country (codes "d") ≡ None
unfolding computed
no_country = refl

country_part : part_key_of Country First (codes "D") ≡ Some (codes "d")
unfolding computed
country_part = refl

-- octets are compared as they are
octets : key_of Octets (codes " A ") ≡ Some (codes " A ")
unfolding computed
octets = refl

-- a part is cut at the end of the value alone
first_part : part_key_of Text First (codes "  A  b  ") ≡ Some (codes "a b ")
unfolding computed
first_part = refl

middle_part : part_key_of Text Middle (codes "  A  b  ") ≡ Some (codes " a b ")
unfolding computed
middle_part = refl

last_part : part_key_of Text Last (codes "  A  b  ") ≡ Some (codes " a b")
unfolding computed
last_part = refl

-- A*b stands in "Ada b", with "da " between
star : IsSubstring (codes "ada b") (codes "a") [] (codes "b")
star = (codes "da ", refl, tt)
