-- The printed form of a good name is a text, and so octets.
use Rattle.std.proofs.Common.{◌≡◌, ℕ, zero, suc, ◌<◌, true, List, [], ◌∷◌, ◌++◌, take, drop, subst, arith, inl, inr}
use Rattle.std.specs.List.{AllByRecursion}
use Rattle.std.specs.Str.{IsUtf8}
use Rattle.std.proofs.Math.Utf8.{encode, encodes, scalar, scalars, scalar_cases}
use Rattle.std.proofs.lemmas.Bool.{cond_both, and_parts, ltb-true}
use Rattle.std.proofs.Math.Dec.{ltb}
use Rattle.dir_tree.proofs.base_laws_proofs.Theorems.{all_append}
use Rattle.base64.specs.GeneralPurpose.{IsBytes}
use Rattle.dir_tree.specs.dn_names.name.Names.{RdnSequence, IsTextRdn}
use Rattle.dir_tree.specs.dn_names.name.GoodNames.{IsGoodName}
use Rattle.dir_tree.specs.dn_names.Printing.{print_name}
use Rattle.dir_tree.proofs.dn_names_proofs.Theorems.{all_reverse, IsUtf8-print_name, text_name}
use Rattle.data_file.proofs.laws.PartLemmas.{all_take, all_drop}

-- each is an octet
abbrev pub AreBelow : List ℕ → Type 0
AreBelow octets = AllByRecursion (λ octet. octet < 256) octets

pub IsBytes-from_AreBelow : (octets : List ℕ) → AreBelow octets → IsBytes octets
IsBytes-from_AreBelow [] below index = omega arith
IsBytes-from_AreBelow (octet ∷ octets) below zero = below.0
IsBytes-from_AreBelow (octet ∷ octets) below (suc index) = IsBytes-from_AreBelow octets below.1 index

pub AreBelow-from_IsBytes : (octets : List ℕ) → IsBytes octets → AreBelow octets
AreBelow-from_IsBytes [] bytes = tt
AreBelow-from_IsBytes (octet ∷ octets) bytes = (bytes 0, AreBelow-from_IsBytes octets (λ index. bytes (suc index)))

-- parts of octets are octets
pub AreBelow-append : (one other : List ℕ) → AreBelow one → AreBelow other → AreBelow (one ++ other)
AreBelow-append one other below later = all_append (λ octet. octet < 256) one other below later

pub below_take : (count : ℕ) (octets : List ℕ) → AreBelow octets → AreBelow (take count octets)
below_take count octets below = all_take (λ octet. octet < 256) count octets below

pub below_drop : (count : ℕ) (octets : List ℕ) → AreBelow octets → AreBelow (drop count octets)
below_drop count octets below = all_drop (λ octet. octet < 256) count octets below

-- the octets of a character
AreBelow-encode : (c : ℕ) → c < 1114112 → AreBelow (encode c)
unfolding encode
AreBelow-encode c within =
    cond_both (ltb c 128) _ _ AreBelow (λ (e : ltb c 128 ≡ true). let small = ltb-true c 128 e in (omega arith, tt))
    (λ _. cond_both (ltb c 2048) _ _ AreBelow (λ (e : ltb c 2048 ≡ true). let small = ltb-true c 2048 e in (omega arith, (omega arith, tt)))
    (λ _. cond_both (ltb c 65536) _ _ AreBelow
    (λ (e : ltb c 65536 ≡ true). let small = ltb-true c 65536 e in (omega arith, (omega arith, (omega arith, tt))))
    (λ _. (omega arith, (omega arith, (omega arith, (omega arith, tt)))))))

scalar-within : (c : ℕ) → scalar c ≡ true → c < 1114112
scalar-within c is = elim (scalar_cases c is) [
  | inl low ↦ omega arith
  | inr high ↦ high.1
]

AreBelow-encodes : (characters : List ℕ) → scalars characters ≡ true → AreBelow (encodes characters)
AreBelow-encodes [] are = tt
AreBelow-encodes (c ∷ characters) are =
    let parts = and_parts (scalar c) (scalars characters) are in
    AreBelow-append (encode c) (encodes characters) (AreBelow-encode c (scalar-within c parts.0)) (AreBelow-encodes characters parts.1)

pub IsBytes-from_IsUtf8 : (octets : List ℕ) → IsUtf8 octets → IsBytes octets
IsBytes-from_IsUtf8 octets (characters, (are, spelled)) =
    IsBytes-from_AreBelow octets (subst AreBelow spelled (AreBelow-encodes characters are))

pub IsBytes-print_name : (name : RdnSequence) → IsGoodName name → IsBytes (print_name name)
IsBytes-print_name name good =
    IsBytes-from_IsUtf8 (print_name name) (IsUtf8-print_name name (all_reverse IsTextRdn name (text_name name good.good)))
