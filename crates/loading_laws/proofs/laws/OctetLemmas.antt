-- Octets, and that texts are made of them.
use Rattle.std.proofs.Common.{◌≡◌, ℕ, zero, suc, ◌<◌, true, List, [], ◌∷◌, subst, arith, inl, inr}
use Rattle.std.specs.Str.{IsUtf8}
use Rattle.std.proofs.Math.Utf8.{encode, encodes, scalar, scalars, scalar_cases}
use Rattle.std.proofs.lemmas.Bool.{cond_both, and_parts, ltb-true}
use Rattle.std.proofs.Math.Dec.{ltb}
use Rattle.dir_tree.proofs.base_laws_proofs.Theorems.{all_append}
use Rattle.base64.specs.GeneralPurpose.{IsBytes}
use Rattle.loading_laws.specs.LoadableTrees.{AreOctets}

pub IsBytes-from_AreOctets : (octets : List ℕ) → AreOctets octets → IsBytes octets
IsBytes-from_AreOctets [] below index = omega arith
IsBytes-from_AreOctets (octet ∷ octets) below zero = below.0
IsBytes-from_AreOctets (octet ∷ octets) below (suc index) = IsBytes-from_AreOctets octets below.1 index

-- the octets of a character
AreOctets-encode : (c : ℕ) → c < 1114112 → AreOctets (encode c)
unfolding encode
AreOctets-encode c within =
    cond_both (ltb c 128) _ _ AreOctets (λ (e : ltb c 128 ≡ true). let small = ltb-true c 128 e in (omega arith, tt))
    (λ _. cond_both (ltb c 2048) _ _ AreOctets (λ (e : ltb c 2048 ≡ true). let small = ltb-true c 2048 e in (omega arith, (omega arith, tt)))
    (λ _. cond_both (ltb c 65536) _ _ AreOctets
    (λ (e : ltb c 65536 ≡ true). let small = ltb-true c 65536 e in (omega arith, (omega arith, (omega arith, tt))))
    (λ _. (omega arith, (omega arith, (omega arith, (omega arith, tt)))))))

scalar-within : (c : ℕ) → scalar c ≡ true → c < 1114112
scalar-within c is = elim (scalar_cases c is) [
  | inl low ↦ omega arith
  | inr high ↦ high.1
]

AreOctets-encodes : (characters : List ℕ) → scalars characters ≡ true → AreOctets (encodes characters)
AreOctets-encodes [] are = tt
AreOctets-encodes (c ∷ characters) are =
    let parts = and_parts (scalar c) (scalars characters) are in
    all_append (λ octet. octet < 256) (encode c) (encodes characters) (AreOctets-encode c (scalar-within c parts.0)) (AreOctets-encodes characters parts.1)

pub IsBytes-from_IsUtf8 : (octets : List ℕ) → IsUtf8 octets → IsBytes octets
IsBytes-from_IsUtf8 octets (characters, (are, spelled)) =
    IsBytes-from_AreOctets octets (subst AreOctets spelled (AreOctets-encodes characters are))
