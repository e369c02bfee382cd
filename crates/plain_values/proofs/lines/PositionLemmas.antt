-- Lemmas on the place of the first octet that is the one wanted, as a search of octets answers it.
use Rattle.std.proofs.Common.{◌≡◌, ℕ, sym, arith, List, length, get_or, Some, None}
use Rattle.std.specs.List.{position_or_len}
use Rattle.std.proofs.lemmas.Bool.{false_from_ne_true}
use Rattle.std.proofs.lemmas.List.Sums.{position_or_len_is}
use Rattle.memchr.specs.Find.{IsFirstByte, is_byte}

-- the search found the octet
pub position_or_len-found : (wanted place : ℕ) (octets : List ℕ) → IsFirstByte (is_byte wanted) octets (Some place) → place ≡ position_or_len (is_byte wanted) octets
position_or_len-found wanted place octets first =
    sym (position_or_len_is (is_byte wanted) octets place 0 (omega (arith, first.0.high))
    (λ k below. false_from_ne_true (is_byte wanted (get_or octets k 0)) (first.0.before k (omega arith) below)) (λ _. first.1))

-- it found none
pub position_or_len-nowhere : (wanted : ℕ) (octets : List ℕ) → IsFirstByte (is_byte wanted) octets None → length octets ≡ position_or_len (is_byte wanted) octets
position_or_len-nowhere wanted octets nowhere =
    sym (position_or_len_is (is_byte wanted) octets (length octets) 0 (omega arith)
    (λ k below. false_from_ne_true (is_byte wanted (get_or octets k 0)) (nowhere k (omega arith) below)) (λ short. absurd (omega arith)))
