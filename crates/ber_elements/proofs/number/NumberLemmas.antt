-- How large a number from octets is.
use Rattle.std.proofs.Common.{suc, ◌-◌, List, [], ◌∷◌, length, get_or, drop, ◌≡◌, ℕ, ◌+◌, ◌*◌, ◌^◌, ◌<◌, ◌≤◌, sym, ap, ◌∙◌, arith, add-one}
use Rattle.std.proofs.lemmas.Nat.{mul-le}
use Rattle.std.proofs.lemmas.List.{drop_more}
use Rattle.ber_elements.specs.write.Element.{number_after}
use Rattle.ber_elements.specs.Integer.{turned}
use Rattle.std.proofs.Math.Nat.{pow-suc, pow-succ', pow-le-pow_right, mul_assoc}

-- one octet more multiplies the bound by 256
pub bound_more : (first i : ℕ) → (first + 1) * 256 ^ (i + 1) ≡ ((first + 1) * 256 ^ i) * 256
bound_more first i =
    let power : 256 ^ (i + 1) ≡ 256 ^ i * 256 = ap (λ (k : ℕ). 256 ^ k) (add-one i) ∙ pow-suc 256 i in
    ap (λ (p : ℕ). (first + 1) * p) power ∙ sym (mul_assoc (first + 1) (256 ^ i) 256)

-- a number of at most seven octets has room for one more
pub room_for_one : (first i number : ℕ) → first < 256 → i < 7 → number < (first + 1) * 256 ^ i → number < 256 ^ 7
room_for_one first i number small few below =
    let powers : 256 ^ i ≤ 256 ^ 6 = let base : 0 < 256 = omega arith in let order : i ≤ 6 = omega arith in pow-le-pow_right base order in
    let most : (first + 1) * 256 ^ i ≤ 256 * 256 ^ 6 = mul-le (first + 1) (256 ^ i) 256 (256 ^ 6) (omega arith) powers in
    omega (arith, most)

-- a first octet below 128 leaves the first bit of eight octets clear
pub half_of : (first n number : ℕ) → n ≤ 7 → number < (first + 1) * 256 ^ n → first < 128 → number < 2 ^ 63
half_of first n number few below small =
    let powers : 256 ^ n ≤ 256 ^ 7 = let base : 0 < 256 = omega arith in pow-le-pow_right base few in
    let most : (first + 1) * 256 ^ n ≤ 128 * 256 ^ 7 = mul-le (first + 1) (256 ^ n) 128 (256 ^ 7) (omega arith) powers in
    omega (arith, most)

-- one octet more keeps the number below the bound
pub bound_next : (first i number x : ℕ) → number < (first + 1) * 256 ^ i → x < 256 → number * 256 + x < (first + 1) * 256 ^ (i + 1)
bound_next first i number x below small = omega (arith, bound_more first i)

-- one turned octet more is read
pub turned_more : (number x first i : ℕ) (xs : List ℕ) → i < length xs → x ≡ 255 - get_or xs i 0
    → number_after number (turned (drop i xs)) ≡ number_after first (turned xs)
    → number_after (number * 256 + x) (turned (drop (i + 1) xs)) ≡ number_after first (turned xs)
turned_more number x first i xs there is so_far =
    let split : drop i xs ≡ get_or xs i 0 ∷ drop (i + 1) xs = drop_more xs i 0 there in
    let step : number_after (256 * number + (255 - get_or xs i 0)) (turned (drop (i + 1) xs)) ≡ number_after first (turned xs) = rw split at so_far in
    ap (λ (n : ℕ). number_after n (turned (drop (i + 1) xs))) (omega arith) ∙ step

-- octets behind a number multiply it
pub number_least : (n : ℕ) (octets : List ℕ) → n * 256 ^ length octets ≤ number_after n octets
number_least n [] = omega arith
number_least n (b ∷ octets) =
    let power : 256 ^ suc (length octets) ≡ 256 * 256 ^ length octets = pow-succ' 256 (length octets) in
    let grows : n * 256 ≤ 256 * n + b = omega arith in
    let more : (n * 256) * 256 ^ length octets ≤ (256 * n + b) * 256 ^ length octets = mul-le (n * 256) (256 ^ length octets) (256 * n + b) (256 ^ length octets) grows (omega arith) in
    let regroup : n * 256 ^ suc (length octets) ≡ (n * 256) * 256 ^ length octets = ap (λ (p : ℕ). n * p) power ∙ sym (mul_assoc n 256 (256 ^ length octets)) in
    omega (arith, number_least (256 * n + b) octets, more, regroup)
