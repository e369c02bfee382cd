-- The numbers that are named for a value: those of a range of postings, among which each holder is.
use Rattle.std.proofs.Common.{◌≡◌, inl, inr, ◌⊎◌, ℕ, ◌+◌, ◌<◌, Bool, true, false, ◌&&◌, ◌||◌, not, ◌==◌, List, [], ◌∷◌, ◌++◌, map, filter, length, length-append, refl, sym, ap, ◌∙◌, arith}
use Rattle.std.specs.Prelude.{nat_lt}
use Rattle.std.specs.List.{list_any}
use Rattle.std.specs.Ordering.{nat_cmp, ordering_then, is_eq, is_le}
use Rattle.std.specs.Cmp.{nat_cmp_is}
use Rattle.std.specs.declared.cmp.Ordering.{Ordering}
use Rattle.std.specs.declared.cmp.Ordering.TheVariants.{Less, Equal, Greater}
use Rattle.std.proofs.lemmas.Bool.{cases_Bool, cases_order, cond-true, cond-false, eqb-true, ne_eqb, eq-eqb, lt-ltb, le-ltb}
use Rattle.std.proofs.lemmas.List.{length-map}
use Rattle.std.proofs.lemmas.List.Folds.{list_any-append}
use Rattle.dir_tree.proofs.base_laws_proofs.Theorems.{list_any-map}
use Rattle.dir_tree.proofs.TreeTheorems.{all_known}
use Rattle.dir_tree.specs.tree.Trees.{most_entries}
use Rattle.dir_tree.specs.tree.Numbered.{Numbered, IsNumberedTree}
use Rattle.dir_tree.specs.declared.number.EntryNo.{EntryNo}
use Rattle.value_index.specs.declared.index.Posting.{Posting}
use Rattle.value_index.specs.Hashes.{hash_of, type_hash, is_indexed, has_hash, hashes_of}
use Rattle.value_index.specs.Postings.{posting_cmp, has_posting, IsIndexed}
use Rattle.value_index.specs.Holders.{HasHolders, is_under, numbers_under, numbers_for}
use Rattle.value_index.proofs.index.PostingLemmas.{same-posting}
use Rattle.value_index.proofs.laws.HolderLaws.{holder-posted}

-- no number is before the first, and those before a limit are not from it on
from-first : (n : ℕ) → is_le (nat_cmp 0 n) ≡ true
from-first n = elim (cases_order 0 n) [
  | inl e ↦ ap is_le (sym (nat_cmp_is 0 n Equal e))
  | inr (inl e) ↦ ap is_le (sym (nat_cmp_is 0 n Less e))
  | inr (inr e) ↦ absurd (omega arith)
]

before-limit : (limit n : ℕ) → not (is_le (nat_cmp limit n)) ≡ nat_lt n limit
before-limit limit n = elim (cases_order limit n) [
  | inl e ↦ ap (λ (o : Ordering). not (is_le o)) (sym (nat_cmp_is limit n Equal e)) ∙ sym (le-ltb n limit (omega arith))
  | inr (inl e) ↦ ap (λ (o : Ordering). not (is_le o)) (sym (nat_cmp_is limit n Less e)) ∙ sym (le-ltb n limit (omega arith))
  | inr (inr e) ↦ ap (λ (o : Ordering). not (is_le o)) (sym (nat_cmp_is limit n Greater e)) ∙ sym (lt-ltb n limit e)
]

-- between the first posting of a hash and a limit are those of the hash with numbers below the limit
pub between-is_under : (hash limit : ℕ) (posting : Posting) → (is_le (posting_cmp (record { hash = hash; number = 0 }) posting) && not (is_le (posting_cmp (record { hash = hash; number = limit }) posting))) ≡ (posting.hash == hash && nat_lt posting.number limit)
between-is_under hash limit posting = elim (cases_order hash posting.hash) [
  | inl e ↦
      ap between (sym (nat_cmp_is hash posting.hash Equal e))
      ∙ ap (λ (b : Bool). b && not (is_le (nat_cmp limit posting.number))) (from-first posting.number)
      ∙ before-limit limit posting.number
      ∙ ap (λ (b : Bool). b && nat_lt posting.number limit) (sym (eq-eqb posting.hash hash (sym e)))
  | inr (inl e) ↦
      ap between (sym (nat_cmp_is hash posting.hash Less e))
      ∙ ap (λ (b : Bool). b && nat_lt posting.number limit) (sym (ne_eqb posting.hash hash (λ (f : posting.hash ≡ hash). omega arith)))
  | inr (inr e) ↦
      ap between (sym (nat_cmp_is hash posting.hash Greater e))
      ∙ ap (λ (b : Bool). b && nat_lt posting.number limit) (sym (ne_eqb posting.hash hash (λ (f : posting.hash ≡ hash). omega arith)))
]
  where
    between : Ordering → Bool
    between o = is_le (ordering_then o (nat_cmp 0 posting.number)) && not (is_le (ordering_then o (nat_cmp limit posting.number)))

-- a number that is posted under a hash is among the numbers under it
either-true : (a b : Bool) → (a ≡ true) ⊎ (b ≡ true) → (a || b) ≡ true
either-true true b e = refl
either-true false b (inl e) = absurd cc
either-true false b (inr e) = e

both-true : (a b : Bool) → (a && b) ≡ true → (a ≡ true) × (b ≡ true)
both-true true true e = (refl, refl)
both-true true false e = absurd cc
both-true false b e = absurd cc

pub among-under : (hash id : ℕ) (postings : List Posting) → id < most_entries → has_posting hash id postings ≡ true → list_any (λ n. n == id) (numbers_under hash postings) ≡ true
among-under hash id [] within there = absurd cc
among-under hash id (p ∷ postings) within there = elim (cases_Bool (is_eq (posting_cmp (record { hash = hash; number = id }) p))) [
  | inl e ↦ (
      let both = both-true (id == p.number) (hash == p.hash) (sym (same-posting (record { hash = hash; number = id }) p) ∙ e) in
      let number : id ≡ p.number = eqb-true id p.number both.0 in
      let same : (p.hash == hash) ≡ true = eq-eqb p.hash hash (sym (eqb-true hash p.hash both.1)) in
      let below : nat_lt p.number most_entries ≡ true = lt-ltb p.number most_entries (omega arith) in
      let first : (p.number == id) ≡ true = eq-eqb p.number id (sym number) in
      rw (same, below, first) refl)
  | inr e ↦ (
      let later : has_posting hash id postings ≡ true = rw e at there in
      let rest = among-under hash id postings within later in
      elim (cases_Bool (is_under hash p)) [
        | inl f ↦ ap (λ (ps : List Posting). list_any (λ n. n == id) (map (λ posting. posting.number) ps)) (kept f) ∙ either-true (p.number == id) (list_any (λ n. n == id) (numbers_under hash postings)) (inr rest)
        | inr f ↦ ap (λ (ps : List Posting). list_any (λ n. n == id) (map (λ posting. posting.number) ps)) (left f) ∙ rest
      ])
]
  where
    kept : is_under hash p ≡ true → filter (is_under hash) (p ∷ postings) ≡ p ∷ filter (is_under hash) postings
    kept f = cond-true (is_under hash p) (p ∷ filter (is_under hash) postings) (filter (is_under hash) postings) f

    left : is_under hash p ≡ false → filter (is_under hash) (p ∷ postings) ≡ filter (is_under hash) postings
    left f = cond-false (is_under hash p) (p ∷ filter (is_under hash) postings) (filter (is_under hash) postings) f

-- where all are so many and one is left, there are more
pub full-count : (now old : List EntryNo) (posting : Posting) (left : List Posting) (under : List ℕ) → map (λ number. number.0) now ++ map (λ posting. posting.number) (posting ∷ left) ≡ map (λ number. number.0) old ++ under
    → (n : ℕ) → n ≡ length now → n < length old + length under
full-count now old posting left under e n is = omega (arith, simp (length-append, length-map) at (ap length e))

-- no holder is missing
pub holders-found : (kind : ℕ) (key : List ℕ) (postings : List Posting) (numbers : List EntryNo) → is_indexed kind ≡ true → map (λ number. number.0) numbers ≡ numbers_for kind key postings
    → (rows : List Numbered) → IsNumberedTree rows → IsIndexed postings rows → HasHolders kind key rows numbers
holders-found kind key postings numbers indexed are rows tree posted id entry known holds =
    let within : id < most_entries = all_known (λ row. row.id < most_entries) id entry rows tree.numbers known in
    sym (list_any-map (λ (number : EntryNo). number.0) (λ n. n == id) numbers)
    ∙ ap (list_any (λ n. n == id)) are
    ∙ list_any-append (λ n. n == id) (numbers_under (hash_of kind key) postings) (numbers_under (type_hash kind) postings)
    ∙ either-true (list_any (λ n. n == id) (numbers_under (hash_of kind key) postings)) (list_any (λ n. n == id) (numbers_under (type_hash kind) postings)) (by within (cases_Bool (has_hash (hash_of kind key) (hashes_of entry))))
  where
    by : id < most_entries → ((has_hash (hash_of kind key) (hashes_of entry) ≡ true) ⊎ (has_hash (hash_of kind key) (hashes_of entry) ≡ false)) → (list_any (λ n. n == id) (numbers_under (hash_of kind key) postings) ≡ true) ⊎ (list_any (λ n. n == id) (numbers_under (type_hash kind) postings) ≡ true)
    by within (inl e) = inl (among-under (hash_of kind key) id postings within (posted id entry known (hash_of kind key) e))
    by within (inr e) = inr (among-under (type_hash kind) id postings within (posted id entry known (type_hash kind)
        (sym (ap (λ (b : Bool). b || has_hash (type_hash kind) (hashes_of entry)) e) ∙ holder-posted kind key entry indexed holds)))
