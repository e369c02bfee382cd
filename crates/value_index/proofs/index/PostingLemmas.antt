-- Postings put in and taken out.
use Rattle.std.proofs.Common.{◌≡◌, ℕ, Bool, true, false, ◌&&◌, ◌||◌, not, ◌==◌, List, [], ◌∷◌, ◌++◌, refl, sym, ap, ◌∙◌, inl, inr, cond}
use Rattle.std.specs.List.{list_any}
use Rattle.std.specs.Ordering.{nat_cmp, is_eq}
use Rattle.std.specs.Cmp.{tied_then, unsigned_ties}
use Rattle.std.proofs.lemmas.Bool.{cases_Bool, eqb-true, ne_eqb, eq-eqb}
use Rattle.std.proofs.lemmas.List.Folds.{list_any-append}
use Rattle.value_index.specs.declared.index.Posting.{Posting}
use Rattle.value_index.specs.Hashes.{has_hash}
use Rattle.value_index.specs.Postings.{posting_cmp, has_posting, IsPosted, AllStay, OthersStay, IsAdded, IsDropped}

-- two postings are one where hash and number are
pub same-posting : (one other : Posting) → is_eq (posting_cmp one other) ≡ (one.number == other.number && one.hash == other.hash)
same-posting one other =
    sym (tied_then (nat_cmp one.hash other.hash) (nat_cmp one.number other.number))
    ∙ ap (λ (b : Bool). b && is_eq (nat_cmp one.number other.number)) (sym (unsigned_ties one.hash other.hash))
    ∙ ap (λ (b : Bool). (one.hash == other.hash) && b) (sym (unsigned_ties one.number other.number))
    ∙ turned (one.hash == other.hash) (one.number == other.number)
  where
    turned : (a b : Bool) → (a && b) ≡ (b && a)
    turned true true = refl
    turned true false = refl
    turned false true = refl
    turned false false = refl

-- what a set says of a posting put in
pub added-one : (hash number : ℕ) (old new : List Posting)
    → ((q : Posting) → list_any (λ posting. is_eq (posting_cmp q posting)) new ≡ cond (is_eq (posting_cmp (record { hash = hash; number = number }) q)) true (list_any (λ posting. is_eq (posting_cmp q posting)) old))
    → IsAdded number (hash ∷ []) old new
added-one hash number old new e other id =
    e (record { hash = other; number = id })
    ∙ ap (λ (b : Bool). cond b true (has_posting other id old)) (same-posting (record { hash = hash; number = number }) (record { hash = other; number = id }))
    ∙ put (number == id) (hash == other) (has_posting other id old)
  where
    put : (a b o : Bool) → cond (a && b) true o ≡ (o || (a && (b || false)))
    put true true true = refl
    put true true false = refl
    put true false true = refl
    put true false false = refl
    put false b true = refl
    put false b false = refl

-- and of one taken out
pub dropped-one : (hash number : ℕ) (old new : List Posting)
    → ((q : Posting) → list_any (λ posting. is_eq (posting_cmp q posting)) new ≡ cond (is_eq (posting_cmp (record { hash = hash; number = number }) q)) false (list_any (λ posting. is_eq (posting_cmp q posting)) old))
    → IsDropped number (hash ∷ []) [] old new
dropped-one hash number old new e other id =
    e (record { hash = other; number = id })
    ∙ ap (λ (b : Bool). cond b false (has_posting other id old)) (same-posting (record { hash = hash; number = number }) (record { hash = other; number = id }))
    ∙ cut (number == id) (hash == other) (has_posting other id old)
  where
    cut : (a b o : Bool) → cond (a && b) false o ≡ (o && not (a && ((b || false) && true)))
    cut true true true = refl
    cut true true false = refl
    cut true false true = refl
    cut true false false = refl
    cut false b true = refl
    cut false b false = refl

-- no hashes put in or taken out
pub IsAdded-none : (number : ℕ) (postings : List Posting) → IsAdded number [] postings postings
IsAdded-none number postings hash id = none (has_posting hash id postings) (number == id)
  where
    none : (o a : Bool) → o ≡ (o || (a && false))
    none true a = refl
    none false true = refl
    none false false = refl

pub IsDropped-none : (number : ℕ) (kept : List ℕ) (postings : List Posting) → IsDropped number [] kept postings postings
IsDropped-none number kept postings hash id = none (has_posting hash id postings) (number == id)
  where
    none : (o a : Bool) → o ≡ (o && not (a && false))
    none true true = refl
    none true false = refl
    none false a = refl

-- some, and then further ones
pub IsAdded-append : (number : ℕ) (xs ys : List ℕ) (old mid new : List Posting) → IsAdded number xs old mid → IsAdded number ys mid new → IsAdded number (xs ++ ys) old new
IsAdded-append number xs ys old mid new first second hash id =
    second hash id
    ∙ ap (λ (m : Bool). m || (number == id && has_hash hash ys)) (first hash id)
    ∙ joined (has_posting hash id old) (number == id) (has_hash hash xs) (has_hash hash ys)
    ∙ ap (λ (h : Bool). has_posting hash id old || (number == id && h)) (sym (list_any-append (λ other. other == hash) xs ys))
  where
    joined : (o a x y : Bool) → ((o || (a && x)) || (a && y)) ≡ (o || (a && (x || y)))
    joined true a x y = refl
    joined false true x y = refl
    joined false false x y = refl

pub IsDropped-append : (number : ℕ) (xs ys kept : List ℕ) (old mid new : List Posting) → IsDropped number xs kept old mid → IsDropped number ys kept mid new → IsDropped number (xs ++ ys) kept old new
IsDropped-append number xs ys kept old mid new first second hash id =
    second hash id
    ∙ ap (λ (m : Bool). m && not (number == id && (has_hash hash ys && not (has_hash hash kept)))) (first hash id)
    ∙ joined (has_posting hash id old) (number == id) (has_hash hash xs) (has_hash hash ys) (not (has_hash hash kept))
    ∙ ap (λ (h : Bool). has_posting hash id old && not (number == id && (h && not (has_hash hash kept)))) (sym (list_any-append (λ other. other == hash) xs ys))
  where
    joined : (o a x y k : Bool) → ((o && not (a && (x && k))) && not (a && (y && k))) ≡ (o && not (a && ((x || y) && k)))
    joined false a x y k = refl
    joined true false x y k = refl
    joined true true true y true = refl
    joined true true true true false = refl
    joined true true true false false = refl
    joined true true false y k = refl

-- a hash that is kept is not taken out, and one that is not kept is
pub IsDropped-held : (number hash : ℕ) (kept : List ℕ) (postings : List Posting) → has_hash hash kept ≡ true → IsDropped number (hash ∷ []) kept postings postings
IsDropped-held number hash kept postings held other id = elim (cases_Bool (hash == other)) [
  | inl e ↦ (
      let there : has_hash other kept ≡ true = ap (λ (h : ℕ). has_hash h kept) (sym (eqb-true hash other e)) ∙ held in
      rw (e, there) (same (has_posting other id postings) (number == id)))
  | inr e ↦ rw e (same (has_posting other id postings) (number == id))
]
  where
    same : (o a : Bool) → o ≡ (o && not (a && false))
    same true true = refl
    same true false = refl
    same false a = refl

pub IsDropped-fresh : (number hash : ℕ) (kept : List ℕ) (old new : List Posting) → has_hash hash kept ≡ false → IsDropped number (hash ∷ []) [] old new → IsDropped number (hash ∷ []) kept old new
IsDropped-fresh number hash kept old new fresh dropped other id = elim (cases_Bool (hash == other)) [
  | inl e ↦ (
      let absent : has_hash other kept ≡ false = ap (λ (h : ℕ). has_hash h kept) (sym (eqb-true hash other e)) ∙ fresh in
      dropped other id
      ∙ ap (λ (k : Bool). has_posting other id old && not (number == id && ((hash == other || false) && not k))) (sym absent))
  | inr e ↦ dropped other id ∙ rw e refl
]

-- what stays where postings are put in or taken out
pub IsAdded-stay : (number : ℕ) (hashes : List ℕ) (old new : List Posting) → IsAdded number hashes old new → AllStay old new
IsAdded-stay number hashes old new added hash id there = added hash id ∙ ap (λ (o : Bool). o || (number == id && has_hash hash hashes)) there

pub IsAdded-others : (number : ℕ) (hashes : List ℕ) (old new : List Posting) → IsAdded number hashes old new → OthersStay number old new
IsAdded-others number hashes old new added hash id other =
    added hash id
    ∙ ap (λ (a : Bool). has_posting hash id old || (a && has_hash hash hashes)) (ne_eqb number id (λ e. other (sym e)))
    ∙ or_false (has_posting hash id old)
  where
    or_false : (o : Bool) → (o || false) ≡ o
    or_false true = refl
    or_false false = refl

-- a number is posted under the hashes that are put in
pub IsAdded-posted : (number : ℕ) (hashes : List ℕ) (old new : List Posting) → IsAdded number hashes old new → IsPosted number hashes new
IsAdded-posted number hashes old new added hash here =
    added hash number
    ∙ ap (λ (a : Bool). has_posting hash number old || (a && has_hash hash hashes)) (eq-eqb number number refl)
    ∙ ap (λ (h : Bool). has_posting hash number old || h) here
    ∙ or_true (has_posting hash number old)
  where
    or_true : (o : Bool) → (o || true) ≡ true
    or_true true = refl
    or_true false = refl

pub IsDropped-others : (number : ℕ) (hashes kept : List ℕ) (old new : List Posting) → IsDropped number hashes kept old new → OthersStay number old new
IsDropped-others number hashes kept old new dropped hash id other =
    dropped hash id
    ∙ ap (λ (a : Bool). has_posting hash id old && not (a && (has_hash hash hashes && not (has_hash hash kept)))) (ne_eqb number id (λ e. other (sym e)))
    ∙ and_true (has_posting hash id old)
  where
    and_true : (o : Bool) → (o && true) ≡ o
    and_true true = refl
    and_true false = refl

-- a number stays posted under what is kept
pub IsDropped-kept : (number : ℕ) (hashes kept : List ℕ) (old new : List Posting) → IsDropped number hashes kept old new → IsPosted number kept old → IsPosted number kept new
IsDropped-kept number hashes kept old new dropped posted hash here =
    dropped hash number
    ∙ ap (λ (k : Bool). has_posting hash number old && not (number == number && (has_hash hash hashes && not k))) here
    ∙ ap (λ (o : Bool). o && not (number == number && (has_hash hash hashes && false))) (posted hash here)
    ∙ none (number == number) (has_hash hash hashes)
  where
    none : (a h : Bool) → not (a && (h && false)) ≡ true
    none true true = refl
    none true false = refl
    none false h = refl
