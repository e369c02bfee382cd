-- How many slots are full, while they change.
use Rattle.std.proofs.Common.{◌≡◌, ℕ, ◌<◌, ◌≤◌, zero, suc, true, List, [], ◌∷◌, ◌++◌, length, set, Option, Some, None, refl, ap, arith}
use Rattle.std.specs.Prelude.{is_some}
use Rattle.dir_tree.specs.Entry.{EntryInformation}
use Rattle.dir_tree.specs.slots.Slots.{slot_of, count_full}

-- no more slots are full than there are
pub count_full-le : (slots : List (Option EntryInformation)) → count_full slots ≤ length slots
count_full-le [] = omega arith
count_full-le (None ∷ slots) = (let less = count_full-le slots in omega arith)
count_full-le (Some entry ∷ slots) = (let less = count_full-le slots in omega arith)

-- and an empty one does not count
pub count_full-push : (slots : List (Option EntryInformation)) → count_full (slots ++ None ∷ []) ≡ count_full slots
count_full-push [] = refl
count_full-push (None ∷ slots) = count_full-push slots
count_full-push (Some entry ∷ slots) = ap suc (count_full-push slots)

-- where each is full, as many are as there are
pub count_full-all : (slots : List (Option EntryInformation)) → ((id : ℕ) → id < length slots → is_some (slot_of slots id) ≡ true) → count_full slots ≡ length slots
count_full-all [] f = refl
count_full-all (None ∷ slots) f = (let first : is_some (slot_of (None ∷ slots) 0) ≡ true = f 0 (omega arith) in absurd cc)
count_full-all (Some entry ∷ slots) f = ap suc (count_full-all slots (λ id h. f (suc id) (omega arith)))

-- one filled, one emptied, one changed
pub count_full-fill : (slots : List (Option EntryInformation)) (id : ℕ) (entry : EntryInformation) → id < length slots → slot_of slots id ≡ None → count_full (set slots id (Some entry)) ≡ suc (count_full slots)
count_full-fill [] id entry h e = absurd (omega arith)
count_full-fill (None ∷ slots) zero entry h e = refl
count_full-fill (Some other ∷ slots) zero entry h e = absurd cc
count_full-fill (None ∷ slots) (suc id) entry h e = count_full-fill slots id entry (omega arith) e
count_full-fill (Some other ∷ slots) (suc id) entry h e = ap suc (count_full-fill slots id entry (omega arith) e)

pub count_full-empty : (slots : List (Option EntryInformation)) (id : ℕ) → is_some (slot_of slots id) ≡ true → suc (count_full (set slots id None)) ≡ count_full slots
count_full-empty [] id e = absurd cc
count_full-empty (None ∷ slots) zero e = absurd cc
count_full-empty (Some other ∷ slots) zero e = refl
count_full-empty (None ∷ slots) (suc id) e = count_full-empty slots id e
count_full-empty (Some other ∷ slots) (suc id) e = ap suc (count_full-empty slots id e)

pub count_full-change : (slots : List (Option EntryInformation)) (id : ℕ) (entry : EntryInformation) → is_some (slot_of slots id) ≡ true → count_full (set slots id (Some entry)) ≡ count_full slots
count_full-change [] id entry e = absurd cc
count_full-change (None ∷ slots) zero entry e = absurd cc
count_full-change (Some other ∷ slots) zero entry e = refl
count_full-change (None ∷ slots) (suc id) entry e = count_full-change slots id entry e
count_full-change (Some other ∷ slots) (suc id) entry e = ap suc (count_full-change slots id entry e)

-- a full slot is one of the slots
pub full_within : (slots : List (Option EntryInformation)) (id : ℕ) → is_some (slot_of slots id) ≡ true → id < length slots
full_within [] id e = absurd cc
full_within (slot ∷ slots) zero e = omega arith
full_within (slot ∷ slots) (suc id) e = (let later = full_within slots id e in omega arith)
