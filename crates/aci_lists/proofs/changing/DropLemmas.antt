-- A number is dropped from what is kept of each entry.
use Rattle.std.proofs.Common.{◌≡◌, ◌≢◌, ◌⊎◌, inl, inr, ◌<◌, ◌≤◌, ◌+◌, ◌==◌, zero, suc, ℕ, not, List, [], ◌∷◌, length, map, filter, refl, sym, ap, subst, ◌∙◌, arith, set, get_or}
use Rattle.std.proofs.lemmas.Bool.{cases_Bool, cases_eq}
use Rattle.std.proofs.lemmas.List.{map-set, get_or-set_other, get_or-set_same}
use Rattle.dir_tree.specs.declared.number.EntryNo.{EntryNo}
use Rattle.aci_lists.specs.declared.kept.Kept.{Kept}
use Rattle.aci_lists.specs.kept.Lists.{Lists, lists_of, no_lists, lists_at}
use Rattle.aci_lists.specs.kept.Holdings.{without_number}

-- a filter of numbers, seen through what holds them
pub numbers-filter : (number : ℕ) (numbers : List EntryNo) → map (λ no. no.0) (filter (λ other. not (other.0 == number)) numbers) ≡ filter (λ id. not (id == number)) (map (λ no. no.0) numbers)
numbers-filter number [] = refl
numbers-filter number (n ∷ numbers) = elim (cases_Bool (n.0 == number)) [
  | inl e ↦ rw e (numbers-filter number numbers)
  | inr e ↦ rw e (ap (λ (ids : List ℕ). n.0 ∷ ids) (numbers-filter number numbers))
]

-- one element of what is kept is changed
length-lists : (kept : List Kept) → length (map lists_of kept) ≡ length kept
length-lists [] = refl
length-lists (k ∷ kept) = ap suc (length-lists kept)

pub lists_at-set_other : (kept : List Kept) (at : ℕ) (next : Kept) (id : ℕ) → id ≢ at → lists_at (set kept at next) id ≡ lists_at kept id
lists_at-set_other kept at next id other =
    ap (λ (xs : List Lists). get_or xs id no_lists) (map-set lists_of kept at next)
    ∙ get_or-set_other (map lists_of kept) at id (lists_of next) no_lists other

pub lists_at-set_same : (kept : List Kept) (at : ℕ) (next : Kept) → at < length kept → lists_at (set kept at next) at ≡ lists_of next
lists_at-set_same kept at next within =
    ap (λ (xs : List Lists). get_or xs at no_lists) (map-set lists_of kept at next)
    ∙ get_or-set_same (map lists_of kept) at (lists_of next) no_lists (subst (λ n. at < n) (sym (length-lists kept)) within)

-- nothing is kept past the end
pub lists_at-beyond : (kept : List Kept) (at : ℕ) → length kept ≤ at → lists_at kept at ≡ no_lists
lists_at-beyond [] zero past = refl
lists_at-beyond [] (suc at) past = refl
lists_at-beyond (k ∷ kept) zero past = absurd (omega arith)
lists_at-beyond (k ∷ kept) (suc at) past = lists_at-beyond kept at (omega arith)

lists_at-here : (kept : List Kept) (at : ℕ) (one : Kept) → at < length kept → one ≡ get_or kept at one → lists_at kept at ≡ lists_of one
lists_at-here [] at one within is = absurd (omega arith)
lists_at-here (k ∷ kept) zero one within is = ap lists_of (sym is)
lists_at-here (k ∷ kept) (suc at) one within is = lists_at-here kept at one (omega arith) is

pub drop_step : (number at : ℕ) (begun kept : List Kept) (one next : Kept) → at < length kept → one ≡ get_or kept at one
    → lists_of next ≡ without_number number (lists_of one)
    → ((id : ℕ) → id < at → lists_at kept id ≡ without_number number (lists_at begun id))
    → ((id : ℕ) → at ≤ id → lists_at kept id ≡ lists_at begun id)
    → (id : ℕ) → id < at + 1 → lists_at (set kept at next) id ≡ without_number number (lists_at begun id)
drop_step number at begun kept one next within is made dropped others id h = by (cases_eq id at)
  where
    by : ((id ≡ at) ⊎ (id ≡ at → ⊥)) → lists_at (set kept at next) id ≡ without_number number (lists_at begun id)
    by (inl e) =
        ap (lists_at (set kept at next)) e
        ∙ lists_at-set_same kept at next within
        ∙ made
        ∙ ap (without_number number) (sym (lists_at-here kept at one within is) ∙ others at (omega arith) ∙ ap (lists_at begun) (sym e))
    by (inr e) = lists_at-set_other kept at next id e ∙ dropped id (omega arith)

pub others_step : (at : ℕ) (begun kept : List Kept) (next : Kept)
    → ((id : ℕ) → at ≤ id → lists_at kept id ≡ lists_at begun id)
    → (id : ℕ) → at + 1 ≤ id → lists_at (set kept at next) id ≡ lists_at begun id
others_step at begun kept next others id h = lists_at-set_other kept at next id (λ e. omega arith) ∙ others id (omega arith)
