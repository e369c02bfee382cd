-- Numbers that are in use are those of as many entries.
use Rattle.std.proofs.Common.{◌≡◌, ◌≤◌, ℕ, Bool, not, List, [], ◌∷◌, Option, Some, None, length, refl, ap, arith, rules}
use Rattle.std.proofs.lemmas.List.Filters.{length-filter_both}
use Rattle.std.specs.Prelude.{suc, filter, IsSome}
use Rattle.std.specs.List.{AllByRecursion, cons_option}
use Rattle.dir_tree.specs.Entry.{EntryInformation}
use Rattle.dir_tree.specs.tree.Numbered.{Numbered, entry_of, entries_at}

-- one that is in use
one_more : (found : Option EntryInformation) (rest : List EntryInformation) (id : ℕ) (ids : List ℕ) → IsSome found → length rest ≡ length ids
    → length (cons_option found rest) ≡ length (id ∷ ids)
one_more None rest id ids some same = absurd (search (rules, some))
one_more (Some entry) rest id ids some same = ap (λ n. suc n) same

pub as_many : (rows : List Numbered) (ids : List ℕ) → AllByRecursion (λ id. IsSome (entry_of id rows)) ids → length (entries_at rows ids) ≡ length ids
as_many rows [] live = refl
as_many rows (id ∷ ids) live = one_more (entry_of id rows) (entries_at rows ids) id ids live.0 (as_many rows ids live.1)

-- no more are kept than there are
pub kept_most : (test : ℕ → Bool) (ids : List ℕ) → length (filter test ids) ≤ length ids
kept_most test ids = omega (arith, length-filter_both test (λ id. not (test id)) (λ id. refl) ids)
