-- Entries put in, and filters of them.
use Rattle.std.proofs.Common.{◌≡◌, ◌⊎◌, Bool, true, false, List, [], ◌∷◌, refl, ap, inl, inr, filter, Option, Some, None}
use Rattle.std.specs.Prelude.{IfSome}
use Rattle.std.proofs.lemmas.Bool.{cases_Bool}
use Rattle.dir_tree.specs.Entry.{EntryInformation}
use Rattle.dir_tree.specs.tree.Trees.{is_before, put_in}
use Rattle.aci_index.specs.Aside.{put_some}

-- an entry that fails the test is put in unseen
filter-put_in : (p : EntryInformation → Bool) (one : EntryInformation) (entries : List EntryInformation) → p one ≡ false
    → filter p (put_in one entries) ≡ filter p entries
filter-put_in p one [] e = rw e refl
filter-put_in p one (x ∷ entries) e = by (cases_Bool (is_before x.name one.name)) (filter-put_in p one entries e)
  where
    by : ((is_before x.name one.name ≡ true) ⊎ (is_before x.name one.name ≡ false))
        → filter p (put_in one entries) ≡ filter p entries → filter p (put_in one (x ∷ entries)) ≡ filter p (x ∷ entries)
    by (inl f) later = elim (cases_Bool (p x)) [
      | inl g ↦ rw (f, g) (ap (λ (rest : List EntryInformation). x ∷ rest) later)
      | inr g ↦ rw (f, g) later
    ]
    by (inr f) later = rw (f, e) refl

pub filter-put_some : (p : EntryInformation → Bool) (one : Option EntryInformation) (entries : List EntryInformation)
    → IfSome one (λ entry. p entry ≡ false) → filter p (put_some one entries) ≡ filter p entries
filter-put_some p None entries h = refl
filter-put_some p (Some one) entries h = filter-put_in p one entries h
