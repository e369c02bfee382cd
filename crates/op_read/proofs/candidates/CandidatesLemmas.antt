-- What is not shown need not be looked at.
use Rattle.std.proofs.Common.{◌≡◌, ℕ, Bool, true, false, List, [], ◌∷◌, ◌++◌, Option, Some, None, refl, sym, ap, ◌∙◌, ◌⊎◌, inl, inr, filter, if◌then◌else◌}
use Rattle.std.specs.Option.{option_map_or}
use Rattle.std.proofs.lemmas.Bool.{cases_Bool}
use Rattle.std.proofs.lemmas.List.Elements.{filter-append}
use Rattle.dir_tree.specs.dn_names.name.Names.{RdnSequence}
use Rattle.dir_tree.specs.Entry.{EntryInformation}
use Rattle.dir_tree.specs.tree.Trees.{is_before}
use Rattle.dir_tree.specs.tree.Numbered.{Numbered, entry_of}
use Rattle.dir_tree.specs.declared.number.EntryNo.{EntryNo}
use Rattle.acdf_filters.specs.declared.asking.Requester.{Requester}
use Rattle.directory.specs.value_index.Holders.{has_number}
use Rattle.page_core.specs.read_model.Views.{Row}
use Rattle.page_core.specs.Starts.{is_after}
use Rattle.op_read.specs.Candidates.{ids_in, HasShown, comes_after}
use Rattle.op_read.specs.Seeing.{row_in, one_or_none}
use Rattle.op_read.specs.Sending.{shown_at, shown_among}

-- those shown of the entries that are among the numbers are those shown
pub shown_among-filter : (test : Row → Bool) (rows : List Numbered) (who : Requester) (numbers : List EntryNo) → HasShown test rows who numbers
    → (ids : List ℕ) → shown_among test rows who (filter (λ id. has_number id numbers) ids) ≡ shown_among test rows who ids
shown_among-filter test rows who numbers shown [] = refl
shown_among-filter test rows who numbers shown (id ∷ ids) = elim (cases_Bool (has_number id numbers)) [
  | inl e ↦ rw e (ap (λ later. shown_at test rows who id ++ later) (shown_among-filter test rows who numbers shown ids))
  | inr e ↦ rw (e, shown id e) (shown_among-filter test rows who numbers shown ids)
]

-- ---- behind a name

-- of the entry of a number that does not come after the name none is shown behind it
behind-at : (test : Row → Bool) (rows : List Numbered) (who : Requester) (after : RdnSequence) (number : EntryNo)
    → filter (is_after after) (shown_at test rows who number.0) ≡ if comes_after rows after number then shown_at test rows who number.0 else []
behind-at test rows who after number = by (entry_of number.0 rows)
  where
    one : (row : Row) → ((test row ≡ true) ⊎ (test row ≡ false)) → ((is_after after row ≡ true) ⊎ (is_after after row ≡ false))
        → filter (is_after after) (filter test (row ∷ [])) ≡ if is_after after row then filter test (row ∷ []) else []
    one row (inl e) (inl g) = rw (e, g) refl
    one row (inl e) (inr g) = rw (e, g) refl
    one row (inr e) (inl g) = rw (e, g) refl
    one row (inr e) (inr g) = rw (e, g) refl

    by : (found : Option EntryInformation)
        → filter (is_after after) (filter test (one_or_none (row_in rows who) found))
        ≡ if option_map_or (λ entry. is_before after entry.name) found false then filter test (one_or_none (row_in rows who) found) else []
    by None = refl
    by (Some entry) =
        let row = row_in rows who entry in
        one row (cases_Bool (test row)) (cases_Bool (is_after after row))

-- those shown of the numbers behind the name are those of what is shown behind it
pub shown_among-after : (test : Row → Bool) (rows : List Numbered) (who : Requester) (after : RdnSequence) (numbers : List EntryNo)
    → shown_among test rows who (ids_in (filter (comes_after rows after) numbers)) ≡ filter (is_after after) (shown_among test rows who (ids_in numbers))
shown_among-after test rows who after [] = refl
shown_among-after test rows who after (number ∷ numbers) =
    by (cases_Bool (comes_after rows after number))
    ∙ ap (λ later. (if comes_after rows after number then shown_at test rows who number.0 else []) ++ later) (shown_among-after test rows who after numbers)
    ∙ ap (λ first. first ++ filter (is_after after) (shown_among test rows who (ids_in numbers))) (sym (behind-at test rows who after number))
    ∙ sym (filter-append (is_after after) (shown_at test rows who number.0) (shown_among test rows who (ids_in numbers)))
  where
    by : ((comes_after rows after number ≡ true) ⊎ (comes_after rows after number ≡ false))
        → shown_among test rows who (ids_in (filter (comes_after rows after) (number ∷ numbers)))
        ≡ (if comes_after rows after number then shown_at test rows who number.0 else []) ++ shown_among test rows who (ids_in (filter (comes_after rows after) numbers))
    by (inl e) = rw e refl
    by (inr e) = rw e refl
