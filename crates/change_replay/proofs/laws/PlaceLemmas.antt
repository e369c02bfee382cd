-- The entry that a name finds, and the names that are left where it is taken out.
use Rattle.std.proofs.Common.{◌≡◌, ◌≢◌, true, false, not, ◌||◌, List, [], ◌∷◌, None, if◌then◌else◌, refl, sym, ◌∙◌, inl, inr}
use Rattle.std.proofs.lemmas.Bool.{cases_Bool, cond_both, false_from_ne_true, not-true, or_parts, or_from, true≢false}
use Rattle.dir_tree.specs.dn_names.name.Names.{RdnSequence}
use Rattle.dir_tree.specs.dn_names.NameOrder.{is_same}
use Rattle.dir_tree.specs.Entry.{EntryInformation}
use Rattle.dir_tree.specs.tree.Trees.{is_named, has_name, named_in, taken_out}
use Rattle.dir_tree.proofs.TreeTheorems.{same_back, same_over, none_named}

-- an entry that has another name than the one that is taken out has also another than one that is the same
apart_too :
    (old new : RdnSequence) (entry : EntryInformation) → is_same new old ≡ true → not (is_named old entry) ≡ true
    → is_named new entry ≡ false
apart_too old new entry same other =
    false_from_ne_true (is_named new entry) (λ here. true≢false (sym (same_over old new entry.name (same_back new old same) here) ∙ not-true (is_named old entry) other))

-- no entry is left of the name that is taken out, nor of one that no entry had
none_left :
    (old new : RdnSequence) (entries : List EntryInformation) → is_same new old ≡ true
    → has_name new (taken_out old entries) ≡ false
none_left old new [] same = refl
none_left old new (first ∷ rest) same =
    let later = none_left old new rest same in
    cond_both (not (is_named old first)) (first ∷ taken_out old rest) (taken_out old rest) (λ left. has_name new left ≡ false)
    (λ other. or_from _ _ (apart_too old new first same other) later) (λ _. later)

none_more :
    (old new : RdnSequence) (entries : List EntryInformation) → has_name new entries ≡ false
    → has_name new (taken_out old entries) ≡ false
none_more old new [] none = refl
none_more old new (first ∷ rest) none =
    let parts = or_parts (is_named new first) (has_name new rest) none in
    let later = none_more old new rest parts.1 in
    cond_both (not (is_named old first)) (first ∷ taken_out old rest) (taken_out old rest) (λ left. has_name new left ≡ false)
    (λ _. or_from _ _ parts.0 later) (λ _. later)

-- so a name is free there that is the old one or was free
pub free_beside :
    (old new : RdnSequence) (entries : List EntryInformation) → (is_same new old ≡ false → named_in new entries ≡ None)
    → has_name new (taken_out old entries) ≡ false
free_beside old new entries free = elim (cases_Bool (is_same new old)) [
  | inl same ↦ none_left old new entries same
  | inr other ↦ none_more old new entries (none_named (is_named new) entries (free other))
]
