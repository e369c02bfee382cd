-- An entry that has the name of another is never refused in its place.
use Rattle.std.proofs.Common.{◌≡◌, ◌≢◌, inl, inr, ℕ, true, false, List, [], ◌∷◌, length, Option, Some, None, refl, sym, ap, ◌∙◌, arith}
use Rattle.std.proofs.lemmas.Bool.{cases_Bool, true≢false, or_cases}
use Rattle.dn_names.specs.name.Names.{RdnSequence}
use Rattle.dn_names.specs.NameOrder.{is_same}
use Rattle.dir_tree.specs.Entry.{EntryInformation}
use Rattle.dir_tree.specs.tree.Trees.{is_named, has_name, superior_name, put_in, IsRooted}
use Rattle.dir_tree.specs.tree.Numbered.{Numbered, IsNumberedTree, entries_of, entry_of, is_called, suffix_of, without}
use Rattle.dir_tree.specs.Scope.{is_number}
use Rattle.dir_tree.specs.Refusals.{lacks_place, refusal_in_place, replace_refusal}
use Rattle.dir_tree.specs.Removals.{IsReplaceable}
use Rattle.dir_tree.specs.slots.Slots.{IsOrderedTree}
use Rattle.dir_tree.proofs.tree.NameLemmas.{same_itself, length-same, same-superior, superior_before, before_not_same}
use Rattle.dir_tree.proofs.tree.NumberedLemmas.{found_later, all_known_entry, entries_of-others}
use Rattle.dir_tree.proofs.tree.RootLemmas.{any_put, has_name_like}
use Rattle.dir_tree.proofs.tree.StayLaws.{ordered-from_tree}
use Rattle.dir_tree.proofs.replace.OrderedLemmas.{absent_others}

-- an entry that is not the suffix has its superior in the tree
has_above : (id : ℕ) (old : EntryInformation) (rows : List Numbered) → IsRooted (entries_of rows) → entry_of id rows ≡ Some old → is_number id (suffix_of rows) ≡ false → has_name (superior_name old.name) (entries_of rows) ≡ true
has_above id old [] rooted known other = absurd cc
has_above id old (first ∷ rows) rooted known other =
    all_known_entry (λ later. has_name (superior_name later.name) (entries_of (first ∷ rows)) ≡ true) id old rows rooted (found_later id old first rows other known)

-- a name that is the same as one with RDNs has RDNs
filled_like : (name other : RdnSequence) → length name ≡ length other → other ≢ [] → name ≢ []
filled_like name [] long filled = absurd (filled refl)
filled_like [] (rdn ∷ rdns) long filled = absurd (omega arith)
filled_like (first ∷ rest) (rdn ∷ rdns) long filled = λ e. cc

-- a name has a place where its superior is among the other entries, unless the place is the suffix's
place_there : (id : ℕ) (name : RdnSequence) (rows : List Numbered) → name ≢ [] → (is_number id (suffix_of rows) ≡ false → has_name (superior_name name) (entries_of (without id rows)) ≡ true) → lacks_place id name rows ≡ false
place_there id [] rows filled under = absurd (filled refl)
place_there id (rdn ∷ rdns) rows filled under = elim (cases_Bool (is_number id (suffix_of rows))) [
  | inl e ↦ rw e refl
  | inr e ↦ rw (e, under e) refl
]

module _ (id : ℕ) (old : EntryInformation) (rows : List Numbered) (tree : IsNumberedTree rows) (known : entry_of id rows ≡ Some old) where
  back : put_in old (entries_of (without id rows)) ≡ entries_of rows
  back = entries_of-others id old rows tree.tree.sorted tree.distinct known

  whole : IsOrderedTree (put_in old (entries_of (without id rows)))
  whole = rw back (ordered-from_tree (entries_of rows) tree.tree)

  old_filled : old.name ≢ []
  old_filled = all_known_entry (λ entry. entry.name ≢ []) id old rows tree.tree.named known

  -- the superior of the entry is another
  among : is_number id (suffix_of rows) ≡ false → has_name (superior_name old.name) (entries_of (without id rows)) ≡ true
  among other =
      let here = sym (any_put (is_named (superior_name old.name)) old (entries_of (without id rows))) ∙ ap (has_name (superior_name old.name)) back ∙ has_above id old rows tree.tree.rooted known other in
      elim (or_cases (is_named (superior_name old.name) old) (has_name (superior_name old.name) (entries_of (without id rows))) here) [
        | inl e ↦ absurd (true≢false (sym e ∙ before_not_same (superior_name old.name) old.name (superior_before old.name old_filled)))
        | inr e ↦ e
      ]

  module _ (name : RdnSequence) (same : is_same name old.name ≡ true) where
    absent : has_name name (entries_of (without id rows)) ≡ false
    absent = has_name_like name old.name (entries_of (without id rows)) same ∙ absent_others old (entries_of (without id rows)) whole

    here : lacks_place id name rows ≡ false
    here = place_there id name rows (filled_like name old.name (length-same name old.name same) old_filled) (λ other.
        has_name_like (superior_name name) (superior_name old.name) (entries_of (without id rows)) (same-superior name old.name same) ∙ among other)

    pub never_refused : refusal_in_place id name (Some old) rows ≡ None
    never_refused = rw (absent, here, same) refl

-- so an entry of the name may take the place of the entry of the number
pub may_revise : (id : ℕ) (name : RdnSequence) (rows : List Numbered) → IsNumberedTree rows → is_called id name rows ≡ true → IsReplaceable id name rows
may_revise id name rows tree called = by (entry_of id rows) refl called
  where
    by : (found : Option EntryInformation) → entry_of id rows ≡ found → is_called id name rows ≡ true → IsReplaceable id name rows
    by None e f = (let none = rw e at f in absurd cc)
    by (Some old) e f = (let same = rw e at f in record { entry = old; known = e; allowed = never_refused id old rows tree e name same })

-- and has no refusal
pub none_revised : (id : ℕ) (name : RdnSequence) (rows : List Numbered) → IsNumberedTree rows → is_called id name rows ≡ true → replace_refusal id name rows ≡ None
none_revised id name rows tree called =
    let may = may_revise id name rows tree called in
    ap (λ (found : Option EntryInformation). refusal_in_place id name found rows) may.known ∙ may.allowed

-- an entry with the name of that of the number is called as that one is
pub called_same : (id : ℕ) (old : EntryInformation) (name : RdnSequence) (rows : List Numbered) → entry_of id rows ≡ Some old → name ≡ old.name → is_called id name rows ≡ true
called_same id old name rows known named = rw (known, named) (same_itself old.name)
