-- Entries below which nothing stands: one that is put in, and one that is taken out, stand beside all others.
use Rattle.std.proofs.Common.{◌≡◌, ◌≢◌, ℕ, false, List, sym, ◌∙◌, Some, None}
use Rattle.dir_tree.specs.Entry.{EntryInformation}
use Rattle.dir_tree.specs.tree.Numbered.{Numbered, IsNumberedTree, entries_of, entry_of, put_entry, without}
use Rattle.dir_tree.specs.Refusals.{insert_refusal, remove_refusal}
use Rattle.dir_tree.specs.Scope.{is_within}
use Rattle.dir_tree.proofs.TreeTheorems.{new_removable, removed_alone, outside}
use Rattle.aci_lists.specs.declared.kept.Holdings.{Holdings}
use Rattle.aci_lists.specs.kept.Holdings.{IsHeld, IsForgotten}
use Rattle.aci_lists.proofs.Theorems.{held-without}
use Rattle.aci_index.proofs.laws.AsideLemmas.{aside-beside}
use Rattle.aci_index.proofs.laws.RowLemmas.{change-put, change-taken}
use Rattle.aci_index.proofs.laws.NumberLemmas.{entry_of-new}
use Rattle.aci_index.specs.Steps.{IsKeptOf, OthersStay}
use Rattle.aci_index.proofs.inserting.SubtreeLemmas.{IsOrdinary}
use Rattle.aci_index.proofs.inserting.HeldLemmas.{held-aside}

-- no other entry is at or below the name of one that is taken out
taken-outside : (id : ℕ) (old : EntryInformation) (rows : List Numbered) → IsNumberedTree rows → entry_of id rows ≡ Some old → remove_refusal id rows ≡ None
    → (number : ℕ) (entry : EntryInformation) → number ≢ id → entry_of number rows ≡ Some entry → is_within old.name entry ≡ false
taken-outside id old rows tree known allowed number entry differs there =
    outside id old rows tree known (removed_alone id old rows known allowed) number entry
    (entry_of-new id number rows (without id rows) (change-taken id old rows known).others differs ∙ there)

-- nor of one that is put in
put-outside : (id : ℕ) (one : EntryInformation) (rows : List Numbered) → IsNumberedTree rows → IsNumberedTree (put_entry id one rows)
    → entry_of id rows ≡ None → insert_refusal one.name (entries_of rows) ≡ None
    → (number : ℕ) (entry : EntryInformation) → number ≢ id → entry_of number rows ≡ Some entry → is_within one.name entry ≡ false
put-outside id one rows tree also free allowed number entry differs there =
    let change = change-put id one rows free in
    taken-outside id one (put_entry id one rows) also change.after (new_removable id one rows tree free allowed) number entry differs
    (entry_of-new id number rows (put_entry id one rows) change.others differs ∙ there)

-- what is kept, where an entry is put in that is no access control subentry
pub held-put : (id : ℕ) (one : EntryInformation) (rows : List Numbered) (held made : Holdings) → IsNumberedTree rows → IsNumberedTree (put_entry id one rows)
    → entry_of id rows ≡ None → insert_refusal one.name (entries_of rows) ≡ None → IsOrdinary one
    → IsHeld held rows → OthersStay id held made → IsKeptOf id made (put_entry id one rows) → IsHeld made (put_entry id one rows)
held-put id one rows held made tree also free allowed ordinary is stay own =
    held-aside id rows (put_entry id one rows) None (Some one) held made tree also (change-put id one rows free) tt ordinary
    (λ number entry differs there.
    aside-beside entry None (Some one) tt (record {
      outside = put-outside id one rows tree also free allowed number entry differs there;
      ordinary = ordinary;
    }))
    is stay own

-- what is kept, where one is taken out
pub held-taken : (id : ℕ) (old : EntryInformation) (rows : List Numbered) (held made : Holdings) → IsNumberedTree rows → IsNumberedTree (without id rows)
    → entry_of id rows ≡ Some old → remove_refusal id rows ≡ None → IsOrdinary old
    → IsHeld held rows → OthersStay id held made → IsHeld made (without id rows)
held-taken id old rows held made tree also known allowed ordinary is stay =
    let change = change-taken id old rows known in
    held-aside id rows (without id rows) (Some old) None held made tree also change ordinary tt
    (λ number entry differs there.
    aside-beside entry (Some old) None (record {
      outside = taken-outside id old rows tree known allowed number entry differs there;
      ordinary = ordinary;
    }) tt)
    is stay (λ entry there. let clash : Some entry ≡ None = sym there ∙ change.after in absurd cc)

-- what is kept, where an access control subentry is taken out, which is then forgotten
pub held-forgotten : (id : ℕ) (old : EntryInformation) (rows : List Numbered) (held made : Holdings) → IsNumberedTree rows
    → entry_of id rows ≡ Some old → remove_refusal id rows ≡ None → IsHeld held rows → IsForgotten id held made → IsHeld made (without id rows)
held-forgotten id old rows held made tree known allowed is forgotten =
    held-without id old rows tree known (removed_alone id old rows known allowed) held made is forgotten
