-- What is kept stays right, where one number's entry comes, goes or changes, its lists are right, and all others stand aside.
use Rattle.std.proofs.Common.{◌≡◌, ◌≢◌, ◌⊎◌, inl, inr, ℕ, List, ap, sym, subst, ◌∙◌, Option, Some, None}
use Rattle.std.specs.Prelude.{IfSome}
use Rattle.std.proofs.lemmas.Bool.{cases_eq}
use Rattle.dir_tree.specs.Entry.{EntryInformation}
use Rattle.dir_tree.specs.tree.Numbered.{Numbered, IsNumberedTree, entry_of}
use Rattle.acdf_filters.specs.admin_scope.Finding.{AreSubtrees}
use Rattle.acdf_filters.specs.admin_scope.declared.subtrees.AccessSubentry.{AccessSubentry}
use Rattle.aci_index.specs.Aside.{IsAside, IsChangeOf}
use Rattle.aci_index.proofs.laws.NumberLemmas.{entry_of-new, numbers-aside}
use Rattle.aci_lists.specs.declared.kept.Holdings.{Holdings}
use Rattle.aci_lists.specs.kept.Lists.{Lists, lists_at, AreOf}
use Rattle.aci_lists.specs.kept.Holdings.{IsHeld}
use Rattle.aci_index.specs.Steps.{AllStay, IsKeptOf, OthersStay}
use Rattle.aci_index.proofs.inserting.SubtreeLemmas.{IsOrdinary, subtrees-stay}

-- the lists of an entry from which what changes stands aside
pub lists-aside : (id : ℕ) (rows new : List Numbered) (one other : Option EntryInformation) (entry : EntryInformation) (lists : Lists) → IsNumberedTree rows → IsNumberedTree new
    → IsChangeOf id rows new one other → IsAside entry one other → AreOf rows entry lists → AreOf new entry lists
lists-aside id rows new one other entry lists tree also change aside are =
    let stays = numbers-aside id rows new one other entry lists.in_force tree also change aside (record { exact = are.in_force; live = are.live }) in
    record {
      in_force = stays.exact;
      live = stays.live;
      prescriptive = are.prescriptive;
      own = are.own;
      below = are.below;
    }

-- all that is kept, where the others stand aside
pub held-aside : (id : ℕ) (rows new : List Numbered) (one other : Option EntryInformation) (held made : Holdings) → IsNumberedTree rows → IsNumberedTree new
    → IsChangeOf id rows new one other → IfSome one IsOrdinary → IfSome other IsOrdinary
    → ((number : ℕ) (entry : EntryInformation) → number ≢ id → entry_of number rows ≡ Some entry → IsAside entry one other)
    → IsHeld held rows → OthersStay id held made → IsKeptOf id made new → IsHeld made new
held-aside id rows new one other held made tree also change first second aside is stay own = record {
  subtrees =
      subst (λ (list : List AccessSubentry). AreSubtrees list new) (sym stay.subtrees)
      (subtrees-stay id rows new one other held.subtrees.items tree also change first second is.subtrees);
  lists = λ number entry there. at number entry there (cases_eq number id);
}
  where
    at : (number : ℕ) (entry : EntryInformation) → entry_of number new ≡ Some entry → ((number ≡ id) ⊎ (number ≡ id → ⊥)) → AreOf new entry (lists_at made.lists.items number)
    at number entry there (inl e) =
        subst (λ (n : ℕ). AreOf new entry (lists_at made.lists.items n)) (sym e)
        (own entry (ap (λ (n : ℕ). entry_of n new) (sym e) ∙ there))
    at number entry there (inr differs) =
        let was : entry_of number rows ≡ Some entry = sym (entry_of-new id number rows new change.others differs) ∙ there in
        subst (AreOf new entry) (sym (stay.lists number differs))
        (lists-aside id rows new one other entry (lists_at held.lists.items number) tree also change (aside number entry differs was) (is.lists number entry was))

-- where the lists are those kept before, they are right as before
pub held-same : (rows : List Numbered) (held made : Holdings) → IsHeld held rows → AllStay held made → IsHeld made rows
held-same rows held made is stay = record {
  subtrees = subst (λ (list : List AccessSubentry). AreSubtrees list rows) (sym stay.subtrees) is.subtrees;
  lists = λ number entry there. subst (AreOf rows entry) (sym (stay.lists number)) (is.lists number entry there);
}

-- and so where only those of a number differ that is not in use
pub held-unused : (id : ℕ) (rows : List Numbered) (held made : Holdings) → entry_of id rows ≡ None → IsHeld held rows → OthersStay id held made → IsHeld made rows
held-unused id rows held made none is stay = record {
  subtrees = subst (λ (list : List AccessSubentry). AreSubtrees list rows) (sym stay.subtrees) is.subtrees;
  lists = λ number entry there.
      let differs : number ≢ id = λ e. let clash : Some entry ≡ None = sym there ∙ ap (λ (n : ℕ). entry_of n rows) e ∙ none in absurd cc in
      subst (AreOf rows entry) (sym (stay.lists number differs)) (is.lists number entry there);
}
