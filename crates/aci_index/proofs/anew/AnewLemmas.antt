-- What was made of the tree and put is kept right, where all that was not reached stands aside.
use Rattle.std.proofs.Common.{◌≡◌, ◌≢◌, ◌⊎◌, inl, inr, ℕ, ◌<◌, List, [], ◌∷◌, length, set, ap, sym, subst, ◌∙◌, Option, Some}
use Rattle.std.specs.Prelude.{fold}
use Rattle.std.specs.List.{AllByRecursion}
use Rattle.std.proofs.lemmas.Bool.{cases_eq}
use Rattle.std.proofs.lemmas.List.{length-set}
use Rattle.dir_tree.specs.Entry.{EntryInformation}
use Rattle.dir_tree.specs.tree.Numbered.{Numbered, IsNumberedTree, entry_of}
use Rattle.acdf_filters.specs.admin_scope.Finding.{AreSubtrees}
use Rattle.acdf_filters.specs.admin_scope.declared.subtrees.AccessSubentry.{AccessSubentry}
use Rattle.aci_index.specs.Aside.{IsAside, IsChangeOf}
use Rattle.aci_index.proofs.laws.NumberLemmas.{entry_of-new}
use Rattle.aci_lists.specs.declared.kept.Kept.{Kept}
use Rattle.aci_lists.specs.declared.kept.Holdings.{Holdings}
use Rattle.aci_lists.specs.kept.Lists.{Lists, lists_of, lists_at, AreOf}
use Rattle.aci_lists.specs.kept.Holdings.{IsHeld}
use Rattle.aci_lists.proofs.Theorems.{lists_at-set_other, lists_at-set_same}
use Rattle.aci_index.specs.declared.anew.Remade.{Remade}
use Rattle.aci_index.specs.declared.anew.Anew.{Anew}
use Rattle.aci_index.specs.Reach.{AreBelow, HaveRoom, IsAnew, IsPut, IsRemade, numbers_of, put_one, reached}
use Rattle.aci_index.proofs.inserting.HeldLemmas.{lists-aside}
use Rattle.aci_index.proofs.anew.ReachedLemmas.{below-reached}

-- what holds of the lists of a number, or of those that were made of it, holds of them when these are put
put-all : (P : Lists → Type 0) (id : ℕ) (list : List Remade) (kept : List Kept) → HaveRoom list (length kept)
    → AllByRecursion (λ one. one.number.0 ≡ id → P (lists_of one.lists)) list
    → (AllByRecursion (λ other. other ≢ id) (numbers_of list) → P (lists_at kept id))
    → P (lists_at (fold put_one kept list) id)
put-all P id [] kept room made h = h tt
put-all P id (one ∷ list) kept room made h =
    put-all P id list (set kept one.number.0 one.lists)
    (subst (HaveRoom list) (sym (length-set kept one.number.0 one.lists)) room.1)
    made.1 (λ others. by others (cases_eq id one.number.0))
  where
    by : AllByRecursion (λ other. other ≢ id) (numbers_of list) → ((id ≡ one.number.0) ⊎ (id ≡ one.number.0 → ⊥)) → P (lists_at (set kept one.number.0 one.lists) id)
    by others (inl e) =
        subst P (sym (ap (lists_at (set kept one.number.0 one.lists)) e ∙ lists_at-set_same kept one.number.0 one.lists room.0)) (made.0 (sym e))
    by others (inr differs) =
        subst P (sym (lists_at-set_other kept one.number.0 one.lists id differs)) (h (λ e. differs (sym e), others))

-- the lists that were made of a number are those of its entry
made_right : (rows : List Numbered) (id : ℕ) (entry : EntryInformation) → entry_of id rows ≡ Some entry → (list : List Remade) → AllByRecursion (IsRemade rows) list
    → AllByRecursion (λ one. one.number.0 ≡ id → AreOf rows entry (lists_of one.lists)) list
made_right rows id entry known [] h = tt
made_right rows id entry known (one ∷ list) h = (
  λ e. h.0 entry (ap (λ (n : ℕ). entry_of n rows) e ∙ known),
  made_right rows id entry known list h.1,
)

-- what was not reached is of another number than that of the change, which stands aside from it
abbrev pub StandAside : ℕ → List ℕ → List Numbered → Option EntryInformation → Option EntryInformation → Type 0
StandAside id ids new one other =
    (number : ℕ) (entry : EntryInformation) → entry_of number new ≡ Some entry → AllByRecursion (λ reached. reached ≢ number) ids
    → (number ≢ id) × IsAside entry one other

pub held-anew : (from to id : ℕ) (rows new : List Numbered) (one other : Option EntryInformation) (held made : Holdings) (anew : Anew)
    → IsNumberedTree rows → IsNumberedTree new → IsChangeOf id rows new one other → StandAside id (reached from to new) new one other
    → IsHeld held rows → IsAnew from to anew new → HaveRoom anew.lists.items (length held.lists.items) → IsPut anew held made → IsHeld made new
held-anew from to id rows new one other held made anew tree also change aside is are room put = record {
  subtrees = subst (λ (list : List AccessSubentry). AreSubtrees list new) (sym put.subtrees) are.subtrees;
  lists = λ number entry there.
      subst (λ (kept : List Kept). AreOf new entry (lists_at kept number)) (sym put.lists)
      (put-all (AreOf new entry) number anew.lists.items held.lists.items room
      (made_right new number entry there anew.lists.items are.lists)
      (λ others.
      let apart = aside number entry there (subst (λ (ids : List ℕ). AllByRecursion (λ reached. reached ≢ number) ids) are.numbers others) in
      let was : entry_of number rows ≡ Some entry = sym (entry_of-new id number rows new change.others apart.0) ∙ there in
      lists-aside id rows new one other entry (lists_at held.lists.items number) tree also change apart.1 (is.lists number entry was)));
}

-- there is room for what is reached, where there is for all numbers of the tree
rooms : (bound : ℕ) (list : List Remade) → AllByRecursion (λ id. id < bound) (numbers_of list) → HaveRoom list bound
rooms bound [] h = tt
rooms bound (one ∷ list) h = (h.0, rooms bound list h.1)

pub room-anew : (from to bound : ℕ) (anew : Anew) (rows : List Numbered) → AreBelow bound rows → IsAnew from to anew rows → HaveRoom anew.lists.items bound
room-anew from to bound anew rows below are =
    rooms bound anew.lists.items
    (subst (λ (ids : List ℕ). AllByRecursion (λ number. number < bound) ids) (sym are.numbers) (below-reached bound from to rows below))
