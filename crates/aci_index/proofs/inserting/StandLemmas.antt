-- All that a write does not reach stands aside from it.
use Rattle.std.proofs.Common.{◌≡◌, ◌≢◌, ℕ, List, [], ap, sym, subst, ◌∙◌, Some, None}
use Rattle.std.specs.List.{AllByRecursion}
use Rattle.dir_tree.specs.Entry.{EntryInformation}
use Rattle.dir_tree.specs.tree.Numbered.{Numbered, IsNumberedTree, entry_of, put_entry}
use Rattle.dir_tree.specs.Scope.{scoped}
use Rattle.dir_tree.specs.declared.scope.Scope.TheVariants.{Sub}
use Rattle.aci_index.proofs.laws.RowLemmas.{change-put}
use Rattle.aci_index.specs.Reach.{reached, top_of}
use Rattle.aci_index.specs.declared.anew.Reach.TheVariants.{Around}
use Rattle.aci_index.proofs.inserting.ReachLemmas.{IsApart, unreached-around}
use Rattle.aci_index.proofs.inserting.AroundLemmas.{apart-put, apart-itself}
use Rattle.aci_index.proofs.anew.AnewLemmas.{StandAside}
use Rattle.aci_index.proofs.anew.ReachedLemmas.{reached-to}

-- the entry of a number is one
pub same_entry : (id number : ℕ) (one entry : EntryInformation) (rows : List Numbered) → entry_of id rows ≡ Some one → entry_of number rows ≡ Some entry → number ≡ id → entry ≡ one
same_entry id number one entry rows known there e =
    let same : Some entry ≡ Some one = sym there ∙ ap (λ (n : ℕ). entry_of n rows) e ∙ known in
    cc

-- from an entry that is put in
pub stand-put : (id top : ℕ) (one : EntryInformation) (rows : List Numbered) → IsNumberedTree (put_entry id one rows) → entry_of id rows ≡ None → one.name ≢ []
    → top ≡ top_of Around id (put_entry id one rows) → StandAside id (reached top top (put_entry id one rows)) (put_entry id one rows) None (Some one)
stand-put id top one rows also free filled is number entry there others =
    let known = (change-put id one rows free).after in
    let around = subst (λ (top : ℕ). AllByRecursion (λ other. other ≢ number) (scoped Sub top (put_entry id one rows))) is
    (reached-to (λ other. other ≢ number) top top (put_entry id one rows) others) in
    let apart = unreached-around id one number entry (put_entry id one rows) also known there around in (
      λ e. apart-itself one filled (subst (IsApart one) (same_entry id number one entry (put_entry id one rows) known there e) apart),
      apart-put one entry filled apart,
    )
