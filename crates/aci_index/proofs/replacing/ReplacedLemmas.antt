-- All that a replacement does not reach stands aside from it.
use Rattle.std.proofs.Common.{◌≡◌, ◌≢◌, ◌⊎◌, inl, inr, ℕ, true, false, not, List, [], ap, sym, subst, ◌∙◌, length, arith, Some, None}
use Rattle.std.specs.List.{AllByRecursion}
use Rattle.std.specs.Option.{option_map_or}
use Rattle.std.proofs.lemmas.Bool.{cases_Bool, cond-true, cond-false, and_parts, not-true}
use Rattle.std.proofs.lemmas.List.{take_all}
use Rattle.dir_tree.specs.dn_names.name.Names.{RdnSequence}
use Rattle.dir_tree.specs.dn_names.NameOrder.{is_same, is_prefix_of}
use Rattle.dir_tree.specs.Entry.{EntryInformation}
use Rattle.dir_tree.specs.tree.Trees.{has_below, superior_name}
use Rattle.dir_tree.specs.tree.Numbered.{Numbered, IsNumberedTree, entries_of, entry_of, put_entry, without}
use Rattle.dir_tree.specs.Refusals.{refusal_in_place, replace_refusal}
use Rattle.dir_tree.specs.Points.{is_access_subentry}
use Rattle.dir_tree.specs.Scope.{is_within, scoped}
use Rattle.dir_tree.specs.declared.scope.Scope.TheVariants.{Sub}
use Rattle.dir_tree.proofs.TreeTheorems.{same_itself, same_like, same-superior, place_filled, prefix_same, outside}
use Rattle.dir_tree.proofs.TreeTheorems.{all_known_entry}
use Rattle.dir_tree.proofs.TreeTheorems.{IsAllowedThere, allowed_there}
use Rattle.aci_lists.specs.declared.kept.Holdings.{Holdings}
use Rattle.aci_lists.specs.kept.Holdings.{IsHeld}
use Rattle.aci_index.specs.Aside.{IsAside}
use Rattle.aci_index.proofs.laws.AsideLemmas.{aside-beside}
use Rattle.aci_index.proofs.laws.RowLemmas.{change-taken, change-replaced}
use Rattle.aci_index.proofs.laws.NumberLemmas.{entry_of-new}
use Rattle.aci_index.specs.declared.anew.Reach.{Reach}
use Rattle.aci_index.specs.declared.anew.Reach.TheVariants.{Below, Around}
use Rattle.aci_index.specs.declared.anew.Anew.{Anew}
use Rattle.aci_index.specs.Reach.{AreBelow, HaveRoom, IsAnew, IsPut, reach_of, reached, top_of}
use Rattle.aci_index.specs.Steps.{are_ordinary}
use Rattle.aci_index.proofs.inserting.SubtreeLemmas.{IsOrdinary}
use Rattle.aci_index.proofs.inserting.ReachLemmas.{IsApart, unreached-Sub, unreached-around}
use Rattle.aci_index.proofs.inserting.AroundLemmas.{apart-itself, apart-replaced}
use Rattle.aci_index.proofs.anew.NumberLemmas.{below-replaced}
use Rattle.aci_index.proofs.anew.ReachedLemmas.{reached-from, reached-to}
use Rattle.aci_index.proofs.replacing.LeftLemmas.{apart-left}
use Rattle.aci_index.proofs.anew.AnewLemmas.{StandAside, held-anew, room-anew}
use Rattle.aci_index.proofs.inserting.StandLemmas.{same_entry}

-- a name is at or below itself
within_itself : (one : EntryInformation) → is_within one.name one ≡ true
unfolding is_prefix_of
within_itself one = ap (λ (name : RdnSequence). is_same name one.name) (take_all (length one.name) one.name (omega arith)) ∙ same_itself one.name

module _ (id : ℕ) (old one : EntryInformation) (rows : List Numbered) (tree : IsNumberedTree rows) (known : entry_of id rows ≡ Some old) (allowed : replace_refusal id one.name rows ≡ None) where
  may : IsAllowedThere id old one.name rows
  may = allowed_there id old one.name rows (sym (ap (λ o. refusal_in_place id one.name o rows) known) ∙ allowed)

  now : entry_of id (put_entry id one (without id rows)) ≡ Some one
  now = (change-replaced id old one rows known).after

  filled : one.name ≢ []
  filled = place_filled id one.name rows may.here

  -- what is apart from the one, and neither at nor below the superior that the old one had, is apart from the old one
  apart_old : (number : ℕ) (entry : EntryInformation) → entry_of number (put_entry id one (without id rows)) ≡ Some entry → number ≢ id
      → AllByRecursion (λ other. other ≢ number) (scoped Sub (top_of Around id rows) (put_entry id one (without id rows))) → IsApart one entry → IsApart old entry
  apart_old number entry there differs left apart = by (cases_Bool (is_same one.name old.name))
    where
      by : ((is_same one.name old.name ≡ true) ⊎ (is_same one.name old.name ≡ false)) → IsApart old entry
      by (inl e) = record {
        top = apart.top;
        superior = sym (same_like (superior_name one.name) (superior_name old.name) apart.top (same-superior one.name old.name e)) ∙ apart.superior;
        outside = apart.outside;
      }
      by (inr e) =
          let alone : has_below old.name (entries_of rows) ≡ false = rw e at may.alone in
          apart-left id old rows (put_entry id one (without id rows)) tree known (change-replaced id old one rows known).others number entry there differs alone left

  -- from one that takes another's place, of all that is not at or below the one superior or the other
  stand-around : IsNumberedTree (put_entry id one (without id rows))
      → StandAside id (reached (top_of Around id rows) (top_of Around id (put_entry id one (without id rows))) (put_entry id one (without id rows))) (put_entry id one (without id rows)) (Some old) (Some one)
  stand-around also number entry there others =
      let new = put_entry id one (without id rows) in
      let from = top_of Around id rows in
      let to = top_of Around id new in
      let before = all_known_entry (λ other. other.name ≢ []) id old rows tree.tree.named known in
      let apart = unreached-around id one number entry new also now there (reached-to (λ other. other ≢ number) from to new others) in
      let differs : number ≢ id = λ e. apart-itself one filled (subst (IsApart one) (same_entry id number one entry new now there e) apart) in (
        differs,
        apart-replaced old one entry before filled (apart_old number entry there differs (reached-from (λ other. other ≢ number) from to new others) apart) apart,
      )

  -- where both are ordinary entries, of all that is not at or below it
  stand-below : IsOrdinary old → IsOrdinary one
      → StandAside id (reached id id (put_entry id one (without id rows))) (put_entry id one (without id rows)) (Some old) (Some one)
  stand-below first second number entry there others = (differs, by (cases_Bool (is_same one.name old.name)))
    where
      apart : is_within one.name entry ≡ false
      apart = unreached-Sub id one number entry (put_entry id one (without id rows)) now there (reached-to (λ other. other ≢ number) id id (put_entry id one (without id rows)) others)

      differs : number ≢ id
      differs e =
          let same = same_entry id number one entry (put_entry id one (without id rows)) now there e in
          let clash : true ≡ false = sym (within_itself one) ∙ ap (λ (x : EntryInformation). is_within one.name x) (sym same) ∙ apart in
          absurd cc

      was : entry_of number (without id rows) ≡ Some entry
      was =
          entry_of-new id number rows (without id rows) (change-taken id old rows known).others differs
          ∙ sym (entry_of-new id number rows (put_entry id one (without id rows)) (change-replaced id old one rows known).others differs)
          ∙ there

      beside : is_within old.name entry ≡ false → IsAside entry (Some old) (Some one)
      beside e =
          aside-beside entry (Some old) (Some one) (record { outside = e; ordinary = first }) (record { outside = apart; ordinary = second })

      by : ((is_same one.name old.name ≡ true) ⊎ (is_same one.name old.name ≡ false)) → IsAside entry (Some old) (Some one)
      by (inl e) = beside (sym (prefix_same one.name old.name entry.name e) ∙ apart)
      by (inr e) =
          let alone : has_below old.name (entries_of rows) ≡ false = rw e at may.alone in
          beside (outside id old rows tree known alone number entry was)

  -- and of all that is not reached
  pub stand-replaced : IsNumberedTree (put_entry id one (without id rows))
      → StandAside id (reached (top_of (reach_of old one) id rows) (top_of (reach_of old one) id (put_entry id one (without id rows))) (put_entry id one (without id rows))) (put_entry id one (without id rows)) (Some old) (Some one)
  stand-replaced also = by (cases_Bool (are_ordinary old one))
    where
      Stands : Reach → Type 0
      Stands reach = StandAside id (reached (top_of reach id rows) (top_of reach id (put_entry id one (without id rows))) (put_entry id one (without id rows))) (put_entry id one (without id rows)) (Some old) (Some one)

      by : ((are_ordinary old one ≡ true) ⊎ (are_ordinary old one ≡ false)) → Stands (reach_of old one)
      by (inl e) =
          let parts = and_parts (not (is_access_subentry old)) (not (is_access_subentry one)) e in
          subst Stands (sym (cond-true (are_ordinary old one) Below Around e))
          (stand-below (not-true (is_access_subentry old) parts.0) (not-true (is_access_subentry one) parts.1))
      by (inr e) = subst Stands (sym (cond-false (are_ordinary old one) Below Around e)) (stand-around also)

  -- so what was made and put is kept right
  pub room-replaced : (from to bound : ℕ) (anew : Anew) → AreBelow bound rows → IsAnew from to anew (put_entry id one (without id rows)) → HaveRoom anew.lists.items bound
  room-replaced from to bound anew below are =
      room-anew from to bound anew (put_entry id one (without id rows)) (below-replaced bound id old one rows below known) are

  pub held-replaced : (reach : Reach) (from : ℕ) (held made : Holdings) (anew : Anew) → IsNumberedTree (put_entry id one (without id rows))
      → reach ≡ option_map_or (λ (x : EntryInformation). reach_of x one) (entry_of id rows) Around → from ≡ top_of reach id rows → IsHeld held rows → AreBelow (length held.lists.items) rows
      → IsAnew from (top_of reach id (put_entry id one (without id rows))) anew (put_entry id one (without id rows)) → IsPut anew held made → IsHeld made (put_entry id one (without id rows))
  held-replaced reach from held made anew also e top is below are put =
      let new = put_entry id one (without id rows) in
      let this : reach ≡ reach_of old one = e ∙ ap (λ o. option_map_or (λ (x : EntryInformation). reach_of x one) o Around) known in
      let to = top_of reach id new in
      let stands = subst (λ (r : Reach). StandAside id (reached (top_of r id rows) (top_of r id new) new) new (Some old) (Some one)) (sym this) (stand-replaced also) in
      held-anew from to id rows new (Some old) (Some one) held made anew tree also (change-replaced id old one rows known)
      (subst (λ (n : ℕ). StandAside id (reached n to new) new (Some old) (Some one)) (sym top) stands)
      is are (room-replaced from to (length held.lists.items) anew below are) put
