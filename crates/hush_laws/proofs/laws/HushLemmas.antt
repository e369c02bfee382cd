-- Nothing breaks a hush exactly where each place is hushed.
use Rattle.std.proofs.Common.{◌≡◌, if◌then◌else◌, ℕ, Bool, true, false, List, [], ◌∷◌, ◌++◌, Option, Some, None, refl, ap}
use Rattle.std.specs.Prelude.{IfSome, option_map, option_and_then}
use Rattle.std.specs.Option.{option_or}
use Rattle.std.specs.List.{AllByRecursion}
use Rattle.dir_tree.specs.dn_names.name.Names.{RdnSequence}
use Rattle.dir_tree.specs.tree.Trees.{IsTree}
use Rattle.aci_item.specs.Rules.{IsGoodTree}
use Rattle.op_read.specs.twin_laws.Twins.{is_below_suffix, AreTwins}
use Rattle.session_hub.specs.Parties.{DirectoryEntries, Requester}
use Rattle.hush_laws.specs.declared.part.Part.TheVariants.{Suffix}
use Rattle.hush_laws.specs.declared.fault.Fault.{Fault}
use Rattle.hush_laws.specs.TwinParts.{failing_twins}
use Rattle.hush_laws.specs.Requests.{failing_request}
use Rattle.hush_laws.specs.Hush.{ServedPlace, failing_opening, broken_part, fault_at, first_fault, hush, IsReadOutside, IsHushedAt, IsHushed}
use Rattle.hush_laws.proofs.laws.TwinLemmas.{twins-from_none, none-from_twins}
use Rattle.hush_laws.proofs.laws.RequestLemmas.{message-outside, message-none}

-- neither of two is there
neither : {A : Type 0} (one other : Option A) → option_or one other ≡ None → (one ≡ None) × (other ≡ None)
neither None other none = (refl, none)
neither (Some x) other none = absurd cc

no_other : {A : Type 0} (one other : Option A) → one ≡ None → other ≡ None → option_or one other ≡ None
no_other one other first second = rw (first, second) refl

unmapped : {A B : Type 0} (f : A → B) (one : Option A) → option_map f one ≡ None → one ≡ None
unmapped f None none = refl
unmapped f (Some x) none = absurd cc

-- the faults of some places, and of those behind them
pub first_fault-append : (fault : ServedPlace → Option Fault) (places more : List ServedPlace)
    → first_fault fault (places ++ more) ≡ option_or (first_fault fault places) (first_fault fault more)
first_fault-append fault [] more = refl
first_fault-append fault (place ∷ places) more = by (fault place) (first_fault-append fault places more)
  where
    by : (here : Option Fault) → first_fault fault (places ++ more) ≡ option_or (first_fault fault places) (first_fault fault more)
        → option_or here (first_fault fault (places ++ more)) ≡ option_or (option_or here (first_fault fault places)) (first_fault fault more)
    by None later = later
    by (Some found) later = refl

-- a connection that was not turned away
stayed : (turned : Bool) → failing_opening turned ≡ None → turned ≡ false
stayed true none = absurd cc
stayed false none = refl

module _ (top : RdnSequence) (before : DirectoryEntries) where
  asked-twins : is_below_suffix top before ≡ true → (asks : Option Requester) (tree : DirectoryEntries) → IsTree tree
      → option_and_then (λ who. failing_twins top before tree who) asks ≡ None → IfSome asks (λ who. AreTwins who tree before top)
  asked-twins below None tree is none = tt
  asked-twins below (Some who) tree is none = twins-from_none top before tree who is below none

  twins-asked : (asks : Option Requester) (tree : DirectoryEntries) → IfSome asks (λ who. AreTwins who tree before top)
      → option_and_then (λ who. failing_twins top before tree who) asks ≡ None
  twins-asked None tree twins = refl
  twins-asked (Some who) tree twins = none-from_twins top before tree who twins

  told-outside : (message : Option (List ℕ)) → option_and_then (failing_request top) message ≡ None → IfSome message (IsReadOutside top)
  told-outside None none = tt
  told-outside (Some octets) none = message-outside top octets none

  outside-told : (message : Option (List ℕ)) → IfSome message (IsReadOutside top) → option_and_then (failing_request top) message ≡ None
  outside-told None outside = refl
  outside-told (Some octets) outside = message-none top octets outside

  -- one place
  hushed_at : is_below_suffix top before ≡ true → (place : ServedPlace) → IsTree place.tree → broken_part top before place ≡ None → IsHushedAt top before place
  hushed_at below place tree none =
      let first = neither (option_and_then (λ who. failing_twins top before place.tree who) place.asks)
      (option_or (option_and_then (failing_request top) place.message) (failing_opening place.turned)) none in
      let second = neither (option_and_then (failing_request top) place.message) (failing_opening place.turned) first.1 in
      record { twins = asked-twins below place.asks place.tree tree first.0; message = told-outside place.message second.0; room = stayed place.turned second.1 }

  unbroken : (place : ServedPlace) → IsHushedAt top before place → broken_part top before place ≡ None
  unbroken place hushed =
      no_other (option_and_then (λ who. failing_twins top before place.tree who) place.asks)
      (option_or (option_and_then (failing_request top) place.message) (failing_opening place.turned))
      (twins-asked place.asks place.tree hushed.twins)
      (no_other (option_and_then (failing_request top) place.message) (failing_opening place.turned) (outside-told place.message hushed.message) (ap failing_opening hushed.room))

  -- all places
  all_hushed : is_below_suffix top before ≡ true → (places : List ServedPlace) → AllByRecursion (λ place. IsGoodTree place.tree) places
      → first_fault (fault_at top before) places ≡ None → AllByRecursion (IsHushedAt top before) places
  all_hushed below [] good none = tt
  all_hushed below (place ∷ places) good none =
      let parts = neither (fault_at top before place) (first_fault (fault_at top before) places) none in (
        hushed_at below place good.0.good.tree (unmapped (λ part. record { heard = place.heard; part = part }) (broken_part top before place) parts.0),
        all_hushed below places good.1 parts.1,
      )

  none_broken : (places : List ServedPlace) → AllByRecursion (IsHushedAt top before) places → first_fault (fault_at top before) places ≡ None
  none_broken [] all = refl
  none_broken (place ∷ places) all =
      no_other (fault_at top before place) (first_fault (fault_at top before) places)
      (ap (option_map (λ part. record { heard = place.heard; part = part })) (unbroken place all.0)) (none_broken places all.1)

  pub hushed-from_none : (places : List ServedPlace) → AllByRecursion (λ place. IsGoodTree place.tree) places → hush before places top ≡ None → IsHushed before places top
  hushed-from_none places good none = by (is_below_suffix top before) refl none
    where
      by : (below : Bool) → is_below_suffix top before ≡ below
          → (if below then first_fault (fault_at top before) places else Some (record { heard = 0; part = Suffix })) ≡ None → IsHushed before places top
      by true is none = record { below = is; each = all_hushed is places good none }
      by false is none = absurd cc

  pub none-from_hushed : (places : List ServedPlace) → IsHushed before places top → hush before places top ≡ None
  none-from_hushed places hushed = rw hushed.below (none_broken places hushed.each)
