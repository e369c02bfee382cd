-- What changed is stored before anybody is served.
use Rattle.std.proofs.Common.{◌≡◌, ◌≢◌, ℕ, Bool, true, false, List, [], ◌∷◌, ◌++◌, Result, Ok, Err, refl, sym, ◌∙◌, subst}
use Rattle.dir_tree.specs.plain_values.Counts.{Rose, NeverFalls}
use Rattle.session_model.specs.wire_io.declared.answers.NextFault.{NextFault}
use Rattle.session_model.specs.wire_io.declared.answers.NextFault.TheVariants as fault
use Rattle.session_model.specs.wire_io.declared.journal.Item.TheVariants as item
use Rattle.session_model.specs.wire_io.Answers.{LinkCause, RefusalCause, IsPlanned}
use Rattle.session_model.specs.wire_io.link.Telling.{NoteTells}
use Rattle.session_model.proofs.wire_io_proofs.Theorems.{RefusalCause-never_falls}
use Rattle.session_model.proofs.Theorems.{works_stored, works_leads}
use Rattle.session_hub.specs.Parties.{DirectoryEntries}
use Rattle.session_hub.specs.hub.Hubs.{HubState}
use Rattle.session_hub.specs.serve.Servers.{LinkState, ServerState, Stays, StoreCause, HasRefused, rules_of, held_by}
use Rattle.session_hub.specs.Adding.{AddsItems, IsRight, IsServing}
use Rattle.session_hub.proofs.serving.AddingLemmas.{adds_nothing, adds_one}
use Rattle.session_hub.proofs.serving.ServingLemmas.{block_stored, goes_from}

-- the link stored it
pub stores : (entries : DirectoryEntries) (old first : ServerState) (now : HubState) (link : LinkState) (octets : List ℕ) (done : Unit {0}) → old ≡ first →
    NoteTells {T = Unit {0}} {E = NextFault} old.link.journal (item.Stored octets) (Ok done) link.journal → octets ≡ old.hub.unstored → now ≡ record old.hub { unstored = [] } →
    AddsItems first.link.plan (IsServing entries first) (IsServing entries (record old { hub = now; link = link })) first.link.journal link.journal
unfolding NoteTells
stores entries old first now link octets done viewed tells all is =
    goes_from (IsServing entries) (IsServing entries (record old { hub = now; link = link })) link.journal viewed
    (subst (λ h. AddsItems old.link.plan (IsServing entries old) (IsServing entries (record old { hub = h; link = link })) old.link.journal link.journal) (sym is)
    (let left : HubState = record old.hub { unstored = [] } in
    adds_one old.link.plan (IsServing entries old) (IsServing entries (record old { hub = left; link = link })) old.link.journal link.journal (item.Stored octets) tells (block_stored old.link.plan octets)
    (λ added works. subst (λ xs. IsServing entries (record old { hub = left; link = link }) (added ++ item.Stored xs ∷ [])) (sym all) (works_stored (rules_of old) entries old.due (held_by old) old.on_hold added works))))

-- it failed, or had no memory
pub not_stored : (entries : DirectoryEntries) (old first : ServerState) (link : LinkState) (octets : List ℕ) (f : NextFault) → old ≡ first →
    NoteTells {T = Unit {0}} {E = NextFault} old.link.journal (item.Stored octets) (Err f) link.journal →
    AddsItems first.link.plan (IsServing entries first) (IsRight entries (record old { link = link })) first.link.journal link.journal
unfolding NoteTells
not_stored entries old first link octets f viewed tells =
    goes_from (IsServing entries) (IsRight entries (record old { link = link })) link.journal viewed
    (adds_nothing old.link.plan (IsServing entries old) (IsRight entries (record old { link = link })) old.link.journal link.journal tells (λ added works. works_leads (rules_of old) entries old.due (held_by old) old.on_hold added works))

-- the cause of each answer is that of the link, where there was something to be stored
pub store_cause : (stores : ServerState → Type 0) (old first : ServerState) (link : LinkState) (result : Result (Unit {0}) NextFault) → old ≡ first → stores old → LinkCause old.link.plan old.link.store_faults link.store_faults result →
    RefusalCause old.link.refusals link.refusals result → StoreCause (stores first) (HasRefused first (record old { link = link })) first result (record old { link = link })
unfolding LinkCause RefusalCause
store_cause stores old first link result viewed due cause refusals =
    subst (λ now. StoreCause (stores now) (HasRefused now (record old { link = link })) now result (record old { link = link })) viewed (by_result result cause refusals)
  where
    by_result : (r : Result (Unit {0}) NextFault) → LinkCause old.link.plan old.link.store_faults link.store_faults r → RefusalCause old.link.refusals link.refusals r →
        StoreCause (stores old) (HasRefused old (record old { link = link })) old r (record old { link = link })
    by_result (Ok done) cause refusals = cause
    by_result (Err fault.Failed) cause refusals = (cause.0, cause.1, due)
    by_result (Err fault.NoMemory) cause refusals = (cause, refusals)

-- a call of the link's store keeps the rest
pub store_stays : {T : Type 0} (old : ServerState) (hub : HubState) (link : LinkState) (result : Result T NextFault) → hub.bounds ≡ old.hub.bounds → link.plan ≡ old.link.plan → link.faults ≡ old.link.faults → NeverFalls old.link.lost link.lost →
    RefusalCause old.link.refusals link.refusals result → Stays old (record old { hub = hub; link = link })
store_stays old hub link result bounds plan faults lost refusals =
    record { borrows = refl; bounds = bounds; plan = plan; faults = faults; lost = lost; refusals = RefusalCause-never_falls old.link.refusals link.refusals result refusals }

-- nothing is to be stored but where changes are kept
pub keeps_some : (keeps : Bool) (old new : List ℕ) → old ≡ [] → (keeps ≡ false → new ≡ old) → new ≢ [] → keeps ≡ true
keeps_some true old new none same some = refl
keeps_some false old new none same some = absurd (some (same refl ∙ none))

-- the cause of an answer is the same from an earlier moment, and where more is said of it
pub cause_from : {X : Type 0} (stores earlier wants earlier_wants : Type 0) (first old new : ServerState) (result : Result X NextFault) → old.link.store_faults ≡ first.link.store_faults → old.link.plan ≡ first.link.plan →
    (stores → earlier) → (wants → earlier_wants) → StoreCause stores wants old result new → StoreCause earlier earlier_wants first result new
cause_from stores earlier wants earlier_wants first old new (Ok done) same planned leads starves cause = cause ∙ same
cause_from stores earlier wants earlier_wants first old new (Err fault.Failed) same planned leads starves cause =
    (subst (λ n. Rose n new.link.store_faults) same cause.0, subst (IsPlanned (λ plan. plan.failing)) planned cause.1, leads cause.2)
cause_from stores earlier wants earlier_wants first old new (Err fault.NoMemory) same planned leads starves cause = (cause.0 ∙ same, starves cause.1)
