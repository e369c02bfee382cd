-- Lemmas on the ends of serving: what each says of the program's status, and of the link's counts of faults.
use Rattle.std.proofs.Common.{◌≡◌, ℕ, Bool, true, false, List, ◌++◌, Option, Some, Ok, refl, sym, ap, ◌∙◌, subst, inl, inr, ◌⊎◌, append_assoc}
use Rattle.std.specs.Prelude.{is_some}
use Rattle.std.proofs.lemmas.List.{append_cancel_left}
use Rattle.command_files.specs.plain_values.Counts.{Rose}
use Rattle.command_files.specs.wire_io.declared.answers.NextFault.{NextFault}
use Rattle.command_files.specs.wire_io.declared.answers.NextFault.TheVariants as next
use Rattle.command_files.specs.wire_io.declared.journal.Item.{Item}
use Rattle.command_files.specs.wire_io.declared.journal.Item.TheVariants as item
use Rattle.command_files.specs.wire_io.Answers.{LinkCause}
use Rattle.command_files.specs.wire_io.Journal.{stops, was_stopped}
use Rattle.command_files.specs.wire_io.link.Telling.{OpenTells}
use Rattle.session_hub.specs.declared.ended.Ended.TheVariants as ended
use Rattle.session_hub.specs.serve.Loops.{Serves, EndsFor}
use Rattle.acl_program.specs.declared.status.Status.{Status}
use Rattle.acl_program.specs.declared.status.Status.TheVariants.{Done, LinkFault, TurnsSpent, NoMemory, StoreFault}
use Rattle.acl_program.specs.program.Causes.{HearsStop}
use Rattle.acl_program.specs.program.Outside.{Linked, NoneFailed, LinkFailed, StoreFailed}
use Rattle.acl_program.specs.serve.Storing.{ServeAsked, StoreCall, IsPrepared, StoreFails}
use Rattle.acl_program.specs.serve.Serving.{ServeEnd, NotStored, NotBegun, NotOpened, NotServed, LoopEnded, Opens, ServesUntil, ServesPrepared, LinkListens, LinkServes, serve_status}
use Rattle.acl_program.proofs.serve.StoreLemmas.{GoesOn, fails_rose, goes_more, none_then, prepared_count, prepared_goes, store_failed}

-- serving has one of five statuses
pub serve_not : (wanted : Status) (end : ServeEnd) → wanted ≡ serve_status end
    → (wanted ≡ Done → ⊥) → (wanted ≡ TurnsSpent → ⊥) → (wanted ≡ LinkFault → ⊥) → (wanted ≡ StoreFault → ⊥) → (wanted ≡ NoMemory → ⊥) → ⊥
serve_not wanted (NotStored call next.Failed) is not_done not_spent not_fault not_store not_memory = not_store is
serve_not wanted (NotStored call next.NoMemory) is not_done not_spent not_fault not_store not_memory = not_memory is
serve_not wanted NotBegun is not_done not_spent not_fault not_store not_memory = not_memory is
serve_not wanted NotOpened is not_done not_spent not_fault not_store not_memory = not_fault is
serve_not wanted NotServed is not_done not_spent not_fault not_store not_memory = not_memory is
serve_not wanted (LoopEnded ended.Stopped) is not_done not_spent not_fault not_store not_memory = not_done is
serve_not wanted (LoopEnded ended.TurnsSpent) is not_done not_spent not_fault not_store not_memory = not_spent is
serve_not wanted (LoopEnded ended.LinkFault) is not_done not_spent not_fault not_store not_memory = not_fault is
serve_not wanted (LoopEnded ended.StoreFault) is not_done not_spent not_fault not_store not_memory = not_store is
serve_not wanted (LoopEnded ended.NoMemory) is not_done not_spent not_fault not_store not_memory = not_memory is

-- a call of the store failed, or the store was made ready
pub record FailedStore (asked : ServeAsked) (end : ServeEnd) (before after : Linked) : Type 0 where
  pub call : StoreCall
  pub fault : NextFault
  pub is : end ≡ NotStored call fault
  pub fails : StoreFails asked call fault before after

either_way : (asked : ServeAsked) (end : ServeEnd) (before after : Linked) → LinkServes asked end before after → FailedStore asked end before after ⊎ ServesPrepared asked end before after
unfolding LinkServes
either_way asked (NotStored call fault) before after serves = inl (record { call = call; fault = fault; is = refl; fails = serves })
either_way asked NotBegun before after serves = inr serves
either_way asked NotOpened before after serves = inr serves
either_way asked NotServed before after serves = inr serves
either_way asked (LoopEnded how) before after serves = inr serves

-- once the store is ready
module _ (asked : ServeAsked) (before after : Linked) where
  -- a fault of the link raised its count alone
  listens_rose : (end : ServeEnd) → LinkFault ≡ serve_status end → LinkListens asked end before after → LinkFailed before after
  unfolding LinkListens LinkCause EndsFor
  listens_rose (NotStored call fault) is serves = absurd serves
  listens_rose NotBegun is serves = absurd (cc)
  listens_rose NotOpened is serves = (serves.cause.0, serves.stays)
  listens_rose NotServed is serves = absurd (cc)
  listens_rose (LoopEnded ended.Stopped) is serves = absurd (cc)
  listens_rose (LoopEnded ended.TurnsSpent) is serves = absurd (cc)
  listens_rose (LoopEnded ended.LinkFault) is serves = (subst (λ count. Rose count after.faults) serves.1.cause serves.2.cause.0, serves.2.cause.1 ∙ serves.1.stays)
  listens_rose (LoopEnded ended.StoreFault) is serves = absurd (cc)
  listens_rose (LoopEnded ended.NoMemory) is serves = absurd (cc)

  -- and one of the store the store's, which has a file
  stores_rose : (end : ServeEnd) → StoreFault ≡ serve_status end → LinkListens asked end before after → (is_some asked.serving.changes ≡ true) × StoreFailed before after
  unfolding LinkListens LinkCause EndsFor
  stores_rose (NotStored call fault) is serves = absurd serves
  stores_rose NotBegun is serves = absurd (cc)
  stores_rose NotOpened is serves = absurd (cc)
  stores_rose NotServed is serves = absurd (cc)
  stores_rose (LoopEnded ended.Stopped) is serves = absurd (cc)
  stores_rose (LoopEnded ended.TurnsSpent) is serves = absurd (cc)
  stores_rose (LoopEnded ended.LinkFault) is serves = absurd (cc)
  stores_rose (LoopEnded ended.StoreFault) is serves = (serves.2.cause.3, store_failed before serves.0 after (serves.1.cause, serves.1.stays) (serves.2.cause.0, serves.2.cause.1))
  stores_rose (LoopEnded ended.NoMemory) is serves = absurd (cc)

  -- both counts stay where no fault is answered, and memory was there
  listens_stay : (end : ServeEnd) (status : Status) → status ≡ serve_status end → (status ≡ LinkFault → ⊥) → (status ≡ StoreFault → ⊥) → (status ≡ NoMemory → ⊥)
      → LinkListens asked end before after → NoneFailed before after
  unfolding LinkListens LinkCause EndsFor
  listens_stay (NotStored call fault) status is not_fault not_store not_memory serves = absurd serves
  listens_stay NotBegun status is not_fault not_store not_memory serves = (serves.cause, serves.stays)
  listens_stay NotOpened status is not_fault not_store not_memory serves = absurd (not_fault is)
  listens_stay NotServed status is not_fault not_store not_memory serves = (serves.cause, serves.stays)
  listens_stay (LoopEnded ended.Stopped) status is not_fault not_store not_memory serves = none_then before serves.0 after (serves.1.cause, serves.1.stays) serves.2.cause
  listens_stay (LoopEnded ended.TurnsSpent) status is not_fault not_store not_memory serves = none_then before serves.0 after (serves.1.cause, serves.1.stays) serves.2.cause
  listens_stay (LoopEnded ended.LinkFault) status is not_fault not_store not_memory serves = absurd (not_fault is)
  listens_stay (LoopEnded ended.StoreFault) status is not_fault not_store not_memory serves = absurd (not_store is)
  listens_stay (LoopEnded ended.NoMemory) status is not_fault not_store not_memory serves = absurd (not_memory is)

-- the status of a call of the store that failed
not_of_link : (call : StoreCall) (fault : NextFault) → LinkFault ≡ serve_status (NotStored call fault) → ⊥
not_of_link call next.Failed is = cc
not_of_link call next.NoMemory is = cc

-- the same of all that was done
module _ (asked : ServeAsked) (before after : Linked) (end : ServeEnd) (serves : LinkServes asked end before after) where
  pub fault_rose : LinkFault ≡ serve_status end → LinkFailed before after
  fault_rose is = by (either_way asked end before after serves)
    where
      by : FailedStore asked end before after ⊎ ServesPrepared asked end before after → LinkFailed before after
      by (inl failed) = absurd (not_of_link failed.call failed.fault (is ∙ ap serve_status failed.is))
      by (inr on) =
          let kept = prepared_count asked asked.serving.changes before on.0 on.1 in
          let rose = listens_rose asked on.0 after end is on.2 in
          (subst (λ count. Rose count after.faults) kept.0 rose.0, rose.1 ∙ kept.1)

  pub store_rose : StoreFault ≡ serve_status end → (is_some asked.serving.changes ≡ true) × StoreFailed before after
  store_rose is = by (either_way asked end before after serves)
    where
      failed : (call : StoreCall) (fault : NextFault) → StoreFault ≡ serve_status (NotStored call fault) → StoreFails asked call fault before after → (is_some asked.serving.changes ≡ true) × StoreFailed before after
      failed call next.Failed own fails = fails_rose asked call before after fails
      failed call next.NoMemory own fails = absurd (cc)

      by : FailedStore asked end before after ⊎ ServesPrepared asked end before after → (is_some asked.serving.changes ≡ true) × StoreFailed before after
      by (inl own) = failed own.call own.fault (is ∙ ap serve_status own.is) own.fails
      by (inr on) =
          let rose = stores_rose asked on.0 after end is on.2 in
          (rose.0, store_failed before on.0 after (prepared_count asked asked.serving.changes before on.0 on.1) rose.1)

  pub serve_count_stays : (status : Status) → status ≡ serve_status end → (status ≡ LinkFault → ⊥) → (status ≡ StoreFault → ⊥) → (status ≡ NoMemory → ⊥) → NoneFailed before after
  serve_count_stays status is not_fault not_store not_memory = by (either_way asked end before after serves)
    where
      failed : (call : StoreCall) (fault : NextFault) → status ≡ serve_status (NotStored call fault) → NoneFailed before after
      failed call next.Failed own = absurd (not_store own)
      failed call next.NoMemory own = absurd (not_memory own)

      by : FailedStore asked end before after ⊎ ServesPrepared asked end before after → NoneFailed before after
      by (inl own) = failed own.call own.fault (is ∙ ap serve_status own.is)
      by (inr on) = none_then before on.0 after (prepared_count asked asked.serving.changes before on.0 on.1) (listens_stay asked on.0 after end status is not_fault not_store not_memory on.2)

-- `open` is not Stop
opening-other : (address : List ℕ) (sessions : ℕ) (ok : Bool) → stops (item.OpenedAt address sessions ok) ≡ false
unfolding stops
opening-other address sessions ok = refl

-- the journal of a link that opened after its store was made ready
opened_goes : (asked : ServeAsked) (before ready opened : Linked) (begun : List Item) → before.journal ≡ Some begun → IsPrepared asked asked.serving.changes before ready → Opens asked.serving (Ok tt) ready opened
    → GoesOn begun opened.journal
unfolding OpenTells
opened_goes asked before ready opened begun is prepared opens =
    goes_more begun ready.journal opened.journal (item.OpenedAt asked.serving.address asked.serving.sessions true) (prepared_goes asked asked.serving.changes before ready begun is prepared) opens.tells
    (opening-other asked.serving.address asked.serving.sessions true)

-- two journals that go on after the same
same_added : (begun added done more : List Item) (journal : Option (List Item)) → journal ≡ Some (begun ++ added) → journal ≡ Some ((begun ++ done) ++ more) → added ≡ done ++ more
same_added begun added done more journal one other =
    let same : Some (begun ++ added) ≡ Some ((begun ++ done) ++ more) = sym one ∙ other in
    let lists : begun ++ added ≡ (begun ++ done) ++ more = cc in
    append_cancel_left begun added (done ++ more) (lists ∙ append_assoc begun done more)

-- where Stop was heard the turns weren't spent
not_spent : (asked : ServeAsked) (before ready opened after : Linked) → HearsStop before.journal after.journal → IsPrepared asked asked.serving.changes before ready → Opens asked.serving (Ok tt) ready opened
    → ServesUntil asked ended.TurnsSpent opened after → ⊥
unfolding HearsStop Serves
not_spent asked before ready opened after hears prepared opens serves =
    let begun : List Item = hears.0 in
    let goes = opened_goes asked before ready opened begun hears.2 prepared opens in
    let on = serves.served (begun ++ goes.done) goes.is in
    let same : hears.1 ≡ goes.done ++ on.0 = same_added begun hears.1 goes.done on.0 after.journal hears.3 on.1 in
    let goes_on : was_stopped (goes.done ++ on.0) ≡ false = goes.on on.0 on.2.ends.0 in
    let clash : true ≡ false = sym hears.4 ∙ ap was_stopped same ∙ goes_on in
    cc

-- serving is done where neither the link nor its store failed, and it gave Stop, but for want of memory
module _ (asked : ServeAsked) (before after : Linked) (still : Rose before.faults after.faults → ⊥) (store_still : Rose before.store_faults after.store_faults → ⊥) (hears : HearsStop before.journal after.journal) where
  of_store : (call : StoreCall) (fault : NextFault) → StoreFails asked call fault before after → serve_status (NotStored call fault) ≡ NoMemory
  of_store call next.Failed fails = absurd (store_still (fails_rose asked call before after fails).1.0)
  of_store call next.NoMemory fails = refl

  of_ready : (end : ServeEnd) → LinkServes asked end before after → ServesPrepared asked end before after → (serve_status end ≡ NoMemory) ⊎ (serve_status end ≡ Done)
  unfolding LinkListens
  of_ready (NotStored call fault) serves on = absurd on.2
  of_ready NotBegun serves on = inl refl
  of_ready NotOpened serves on = absurd (still (fault_rose asked before after NotOpened serves refl).0)
  of_ready NotServed serves on = inl refl
  of_ready (LoopEnded ended.Stopped) serves on = inr refl
  of_ready (LoopEnded ended.TurnsSpent) serves on = absurd (not_spent asked before on.0 on.2.0 after hears on.1 on.2.1 on.2.2)
  of_ready (LoopEnded ended.LinkFault) serves on = absurd (still (fault_rose asked before after (LoopEnded ended.LinkFault) serves refl).0)
  of_ready (LoopEnded ended.StoreFault) serves on = absurd (store_still (store_rose asked before after (LoopEnded ended.StoreFault) serves refl).1.0)
  of_ready (LoopEnded ended.NoMemory) serves on = inl refl

  pub served_done : (end : ServeEnd) → LinkServes asked end before after → (serve_status end ≡ NoMemory) ⊎ (serve_status end ≡ Done)
  served_done end serves = by (either_way asked end before after serves)
    where
      by : FailedStore asked end before after ⊎ ServesPrepared asked end before after → (serve_status end ≡ NoMemory) ⊎ (serve_status end ≡ Done)
      by (inl own) = inl (ap serve_status own.is ∙ of_store own.call own.fault own.fails)
      by (inr on) = of_ready end serves on
