-- Lemmas on the store of serving: what its calls say of the link's counts of faults, and of its journal.
use Rattle.std.proofs.Common.{◌≡◌, ℕ, zero, suc, true, false, ◌||◌, List, [], ◌∷◌, ◌++◌, Option, Some, None, Result, Ok, Err, refl, sym, ap, ◌∙◌, subst, append_assoc}
use Rattle.std.specs.Prelude.{is_some}
use Rattle.std.proofs.lemmas.List.{append-nil}
use Rattle.command_files.specs.plain_values.Counts.{Rose}
use Rattle.command_files.specs.wire_io.declared.answers.NextFault.{NextFault}
use Rattle.command_files.specs.wire_io.declared.answers.NextFault.TheVariants as next
use Rattle.command_files.specs.wire_io.declared.journal.Item.{Item}
use Rattle.command_files.specs.wire_io.declared.journal.Item.TheVariants as item
use Rattle.command_files.specs.wire_io.Answers.{LinkCause}
use Rattle.command_files.specs.wire_io.Journal.{stops, was_stopped}
use Rattle.command_files.specs.wire_io.link.Telling.{NoteTells, StoreOpenTells, noted}
use Rattle.acl_program.specs.program.Outside.{Linked, NoneFailed, StoreFailed}
use Rattle.acl_program.specs.serve.Storing.{ServeAsked, StoreCall, OpenStore, CutStore, StoreHead, OpensStore, Heads, IsCut, IsPrepared, StoreFails, whole_of}
use Rattle.command_files.specs.loading.Changing.{head_of}

-- a store that was opened has a name, which the journal notes
opens_named : (changes : Option (List ℕ)) (answer : Result (Unit {0}) NextFault) (before after : Linked) → OpensStore changes answer before after → is_some changes ≡ true
opens_named None answer before after opens = absurd opens
opens_named (Some name) answer before after opens = refl

opens_cause : (changes : Option (List ℕ)) (answer : Result (Unit {0}) NextFault) (before after : Linked) → OpensStore changes answer before after → LinkCause before.plan before.store_faults after.store_faults answer
opens_cause None answer before after opens = absurd opens
opens_cause (Some name) answer before after opens = opens.cause

opens_stays : (changes : Option (List ℕ)) (answer : Result (Unit {0}) NextFault) (before after : Linked) → OpensStore changes answer before after → after.faults ≡ before.faults
opens_stays None answer before after opens = absurd opens
opens_stays (Some name) answer before after opens = opens.stays

opens_noted : (changes : Option (List ℕ)) (before after : Linked) → OpensStore changes (Ok tt) before after → (name : List ℕ) × (after.journal ≡ noted before.journal (item.StoreOpened name true))
unfolding StoreOpenTells
opens_noted None before after opens = absurd opens
opens_noted (Some name) before after opens = (name, opens.tells)

-- nothing failed in a link that is as it was, nor in two steps in turn
pub none_same : (before after : Linked) → after ≡ before → NoneFailed before after
none_same before after same = (ap (λ link. link.faults) same, ap (λ link. link.store_faults) same)

pub none_then : (before middle after : Linked) → NoneFailed before middle → NoneFailed middle after → NoneFailed before after
none_then before middle after first second = (second.0 ∙ first.0, second.1 ∙ first.1)

-- nor where the store was opened
pub opens_count : (changes : Option (List ℕ)) (before after : Linked) → OpensStore changes (Ok tt) before after → NoneFailed before after
unfolding LinkCause
opens_count changes before after opens = (opens_stays changes (Ok tt) before after opens, opens_cause changes (Ok tt) before after opens)

-- where it was cut
cut_count : (asked : ServeAsked) (before after : Linked) → IsCut asked before after → NoneFailed before after
unfolding LinkCause
cut_count asked before after cut = none_then before cut.opened after (opens_count asked.serving.changes before cut.opened cut.opens) (cut.cuts.stays, cut.cuts.cause)

-- and where it has a head
heads_count : (whole : ℕ) (content : List ℕ) (before after : Linked) → Heads whole content before after → NoneFailed before after
unfolding LinkCause
heads_count zero content before after heads = (heads.stays, heads.cause)
heads_count (suc whole) content before after heads = none_same before after heads

pub prepared_count : (asked : ServeAsked) (changes : Option (List ℕ)) (before after : Linked) → IsPrepared asked changes before after → NoneFailed before after
prepared_count asked None before after same = none_same before after same
prepared_count asked (Some name) before after stored =
    none_then before stored.cut after (cut_count asked before stored.cut stored.is_cut) (heads_count (whole_of asked.left.applied) asked.content stored.cut after stored.heads)

-- the store failed after steps in which nothing did
pub store_failed : (before middle after : Linked) → NoneFailed before middle → StoreFailed middle after → StoreFailed before after
store_failed before middle after none failed = (subst (λ count. Rose count after.store_faults) none.1 failed.0, failed.1 ∙ none.0)

-- a fault of a call is the store's, and a file of changes is named
pub fails_rose : (asked : ServeAsked) (call : StoreCall) (before after : Linked) → StoreFails asked call next.Failed before after → (is_some asked.serving.changes ≡ true) × StoreFailed before after
unfolding LinkCause
fails_rose asked OpenStore before after fails = (
  opens_named asked.serving.changes (Err next.Failed) before after fails,
  ((opens_cause asked.serving.changes (Err next.Failed) before after fails).0, opens_stays asked.serving.changes (Err next.Failed) before after fails),
)
fails_rose asked CutStore before after fails = (
  opens_named asked.serving.changes (Ok tt) before fails.0 fails.1,
  store_failed before fails.0 after (opens_count asked.serving.changes before fails.0 fails.1) (fails.2.cause.0, fails.2.stays),
)
fails_rose asked StoreHead before after fails = (
  opens_named asked.serving.changes (Ok tt) before fails.1.opened fails.1.opens,
  store_failed before fails.0 after (cut_count asked before fails.0 fails.1) (fails.3.cause.0, fails.3.stays),
)

-- the journal goes on after what was there before by items of which none is Stop
pub record GoesOn (begun : List Item) (journal : Option (List Item)) : Type 0 where
  pub done : List Item
  pub is : journal ≡ Some (begun ++ done)
  pub on : (rest : List Item) → was_stopped rest ≡ false → was_stopped (done ++ rest) ≡ false

-- an item that isn't Stop
stopped-after : (item : Item) (rest : List Item) → stops item ≡ false → was_stopped rest ≡ false → was_stopped (item ∷ rest) ≡ false
unfolding was_stopped
stopped-after item rest other still = ap (λ stopped. stopped || was_stopped rest) other ∙ still

pub goes_more : (begun : List Item) (old new : Option (List Item)) (item : Item) → GoesOn begun old → new ≡ noted old item → stops item ≡ false → GoesOn begun new
goes_more begun old new item goes is other = record {
  done = goes.done ++ item ∷ [];
  is = is ∙ ap (λ journal. noted journal item) goes.is ∙ ap Some (append_assoc begun goes.done (item ∷ []));
  on = λ rest still. subst (λ all. was_stopped all ≡ false) (sym (append_assoc goes.done (item ∷ []) rest)) (goes.on (item ∷ rest) (stopped-after item rest other still));
}

goes_first : (begun : List Item) (journal : Option (List Item)) → journal ≡ Some begun → GoesOn begun journal
goes_first begun journal is = record { done = []; is = is ∙ ap Some (sym (append-nil begun)); on = λ rest still. still }

-- none of the store's items is
opened-other : (name : List ℕ) → stops (item.StoreOpened name true) ≡ false
unfolding stops
opened-other name = refl

cut-other : (length : ℕ) → stops (item.StoreCut length) ≡ false
unfolding stops
cut-other length = refl

stored-other : (octets : List ℕ) → stops (item.Stored octets) ≡ false
unfolding stops
stored-other octets = refl

heads_goes : (whole : ℕ) (content : List ℕ) (before after : Linked) (begun : List Item) → Heads whole content before after → GoesOn begun before.journal → GoesOn begun after.journal
unfolding NoteTells
heads_goes zero content before after begun heads goes =
    goes_more begun before.journal after.journal (item.Stored (head_of content)) goes heads.tells (stored-other (head_of content))
heads_goes (suc whole) content before after begun heads goes = subst (λ link. GoesOn begun link.journal) (sym heads) goes

pub prepared_goes : (asked : ServeAsked) (changes : Option (List ℕ)) (before after : Linked) (begun : List Item) → before.journal ≡ Some begun → IsPrepared asked changes before after → GoesOn begun after.journal
unfolding NoteTells
prepared_goes asked None before after begun is same = subst (λ link. GoesOn begun link.journal) (sym same) (goes_first begun before.journal is)
prepared_goes asked (Some name) before after begun is stored =
    let cut = stored.is_cut in
    let whole = whole_of asked.left.applied in
    let opens = opens_noted asked.serving.changes before cut.opened cut.opens in
    let opened = goes_more begun before.journal cut.opened.journal (item.StoreOpened opens.0 true) (goes_first begun before.journal is) opens.1 (opened-other opens.0) in
    let shortened = goes_more begun cut.opened.journal stored.cut.journal (item.StoreCut whole) opened cut.cuts.tells (cut-other whole) in
    heads_goes whole asked.content stored.cut after begun stored.heads shortened
