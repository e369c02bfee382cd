-- What calls keep, one after another.
use Rattle.std.proofs.Common.{◌≡◌, ℕ, List, Result, Ok, Err, OnErr, refl, ◌∙◌, subst}
use Rattle.dir_tree.specs.plain_values.Counts.{Rose, NeverFalls}
use Rattle.dir_tree.proofs.plain_values_proofs.Theorems.{NeverFalls-trans, NeverFalls-refl}
use Rattle.session_model.specs.wire_io.declared.answers.Took.{Took}
use Rattle.session_model.specs.wire_io.Answers.{WriteCause, WriteRefusal, NoteRefusal}
use Rattle.session_model.proofs.wire_io_proofs.Theorems.{WriteCause-never_falls, WriteRefusal-never_falls, NoteRefusal-never_falls}
use Rattle.session_hub.specs.hub.Hubs.{HubState}
use Rattle.session_hub.specs.serve.Servers.{LinkState, ServerState, Stays, OnlyServes, OnlySettles, OnlyHears}

-- calls within an event, one after another
pub stays_none : (server : ServerState) → Stays server server
stays_none server = record { borrows = refl; bounds = refl; plan = refl; faults = refl; lost = NeverFalls-refl server.link.lost; refusals = NeverFalls-refl server.link.refusals }

pub stays_then : {a b c : ServerState} → Stays a b → Stays b c → Stays a c
stays_then first second =
    record {
      borrows = second.borrows ∙ first.borrows;
      bounds = second.bounds ∙ first.bounds;
      plan = second.plan ∙ first.plan;
      faults = second.faults ∙ first.faults;
      lost = NeverFalls-trans first.lost second.lost;
      refusals = NeverFalls-trans first.refusals second.refusals;
    }

-- calls that serve, one after another
pub serves_none : (server : ServerState) → OnlyServes server server
serves_none server = record { stays = stays_none server; store_faults = refl; unstored = refl }

pub serves_then : {a b c : ServerState} → OnlyServes a b → OnlyServes b c → OnlyServes a c
serves_then first second = record { stays = stays_then first.stays second.stays; store_faults = second.store_faults ∙ first.store_faults; unstored = second.unstored ∙ first.unstored }

-- calls that serve a connection, one after another
pub settles_none : (server : ServerState) → OnlySettles server server
settles_none server = record { serves = serves_none server; due = refl }

pub settles_then : {a b c : ServerState} → OnlySettles a b → OnlySettles b c → OnlySettles a c
settles_then first second = record { serves = serves_then first.serves second.serves; due = second.due ∙ first.due }

-- calls that begin a block, one after another
pub hears_then : {a b c : ServerState} → OnlyHears a b → OnlyServes b c → OnlyHears a c
hears_then first second =
    record { stays = stays_then first.stays second.stays; store_faults = second.store_faults ∙ first.store_faults; unkept = λ off. second.unstored ∙ first.unkept off }

-- whom to serve next changes nothing of that
pub due_serves : (old server : ServerState) (due on_hold : List ℕ) → old ≡ server → OnlyServes server (record old { due = due; on_hold = on_hold })
due_serves old server due on_hold viewed =
    subst (λ now. OnlyServes now (record old { due = due; on_hold = on_hold })) viewed (let none = serves_none old in record { stays = record { borrows = refl; bounds = refl; plan = refl; faults = refl; lost = none.stays.lost; refusals = none.stays.refusals }; store_faults = refl; unstored = refl })

-- what refuses to note an item is counted
pub note_wants : {E : Type 0} (before after : ℕ) (result : Result (Unit {0}) E) → NoteRefusal before after result → OnErr result (Rose before after)
unfolding NoteRefusal
note_wants before after (Ok done) refusal = tt
note_wants before after (Err want) refusal = refusal

-- a call of the link that notes an item serves
pub note_serves : {T E : Type 0} (old : ServerState) (hub : HubState) (due on_hold : List ℕ) (link : LinkState) (result : Result T E) → hub.bounds ≡ old.hub.bounds → hub.unstored ≡ old.hub.unstored →
    link.plan ≡ old.link.plan → link.faults ≡ old.link.faults → link.store_faults ≡ old.link.store_faults → NeverFalls old.link.lost link.lost → NoteRefusal old.link.refusals link.refusals result →
    OnlyServes old (record old { hub = hub; due = due; on_hold = on_hold; link = link })
note_serves old hub due on_hold link result bounds unstored plan faults store_faults lost refusals =
    record {
      stays = record { borrows = refl; bounds = bounds; plan = plan; faults = faults; lost = lost; refusals = NoteRefusal-never_falls old.link.refusals link.refusals result refusals };
      store_faults = store_faults;
      unstored = unstored;
    }

-- and settles, where whoever else is due stays so
pub note_settles : {T E : Type 0} (old : ServerState) (hub : HubState) (due on_hold : List ℕ) (link : LinkState) (result : Result T E) → hub.bounds ≡ old.hub.bounds → hub.unstored ≡ old.hub.unstored → due ≡ old.due →
    link.plan ≡ old.link.plan → link.faults ≡ old.link.faults → link.store_faults ≡ old.link.store_faults → NeverFalls old.link.lost link.lost → NoteRefusal old.link.refusals link.refusals result →
    OnlySettles old (record old { hub = hub; due = due; on_hold = on_hold; link = link })
note_settles old hub due on_hold link result bounds unstored same plan faults store_faults lost refusals =
    record { serves = note_serves old hub due on_hold link result bounds unstored plan faults store_faults lost refusals; due = same }

-- and so does one that offers octets
pub write_settles : (old : ServerState) (hub : HubState) (link : LinkState) (answer : Took) → hub.bounds ≡ old.hub.bounds → hub.unstored ≡ old.hub.unstored → link.plan ≡ old.link.plan → link.faults ≡ old.link.faults → link.store_faults ≡ old.link.store_faults →
    WriteCause old.link.plan old.link.lost link.lost answer → WriteRefusal old.link.refusals link.refusals answer → OnlySettles old (record old { hub = hub; link = link })
write_settles old hub link answer bounds unstored plan faults store_faults cause refusals =
    record {
      serves = record {
        stays = record {
          borrows = refl;
          bounds = bounds;
          plan = plan;
          faults = faults;
          lost = WriteCause-never_falls old.link.plan old.link.lost link.lost answer cause;
          refusals = WriteRefusal-never_falls old.link.refusals link.refusals answer refusals;
        };
        store_faults = store_faults;
        unstored = unstored;
      };
      due = refl;
    }
