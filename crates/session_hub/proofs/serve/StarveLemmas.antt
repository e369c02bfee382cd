-- Why a loop ended for want of memory.
use Rattle.std.proofs.Common.{◌≡◌, ◌⊎◌, inl, inr, ℕ, Bool, true, false, List, [], ◌∷◌, ◌++◌, Option, Some, Ok, refl, ap, sym, ◌∙◌, append-nil}
use Rattle.dir_tree.specs.plain_values.Counts.{Rose, NeverFalls}
use Rattle.session_model.specs.wire_io.declared.answers.Heard.{Heard as Answer}
use Rattle.session_model.specs.wire_io.declared.answers.Heard.TheVariants as answer
use Rattle.session_model.specs.wire_io.declared.answers.NextFault.{NextFault}
use Rattle.session_model.specs.wire_io.declared.journal.Event.{Event}
use Rattle.session_model.specs.wire_io.declared.journal.Item.{Item}
use Rattle.session_model.specs.wire_io.Journal.{heard}
use Rattle.session_model.specs.wire_io.link.Telling.{event_of, NextTells}
use Rattle.session_model.specs.Run.{Sessions, Step}
use Rattle.session_model.proofs.Theorems.{works_start, works_leads}
use Rattle.session_hub.specs.Parties.{DirectoryEntries, Requester}
use Rattle.session_hub.specs.Terms.{Terms}
use Rattle.session_hub.specs.declared.ended.Ended.{Ended}
use Rattle.session_hub.specs.declared.ended.Ended.TheVariants as ended
use Rattle.session_hub.specs.Answering.{rules}
use Rattle.session_hub.specs.serve.Loops.{Starves, IsStarved, MemoryCause, OpensLast, ends_with}
use Rattle.session_hub.specs.serve.Servers.{LinkState, ServerState, IsOpening}
use Rattle.session_hub.specs.Adding.{Goes, IsRight, IsOver, IsHeard}
use Rattle.session_hub.specs.serve.Turns.{Running}
use Rattle.session_hub.proofs.serving.AddingLemmas.{rose_after}
use Rattle.session_hub.proofs.serve.LoopLemmas.{is_stop, serve_on, over_right}

-- an end that is another than NoMemory has a cut where it is answered as that
was_cut : (cut : Bool) (other : Ended) → (other ≡ ended.NoMemory → ⊥) → ends_with cut other ≡ ended.NoMemory → cut ≡ true
was_cut true other differs is = refl
was_cut false other differs is = absurd (differs is)

-- what is served shows a connection that was cut
cut_starved : (entries : DirectoryEntries) (server : ServerState) (added : List Item) (before after : ℕ) → IsOver entries server added → server.hub.was_cut ≡ true → IsStarved server.hub.bounds.terms entries server.entries added before after
cut_starved entries server added before after works cut =
    record {
      leads = record {
        steps = works.steps;
        sound = works.tracks.sound;
        tree_left = works.tracks.keeps.tree ∙ ap (λ (u : Sessions DirectoryEntries Requester). u.tree) (sym works.tracks.is);
      };
      cause = inr (inr (inl (works.tracks.cut cut)));
    }

-- it ends between two events, and some connection was cut
pub starves_cut : (first now : ServerState) (n : ℕ) (after : Option (List Item)) (refusals last : ℕ) (end other : Ended) → Running first n now → after ≡ now.link.journal → (other ≡ ended.NoMemory → ⊥) → end ≡ ends_with now.hub.was_cut other →
    Starves now.hub.bounds.terms first.entries now.entries first.link.journal refusals end after last
unfolding Running Starves
starves_cut first now n after refusals last end other running same differs is begun at starved =
    let so = running begun at in (so.0, same ∙ so.1, cut_starved first.entries now so.0 refusals last so.2.works (was_cut now.hub.was_cut other differs (sym is ∙ starved)))

-- it ends between two events, and where that is for want of memory the link had none
pub starves_refused : (first now : ServerState) (n : ℕ) (after : Option (List Item)) (refusals last : ℕ) (end : Ended) → Running first n now → after ≡ now.link.journal → (end ≡ ended.NoMemory → Rose refusals last) →
    Starves now.hub.bounds.terms first.entries now.entries first.link.journal refusals end after last
unfolding Running Starves
starves_refused first now n after refusals last end running same rose begun at starved =
    let so = running begun at in (so.0, same ∙ so.1, record { leads = over_right first.entries now so.0 so.2.works; cause = inr (inr (inr (rose starved))) })

-- an answer that opens a connection opens the last one
opens_last : (buf : List ℕ) (given : Answer) (added : List Item) (earlier : List Event) → IsOpening given → heard added ≡ earlier ++ event_of buf given ∷ [] → OpensLast added
unfolding event_of
opens_last buf (answer.Opened number) added earlier opening last = record { number = number; earlier = earlier; last = last }
opens_last buf (answer.Bytes number count) added earlier opening last = absurd opening
opens_last buf (answer.Ended number) added earlier opening last = absurd opening
opens_last buf (answer.Ready number) added earlier opening last = absurd opening
opens_last buf answer.Idle added earlier opening last = absurd opening
opens_last buf answer.Stop added earlier opening last = absurd opening

-- it ends within the block of an event
pub starves_block : (first old new : ServerState) (n : ℕ) (link : LinkState) (buf : List ℕ) (given : Answer) (refusals last : ℕ) (end : Ended) → Running first n old → NextTells {E = NextFault} old.link.journal buf (Ok given) link.journal →
    Goes (IsHeard (event_of buf given)) IsRight (record old { link = link }) new → (end ≡ ended.NoMemory → IsOpening given ⊎ Rose refusals last) →
    Starves new.hub.bounds.terms first.entries new.entries first.link.journal refusals end new.link.journal last
unfolding Starves
starves_block first old new n link buf given refusals last end running tells goes cause begun at starved =
    let so = serve_on first old n (is_stop (event_of buf given)) link new.link.journal (IsRight first.entries new) buf given running tells refl (goes first.entries) begun at in
    (so.0, so.1, record { leads = so.2.holds; cause = by_cause so.2.holds.steps so.0 so.2.earlier so.2.last (cause starved) })
  where
    by_cause : (steps : List Step) (added : List Item) (earlier : List Event) → heard added ≡ earlier ++ event_of buf given ∷ [] → IsOpening given ⊎ Rose refusals last → MemoryCause steps added refusals last
    by_cause steps added earlier is_last (inl opening) = inr (inl (opens_last buf given added earlier opening is_last))
    by_cause steps added earlier is_last (inr rose) = inr (inr (inr rose))

-- it ends once an event was served, and some connection was cut
pub starves_served : (first old new : ServerState) (n : ℕ) (link : LinkState) (buf : List ℕ) (given : Answer) (refusals last : ℕ) (end other : Ended) → Running first n old → NextTells {E = NextFault} old.link.journal buf (Ok given) link.journal →
    Goes (IsHeard (event_of buf given)) IsOver (record old { link = link }) new → (other ≡ ended.NoMemory → ⊥) → end ≡ ends_with new.hub.was_cut other →
    Starves new.hub.bounds.terms first.entries new.entries first.link.journal refusals end new.link.journal last
unfolding Starves
starves_served first old new n link buf given refusals last end other running tells goes differs is begun at starved =
    let so = serve_on first old n (is_stop (event_of buf given)) link new.link.journal (IsOver first.entries new) buf given running tells refl (goes first.entries) begun at in
    (so.0, so.1, cut_starved first.entries new so.0 refusals last so.2.holds (was_cut new.hub.was_cut other differs (sym is ∙ starved)))

-- it ends before the first event
pub starves_first : (terms : Terms) (entries : DirectoryEntries) (journal : Option (List Item)) (first last : ℕ) (end : Ended) → Starves terms entries entries journal first end journal last
unfolding Starves heard
starves_first terms entries journal first last end begun at starved = (
  [],
  at ∙ ap (λ x. Some x) (sym (append-nil begun)),
  record { leads = works_leads (rules terms) entries [] (record { tree = entries; kept = []; was_cut = false; unstored = [] }) [] [] (works_start (rules terms) entries); cause = inl refl },
)

-- the cause of a block's end for want of memory, from however early refusals are counted
pub block_cause : (given : Answer) (first before after : ℕ) → NeverFalls first before → IsOpening given ⊎ Rose before after → IsOpening given ⊎ Rose first after
block_cause given first before after kept (inl opening) = inl opening
block_cause given first before after kept (inr rose) = inr (rose_after kept rose)

pub stopped_apart : ended.Stopped ≡ ended.NoMemory → ⊥
stopped_apart h = cc

pub spent_apart : ended.TurnsSpent ≡ ended.NoMemory → ⊥
spent_apart h = cc

pub failed_apart : ended.LinkFault ≡ ended.NoMemory → ⊥
failed_apart h = cc

pub unstored_apart : ended.StoreFault ≡ ended.NoMemory → ⊥
unstored_apart h = cc
