-- An event of which nothing was cut is heard whole.
use Rattle.std.proofs.Common.{◌≡◌, ℕ, Bool, true, false, cond, ◌||◌, List, ◌++◌, Option, Some, None, refl, ap, sym, ◌∙◌}
use Rattle.session_model.specs.Run.{Bytes}
use Rattle.session_model.specs.Kept.{Kept, Held, kept_of, cut_of, changed, heard, hears_kept, heard_piece, speech, is_cut}
use Rattle.session_hub.specs.Parties.{DirectoryEntries, Requester}
use Rattle.session_hub.specs.Terms.{Terms}
use Rattle.session_hub.specs.declared.event.Event.{Event}
use Rattle.session_hub.specs.declared.event.Event.TheVariants as event
use Rattle.session_hub.specs.Answering.{rules}
use Rattle.session_hub.specs.Event.{new_cut, step_of, step_by}
use Rattle.session_hub.specs.hub.Hubs.{Hears}

-- by whether the connection is held and closing, and by the cut
no_cut : (was : Bool) (cut : Option ℕ) → (was || is_cut cut) ≡ false → cut ≡ None
no_cut true cut none = cc
no_cut false None none = refl
no_cut false (Some count) none = cc

piece_whole : (terms : Terms) (o : Option (Kept Requester)) (c : ℕ) (piece : List ℕ) (told : Option ℕ) (old : Held DirectoryEntries Requester)
    → (hears_kept (rules terms) o c piece (new_cut o told) old).was_cut ≡ false → new_cut o told ≡ None
piece_whole terms None c piece told old none = refl
piece_whole terms (Some k) c piece told old none = by_close k.closing refl none
  where
    by_close : (closes : Bool) → k.closing ≡ closes
        → (cond closes old (record { tree = (speech (rules terms) (cond closes None told) old.tree k.who (k.rest ++ piece)).tree; kept = changed c (λ _. heard_piece (rules terms) piece (cond closes None told) k (speech (rules terms) (cond closes None told) old.tree k.who (k.rest ++ piece))) old.kept; was_cut = old.was_cut || is_cut (cond closes None told); unstored = old.unstored ++ (speech (rules terms) (cond closes None told) old.tree k.who (k.rest ++ piece)).changes })).was_cut ≡ false
        → cond closes None told ≡ None
    by_close true e none = refl
    by_close false e none = no_cut old.was_cut told none

pub heard_whole : (terms : Terms) (came : Event) (old new : Held DirectoryEntries Requester) → Hears terms came old new → new.was_cut ≡ false → step_by came old.kept new.kept ≡ step_of came None
unfolding heard
heard_whole terms (event.Opened c) old new hears none = refl
heard_whole terms (event.Bytes c octets) old new hears none =
    let o = kept_of c old.kept in
    let same : (hears_kept (rules terms) o c octets.now (new_cut o (cut_of c new.kept)) old).was_cut ≡ false = sym (ap (λ (h : Held DirectoryEntries Requester). h.was_cut) hears.same) ∙ none in
    ap (Bytes c octets.now) (piece_whole terms o c octets.now (cut_of c new.kept) old same)
heard_whole terms (event.Ended c) old new hears none = refl
