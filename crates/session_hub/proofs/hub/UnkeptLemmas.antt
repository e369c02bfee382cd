-- Where no changes are kept, none is to be stored.
use Rattle.std.proofs.Common.{◌≡◌, ℕ, Bool, true, false, cond, List, [], ◌∷◌, ◌++◌, Option, Some, None, refl, ap, ap₂, ◌∙◌, append-nil}
use Rattle.session_model.specs.ldap_msg.declared.kinds.Message.{Message}
use Rattle.session_model.specs.ldap_msg.reading.Messages.{message_of}
use Rattle.session_model.specs.ldap_msg.Streams.{whole}
use Rattle.session_model.specs.Rules.{Answered, after_octets, talk, up_to}
use Rattle.session_model.specs.Run.{Step, Opened, Bytes, Ended, Gone, HungUp}
use Rattle.session_model.specs.Kept.{Kept, Held, kept_of, speech, heard, hears_kept}
use Rattle.session_hub.specs.Parties.{DirectoryEntries, Requester}
use Rattle.session_hub.specs.Terms.{Terms}
use Rattle.session_hub.specs.Answering.{rules, answered, answer_read, kept_changes}
use Rattle.session_hub.specs.Limiting.{limited_read}
use Rattle.session_hub.specs.declared.event.Event.{Event}
use Rattle.session_hub.specs.Event.{step_by}
use Rattle.session_hub.specs.hub.Hubs.{Hears}

-- one answer
read_unkept : (keeps : Bool) (entries : DirectoryEntries) (who : Requester) (read : Option Message) → keeps ≡ false → (answer_read keeps entries who read).changes ≡ []
read_unkept keeps entries who None off = refl
read_unkept keeps entries who (Some message) off = ap (λ b. kept_changes b (answered entries who message.controls message.request).changes) off

answer_unkept : (terms : Terms) (entries : DirectoryEntries) (who : Requester) (bytes : List ℕ) → terms.keeps ≡ false → ((rules terms).answer entries who bytes).changes ≡ []
unfolding rules
answer_unkept terms entries who bytes off = read_unkept terms.keeps entries who (limited_read terms.limit (message_of bytes)) off

-- one answer, and what is said behind it where it doesn't close
both_unkept : (closes : Bool) (a b : Answered DirectoryEntries Requester) → a.changes ≡ [] → b.changes ≡ [] → (cond closes a (after_octets a.replies a.changes b)).changes ≡ []
both_unkept true a b none later = none
both_unkept false a b none later = ap₂ (λ x y. x ++ y) none later

-- of what is held, which may stay
same_unless : (stays : Bool) (h now : Held DirectoryEntries Requester) → now.unstored ≡ h.unstored → (cond stays h now).unstored ≡ h.unstored
same_unless true h now same = refl
same_unless false h now same = same

module _ (terms : Terms) (off : terms.keeps ≡ false) where
  talk_unkept : (t : DirectoryEntries) (w : Requester) (ms : List (List ℕ)) → (talk (rules terms) t w ms).changes ≡ []
  unfolding talk
  talk_unkept t w [] = refl
  talk_unkept t w (m ∷ ms) =
      let a = (rules terms).answer t w m in both_unkept a.closes a (talk (rules terms) a.tree a.who ms) (answer_unkept terms t w m off) (talk_unkept a.tree a.who ms)

  -- all that is said to a stream
  speech_unkept : (cut : Option ℕ) (t : DirectoryEntries) (w : Requester) (stream : List ℕ) → (speech (rules terms) cut t w stream).changes ≡ []
  unfolding speech
  speech_unkept None t w stream = talk_unkept t w (whole stream)
  speech_unkept (Some n) t w stream = talk_unkept t w (up_to (Some n) (whole stream))

  kept_unkept : (o : Option (Kept Requester)) (c : ℕ) (piece : List ℕ) (cut : Option ℕ) (h : Held DirectoryEntries Requester) → (hears_kept (rules terms) o c piece cut h).unstored ≡ h.unstored
  kept_unkept None c piece cut h = refl
  kept_unkept (Some k) c piece cut h =
      same_unless k.closing h _ (ap (λ xs. h.unstored ++ xs) (speech_unkept cut h.tree k.who (k.rest ++ piece)) ∙ append-nil h.unstored)

  -- so each step leaves what is to be stored
  heard_unkept : (s : Step) (h : Held DirectoryEntries Requester) → (heard (rules terms) s h).unstored ≡ h.unstored
  unfolding heard
  heard_unkept (Opened c) h = refl
  heard_unkept (Bytes c piece cut) h = kept_unkept (kept_of c h.kept) c piece cut h
  heard_unkept (Ended c) h = refl
  heard_unkept (Gone c) h = refl
  heard_unkept (HungUp c) h = refl

-- and so does each event
pub event_unkept : (terms : Terms) (e : Event) (old new : Held DirectoryEntries Requester) → Hears terms e old new → terms.keeps ≡ false → new.unstored ≡ old.unstored
event_unkept terms e old new hears off = ap (λ (h : Held DirectoryEntries Requester). h.unstored) hears.same ∙ heard_unkept terms off (step_by e old.kept new.kept) old
