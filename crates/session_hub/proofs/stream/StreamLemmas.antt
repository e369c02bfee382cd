-- A stream answered message by message from its front.
use Rattle.std.proofs.Common.{◌≡◌, ◌≤◌, ◌+◌, ◌<◌, ℕ, Bool, true, false, cond, List, [], ◌++◌, length, take, drop, suc, Option, Some, None, refl, true≢false, inl, inr, ap, ap₂, sym, ◌∙◌, subst, append_assoc, append-nil, drop-drop, length-drop, arith}
use borrow.Author.Count.{below_more}
use Rattle.session_model.specs.ldap_msg.declared.kinds.Frame.TheVariants.{Whole, More, Bad}
use Rattle.session_model.specs.ldap_msg.Streams.{frame_at, whole, rest_of}
use Rattle.session_model.specs.ldap_msg.Replies.{notice_octets}
use Rattle.session_model.proofs.ldap_msg_proofs.Theorems.{frame_bound, whole_step, rest_step, rest_more, whole_more, whole_bad}
use Rattle.session_model.specs.Rules.{Answered, after_octets, up_to}
use Rattle.session_model.specs.AnsweredMessages.{answered_messages}
use Rattle.session_model.proofs.Theorems.{one_later, speech-whole, speech-more, speech-bad, speech-cut}
use Rattle.session_hub.specs.Parties.{DirectoryEntries, Requester}
use Rattle.session_hub.specs.Terms.{Terms}
use Rattle.session_hub.specs.declared.spoken.Spoken.{Spoken}
use Rattle.session_hub.specs.declared.spoken.SpeechEnd.{SpeechEnd}
use Rattle.session_hub.specs.declared.spoken.SpeechEnd.TheVariants.{StaysOpen, Closes, IsCut, IsFull}
use Rattle.session_hub.specs.Outgoing.{Put}
use Rattle.session_hub.specs.Answering.{rules}
use Rattle.session_hub.specs.Rooms.{HasRoom, queued_after}
use Rattle.session_hub.specs.ShortAnswers.{IsAnsweredShort, AreAnsweredShort}
use Rattle.session_hub.specs.Answers.{Gives, Speaks, SaysSoFar, MayCut, said_to, behind, cut_at}
use Rattle.session_hub.proofs.messages.AnswerLemmas.{closes_says}
use Rattle.session_hub.proofs.stream.EachLemmas.{all_first, all_cut, up_to_later, up_to_none}

-- a message at the front of the rest is one there of the stream
message_fits : (stream : List ℕ) (read n : ℕ) → read ≤ length stream → frame_at (drop read stream) ≡ Whole n → read + n ≤ length stream
message_fits stream read n within is = omega (arith, (frame_bound (drop read stream) n is).1, length-drop read stream)

-- it has an octet and more
message_some : (s : List ℕ) (n : ℕ) → frame_at s ≡ Whole n → 0 < n
message_some s n is = omega (arith, (frame_bound s n is).0)

rest_fits : (stream : List ℕ) (read n : ℕ) → rest_of (drop read stream) ≡ rest_of stream → frame_at (drop read stream) ≡ Whole n →
    rest_of (drop (read + n) stream) ≡ rest_of stream
rest_fits stream read n rest is = ap rest_of (sym (drop-drop n read stream)) ∙ sym (rest_step (drop read stream) n is) ∙ rest

-- one message more was answered of those of the stream
messages_fit : (stream : List ℕ) (read n answered : ℕ) → length (whole stream) ≡ answered + length (whole (drop read stream)) → frame_at (drop read stream) ≡ Whole n →
    length (whole stream) ≡ (answered + 1) + length (whole (drop (read + n) stream))
messages_fit stream read n answered so is =
    let rest = drop read stream in
    let one : length (whole rest) ≡ suc (length (whole (drop n rest))) = ap length (whole_step rest n is) in
    let same : length (whole (drop n rest)) ≡ length (whole (drop (read + n) stream)) = ap (λ xs. length (whole xs)) (drop-drop n read stream) in
    omega (arith, so, one, same)

-- those that were answered are of the stream
answered_within : (terms : Terms) (room : ℕ) (t : DirectoryEntries) (w : Requester) (stream : List ℕ) (old now : Put) (u : DirectoryEntries) (x : Requester) (read answered : ℕ) →
    SaysSoFar terms room t w stream old now u x read answered → answered ≤ length (whole stream)
answered_within terms room t w stream old now u x read answered so = let is : length (whole stream) ≡ answered + length (whole (drop read stream)) = so.complete in omega arith

-- a cut one message later
behind_one : (answered : ℕ) (cut : Option ℕ) → behind (answered + 1) cut ≡ behind answered (one_later cut)
behind_one answered None = refl
behind_one answered (Some count) = ap (λ n. Some n) (omega arith)

behind_none : (answered : ℕ) → behind answered (Some 0) ≡ Some answered
behind_none answered = ap (λ n. Some n) (omega arith)

said_open : (a b : Answered DirectoryEntries Requester) → a.closes ≡ false → cond a.closes a (after_octets a.replies a.changes b) ≡ after_octets a.replies a.changes b
said_open a b h = rw h refl

said_closed : (a b : Answered DirectoryEntries Requester) → a.closes ≡ true → cond a.closes a (after_octets a.replies a.changes b) ≡ a
said_closed a b h = rw h refl

-- of a message that is answered the replies are short, and so those of all, where those of the rest are
short_first : (terms : Terms) (u : DirectoryEntries) (x : Requester) (rest : List ℕ) (n : ℕ) (cut : Option ℕ) → frame_at rest ≡ Whole n
    → IsAnsweredShort terms (record { tree = u; who = x; message = take n rest })
    → (((rules terms).answer u x (take n rest)).closes ≡ false → AreAnsweredShort terms ((rules terms).answer u x (take n rest)).tree ((rules terms).answer u x (take n rest)).who (up_to cut (whole (drop n rest))))
    → AreAnsweredShort terms u x (up_to (one_later cut) (whole rest))
short_first terms u x rest n cut is first others =
    subst (λ (messages : List (List ℕ)). AreAnsweredShort terms u x messages)
    (sym (ap (up_to (one_later cut)) (whole_step rest n is) ∙ up_to_later cut (take n rest) (whole (drop n rest))))
    (all_first (rules terms) (IsAnsweredShort terms) u x (take n rest) (up_to cut (whole (drop n rest))) first others)

-- those of no message are
short_none : (terms : Terms) (u : DirectoryEntries) (x : Requester) (messages : List (List ℕ)) → messages ≡ [] → AreAnsweredShort terms u x messages
unfolding answered_messages
short_none terms u x messages none = subst (λ (messages : List (List ℕ)). AreAnsweredShort terms u x messages) (sym none) tt

-- nothing was answered yet
pub so_far_start : (terms : Terms) (room : ℕ) (t : DirectoryEntries) (w : Requester) (stream : List ℕ) (old : Put) → SaysSoFar terms room t w stream old old t w 0 0
so_far_start terms room t w stream old =
    record {
      more = record { replies = []; changes = [] };
      said_more = sym (append-nil old.replies);
      recorded_more = sym (append-nil old.changes);
      within = omega arith;
      counts = omega arith;
      complete = omega arith;
      rest = refl;
      spare = λ count some below. absurd (omega arith);
      short = λ cut short. subst (λ (o : Option ℕ). AreAnsweredShort terms t w (up_to o (whole stream))) (sym (same cut)) short;
      said = λ cut. ap (λ x. said_to terms x t w stream) (same cut);
    }
  where
    same : (cut : Option ℕ) → behind 0 cut ≡ cut
    same None = refl
    same (Some count) = ap (λ n. Some n) (omega arith)

-- what is said is given, where so much was said so far
given : (b all : Answered DirectoryEntries Requester) (old now new more : Put) (v : DirectoryEntries) (y : Requester) (closes : Bool) → now.replies ≡ old.replies ++ more.replies → now.changes ≡ old.changes ++ more.changes →
    all ≡ after_octets more.replies more.changes b → Gives b now new v y closes → Gives all old new v y closes
given b all old now new more v y closes grows records is gives =
    subst (λ z. Gives z old new v y closes) (sym is)
    (record {
      said = gives.said ∙ ap (λ octets. octets ++ b.replies) grows ∙ append_assoc old.replies more.replies b.replies;
      recorded = gives.recorded ∙ ap (λ octets. octets ++ b.changes) records ∙ append_assoc old.changes more.changes b.changes;
      left = gives.left;
      asker = gives.asker;
      closed = gives.closed;
    })

-- nothing more is said
gives_none : (u : DirectoryEntries) (x : Requester) (closes : Bool) (now : Put) → Gives (record { replies = []; changes = []; tree = u; who = x; closes = closes }) now now u x closes
gives_none u x closes now = record { said = sym (append-nil now.replies); recorded = sym (append-nil now.changes); left = refl; asker = refl; closed = refl }

cut_here : (terms : Terms) (room : ℕ) (t : DirectoryEntries) (w : Requester) (stream : List ℕ) (old now : Put) (u : DirectoryEntries) (x : Requester) (read answered : ℕ) →
    SaysSoFar terms room t w stream old now u x read answered → Gives (said_to terms (Some answered) t w stream) old now u x true
cut_here terms room t w stream old now u x read answered so =
    given _ _ old now now so.more u x true so.said_more so.recorded_more
    (ap (λ z. said_to terms z t w stream) (sym (behind_none answered)) ∙ so.said (Some 0) ∙ ap (after_octets so.more.replies so.more.changes) (speech-cut (rules terms) u x (drop read stream)))
    (gives_none u x true now)

-- so are the replies to those that were answered
short_here : (terms : Terms) (room : ℕ) (t : DirectoryEntries) (w : Requester) (stream : List ℕ) (old now : Put) (u : DirectoryEntries) (x : Requester) (read answered : ℕ) →
    SaysSoFar terms room t w stream old now u x read answered → AreAnsweredShort terms t w (up_to (Some answered) (whole stream))
short_here terms room t w stream old now u x read answered so =
    subst (λ (o : Option ℕ). AreAnsweredShort terms t w (up_to o (whole stream))) (behind_none answered) (so.short (Some 0) (short_none terms u x _ (up_to_none (whole (drop read stream)))))

-- what was said so far is within the room, and so is what was said before
spare_more : (terms : Terms) (room : ℕ) (t : DirectoryEntries) (w : Requester) (stream : List ℕ) (old now : Put) (u : DirectoryEntries) (x : Requester) (read answered : ℕ) →
    SaysSoFar terms room t w stream old now u x read answered → (0 < answered → length now.replies ≤ room) → HasRoom terms room t w stream old.replies (answered + 1)
spare_more terms room t w stream old now u x read answered so fits = λ count some below.
    below_more (λ k. 0 < k → length (old.replies ++ (said_to terms (Some k) t w stream).replies) ≤ room) answered
    (λ k before one. so.spare k one before)
    (λ one. subst (λ xs. length xs ≤ room) (cut_here terms room t w stream old now u x read answered so).said (fits one))
    count below some

-- a message is answered, and the connection stays open
pub so_far_whole : (terms : Terms) (room : ℕ) (t : DirectoryEntries) (w : Requester) (stream : List ℕ) (old now new : Put) (u v : DirectoryEntries) (x y : Requester) (read answered n : ℕ) →
    SaysSoFar terms room t w stream old now u x read answered → frame_at (drop read stream) ≡ Whole n → Gives ((rules terms).answer u x (take n (drop read stream))) now new v y false → IsAnsweredShort terms (record { tree = u; who = x; message = take n (drop read stream) }) → (0 < answered → length now.replies ≤ room) →
    SaysSoFar terms room t w stream old new v y (read + n) (answered + 1)
so_far_whole terms room t w stream old now new u v x y read answered n so is gives first fits =
    let rest = drop read stream in
    let a = (rules terms).answer u x (take n rest) in
    let some : 0 < n = message_some rest n is in
    record {
      more = record { replies = so.more.replies ++ a.replies; changes = so.more.changes ++ a.changes };
      said_more = gives.said ∙ ap (λ octets. octets ++ a.replies) so.said_more ∙ append_assoc old.replies so.more.replies a.replies;
      recorded_more = gives.recorded ∙ ap (λ octets. octets ++ a.changes) so.recorded_more ∙ append_assoc old.changes so.more.changes a.changes;
      within = message_fits stream read n so.within is;
      counts = (let counts : answered ≤ read = so.counts in omega arith);
      complete = messages_fit stream read n answered so.complete is;
      rest = rest_fits stream read n so.rest is;
      spare = spare_more terms room t w stream old now u x read answered so fits;
      short = λ cut short.
          subst (λ (o : Option ℕ). AreAnsweredShort terms t w (up_to o (whole stream))) (sym (behind_one answered cut))
          (so.short (one_later cut) (short_first terms u x rest n cut is first (λ open_.
          subst (λ z. AreAnsweredShort terms z a.who (up_to cut (whole (drop n rest)))) gives.left
          (subst (λ z. AreAnsweredShort terms v z (up_to cut (whole (drop n rest)))) gives.asker
          (subst (λ octets. AreAnsweredShort terms v y (up_to cut (whole octets))) (sym (drop-drop n read stream)) short)))));
      said = λ cut. (
          let b = said_to terms cut a.tree a.who (drop n rest) in
          let c = said_to terms cut v y (drop (read + n) stream) in
          let same : b ≡ c = ap (λ z. said_to terms cut z a.who (drop n rest)) (sym gives.left) ∙ ap (λ z. said_to terms cut v z (drop n rest)) (sym gives.asker) ∙ ap (said_to terms cut v y) (drop-drop n read stream) in
          ap (λ z. said_to terms z t w stream) (behind_one answered cut) ∙ so.said (one_later cut)
          ∙ ap (after_octets so.more.replies so.more.changes) (speech-whole (rules terms) cut u x rest n is ∙ said_open a b (sym gives.closed))
          ∙ ap₂ (λ y z. record { replies = y; changes = z; tree = b.tree; who = b.who; closes = b.closes }) (sym (append_assoc so.more.replies a.replies b.replies))
          (sym (append_assoc so.more.changes a.changes b.changes))
          ∙ ap (after_octets (so.more.replies ++ a.replies) (so.more.changes ++ a.changes)) same);
    }

-- a message is answered, and the connection closes
pub so_far_closed : (terms : Terms) (room : ℕ) (t : DirectoryEntries) (w : Requester) (stream : List ℕ) (old now new : Put) (u v : DirectoryEntries) (x y : Requester) (read answered n : ℕ) →
    SaysSoFar terms room t w stream old now u x read answered → frame_at (drop read stream) ≡ Whole n → Gives ((rules terms).answer u x (take n (drop read stream))) now new v y true → IsAnsweredShort terms (record { tree = u; who = x; message = take n (drop read stream) }) →
    Speaks terms room t w stream old new v y (record { read = read; answered = answered; end = Closes })
so_far_closed terms room t w stream old now new u v x y read answered n so is gives first =
    let rest = drop read stream in
    let a = (rules terms).answer u x (take n rest) in
    record {
      gives = given a _ old now new so.more v y true so.said_more so.recorded_more
          (so.said None ∙ ap (after_octets so.more.replies so.more.changes) (speech-whole (rules terms) None u x rest n is ∙ said_closed a (said_to terms None a.tree a.who (drop n rest)) (sym gives.closed))) gives;
      within = so.within;
      unread = λ h. absurd (cc);
      cuts = λ h. absurd (cc);
      full = λ h. absurd (cc);
      spare = so.spare;
      complete = answered_within terms room t w stream old now u x read answered so;
      short = so.short None (short_first terms u x rest n None is first (λ open_. absurd (true≢false (gives.closed ∙ open_))));
      ending = a.replies;
      queued = gives.said ∙ ap (λ octets. octets ++ a.replies) (cut_here terms room t w stream old now u x read answered so).said;
      notice = closes_says terms u x (take n rest) (sym gives.closed);
    }

-- less than a message is left
pub so_far_more : (terms : Terms) (room : ℕ) (t : DirectoryEntries) (w : Requester) (stream : List ℕ) (old now : Put) (u : DirectoryEntries) (x : Requester) (read answered : ℕ) →
    SaysSoFar terms room t w stream old now u x read answered → frame_at (drop read stream) ≡ More → Speaks terms room t w stream old now u x (record { read = read; answered = answered; end = StaysOpen })
so_far_more terms room t w stream old now u x read answered so is =
    record {
      gives = given _ _ old now now so.more u x false so.said_more so.recorded_more (so.said None ∙ ap (after_octets so.more.replies so.more.changes) (speech-more (rules terms) u x (drop read stream) is)) (gives_none u x false now);
      within = so.within;
      unread = λ _. sym (rest_more (drop read stream) is) ∙ so.rest;
      cuts = λ _. cut_here terms room t w stream old now u x read answered so;
      full = λ h. absurd (cc);
      spare = so.spare;
      complete = answered_within terms room t w stream old now u x read answered so;
      short = so.short None (short_none terms u x _ (whole_more (drop read stream) is));
      ending = [];
      queued = (cut_here terms room t w stream old now u x read answered so).said ∙ sym (append-nil (queued_after terms t w stream old.replies answered));
      notice = inl refl;
    }

-- what is left is no message, and gets the notice
pub so_far_bad : (terms : Terms) (room : ℕ) (t : DirectoryEntries) (w : Requester) (stream : List ℕ) (old now new : Put) (u : DirectoryEntries) (x : Requester) (read answered : ℕ) →
    SaysSoFar terms room t w stream old now u x read answered → frame_at (drop read stream) ≡ Bad → new.replies ≡ now.replies ++ notice_octets → new.changes ≡ now.changes →
    Speaks terms room t w stream old new u x (record { read = read; answered = answered; end = Closes })
so_far_bad terms room t w stream old now new u x read answered so is notice unchanged =
    record {
      gives = given _ _ old now new so.more u x true so.said_more so.recorded_more (so.said None ∙ ap (after_octets so.more.replies so.more.changes) (speech-bad (rules terms) u x (drop read stream) is))
          (record { said = notice; recorded = unchanged ∙ sym (append-nil now.changes); left = refl; asker = refl; closed = refl });
      within = so.within;
      unread = λ h. absurd (cc);
      cuts = λ h. absurd (cc);
      full = λ h. absurd (cc);
      spare = so.spare;
      complete = answered_within terms room t w stream old now u x read answered so;
      short = so.short None (short_none terms u x _ (whole_bad (drop read stream) is));
      ending = notice_octets;
      queued = notice ∙ ap (λ octets. octets ++ notice_octets) (cut_here terms room t w stream old now u x read answered so).said;
      notice = inr refl;
    }

-- there was no memory for what is to be said next
pub so_far_cut : (terms : Terms) (room : ℕ) (t : DirectoryEntries) (w : Requester) (stream : List ℕ) (old now new : Put) (u v : DirectoryEntries) (x y : Requester) (read answered : ℕ) →
    SaysSoFar terms room t w stream old now u x read answered → new ≡ now → v ≡ u → y ≡ x → Speaks terms room t w stream old new v y (record { read = read; answered = answered; end = IsCut })
so_far_cut terms room t w stream old now new u v x y read answered so same left asker =
    subst (λ z. Speaks terms room t w stream old z v y (record { read = read; answered = answered; end = IsCut })) (sym same)
    (subst (λ z. Speaks terms room t w stream old now z y (record { read = read; answered = answered; end = IsCut })) (sym left)
    (subst (λ z. Speaks terms room t w stream old now u z (record { read = read; answered = answered; end = IsCut })) (sym asker)
    (record { gives = cut_here terms room t w stream old now u x read answered so; within = so.within; unread = λ h. absurd (cc); cuts = λ h. absurd (cc); full = λ h. absurd (cc); spare = so.spare; complete = answered_within terms room t w stream old now u x read answered so; short = short_here terms room t w stream old now u x read answered so; ending = []; queued = (cut_here terms room t w stream old now u x read answered so).said ∙ sym (append-nil (queued_after terms t w stream old.replies answered)); notice = inl refl })))

-- more is queued than there is room for
pub so_far_full : (terms : Terms) (room : ℕ) (t : DirectoryEntries) (w : Requester) (stream : List ℕ) (old now : Put) (u : DirectoryEntries) (x : Requester) (read answered : ℕ) →
    SaysSoFar terms room t w stream old now u x read answered → room < length now.replies → Speaks terms room t w stream old now u x (record { read = read; answered = answered; end = IsFull })
so_far_full terms room t w stream old now u x read answered so full =
    record { gives = cut_here terms room t w stream old now u x read answered so; within = so.within; unread = λ h. absurd (cc); cuts = λ h. absurd (cc); full = λ _. full; spare = so.spare; complete = answered_within terms room t w stream old now u x read answered so; short = short_here terms room t w stream old now u x read answered so; ending = []; queued = (cut_here terms room t w stream old now u x read answered so).said ∙ sym (append-nil (queued_after terms t w stream old.replies answered)); notice = inl refl }

-- where a stream that stays open is cut behind all of its messages, the same was said; the replies may stand in another buffer
pub speaks_kept : (terms : Terms) (room : ℕ) (t : DirectoryEntries) (w : Requester) (stream : List ℕ) (old new kept : Put) (u : DirectoryEntries) (y : Requester) (spoken : Spoken) (end : SpeechEnd) →
    Speaks terms room t w stream old new u y spoken → MayCut spoken.end end → kept ≡ new → Speaks terms room t w stream old kept u y (record { read = spoken.read; answered = spoken.answered; end = end })
speaks_kept terms room t w stream old new kept u y spoken end speaks may same =
    subst (λ z. Speaks terms room t w stream old z u y (record { read = spoken.read; answered = spoken.answered; end = end })) (sym same)
    (elim may [
      | inl unchanged ↦ subst (λ e. Speaks terms room t w stream old new u y (record { read = spoken.read; answered = spoken.answered; end = e })) (sym unchanged) speaks
      | inr cut ↦ subst (λ e. Speaks terms room t w stream old new u y (record { read = spoken.read; answered = spoken.answered; end = e })) (sym cut.1)
          (record {
            gives = speaks.cuts cut.0;
            within = speaks.within;
            unread = λ h. absurd (cc);
            cuts = λ h. absurd (cc);
            full = λ h. absurd (cc);
            spare = speaks.spare;
            complete = speaks.complete;
            short = all_cut (rules terms) (IsAnsweredShort terms) spoken.answered t w (whole stream) (subst (λ e. AreAnsweredShort terms t w (up_to (cut_at e spoken.answered) (whole stream))) cut.0 speaks.short);
            ending = speaks.ending;
            queued = speaks.queued;
            notice = speaks.notice;
          })
    ])
