-- Steps that show a connection nothing new, whatever answers messages.
use Rattle.std.proofs.Common.{◌≡◌, ◌≢◌, ℕ, ◌==◌, Bool, true, false, cond, List, [], ◌∷◌, ◌++◌, Some, None, inl, inr, refl, ap, sym, subst, ◌∙◌}
use Rattle.std.proofs.lemmas.Bool.Decides.{Decides-eqb}
use Rattle.session_hub.specs.session_model.ldap_msg.Streams.{is_broken}
use Rattle.session_hub.specs.session_model.Rules.{Rules, Answered, after_octets, talk, said}
use Rattle.session_hub.specs.session_model.Run.{Session, Sessions, State, Open, Closing, TurnedAway, Away, Unopened, Opened, Bytes, Ended, HungUp, step, hears, ended, with_session, new_messages}
use Rattle.session_hub.specs.session_model.Replaying.{is_leaving, hung_up}
use Rattle.session_hub.specs.session_model.Places.{CompletesOne, asker, asker_of}
use Rattle.hush_looks.specs.Looks.{AsksStill, StaysShown}

-- nothing is new where nothing changes
same-stays : {T W : Type 0} (u : Sessions T W) (number : ℕ) → StaysShown number u u
same-stays u number = record { tree = refl; asks = inl refl }

-- another session is that of its number alone
with-asks : {T W : Type 0} (u : Sessions T W) (number other : ℕ) (now : Session W) → (number ≡ other → AsksStill (asker_of (u.of other)) (asker_of now))
    → AsksStill (asker_of (u.of number)) (asker_of (with_session other now u.of number))
with-asks {T} {W} u number other now own = by (number == other) refl
  where
    by : (same : Bool) → (number == other) ≡ same → AsksStill (asker_of (u.of number)) (asker_of (cond same now (u.of number)))
    by true is =
        let same : number ≡ other = (Decides-eqb number other).0 is in
        subst (λ n. AsksStill (asker_of (u.of n)) (asker_of now)) (sym same) (own same)
    by false is = inl refl

-- an open session that closes, or doesn't, and keeps its requester
closing-asks : {W : Type 0} (closes : Bool) (who now : W) → now ≡ who → AsksStill (Some who) (asker (cond closes Closing Open) now)
closing-asks true who now same = inr refl
closing-asks false who now same = inl (ap Some same)

-- one whose octets end
ended-asks : {W : Type 0} (st : State) (s : Session W) → AsksStill (asker_of s) (asker_of (ended st s))
ended-asks Open s = inr refl
ended-asks Closing s = inl refl
ended-asks Unopened s = inl refl
ended-asks TurnedAway s = inl refl
ended-asks Away s = inl refl

module _ {T W : Type 0} (r : Rules T W) where
  -- an answer, and what is said next unless it closes
  then-tree : (a b : Answered T W) (closes : Bool) → b.tree ≡ a.tree → (cond closes a (after_octets a.replies a.changes b)).tree ≡ a.tree
  then-tree a b true same = refl
  then-tree a b false same = same

  then-who : (a b : Answered T W) (closes : Bool) → b.who ≡ a.who → (cond closes a (after_octets a.replies a.changes b)).who ≡ a.who
  then-who a b true same = refl
  then-who a b false same = same

  -- one message leaves what its answer leaves, and none leaves all
  one-tree : (t : T) (w : W) (message : List ℕ) → (talk r t w (message ∷ [])).tree ≡ (r.answer t w message).tree
  unfolding talk
  one-tree t w message = let a = r.answer t w message in then-tree a (talk r a.tree a.who []) a.closes refl

  one-who : (t : T) (w : W) (message : List ℕ) → (talk r t w (message ∷ [])).who ≡ (r.answer t w message).who
  unfolding talk
  one-who t w message = let a = r.answer t w message in then-who a (talk r a.tree a.who []) a.closes refl

  nothing-tree : (t : T) (w : W) → (talk r t w []).tree ≡ t
  unfolding talk
  nothing-tree t w = refl

  nothing-who : (t : T) (w : W) → (talk r t w []).who ≡ w
  unfolding talk
  nothing-who t w = refl

  -- an open connection hears a piece whose messages leave the tree and, if it is this one, its requester
  open-stays : (u : Sessions T W) (number other : ℕ) (piece : List ℕ) → (u.of other).state ≡ Open
      → (talk r u.tree (u.of other).who (new_messages (u.of other).stream piece)).tree ≡ u.tree
      → (number ≡ other → (talk r u.tree (u.of other).who (new_messages (u.of other).stream piece)).who ≡ (u.of other).who)
      → StaysShown number u (step r u (Bytes other piece None))
  unfolding step
  open-stays u number other piece is_open tree own =
      let s = u.of other in
      let a = said r None u.tree s.who (new_messages s.stream piece) (is_broken (s.stream ++ piece)) in
      let now : Session W = record { stream = s.stream ++ piece; who = a.who; reply = s.reply ++ a.replies; state = cond a.closes Closing Open; cut = None } in
      let before : asker_of s ≡ Some s.who = ap (λ st. asker st s.who) is_open in
      let asks : number ≡ other → AsksStill (asker_of s) (asker_of now) =
      λ same. subst (λ asks. AsksStill asks (asker_of now)) (sym before) (closing-asks a.closes s.who a.who (own same)) in
      let stays : StaysShown number u (hears r Open u other piece None) = record { tree = tree; asks = with-asks u number other now asks } in
      subst (λ st. StaysShown number u (hears r st u other piece None)) (sym is_open) stays

  pub one-stays : (u : Sessions T W) (number other : ℕ) (piece message : List ℕ) → CompletesOne u other piece message
      → (r.answer u.tree (u.of other).who message).tree ≡ u.tree → (number ≡ other → (r.answer u.tree (u.of other).who message).who ≡ (u.of other).who)
      → StaysShown number u (step r u (Bytes other piece None))
  one-stays u number other piece message completes tree own =
      let s = u.of other in
      open-stays u number other piece completes.is_open
      (ap (λ messages. (talk r u.tree s.who messages).tree) completes.one ∙ one-tree u.tree s.who message ∙ tree)
      (λ same. ap (λ messages. (talk r u.tree s.who messages).who) completes.one ∙ one-who u.tree s.who message ∙ own same)

  -- a connection that isn't open hears nothing
  shut-stays : (st : State) (u : Sessions T W) (number other : ℕ) (piece : List ℕ) → st ≢ Open → StaysShown number u (hears r st u other piece None)
  shut-stays Open u number other piece shut = absurd (shut refl)
  shut-stays Closing u number other piece shut = same-stays u number
  shut-stays Unopened u number other piece shut = same-stays u number
  shut-stays TurnedAway u number other piece shut = same-stays u number
  shut-stays Away u number other piece shut = same-stays u number

  pub closed-shows : (u : Sessions T W) (number other : ℕ) (piece : List ℕ) → (u.of other).state ≢ Open → StaysShown number u (step r u (Bytes other piece None))
  unfolding step
  closed-shows u number other piece shut = shut-stays (u.of other).state u number other piece shut

  -- a piece that completes no message
  by-state : (st : State) (u : Sessions T W) (number other : ℕ) (piece : List ℕ) → (u.of other).state ≡ st → new_messages (u.of other).stream piece ≡ []
      → StaysShown number u (step r u (Bytes other piece None))
  by-state Open u number other piece is none =
      let s = u.of other in
      open-stays u number other piece is
      (ap (λ messages. (talk r u.tree s.who messages).tree) none ∙ nothing-tree u.tree s.who)
      (λ same. ap (λ messages. (talk r u.tree s.who messages).who) none ∙ nothing-who u.tree s.who)
  by-state Closing u number other piece is none = closed-shows u number other piece (λ h. let differ : Closing ≡ Open = sym is ∙ h in absurd cc)
  by-state Unopened u number other piece is none = closed-shows u number other piece (λ h. let differ : Unopened ≡ Open = sym is ∙ h in absurd cc)
  by-state TurnedAway u number other piece is none = closed-shows u number other piece (λ h. let differ : TurnedAway ≡ Open = sym is ∙ h in absurd cc)
  by-state Away u number other piece is none = closed-shows u number other piece (λ h. let differ : Away ≡ Open = sym is ∙ h in absurd cc)

  pub none-shows : (u : Sessions T W) (number other : ℕ) (piece : List ℕ) → new_messages (u.of other).stream piece ≡ [] → StaysShown number u (step r u (Bytes other piece None))
  none-shows u number other piece none = by-state (u.of other).state u number other piece refl none

  -- another connection opens, and a peer's octets end
  pub opened-shows : (u : Sessions T W) (number other : ℕ) → other ≢ number → StaysShown number u (step r u (Opened other))
  unfolding step
  opened-shows u number other differs = record { tree = refl; asks = with-asks u number other _ (λ same. absurd (differs (sym same))) }

  pub ended-shows : (u : Sessions T W) (number other : ℕ) → StaysShown number u (step r u (Ended other))
  unfolding step
  ended-shows u number other =
      record { tree = refl; asks = with-asks u number other (ended (u.of other).state (u.of other)) (λ same. ended-asks (u.of other).state (u.of other)) }

  -- a connection is hung up: nobody asks on it then
  away-asks : (u v : Sessions T W) (number other : ℕ) (now : Session W) → asker_of now ≡ None → AsksStill (asker_of (u.of number)) (asker_of (v.of number))
      → AsksStill (asker_of (u.of number)) (asker_of (with_session other now v.of number))
  away-asks u v number other now gone asks = by (number == other)
    where
      by : (same : Bool) → AsksStill (asker_of (u.of number)) (asker_of (cond same now (v.of number)))
      by true = inr gone
      by false = asks

  pub hung_up-shows : (u v : Sessions T W) (number other : ℕ) → StaysShown number u v → StaysShown number u (hung_up r other v)
  unfolding step
  hung_up-shows u v number other stays = by (is_leaving (v.of other).state)
    where
      by : (leaves : Bool) → StaysShown number u (cond leaves (step r v (HungUp other)) v)
      by true = record { tree = stays.tree; asks = away-asks u v number other (record (v.of other) { state = Away }) refl stays.asks }
      by false = stays
