-- The places of a piece are the one behind its first message, and then those of what is left of it.
use Rattle.std.proofs.Common.{◌≡◌, ◌≢◌, ℕ, ◌==◌, Bool, true, false, cond, List, [], ◌∷◌, ◌++◌, map, Some, None, refl, ap, ap₂, sym, ◌∙◌, arith}
use Rattle.std.proofs.lemmas.Bool.Decides.{nat_tests}
use Rattle.ldap_msg.specs.Streams.{is_broken}
use Rattle.session_model.specs.Rules.{Rules, Answered, talk, said}
use Rattle.session_model.specs.Run.{Session, Sessions, State, Open, Closing, TurnedAway, Away, Unopened, Step, Bytes, step, hears, new_messages}
use Rattle.session_model.specs.Replaying.{step_and_hang_up}
use Rattle.session_model.specs.Joined.{LeavesAlike}
use Rattle.session_model.specs.AnsweredMessages.{AnsweredMessage, answered_messages, answered_of_piece, answered_of_step}
use Rattle.session_model.specs.Places.{CompletesOne, asker, asker_of, standing, standing_behind, behind_own, behind_other, places_of_step}
use Rattle.session_model.proofs.laws.JoinedLemmas.{new_messages-join, pieces-join}
use Rattle.session_model.proofs.laws.LeftLemmas.{each_left, hung_up-left}
use Rattle.session_model.proofs.laws.StepLemmas.{with_session-same}
use Rattle.session_model.proofs.laws.PurgeLemmas.{step-other}

-- sessions left alike stand at the same place
standing-left : {T W : Type 0} (c h d : ℕ) (u v : Sessions T W) → LeavesAlike d u v → standing c h u ≡ standing c h v
standing-left c h d u v alike =
    let each = each_left d u v alike c in
    ap (λ t. record (standing c h u) { tree = t }) alike.tree
    ∙ ap₂ (λ st w. record { heard = h; tree = v.tree; asks = asker st w; message = None; turned = false }) each.state each.who

-- who asks after an answer
asker_closing : {W : Type 0} (closes : Bool) (w : W) → asker (cond closes Closing Open) w ≡ cond closes None (Some w)
asker_closing true w = refl
asker_closing false w = refl

module _ {T W : Type 0} (r : Rules T W) where
  -- one message alone leaves what its answer does
  record SaysOne (t : T) (w : W) (m : List ℕ) : Type 0 where
    pub tree : (said r None t w (m ∷ []) false).tree ≡ (r.answer t w m).tree
    pub who : (said r None t w (m ∷ []) false).who ≡ (r.answer t w m).who
    pub closes : (said r None t w (m ∷ []) false).closes ≡ (r.answer t w m).closes

  says_one : (t : T) (w : W) (m : List ℕ) → SaysOne t w m
  unfolding talk
  says_one t w m = by_close (r.answer t w m).closes refl
    where
      by_close : (closes : Bool) → (r.answer t w m).closes ≡ closes → SaysOne t w m
      by_close true e = record { tree = rw e refl; who = rw e refl; closes = rw e refl }
      by_close false e = record { tree = rw e refl; who = rw e refl; closes = rw e refl }

  module _ (u : Sessions T W) (d : ℕ) (p m : List ℕ) (completes : CompletesOne u d p m) where
    abbrev first : Sessions T W
    first = step r u (Bytes d p None)

    abbrev answer : Answered T W
    answer = r.answer u.tree (u.of d).who m

    -- what the first message leaves
    record IsFirst : Type 0 where
      pub tree : first.tree ≡ answer.tree
      pub who : (first.of d).who ≡ answer.who
      pub state : (first.of d).state ≡ cond answer.closes Closing Open
      pub stream : (first.of d).stream ≡ (u.of d).stream ++ p

    is_first : IsFirst
    unfolding step
    is_first =
        let s = u.of d in
        let one = says_one u.tree s.who m in
        let says : said r None u.tree s.who (new_messages s.stream p) (is_broken (s.stream ++ p)) ≡ said r None u.tree s.who (m ∷ []) false =
        ap₂ (λ ms b. said r None u.tree s.who ms b) completes.one completes.good in
        let heard : step r u (Bytes d p None) ≡ hears r Open u d p None = ap (λ st. hears r st u d p None) completes.is_open in
        let is : (first.of d) ≡ record { stream = s.stream ++ p; who = (said r None u.tree s.who (m ∷ []) false).who; reply = s.reply ++ (said r None u.tree s.who (m ∷ []) false).replies; state = cond (said r None u.tree s.who (m ∷ []) false).closes Closing Open; cut = None } =
        ap (λ (x : Sessions T W). x.of d) heard ∙ with_session-same d _ u.of
        ∙ ap (λ (a : Answered T W). record { stream = s.stream ++ p; who = a.who; reply = s.reply ++ a.replies; state = cond a.closes Closing Open; cut = None }) says in
        record {
          tree = ap (λ (x : Sessions T W). x.tree) heard ∙ ap (λ (a : Answered T W). a.tree) says ∙ one.tree;
          who = ap (λ (x : Session W). x.who) is ∙ one.who;
          state = ap (λ (x : Session W). x.state) is ∙ ap (λ b. cond b Closing Open) one.closes;
          stream = ap (λ (x : Session W). x.stream) is;
        }

    -- the messages of the rest are those of what is left, unless the first closes
    rest_answered : (q : List ℕ) → answered_of_step r first (Bytes d q None)
        ≡ cond answer.closes [] (answered_messages r answer.tree answer.who (new_messages ((u.of d).stream ++ p) q))
    unfolding answered_of_step
    rest_answered q =
        let is = is_first in
        ap (λ st. answered_of_piece r st first d q None) is.state
        ∙ by_close answer.closes
        ∙ ap₂ (λ t w. cond answer.closes [] (answered_messages r t w (new_messages (first.of d).stream q))) is.tree is.who
        ∙ ap (λ x. cond answer.closes [] (answered_messages r answer.tree answer.who (new_messages x q))) is.stream
      where
        by_close : (closes : Bool) → answered_of_piece r (cond closes Closing Open) first d q None
            ≡ cond closes [] (answered_messages r first.tree (first.of d).who (new_messages (first.of d).stream q))
        by_close true = refl
        by_close false = refl

    all_answered : (q : List ℕ) → answered_of_step r u (Bytes d (p ++ q) None)
        ≡ record { tree = u.tree; who = (u.of d).who; message = m } ∷ answered_of_step r first (Bytes d q None)
    unfolding answered_of_step answered_messages
    all_answered q =
        let s = u.of d in
        ap (λ st. answered_of_piece r st u d (p ++ q) None) completes.is_open
        ∙ ap (answered_messages r u.tree s.who) (new_messages-join s.stream p q ∙ ap (λ ms. ms ++ new_messages (s.stream ++ p) q) completes.one)
        ∙ ap (λ xs. record { tree = u.tree; who = s.who; message = m } ∷ xs) (sym (rest_answered q))

    module _ (c h : ℕ) where
      -- the place behind the first message
      abbrev asked : AnsweredMessage T W
      asked = record { tree = u.tree; who = (u.of d).who; message = m }

      behind_first : (own : Bool) → (d == c) ≡ own → cond own (behind_own r h) (behind_other r h (asker_of (u.of c))) asked
          ≡ record { heard = h; tree = first.tree; asks = asker_of (first.of c); message = cond own (Some m) None; turned = false }
      behind_first true own =
          let is = is_first in
          let same : d ≡ c = grind (arith, nat_tests) in
          let asks : cond answer.closes None (Some answer.who) ≡ asker_of (first.of d) =
          sym (ap₂ asker is.state is.who ∙ asker_closing answer.closes answer.who) in
          ap₂ (λ t a. record { heard = h; tree = t; asks = a; message = Some m; turned = false }) (sym is.tree) (asks ∙ ap (λ n. asker_of (first.of n)) same)
      behind_first false own =
          ap₂ (λ t (s : Session W). record { heard = h; tree = t; asks = asker_of s; message = None; turned = false }) (sym is_first.tree)
          (sym (step-other r u.tree c u (Bytes d p None) own))

      -- and behind each message of what is left
      behind_rest : (own : Bool) → (d == c) ≡ own → (xs : List (AnsweredMessage T W))
          → map (cond own (behind_own r h) (behind_other r h (asker_of (u.of c)))) xs ≡ map (cond own (behind_own r h) (behind_other r h (asker_of (first.of c)))) xs
      behind_rest true own xs = refl
      behind_rest false own xs = ap (λ (s : Session W). map (behind_other r h (asker_of s)) xs) (sym (step-other r u.tree c u (Bytes d p None) own))

      places_left : (after : Sessions T W → Step → Sessions T W) (q : List ℕ)
          → standing c h (after u (Bytes d (p ++ q) None)) ≡ standing c h (after first (Bytes d q None))
          → places_of_step r after c h u (Bytes d (p ++ q) None) ≡ standing_behind c h d m first ∷ places_of_step r after c h first (Bytes d q None)
      unfolding places_of_step
      places_left after q last =
          let rest = answered_of_step r first (Bytes d q None) in
          ap₂ (λ xs place. map (cond (d == c) (behind_own r h) (behind_other r h (asker_of (u.of c)))) xs ++ place ∷ []) (all_answered q) last
          ∙ ap₂ (λ place xs. place ∷ xs ++ standing c h (after first (Bytes d q None)) ∷ []) (behind_first (d == c) refl) (behind_rest (d == c) refl rest)

  -- in a run, and where events are replayed
  pub run-piece : (c h d : ℕ) (u : Sessions T W) (p q m : List ℕ) → CompletesOne u d p m
      → places_of_step r (step r) c h u (Bytes d (p ++ q) None)
      ≡ standing_behind c h d m (step r u (Bytes d p None)) ∷ places_of_step r (step r) c h (step r u (Bytes d p None)) (Bytes d q None)
  run-piece c h d u p q m completes =
      places_left u d p m completes c h (step r) q (sym (standing-left c h d _ _ (pieces-join r u d p q)))

  pub replay-piece : (c h d : ℕ) (u : Sessions T W) (p q m : List ℕ) → CompletesOne u d p m
      → places_of_step r (step_and_hang_up r) c h u (Bytes d (p ++ q) None)
      ≡ standing_behind c h d m (step r u (Bytes d p None)) ∷ places_of_step r (step_and_hang_up r) c h (step r u (Bytes d p None)) (Bytes d q None)
  replay-piece c h d u p q m completes =
      places_left u d p m completes c h (step_and_hang_up r) q (sym (standing-left c h d _ _ (hung_up-left r d _ _ (pieces-join r u d p q))))

  -- a piece that completes no message, or isn't of an open connection, has one place
  no_answer : (st : State) (u : Sessions T W) (d : ℕ) (p : List ℕ) → (st ≡ Open → ⊥) → answered_of_piece r st u d p None ≡ []
  no_answer Open u d p shut = absurd (shut refl)
  no_answer Closing u d p shut = refl
  no_answer Unopened u d p shut = refl
  no_answer TurnedAway u d p shut = refl
  no_answer Away u d p shut = refl

  no_message : (st : State) (u : Sessions T W) (d : ℕ) (p : List ℕ) → new_messages (u.of d).stream p ≡ [] → answered_of_piece r st u d p None ≡ []
  unfolding answered_messages
  no_message Open u d p none = ap (answered_messages r u.tree (u.of d).who) none
  no_message Closing u d p none = refl
  no_message Unopened u d p none = refl
  no_message TurnedAway u d p none = refl
  no_message Away u d p none = refl

  one_place : (after : Sessions T W → Step → Sessions T W) (c h d : ℕ) (u : Sessions T W) (p : List ℕ) → answered_of_piece r (u.of d).state u d p None ≡ []
      → places_of_step r after c h u (Bytes d p None) ≡ standing c h (after u (Bytes d p None)) ∷ []
  unfolding places_of_step answered_of_step
  one_place after c h d u p none =
      ap (λ xs. map (cond (d == c) (behind_own r h) (behind_other r h (asker_of (u.of c)))) xs ++ standing c h (after u (Bytes d p None)) ∷ []) none

  pub places-none : (after : Sessions T W → Step → Sessions T W) (c h d : ℕ) (u : Sessions T W) (p : List ℕ) → new_messages (u.of d).stream p ≡ []
      → places_of_step r after c h u (Bytes d p None) ≡ standing c h (after u (Bytes d p None)) ∷ []
  places-none after c h d u p none = one_place after c h d u p (no_message (u.of d).state u d p none)

  pub places-closed : (after : Sessions T W → Step → Sessions T W) (c h d : ℕ) (u : Sessions T W) (p : List ℕ) → (u.of d).state ≢ Open
      → places_of_step r after c h u (Bytes d p None) ≡ standing c h (after u (Bytes d p None)) ∷ []
  places-closed after c h d u p shut = one_place after c h d u p (no_answer (u.of d).state u d p shut)
