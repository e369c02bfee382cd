-- What a server holds is left the same over two trees, and its messages are those of its sessions.
use Rattle.std.proofs.Common.{◌≡◌, ℕ, Bool, true, false, cond, ◌||◌, List, [], ◌++◌, Option, Some, None, refl, ap, ap₂, sym, ◌∙◌}
use Rattle.std.specs.List.{AllByRecursion}
use Rattle.ldap_msg.specs.Streams.{whole, is_broken}
use Rattle.session_model.specs.Rules.{Rules, Answered, up_to}
use Rattle.session_model.specs.Run.{Sessions, State, Open, Closing, TurnedAway, Away, Unopened, Step, Opened, Bytes, Ended, Gone, HungUp}
use Rattle.session_model.specs.Kept.{Kept, Held, kept_of, changed, heard, hears_kept, heard_piece, speech, is_cut}
use Rattle.session_model.specs.Keeping.{Keeps, shown}
use Rattle.session_model.proofs.laws.BytesLemmas.{new_messages-are as new_messages-rest}
use Rattle.session_model.specs.AnsweredMessages.{AreAlike, AreHeldOver, IsAnsweredAlike, held_over, answered_messages, answered_of_piece, answered_of_step, answered_of_kept, answered_of_held}
use Rattle.session_model.proofs.laws.AlikeLemmas.{AreAlike-over, said-alike}

module _ {T W : Type 0} (r : Rules T W) where
  module _ (other : T) where
    speech-alike : (one : T) (w : W) (cut : Option ℕ) (stream : List ℕ) → AllByRecursion (IsAnsweredAlike r other) (answered_messages r one w (up_to cut (whole stream)))
        → AreAlike one other (speech r cut one w stream) (speech r cut other w stream)
    unfolding speech
    speech-alike one w cut stream all = said-alike r one other w cut (whole stream) (is_broken stream) all

    -- a piece, by whether its connection is held and is closing
    kept-alike : (o : Option (Kept W)) (c : ℕ) (piece : List ℕ) (cut : Option ℕ) (h : Held T W)
        → AllByRecursion (IsAnsweredAlike r other) (answered_of_kept r o h.tree piece cut)
        → AreHeldOver h.tree other (hears_kept r o c piece cut h) (hears_kept r o c piece cut (held_over other h))
    kept-alike None c piece cut h all = record { same = refl; one_stays = refl }
    kept-alike (Some k) c piece cut h all = by_close k.closing all
      where
        by_close : (closing : Bool) → AllByRecursion (IsAnsweredAlike r other) (cond closing [] (answered_messages r h.tree k.who (up_to cut (whole (k.rest ++ piece))))) →
            let hears : T → Held T W = λ t. (let a = speech r cut t k.who (k.rest ++ piece) in
            record { tree = a.tree; kept = changed c (λ _. heard_piece r piece cut k a) h.kept; was_cut = h.was_cut || is_cut cut; unstored = h.unstored ++ a.changes }) in
            AreHeldOver h.tree other (cond closing h (hears h.tree)) (cond closing (held_over other h) (hears other))
        by_close true none = record { same = refl; one_stays = refl }
        by_close false all =
            let stream = k.rest ++ piece in
            let a = speech r cut h.tree k.who stream in
            let b = speech r cut other k.who stream in
            let alike = speech-alike h.tree k.who cut stream all in
            let after : Answered T W → Held T W = λ x. record { tree = x.tree; kept = changed c (λ _. heard_piece r piece cut k x) h.kept; was_cut = h.was_cut || is_cut cut; unstored = h.unstored ++ x.changes } in
            record { same = ap after (AreAlike-over h.tree other a b alike).1; one_stays = alike.one_stays }

    pub heard-alike : (h : Held T W) (s : Step) → AllByRecursion (IsAnsweredAlike r other) (answered_of_held r h s)
        → AreHeldOver h.tree other (heard r s h) (heard r s (held_over other h))
    unfolding heard answered_of_held
    heard-alike h (Opened c) all = record { same = refl; one_stays = refl }
    heard-alike h (Bytes c piece cut) all = kept-alike (kept_of c h.kept) c piece cut h all
    heard-alike h (Ended c) all = record { same = refl; one_stays = refl }
    heard-alike h (Gone c) all = record { same = refl; one_stays = refl }
    heard-alike h (HungUp c) all = record { same = refl; one_stays = refl }

  -- the messages of a piece, by what is shown of its session
  piece-kept : (st : State) (u : Sessions T W) (c taken : ℕ) (piece : List ℕ) (cut : Option ℕ)
      → answered_of_piece r st u c piece cut ≡ answered_of_kept r (shown st c taken (u.of c)) u.tree piece cut
  piece-kept Open u c taken piece cut = ap (λ ms. answered_messages r u.tree (u.of c).who (up_to cut ms)) (new_messages-rest (u.of c).stream piece)
  piece-kept Closing u c taken piece cut = refl
  piece-kept Unopened u c taken piece cut = refl
  piece-kept TurnedAway u c taken piece cut = refl
  piece-kept Away u c taken piece cut = refl

  pub answered-kept : (u : Sessions T W) (taken : ℕ → ℕ) (h : Held T W) (s : Step) → Keeps u taken h → answered_of_step r u s ≡ answered_of_held r h s
  unfolding answered_of_step answered_of_held
  answered-kept u taken h (Opened c) keeps = refl
  answered-kept u taken h (Bytes c piece cut) keeps =
      piece-kept (u.of c).state u c (taken c) piece cut
      ∙ ap₂ (λ o t. answered_of_kept r o t piece cut) (sym (keeps.each c)) (sym keeps.tree)
  answered-kept u taken h (Ended c) keeps = refl
  answered-kept u taken h (Gone c) keeps = refl
  answered-kept u taken h (HungUp c) keeps = refl
