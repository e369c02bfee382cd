-- Steps whose messages are answered alike leave the same sessions over two trees.
use Rattle.std.proofs.Common.{ℕ, Bool, true, false, cond, List, [], ◌∷◌, ◌++◌, Option, refl, ap, ◌∙◌}
use Rattle.std.specs.List.{AllByRecursion}
use Rattle.ldap_msg.specs.Streams.{is_broken}
use Rattle.session_model.specs.Rules.{Rules, Answered, said}
use Rattle.session_model.specs.Run.{Sessions, State, Open, Closing, TurnedAway, Away, Unopened, Step, Opened, Bytes, Ended, Gone, HungUp, step, start, run, run_from, hears, with_session, new_messages, held_numbers}
use Rattle.session_model.specs.Replaying.{number_of, is_leaving, hung_up, step_and_hang_up, replayed, replayed_from}
use Rattle.session_model.specs.AnsweredMessages.{AreOver, IsAnsweredAlike, over, answered_of_piece, answered_of_step, answered_of_run, answered_of_replay}
use Rattle.session_model.proofs.laws.AlikeLemmas.{all_append, AreAlike-over, said-alike}

module _ {T W : Type 0} (r : Rules T W) (other : T) where
  -- a piece, by where its connection is
  piece-alike : (st : State) (u : Sessions T W) (c : ℕ) (piece : List ℕ) (cut : Option ℕ) → AllByRecursion (IsAnsweredAlike r other) (answered_of_piece r st u c piece cut)
      → AreOver u.tree other (hears r st u c piece cut) (hears r st (over other u) c piece cut)
  piece-alike Open u c piece cut all =
      let s = u.of c in
      let ms = new_messages s.stream piece in
      let broken = is_broken (s.stream ++ piece) in
      let a = said r cut u.tree s.who ms broken in
      let b = said r cut other s.who ms broken in
      let alike = said-alike r u.tree other s.who cut ms broken all in
      let after : Answered T W → Sessions T W = λ x. record {
        tree = x.tree;
        changes = u.changes ++ x.changes;
        opened = u.opened;
        of = with_session c (record { stream = s.stream ++ piece; who = x.who; reply = s.reply ++ x.replies; state = cond x.closes Closing Open; cut = cut }) u.of;
      } in
      record { same = ap after (AreAlike-over u.tree other a b alike).1; one_stays = alike.one_stays }
  piece-alike Closing u c piece cut all = record { same = refl; one_stays = refl }
  piece-alike Unopened u c piece cut all = record { same = refl; one_stays = refl }
  piece-alike TurnedAway u c piece cut all = record { same = refl; one_stays = refl }
  piece-alike Away u c piece cut all = record { same = refl; one_stays = refl }

  pub step-alike : (u : Sessions T W) (s : Step) → AllByRecursion (IsAnsweredAlike r other) (answered_of_step r u s)
      → AreOver u.tree other (step r u s) (step r (over other u) s)
  unfolding step answered_of_step held_numbers
  step-alike u (Opened c) all = record { same = refl; one_stays = refl }
  step-alike u (Bytes c piece cut) all = piece-alike (u.of c).state u c piece cut all
  step-alike u (Ended c) all = record { same = refl; one_stays = refl }
  step-alike u (Gone c) all = record { same = refl; one_stays = refl }
  step-alike u (HungUp c) all = record { same = refl; one_stays = refl }

  -- steps in their order
  run_from-alike : (u : Sessions T W) (ss : List Step) → AllByRecursion (IsAnsweredAlike r other) (answered_of_run r u ss)
      → AreOver u.tree other (run_from r u ss) (run_from r (over other u) ss)
  unfolding run_from answered_of_run
  run_from-alike u [] all = record { same = refl; one_stays = refl }
  run_from-alike u (s ∷ ss) all =
      let parts = all_append (IsAnsweredAlike r other) (answered_of_step r u s) (answered_of_run r (step r u s) ss) all in
      let first = step-alike u s parts.0 in
      let rest = run_from-alike (step r u s) ss parts.1 in
      record { same = ap (λ v. run_from r v ss) first.same ∙ rest.same; one_stays = rest.one_stays ∙ first.one_stays }

  -- a connection that is to be hung up is, over both trees
  hung_up-alike : (c : ℕ) (u : Sessions T W) → AreOver u.tree other (hung_up r c u) (hung_up r c (over other u))
  unfolding step
  hung_up-alike c u = by_state (is_leaving (u.of c).state)
    where
      by_state : (leaves : Bool) → AreOver u.tree other (cond leaves (step r u (HungUp c)) u) (cond leaves (step r (over other u) (HungUp c)) (over other u))
      by_state true = record { same = refl; one_stays = refl }
      by_state false = record { same = refl; one_stays = refl }

  step_and_hang_up-alike : (u : Sessions T W) (s : Step) → AllByRecursion (IsAnsweredAlike r other) (answered_of_step r u s)
      → AreOver u.tree other (step_and_hang_up r u s) (step_and_hang_up r (over other u) s)
  step_and_hang_up-alike u s all =
      let first = step-alike u s all in
      let then = hung_up-alike (number_of s) (step r u s) in
      record { same = ap (hung_up r (number_of s)) first.same ∙ then.same; one_stays = then.one_stays ∙ first.one_stays }

  replayed_from-alike : (u : Sessions T W) (ss : List Step) → AllByRecursion (IsAnsweredAlike r other) (answered_of_replay r u ss)
      → AreOver u.tree other (replayed_from r u ss) (replayed_from r (over other u) ss)
  unfolding replayed_from answered_of_replay
  replayed_from-alike u [] all = record { same = refl; one_stays = refl }
  replayed_from-alike u (s ∷ ss) all =
      let parts = all_append (IsAnsweredAlike r other) (answered_of_step r u s) (answered_of_replay r (step_and_hang_up r u s) ss) all in
      let first = step_and_hang_up-alike u s parts.0 in
      let rest = replayed_from-alike (step_and_hang_up r u s) ss parts.1 in
      record { same = ap (λ v. replayed_from r v ss) first.same ∙ rest.same; one_stays = rest.one_stays ∙ first.one_stays }

  -- both from the beginning
  pub run-alike : (one : T) (ss : List Step) → AllByRecursion (IsAnsweredAlike r other) (answered_of_run r (start r one) ss)
      → AreOver one other (run r one ss) (run r other ss)
  unfolding start
  run-alike one ss all = run_from-alike (start r one) ss all

  pub replayed-alike : (one : T) (ss : List Step) → AllByRecursion (IsAnsweredAlike r other) (answered_of_replay r (start r one) ss)
      → AreOver one other (replayed r one ss) (replayed r other ss)
  unfolding start
  replayed-alike one ss all = replayed_from-alike (start r one) ss all
