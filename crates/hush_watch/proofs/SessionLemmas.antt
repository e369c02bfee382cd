-- Sessions left alike twice, and who asks on a connection where another step was heard.
use Rattle.std.proofs.Common.{◌≡◌, ℕ, ◌==◌, nat_lt, Bool, true, false, cond, List, [], ◌∷◌, ◌++◌, length, None, refl, ap, sym, ◌∙◌, arith}
use Rattle.std.proofs.lemmas.Bool.Decides.{nat_tests}
use Rattle.session_hub.specs.session_model.Rules.{Rules}
use Rattle.session_hub.specs.session_model.Run.{Session, Sessions, State, Open, Closing, TurnedAway, Away, Unopened, Step, Opened, HungUp, step, with_session, held_numbers, most_held, newcomer}
use Rattle.session_hub.specs.session_model.Replaying.{is_leaving, hung_up, step_and_hang_up, replayed_from}
use Rattle.session_hub.specs.session_model.Joined.{LeavesAlike}
use Rattle.session_hub.specs.session_model.Purging.{has_room}
use Rattle.session_hub.specs.session_model.Places.{asker, asker_of}

-- alike, and alike again
pub alike_then : {T W : Type 0} (c : ℕ) (u v w : Sessions T W) → LeavesAlike c u v → LeavesAlike c v w → LeavesAlike c u w
alike_then c u v w first second = record {
  tree = first.tree ∙ second.tree;
  changes = first.changes ∙ second.changes;
  opened = first.opened ∙ second.opened;
  who = first.who ∙ second.who;
  reply = first.reply ∙ second.reply;
  state = first.state ∙ second.state;
  cut = first.cut ∙ second.cut;
  stream = λ is_open. first.stream is_open ∙ second.stream (sym first.state ∙ is_open);
  rest = λ other differs. first.rest other differs ∙ second.rest other differs;
}

pub alike_self : {T W : Type 0} (c : ℕ) (u : Sessions T W) → LeavesAlike c u u
alike_self c u = record { tree = refl; changes = refl; opened = refl; who = refl; reply = refl; state = refl; cut = refl; stream = λ is_open. refl; rest = λ other differs. refl }

-- who asks on one connection, where the session of a number is another one
asks_with : {W : Type 0} (n c : ℕ) (session : Session W) (of : ℕ → Session W) → (c ≡ n → asker_of session ≡ asker_of (of c)) → asker_of (with_session n session of c) ≡ asker_of (of c)
asks_with n c session of own = by_number (c == n) refl
  where
    by_number : (same : Bool) → (c == n) ≡ same → asker_of (cond same session (of c)) ≡ asker_of (of c)
    by_number true e = own (grind (arith, nat_tests))
    by_number false e = refl

-- none asks on a connection that is to be hung up, or was
asks_none : {W : Type 0} (st : State) (who : W) → is_leaving st ≡ true → asker st who ≡ None
asks_none Open who leaves = absurd cc
asks_none Closing who leaves = refl
asks_none Unopened who leaves = absurd cc
asks_none TurnedAway who leaves = refl
asks_none Away who leaves = refl

module _ {T W : Type 0} (r : Rules T W) where
  -- a connection that is to be hung up is
  pub asks-hung_up : (n c : ℕ) (u : Sessions T W) → asker_of ((hung_up r n u).of c) ≡ asker_of (u.of c)
  unfolding step
  asks-hung_up n c u = by_leaving (is_leaving (u.of n).state) refl
    where
      away : Session W
      away = record (u.of n) { state = Away }

      by_leaving : (leaves : Bool) → is_leaving (u.of n).state ≡ leaves → asker_of ((cond leaves (step r u (HungUp n)) u).of c) ≡ asker_of (u.of c)
      by_leaving true e = asks_with n c (record (u.of n) { state = Away }) u.of (λ same. sym (ap (λ m. asker_of (u.of m)) same ∙ asks_none (u.of n).state (u.of n).who e))
      by_leaving false e = refl

  pub tree-hung_up : (n : ℕ) (u : Sessions T W) → (hung_up r n u).tree ≡ u.tree
  unfolding step
  tree-hung_up n u = by_leaving (is_leaving (u.of n).state)
    where
      by_leaving : (leaves : Bool) → (cond leaves (step r u (HungUp n)) u).tree ≡ u.tree
      by_leaving true = refl
      by_leaving false = refl

  -- one that finds no room asks nothing
  pub asks-turned : (n : ℕ) (u : Sessions T W) → has_room u ≡ false → asker_of ((step r u (Opened n)).of n) ≡ None
  unfolding step
  asks-turned n u full =
      by_number (n == n) refl
    where
      full_asks : (room : Bool) → room ≡ false → asker (cond room Open TurnedAway) r.nobody ≡ None
      full_asks true e = absurd cc
      full_asks false e = refl

      by_number : (same : Bool) → (n == n) ≡ same → asker_of (cond same (newcomer r (length (held_numbers u))) (u.of n)) ≡ None
      by_number true e = full_asks (nat_lt (length (held_numbers u)) most_held) full
      by_number false e = absurd (grind (arith, nat_tests))

  -- one step more is replayed
  pub replayed-more : (u : Sessions T W) (early : List Step) (next : Step) → replayed_from r u (early ++ next ∷ []) ≡ step_and_hang_up r (replayed_from r u early) next
  unfolding replayed_from
  replayed-more u [] next = refl
  replayed-more u (s ∷ early) next = replayed-more (step_and_hang_up r u s) early next

  pub replayed-none : (u : Sessions T W) → replayed_from r u [] ≡ u
  unfolding replayed_from
  replayed-none u = refl
