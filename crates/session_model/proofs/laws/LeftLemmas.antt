-- Sessions that are left alike show the same, and what is held of the ones is held of the others.
use Rattle.std.proofs.Common.{◌≡◌, ◌≤◌, ℕ, ◌==◌, Bool, true, false, cond, List, [], ◌∷◌, drop, length, filter, Some, None, refl, ap, ap₂, sym, ◌∙◌, subst, arith}
use Rattle.std.proofs.lemmas.Bool.Decides.{nat_tests}
use Rattle.ldap_msg.specs.Streams.{rest_of}
use Rattle.session_model.specs.Rules.{Rules}
use Rattle.session_model.specs.Run.{Session, Sessions, State, Open, Closing, TurnedAway, Away, Unopened, HungUp, is_held, held_numbers, step}
use Rattle.session_model.specs.Kept.{Kept, Held, kept_of, closing_of, forgotten}
use Rattle.session_model.specs.Keeping.{Keeps, shown, is_listed}
use Rattle.session_model.specs.Replaying.{is_leaving, hung_up}
use Rattle.session_model.specs.Joined.{LeavesAlike}
use Rattle.session_model.proofs.laws.KeptLemmas.{closing_in, closing_of_is}
use Rattle.session_model.proofs.laws.KeepingLemmas.{Keeps-left}
use Rattle.session_model.proofs.laws.StepLemmas.{with_session-same, with_session-other}

-- one session of each, the same but for the octets heard where it isn't open
pub record IsLeftAlike {W : Type 0} (session other : Session W) : Type 0 where
  pub who : session.who ≡ other.who
  pub reply : session.reply ≡ other.reply
  pub state : session.state ≡ other.state
  pub cut : session.cut ≡ other.cut
  pub stream : session.state ≡ Open → session.stream ≡ other.stream

same_left : {W : Type 0} (s o : Session W) → s ≡ o → IsLeftAlike s o
same_left s o e =
    subst (λ x. IsLeftAlike s x) e (record { who = refl; reply = refl; state = refl; cut = refl; stream = λ _. refl })

pub each_left : {T W : Type 0} (c : ℕ) (u v : Sessions T W) → LeavesAlike c u v → (d : ℕ) → IsLeftAlike (u.of d) (v.of d)
each_left c u v alike d = by_number (d == c) refl
  where
    by_number : (b : Bool) → (d == c) ≡ b → IsLeftAlike (u.of d) (v.of d)
    by_number true e =
        let is : d ≡ c = grind (arith, nat_tests) in
        subst (λ n. IsLeftAlike (u.of n) (v.of n)) (sym is)
        (record { who = alike.who; reply = alike.reply; state = alike.state; cut = alike.cut; stream = alike.stream })
    by_number false e = same_left (u.of d) (v.of d) (alike.rest d (λ is. let other : d ≡ c = is in absurd (grind (arith, nat_tests))))

-- what is shown of each is the same
shown-left : {W : Type 0} (st : State) (c t : ℕ) (s o : Session W) → s.state ≡ st → IsLeftAlike s o → shown st c t s ≡ shown st c t o
shown-left Open c t s o is alike =
    ap (λ x. Some (record { number = c; rest = rest_of x; who = s.who; queue = drop t s.reply; closing = false; cut = s.cut })) (alike.stream is)
    ∙ ap (λ x. Some (record { number = c; rest = rest_of o.stream; who = x; queue = drop t s.reply; closing = false; cut = s.cut })) alike.who
    ∙ ap₂ (λ x y. Some (record { number = c; rest = rest_of o.stream; who = o.who; queue = drop t x; closing = false; cut = y })) alike.reply alike.cut
shown-left Closing c t s o is alike =
    ap (λ x. Some (record { number = c; rest = []; who = x; queue = drop t s.reply; closing = true; cut = s.cut })) alike.who
    ∙ ap₂ (λ x y. Some (record { number = c; rest = []; who = o.who; queue = drop t x; closing = true; cut = y })) alike.reply alike.cut
shown-left Unopened c t s o is alike = refl
shown-left TurnedAway c t s o is alike = refl
shown-left Away c t s o is alike = refl

held_among-alike : {W : Type 0} (one other : ℕ → Session W) → ((d : ℕ) → (one d).state ≡ (other d).state) → (xs : List ℕ)
    → filter (λ n. is_held (one n).state) xs ≡ filter (λ n. is_held (other n).state) xs
held_among-alike one other same [] = refl
held_among-alike one other same (x ∷ xs) =
    ap₂ (λ b ys. cond (is_held b) (x ∷ ys) ys) (same x) (held_among-alike one other same xs)

pub held_numbers-left : {T W : Type 0} (c : ℕ) (u v : Sessions T W) → LeavesAlike c u v → held_numbers u ≡ held_numbers v
unfolding held_numbers
held_numbers-left c u v alike =
    held_among-alike u.of v.of (λ d. (each_left c u v alike d).state) u.opened ∙ ap (filter (λ n. is_held (v.of n).state)) alike.opened

pub Keeps-alike : {T W : Type 0} (c : ℕ) (u v : Sessions T W) (taken : ℕ → ℕ) (h : Held T W) → LeavesAlike c u v → Keeps u taken h → Keeps v taken h
Keeps-alike c u v taken h alike keeps = record {
  tree = keeps.tree ∙ alike.tree;
  numbers = keeps.numbers ∙ held_numbers-left c u v alike;
  each = λ d. let each = each_left c u v alike d in
      keeps.each d ∙ shown-left (u.of d).state d (taken d) (u.of d) (v.of d) refl each ∙ ap (λ st. shown st d (taken d) (v.of d)) each.state;
  within = λ d. subst (λ xs. taken d ≤ length xs) (each_left c u v alike d).reply (keeps.within d);
  unopened = λ d unlisted.
      let each = each_left c u v alike d in
      let before = keeps.unopened d (ap (is_listed d) alike.opened ∙ unlisted) in
      (sym each.reply ∙ before.0, ap is_held (sym each.state) ∙ before.1);
}

-- nothing is forgotten of a number that isn't held
forgotten-none : {W : Type 0} (c : ℕ) (ks : List (Kept W)) → kept_of c ks ≡ None → forgotten c ks ≡ ks
forgotten-none c [] none = refl
forgotten-none c (k ∷ ks) none = grind (arith, nat_tests, forgotten-none c ks)

-- a connection that is to be hung up is, and is forgotten
pub Keeps-hung_up : {T W : Type 0} (r : Rules T W) (c : ℕ) (u : Sessions T W) (taken : ℕ → ℕ) (h : Held T W) → Keeps u taken h
    → Keeps (hung_up r c u) taken (record h { kept = cond (closing_of c h.kept) (forgotten c h.kept) h.kept })
Keeps-hung_up {T} {W} r c u taken h keeps =
    subst (λ b. Keeps (hung_up r c u) taken (record h { kept = cond b (forgotten c h.kept) h.kept })) (sym (closing_of_is c h.kept ∙ ap closing_in (keeps.each c)))
    (by_state (u.of c).state refl)
  where
    gone : Keeps (step r u (HungUp c)) taken (record h { kept = forgotten c h.kept })
    gone = Keeps-left r u taken h c keeps

    by_state : (st : State) → (u.of c).state ≡ st
        → Keeps (cond (is_leaving st) (step r u (HungUp c)) u) taken (record h { kept = cond (closing_in (shown st c (taken c) (u.of c))) (forgotten c h.kept) h.kept })
    by_state Open is = keeps
    by_state Closing is = gone
    by_state Unopened is = keeps
    by_state TurnedAway is =
        let unheld : kept_of c h.kept ≡ None = keeps.each c ∙ ap (λ st. shown st c (taken c) (u.of c)) is in
        subst (λ ks. Keeps (step r u (HungUp c)) taken (record h { kept = ks })) (forgotten-none c h.kept unheld) gone
    by_state Away is = keeps

open_isnt_away : Away ≡ Open → ⊥
open_isnt_away h = cc

-- and both are where both are to be
pub hung_up-left : {T W : Type 0} (r : Rules T W) (c : ℕ) (u v : Sessions T W) → LeavesAlike c u v → LeavesAlike c (hung_up r c u) (hung_up r c v)
unfolding step
hung_up-left {T} {W} r c u v alike =
    subst (λ b. LeavesAlike c (hung_up r c u) (cond b (step r v (HungUp c)) v)) (ap is_leaving alike.state) (by_state (is_leaving (u.of c).state))
  where
    away : Session W → Session W
    away s = record s { state = Away }

    by_state : (leaves : Bool) → LeavesAlike c (cond leaves (step r u (HungUp c)) u) (cond leaves (step r v (HungUp c)) v)
    by_state true =
        let one = with_session-same c (away (u.of c)) u.of in
        let other = with_session-same c (away (v.of c)) v.of in
        record {
          tree = alike.tree;
          changes = alike.changes;
          opened = alike.opened;
          who = ap (λ (x : Session W). x.who) one ∙ alike.who ∙ ap (λ (x : Session W). x.who) (sym other);
          reply = ap (λ (x : Session W). x.reply) one ∙ alike.reply ∙ ap (λ (x : Session W). x.reply) (sym other);
          state = ap (λ (x : Session W). x.state) one ∙ ap (λ (x : Session W). x.state) (sym other);
          cut = ap (λ (x : Session W). x.cut) one ∙ alike.cut ∙ ap (λ (x : Session W). x.cut) (sym other);
          stream = λ still. absurd (open_isnt_away (sym (ap (λ (x : Session W). x.state) one) ∙ still));
          rest = λ d differs. with_session-other c d (away (u.of c)) u.of differs ∙ alike.rest d differs ∙ sym (with_session-other c d (away (v.of c)) v.of differs);
        }
    by_state false = alike
