-- What a server holds stays what its sessions show, step by step.
use Rattle.std.proofs.Common.{◌≡◌, ◌≤◌, ◌+◌, ℕ, ◌==◌, nat_lt, Bool, true, false, cond, not, List, [], ◌∷◌, ◌++◌, length, map, Option, Some, None, option_map, refl, ap, sym, ◌∙◌, ap₂, arith, drop-drop, append-nil, drop_of_length-le}
use Rattle.std.proofs.lemmas.List.{length-map, map-append}
use Rattle.std.proofs.lemmas.Bool.Decides.{nat_tests}
use Rattle.ldap_msg.specs.Streams.{rest_of}
use Rattle.ldap_msg.proofs.Theorems.{rest_nil}
use Rattle.session_model.specs.Rules.{Rules}
use Rattle.session_model.specs.Run.{Session, Sessions, State, Open, Closing, TurnedAway, Away, Unopened, Opened, HungUp, is_held, held_numbers, with_session, step, most_held, newcomer}
use Rattle.session_model.specs.Kept.{Kept, Held, kept_of, forgotten, taken_off, without_front, heard, opened_kept}
use Rattle.session_model.specs.Keeping.{Keeps, shown, is_listed, more_taken}
use Rattle.session_model.proofs.laws.HeldLemmas.{held_among-unlisted, held_among-left, held_among-append, is_listed-append}
use Rattle.session_model.proofs.laws.KeptLemmas.{kept_of-changed, number-changed, kept_of-forgotten, number-forgotten, without, kept_of-append, found_or}

-- what is shown of a session after more of its reply was taken
shown-taken : {W : Type 0} (st : State) (c t n : ℕ) (s : Session W) →
    option_map (without_front n) (shown st c t s) ≡ shown st c (t + n) s
shown-taken Open c t n s = ap (λ q. Some (record { number = c; rest = rest_of s.stream; who = s.who; queue = q; closing = false; cut = s.cut })) (drop-drop n t s.reply)
shown-taken Closing c t n s = ap (λ q. Some (record { number = c; rest = []; who = s.who; queue = q; closing = true; cut = s.cut })) (drop-drop n t s.reply)
shown-taken Unopened c t n s = refl
shown-taken TurnedAway c t n s = refl
shown-taken Away c t n s = refl

-- octets taken of a queue
pub Keeps-taken : {T W : Type 0} (u : Sessions T W) (taken : ℕ → ℕ) (h : Held T W) (c n : ℕ) → Keeps u taken h →
    taken c + n ≤ length (u.of c).reply → Keeps u (more_taken c n taken) (record h { kept = taken_off c n h.kept })
Keeps-taken u taken h c n keeps fits = record {
  tree = keeps.tree;
  numbers = number-changed c (without_front n) (λ k e. e) h.kept ∙ keeps.numbers;
  each = λ d. kept_of-changed c d (without_front n) (λ k e. e) h.kept ∙
      grind (arith, nat_tests, keeps.each c, keeps.each d, shown-taken (u.of c).state c (taken c) n (u.of c));
  within = λ d. grind (arith, nat_tests, keeps.within d);
  unopened = keeps.unopened;
}

found_or-none : {W : Type 0} (o : Option (Kept W)) (b : Bool) → o ≡ found_or o (cond b None None)
found_or-none {W} None b = elim b as (λ x. ◌≡◌ {A = Option (Kept W)} None (cond x None None)) [ true ↦ refl | false ↦ refl ]
found_or-none (Some k) b = refl

-- what is shown of a session that has left
shown-unheld : {W : Type 0} (st : State) (c t : ℕ) (s : Session W) → is_held st ≡ false → shown st c t s ≡ None
shown-unheld Open c t s h = cc
shown-unheld Closing c t s h = cc
shown-unheld Unopened c t s h = refl
shown-unheld TurnedAway c t s h = refl
shown-unheld Away c t s h = refl

pub held_if : (room : Bool) → is_held (cond room Open TurnedAway) ≡ room
held_if room = elim room as (λ b. is_held (cond b Open TurnedAway) ≡ b) [ true ↦ refl | false ↦ refl ]

-- the numbers of the connections held, with another where there is room
numbers_with : {W : Type 0} (room : Bool) (ks : List (Kept W)) (k : Kept W) →
    map (λ x. x.number) (cond room (ks ++ k ∷ []) ks) ≡ map (λ x. x.number) ks ++ cond room (k.number ∷ []) []
numbers_with room ks k =
    elim room as (λ b. map (λ x. x.number) (cond b (ks ++ k ∷ []) ks) ≡ map (λ x. x.number) ks ++ cond b (k.number ∷ []) [])
    [ true ↦ map-append (λ x. x.number) ks (k ∷ []) | false ↦ sym (append-nil (map (λ x. x.number) ks)) ]

-- the connection of a number, with another where there is room
each_with : {W : Type 0} (room : Bool) (c d : ℕ) (ks : List (Kept W)) (k : Kept W) → k.number ≡ c →
    kept_of d (cond room (ks ++ k ∷ []) ks) ≡ found_or (kept_of d ks) (cond (d == c) (cond room (Some k) None) None)
each_with room c d ks k same =
    elim room as (λ b. kept_of d (cond b (ks ++ k ∷ []) ks) ≡ found_or (kept_of d ks) (cond (d == c) (cond b (Some k) None) None))
    [ true ↦ kept_of-append d ks k ∙ grind (arith, nat_tests) | false ↦ found_or-none (kept_of d ks) (d == c) ]

module _ {T W : Type 0} (r : Rules T W) where
  -- a connection that has left is forgotten
  pub Keeps-left : (u : Sessions T W) (taken : ℕ → ℕ) (h : Held T W) (c : ℕ) → Keeps u taken h →
      Keeps (step r u (HungUp c)) taken (record h { kept = forgotten c h.kept })
  unfolding step held_numbers
  Keeps-left u taken h c keeps =
      record {
        tree = keeps.tree;
        numbers = number-forgotten c h.kept ∙ ap (without c) keeps.numbers ∙ sym (held_among-left u.of c (record (u.of c) { state = Away }) refl u.opened);
        each = λ d. kept_of-forgotten c d h.kept ∙ grind (arith, nat_tests, keeps.each d);
        within = λ d. grind (arith, nat_tests, keeps.within d);
        unopened = λ d e. grind (arith, nat_tests, keeps.unopened d e);
      }

  -- a number that wasn't opened before isn't held
  kept_of-new : (u : Sessions T W) (taken : ℕ → ℕ) (h : Held T W) (c : ℕ) → Keeps u taken h → is_listed c u.opened ≡ false → kept_of c h.kept ≡ None
  kept_of-new u taken h c keeps new = keeps.each c ∙ shown-unheld (u.of c).state c (taken c) (u.of c) (keeps.unopened c new).1

  -- as many connections are held as numbers
  pub length-kept : (u : Sessions T W) (taken : ℕ → ℕ) (h : Held T W) → Keeps u taken h → length h.kept ≡ length (held_numbers u)
  length-kept u taken h keeps = sym (length-map h.kept (λ k. k.number)) ∙ ap length keeps.numbers

  -- a new connection is kept where there is room
  kept-opened : (u : Sessions T W) (taken : ℕ → ℕ) (h : Held T W) (c : ℕ) → Keeps u taken h → is_listed c u.opened ≡ false →
      (heard r (Opened c) h).kept ≡ cond (nat_lt (length (held_numbers u)) most_held) (h.kept ++ opened_kept r c ∷ []) h.kept
  unfolding heard
  kept-opened u taken h c keeps new =
      rw (kept_of-new u taken h c keeps new, length-kept u taken h keeps)
      (elim (nat_lt (length (held_numbers u)) most_held) as (λ b. cond (not b) h.kept (h.kept ++ opened_kept r c ∷ []) ≡ cond b (h.kept ++ opened_kept r c ∷ []) h.kept) [ true ↦ refl | false ↦ refl ])

  -- the numbers held once another has opened
  numbers-opened : (u : Sessions T W) (c : ℕ) → is_listed c u.opened ≡ false →
      held_numbers (step r u (Opened c)) ≡ held_numbers u ++ cond (nat_lt (length (held_numbers u)) most_held) (c ∷ []) []
  unfolding step held_numbers
  numbers-opened u c new =
      let room = nat_lt (length (held_numbers u)) most_held in
      let s = newcomer r (length (held_numbers u)) in
      held_among-append (with_session c s u.of) u.opened c
      ∙ grind (arith, nat_tests, held_among-unlisted u.of c s u.opened new, held_if room)

  -- what is shown of a connection that has just opened, where there is room or not
  shown-newcomer : (room : Bool) (c t : ℕ) → let st = cond room Open TurnedAway in
      shown st c t (record { stream = []; who = r.nobody; reply = []; state = st; cut = None }) ≡ cond room (Some (opened_kept r c)) None
  shown-newcomer room c t =
      elim room as (λ b. shown (cond b Open TurnedAway) c t (record { stream = []; who = r.nobody; reply = []; state = cond b Open TurnedAway; cut = None }) ≡ cond b (Some (opened_kept r c)) None)
      [ true ↦ ap₂ (λ x y. Some (record { number = c; rest = x; who = r.nobody; queue = y; closing = false; cut = None })) rest_nil (drop_of_length-le [] (omega arith)) | false ↦ refl ]

  pub Keeps-opened : (u : Sessions T W) (taken : ℕ → ℕ) (h : Held T W) (c : ℕ) → Keeps u taken h → is_listed c u.opened ≡ false →
      Keeps (step r u (Opened c)) taken (heard r (Opened c) h)
  unfolding step heard
  Keeps-opened u taken h c keeps new =
      record {
        tree = keeps.tree;
        numbers = rw (kept-opened u taken h c keeps new, numbers-opened u c new)
            (numbers_with (nat_lt (length (held_numbers u)) most_held) h.kept (opened_kept r c) ∙ ap (λ ns. ns ++ cond (nat_lt (length (held_numbers u)) most_held) (c ∷ []) []) keeps.numbers);
        each = λ d. rw (kept-opened u taken h c keeps new)
            (each_with (nat_lt (length (held_numbers u)) most_held) c d h.kept (opened_kept r c) refl ∙
            grind (arith, nat_tests, keeps.each d, kept_of-new u taken h c keeps new, shown-newcomer (nat_lt (length (held_numbers u)) most_held) c (taken c)));
        within = λ d. grind (arith, nat_tests, keeps.within d, keeps.unopened c new);
        unopened = λ d e. grind (arith, nat_tests, is_listed-append d u.opened c, keeps.unopened d);
      }
