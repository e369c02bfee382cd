-- What octets show of a hush: a message that a piece completes, and what is left of a piece behind it.
use Rattle.std.proofs.Common.{◌≡◌, ◌≢◌, ◌⊎◌, inl, inr, ◌+◌, ℕ, ◌==◌, Bool, true, false, cond, List, [], ◌∷◌, ◌++◌, take, drop, length, Option, Some, None, refl, ap, ap₂, sym, ◌∙◌, subst, arith, ◌<◌, append-nil, drop_of_length-le}
use Rattle.std.specs.Prelude.{option_and_then}
use Rattle.std.specs.Option.{option_or}
use Rattle.std.proofs.lemmas.List.{take-append-drop, length-append}
use Rattle.dir_tree.specs.dn_names.name.Names.{RdnSequence}
use Rattle.session_hub.specs.session_model.ldap_msg.Streams.{whole}
use Rattle.session_hub.specs.session_model.Run.{Open, Bytes, step, new_messages}
use Rattle.session_hub.specs.session_model.Replaying.{step_and_hang_up}
use Rattle.session_hub.specs.session_model.Joined.{LeavesAlike}
use Rattle.session_hub.specs.session_model.Places.{CompletesOne, standing, standing_behind, places_of_step}
use Rattle.session_hub.proofs.session_model_proofs.Theorems.{replay-piece, places-none, places-closed, Keeps-alike, pieces-join}
use Rattle.session_hub.specs.Parties.{DirectoryEntries}
use Rattle.session_hub.specs.Terms.{no_terms}
use Rattle.session_hub.specs.Answering.{rules}
use Rattle.hush_laws.specs.declared.part.Part.{Part}
use Rattle.hush_laws.specs.Requests.{failing_request}
use Rattle.hush_laws.specs.Hush.{broken_part, fault_at, first_fault}
use Rattle.hush_looks.specs.Due.{is_due}
use Rattle.hush_looks.specs.Looks.{failing_look, failing_standing, StaysShown}
use Rattle.hush_looks.proofs.Theorems.{message-stays, none-stays, closed-stays, none-fails}
use Rattle.hush_watch.specs.Served.{ServedSessions, ServedHeld, Holds, Hears}
use Rattle.hush_watch.specs.declared.next_message.NextMessage.{NextMessage}
use Rattle.hush_watch.specs.NextMessages.{ShowsNext}
use Rattle.hush_watch.specs.Watching.{fault_of, shown_by, Shows, ShowsMessage, Leads, IsWatchedOfSome}
use Rattle.hush_watch.proofs.SessionLemmas.{alike_then, alike_self}
use Rattle.hush_watch.proofs.WatchLemmas.{fails-held, shown-one}

module _ (c : ℕ) (top : RdnSequence) (before : DirectoryEntries) where
  abbrev fails : ServedSessions → Option Part
  fails = failing_standing top before c

  -- a message was heard, and behind it was looked where it was due
  pub shows-message : (other : ℕ) (piece message : List ℕ) (old new : ServedHeld) (looked asked : Option Part)
      → Hears (Bytes other piece None) old new → looked ≡ cond (is_due (other == c) message) (failing_look c top before new.tree new.kept) None
      → asked ≡ option_and_then (failing_request top) (cond (other == c) (Some message) None)
      → ShowsMessage c top before other piece message old (option_or looked asked) new
  unfolding ShowsMessage Hears
  shows-message other piece message old new looked asked hears looks asks u watched completes =
      let after = step (rules no_terms) u (Bytes other piece None) in
      let holds = hears u tt watched.holds in
      let is : fails after ≡ looked = by_due (is_due (other == c) message) looks
      (λ e. none-fails top before c u after (message-stays no_terms c other u piece message completes e) watched.passes) (fails-held c top before after new holds) in
      record {
        part = λ h. ap₂ (λ x y. option_or x (option_or y None)) is (sym asks) ∙ ap (option_or looked) (no_more asked);
        goes_on = λ none. record { holds = holds; passes = is ∙ first_none looked asked none };
      }
    where
      no_more : (part : Option Part) → option_or part None ≡ part
      no_more None = refl
      no_more (Some x) = refl

      first_none : (one two : Option Part) → option_or one two ≡ None → one ≡ None
      first_none None two none = refl
      first_none (Some x) two none = absurd cc

      by_due : {failed : Option Part} (due : Bool) → looked ≡ cond due (failing_look c top before new.tree new.kept) None → (due ≡ false → failed ≡ None) → failed ≡ failing_look c top before new.tree new.kept → failed ≡ looked
      by_due true looks stays held = held ∙ sym looks
      by_due false looks stays held = stays refl ∙ sym looks

  -- at the beginning all of a piece is left
  pub leads-none : (n : ℕ) (piece : List ℕ) (old : ServedHeld) → Leads c top before n piece old piece old
  unfolding Leads
  leads-none n piece old u watched = record { sessions = u; watched = watched; places = λ h. refl; alike = alike_self n (step (rules no_terms) u (Bytes n piece None)) }

  -- the places of what is left are the one behind its first message and then the others
  shown-piece : (h n : ℕ) (u : ServedSessions) (front more message : List ℕ) → CompletesOne u n front message
      → shown_by c top before h u (Bytes n (front ++ more) None)
      ≡ option_or (fault_of h (broken_part top before (standing_behind c h n message (step (rules no_terms) u (Bytes n front None)))))
      (shown_by c top before h (step (rules no_terms) u (Bytes n front None)) (Bytes n more None))
  shown-piece h n u front more message completes = ap (first_fault (fault_at top before)) (replay-piece (rules no_terms) c h n u front more message completes)

  -- a message behind which nothing is broken
  pub leads-on : (n : ℕ) (piece rest front more message : List ℕ) (old mid new : ServedHeld) → rest ≡ front ++ more → Leads c top before n piece old rest mid
      → ((u : ServedSessions) → Holds u mid → CompletesOne u n front message) → ShowsMessage c top before n front message mid None new
      → Leads c top before n piece old more new
  unfolding Leads ShowsMessage
  leads-on n piece rest front more message old mid new joins leads next shows first watched =
      let led = leads first watched in
      let u = led.sessions in
      let after = step (rules no_terms) u (Bytes n front None) in
      let completes = next u led.watched.holds in
      let shown = shows u led.watched completes in
      record {
        sessions = after;
        watched = shown.goes_on refl;
        places = λ h. led.places h ∙ ap (λ xs. shown_by c top before h u (Bytes n xs None)) joins ∙ shown-piece h n u front more message completes
            ∙ ap (λ part. option_or (fault_of h part) (shown_by c top before h after (Bytes n more None))) (shown.part h);
        alike = alike_then n (step (rules no_terms) after (Bytes n more None)) (step (rules no_terms) u (Bytes n rest None)) (step (rules no_terms) first (Bytes n piece None))
            (subst (λ xs. LeavesAlike n (step (rules no_terms) after (Bytes n more None)) (step (rules no_terms) u (Bytes n xs None))) (sym joins) (pieces-join (rules no_terms) u n front more)) led.alike;
      }

  -- a message behind which something is
  pub shows-broken : (n : ℕ) (piece rest front more message : List ℕ) (old mid new : ServedHeld) (part : Part) → rest ≡ front ++ more → Leads c top before n piece old rest mid
      → ((u : ServedSessions) → Holds u mid → CompletesOne u n front message) → ShowsMessage c top before n front message mid (Some part) new
      → Shows c top before (step (rules no_terms)) (Bytes n piece None) old (Some part) new
  unfolding Leads ShowsMessage Shows
  shows-broken n piece rest front more message old mid new part joins leads next shows first fresh watched =
      let led = leads first watched in
      let u = led.sessions in
      let after = step (rules no_terms) u (Bytes n front None) in
      let completes = next u led.watched.holds in
      let shown = shows u led.watched completes in
      record {
        part = λ h. led.places h ∙ ap (λ xs. shown_by c top before h u (Bytes n xs None)) joins ∙ shown-piece h n u front more message completes
            ∙ ap (λ part. option_or (fault_of h part) (shown_by c top before h after (Bytes n more None))) (shown.part h);
        goes_on = λ none. absurd cc;
      }

  -- what is left completes no message of an open connection
  one_place-rest : (h n : ℕ) (u : ServedSessions) (rest : List ℕ) → (new_messages (u.of n).stream rest ≡ []) ⊎ ((u.of n).state ≢ Open)
      → places_of_step (rules no_terms) (step_and_hang_up (rules no_terms)) c h u (Bytes n rest None) ≡ standing c h (step_and_hang_up (rules no_terms) u (Bytes n rest None)) ∷ []
  one_place-rest h n u rest (inl none) = places-none (rules no_terms) (step_and_hang_up (rules no_terms)) c h n u rest none
  one_place-rest h n u rest (inr shut) = places-closed (rules no_terms) (step_and_hang_up (rules no_terms)) c h n u rest shut

  rest-stays : (n : ℕ) (u : ServedSessions) (rest : List ℕ) → (new_messages (u.of n).stream rest ≡ []) ⊎ ((u.of n).state ≢ Open) → StaysShown c u (step (rules no_terms) u (Bytes n rest None))
  rest-stays n u rest (inl none) = none-stays no_terms c n u rest none
  rest-stays n u rest (inr shut) = closed-stays no_terms c n u rest shut

  pub shows-rest : (n : ℕ) (piece rest : List ℕ) (old mid new : ServedHeld) → Leads c top before n piece old rest mid
      → ((u : ServedSessions) → Holds u mid → (new_messages (u.of n).stream rest ≡ []) ⊎ ((u.of n).state ≢ Open))
      → Hears (Bytes n rest None) mid new → Shows c top before (step (rules no_terms)) (Bytes n piece None) old None new
  unfolding Leads Shows Hears
  shows-rest n piece rest old mid new leads none hears first fresh watched =
      let led = leads first watched in
      let u = led.sessions in
      let completes = none u led.watched.holds in
      let last = step (rules no_terms) u (Bytes n rest None) in
      let all = step (rules no_terms) first (Bytes n piece None) in
      let passes : fails last ≡ None = none-fails top before c u last (rest-stays n u rest completes) led.watched.passes in
      let held = hears u tt led.watched.holds in
      let holds : Holds all new = record { taken = held.taken; keeps = Keeps-alike n last all held.taken new led.alike held.keeps } in
      record {
        part = λ h. led.places h ∙ shown-one c top before h false u (Bytes n rest None) None (one_place-rest h n u rest completes) (ap (λ x. option_or x None) passes);
        goes_on = λ is. record { holds = holds; passes = fails-held c top before all new holds ∙ sym (fails-held c top before last new held) ∙ passes };
      }

  -- what is left of a piece after a message is less
  pub some_front : (n count : ℕ) (u : ServedSessions) (rest message : List ℕ) → CompletesOne u n (take count rest) message → 0 < length (take count rest)
  some_front n count u rest message completes = by_front (take count rest) completes.one
    where
      nothing_new : (stream : List ℕ) → new_messages stream [] ≡ []
      nothing_new stream = ap (λ xs. drop (length (whole stream)) (whole xs)) (append-nil stream) ∙ drop_of_length-le (whole stream) (omega arith)

      by_front : (front : List ℕ) → new_messages (u.of n).stream front ≡ message ∷ [] → 0 < length front
      by_front [] one = let none : [] ≡ message ∷ [] = sym (nothing_new (u.of n).stream) ∙ one in absurd cc
      by_front (x ∷ front) one = omega arith

  -- what was found of the next message, of whatever sessions are held
  pub next-completes : (n : ℕ) (rest front : List ℕ) (next : NextMessage) (mid : ServedHeld) → ShowsNext n rest mid (Some next) → front ≡ take next.count rest
      → (u : ServedSessions) → Holds u mid → CompletesOne u n front next.octets
  unfolding ShowsNext
  next-completes n rest front next mid shows is u holds = subst (λ xs. CompletesOne u n xs next.octets) (sym is) (shows u holds)

  pub none-completes : (n : ℕ) (rest : List ℕ) (mid : ServedHeld) → ShowsNext n rest mid None
      → (u : ServedSessions) → Holds u mid → (new_messages (u.of n).stream rest ≡ []) ⊎ ((u.of n).state ≢ Open)
  unfolding ShowsNext
  none-completes n rest mid shows u holds = shows u holds

  pub less-left : (n : ℕ) (piece rest behind : List ℕ) (next : NextMessage) (old mid : ServedHeld) → IsWatchedOfSome c top before old → Leads c top before n piece old rest mid
      → ShowsNext n rest mid (Some next) → behind ≡ drop next.count rest → length behind < length rest
  unfolding Leads ShowsNext
  less-left n piece rest behind next old mid some leads shows is =
      let led = leads some.sessions some.watched in
      let front : 0 < length (take next.count rest) = some_front n next.count led.sessions rest next.octets (shows led.sessions led.watched.holds) in
      let both : length (take next.count rest ++ drop next.count rest) ≡ length rest = ap length (take-append-drop next.count rest) in
      let sum : length (take next.count rest ++ drop next.count rest) ≡ length (take next.count rest) + length (drop next.count rest) = length-append (take next.count rest) (drop next.count rest) in
      let back : length behind ≡ length (drop next.count rest) = ap length is in
      omega arith
