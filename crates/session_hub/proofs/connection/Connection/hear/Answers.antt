use Rattle.std.proofs.Common.{◌≡◌, ◌≢◌, ◌≤◌, ◌+◌, ◌++◌, [], false, length, drop, refl, sym, ap, ◌∙◌, subst, arith}
use Rattle.std.proofs.lemmas.Grind.{common_steps}
use Rattle.std.specs.Prelude.{vec_len, vec_capacity}
use Rattle.session_model.specs.Kept.{Kept}
use Rattle.session_hub.specs.Parties.{Requester}
use Rattle.session_hub.specs.declared.spoken.Spoken.{Spoken}
use Rattle.session_hub.specs.connection.Connections.{KeepsRest}
use Rattle.session_hub.specs.FirstAnswers.{kept_room, IsBehindFirst}
use Rattle.session_hub.proofs.stream.FirstLemmas.{gave_kept, behind_first}
use Rattle.session_hub.proofs.stream.JoinLemmas.{IsJoined, heard_joined, kept_joined}
use Rattle.session_hub.proofs.connection.QueueLemmas.{idle_room}
use Rattle.session_hub.proofs.connection.RoomLemmas.{stays_within}
use Rattle.session_hub.proofs.connection.HearLemmas.{hears_as, ended_bounded}
use Rattle.session_hub.proofs.connection.Connection.hear.Goals as goal

-- nothing was unread
pub returns-then-is_empty-clause-exact : goal.returns-then-is_empty-clause-exact
returns-then-is_empty-clause-exact g c =
    let none : c.self.inside.rest.items ≡ [] = grind (arith, common_steps) in
    let stream : c.args.piece.now ≡ c.self.inside.rest.items ++ c.args.piece.now = sym (ap (λ xs. xs ++ c.args.piece.now) none) in
    hears_as c.args.allowed.terms c.room_behind.result c.args.piece.now c.args.piece.now _ _ _ c.args.self.now _ _ c.keep_unread-end.new.rest.items c.self.inside.taken _ c.speak_and_fit-spoken.result c.keep_unread-end.result _ _
    c.self.view_is stream c.speak_and_fit-spoken.ensures.said c.keep_unread-end.ensures.items refl c.self.invariant.queue.within c.closes-self-inside.ensures c.cut_behind-self-inside.ensures

pub returns-then-is_empty-clause-bounded : goal.returns-then-is_empty-clause-bounded
returns-then-is_empty-clause-bounded g c = ended_bounded c.args.allowed.terms c.room_behind.result _ _ _ _ _ _ _ c.speak_and_fit-spoken.result _ c.keep_unread-end.result c.speak_and_fit-spoken.ensures.said c.keep_unread-end.ensures.items

pub returns-then-is_empty-clause-room : goal.returns-then-is_empty-clause-room
returns-then-is_empty-clause-room g c =
    let none : c.self.inside.rest.items ≡ [] = grind (arith, common_steps) in
    let stream : c.args.piece.now ≡ c.self.inside.rest.items ++ c.args.piece.now = sym (ap (λ xs. xs ++ c.args.piece.now) none) in
    stays_within c.args.allowed.terms c.room_behind.result c.args.allowed.room c.args.piece.now c.args.piece.now _ _ _ c.args.self.now _ _ c.keep_unread-end.new.rest.items c.self.inside.taken _
    c.speak_and_fit-spoken.result _ c.keep_unread-end.result _ c.self.view_is c.cut_behind-self-inside.ensures stream c.speak_and_fit-spoken.ensures.said refl c.self.invariant.queue.within c.room_behind.ensures

-- what is said to what was joined is said to what was unread and the piece; for the first answer there is the kept room
pub returns-else-is_empty : goal.returns-else-is_empty
returns-else-is_empty g c =
    let ended = c.speak_and_fit-spoken-else-is_empty in
    let stream = c.self.inside.rest.items ++ c.args.piece.now in
    let is : IsJoined c.join-all.result c.deref.result.now stream = record { whole = λ e. c.deref.ensures.value ∙ c.join-all.ensures.all e; front = λ e. c.deref.ensures.value ∙ c.join-all.ensures.front e } in
    let spoken : Spoken = record { read = ended.result.read; answered = ended.result.answered; end = c.end_of.result } in
    let left = subst (λ xs. KeepsRest c.end_of.result (drop ended.result.read xs) c.leave_unread-end.new.rest.items c.leave_unread-end.result) (sym c.deref.ensures.value) c.leave_unread-end.ensures.items in
    let heard = heard_joined c.args.allowed.terms c.room_behind.result _ _ c.join-all.result c.deref.result.now stream _ _ _ _ ended.result c.leave_unread-end.new.rest.items c.end_of.result c.leave_unread-end.result
    is ended.ensures.said c.end_of.ensures.may c.end_of.ensures.front left in
    record {
      exact = hears_as c.args.allowed.terms c.room_behind.result c.args.piece.now stream _ _ _ c.args.self.now _ _ c.leave_unread-end.new.rest.items c.self.inside.taken _ _ c.leave_unread-end.result _ _
          c.self.view_is refl heard.speaks heard.keeps refl c.self.invariant.queue.within c.closes-self-inside-else-is_empty.ensures c.cut_behind-self-inside-else-is_empty.ensures;
      bounded = ended_bounded c.args.allowed.terms c.room_behind.result _ _ stream _ _ _ _ _ _ c.leave_unread-end.result heard.speaks heard.keeps;
      room = stays_within c.args.allowed.terms c.room_behind.result c.args.allowed.room c.args.piece.now stream _ _ _ c.args.self.now _ _ c.leave_unread-end.new.rest.items c.self.inside.taken _ _ _ c.leave_unread-end.result _
          c.self.view_is c.cut_behind-self-inside-else-is_empty.ensures refl heard.speaks refl c.self.invariant.queue.within c.room_behind.ensures;
      first = λ idle kept. (
          let queue : drop c.self.inside.taken c.self.inside.out.items ≡ [] = ap (λ (k : Kept Requester). k.queue) c.self.view_is ∙ idle.sent in
          let still : c.self.inside.closing ≡ false = ap (λ (k : Kept Requester). k.closing) c.self.view_is ∙ idle.still in
          let room : vec_len c.self.inside.out + kept_room ≤ vec_capacity c.self.inside.out =
          subst (λ n. n + kept_room ≤ vec_capacity c.self.inside.out) (sym c.self.inside.out.ok.0)
          (idle_room c.self.inside.taken (vec_capacity c.self.inside.out) c.self.inside.closing c.self.inside.out.items c.self.invariant.queue queue still) in
          let same = ap (λ (k : Kept Requester). k.rest) c.self.view_is in
          let some : c.self.inside.rest.items ≢ [] = λ none. (let empty : length c.self.inside.rest.items ≡ 0 = ap length none in absurd (grind (arith, common_steps))) in
          let first = ended.ensures.first room
          (kept_joined c.join-all.result c.deref.result.now c.args.self.now.rest c.args.piece.now (subst (λ xs. IsJoined c.join-all.result c.deref.result.now (xs ++ c.args.piece.now)) same is) (subst (λ xs. xs ≢ []) same some) kept) in
          subst IsBehindFirst (sym c.cut_behind-self-inside-else-is_empty.ensures)
          (behind_first spoken _ _ c.leave_unread-end.result (gave_kept ended.result c.end_of.result c.end_of.ensures.may first) heard.keeps));
    }
