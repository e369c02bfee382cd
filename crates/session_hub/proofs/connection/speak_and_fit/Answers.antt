-- What was said stays where the stream is then cut.
use Rattle.std.proofs.Common.{◌≤◌, ◌+◌, sym, ap, ◌∙◌, subst}
use Rattle.std.specs.Prelude.{vec_len, vec_capacity}
use Rattle.session_hub.specs.FirstAnswers.{kept_room}
use Rattle.session_hub.proofs.stream.StreamLemmas.{speaks_kept}
use Rattle.session_hub.proofs.stream.FirstLemmas.{gave_kept}
use Rattle.session_hub.proofs.connection.speak_and_fit.Goals as goal

pub returns-clause-said : goal.returns-clause-said
returns-clause-said g c =
    rw (sym c.replace.ensures.value, sym c.replace-2.ensures.value) (
    speaks_kept c.args.allowed.terms c.args.allowed.room _ _ _ _ _ _ _ _ c.speak-spoken.result c.keep_room.result c.speak-spoken.ensures.said c.keep_room.ensures.end
    (ap (λ xs. record { replies = xs; changes = c.speak-spoken.new.out.changes.items }) (c.keep_room.ensures.items ∙ c.fit.ensures.items))
    )

pub returns-clause-first : goal.returns-clause-first
returns-clause-first g c = λ room kept.
    gave_kept c.speak-spoken.result c.keep_room.result c.keep_room.ensures.end
    (c.speak-spoken.ensures.first (subst (λ v. vec_len v + kept_room ≤ vec_capacity v) (sym c.replace.ensures.value) room) kept)
