use Rattle.std.proofs.Common.{◌≡◌, ◌≤◌, ◌+◌, length, take, drop, length-drop, sym, ap, ◌∙◌, subst, false, true, refl, inl, inr, arith, true≢false}
use Rattle.std.specs.Prelude.{vec_len, vec_capacity}
use Rattle.session_model.specs.ldap_msg.declared.kinds.Frame.TheVariants.{Whole}
use Rattle.session_model.specs.ldap_msg.Streams.{frame_at}
use Rattle.session_model.specs.ldap_msg.reading.Messages.{message_in, message_of}
use Rattle.session_model.proofs.ldap_msg_proofs.Theorems.{frame_bound}
use Rattle.session_hub.specs.declared.spoken.SpeechEnd.TheVariants.{StaysOpen, IsCut}
use Rattle.session_hub.specs.Outgoing.{put_in}
use Rattle.session_hub.specs.FirstAnswers.{IsAnonymousBind}
use Rattle.session_hub.proofs.messages.KeepLemmas.{put_same}
use Rattle.session_hub.proofs.stream.StreamLemmas.{so_far_start, so_far_whole, so_far_closed, so_far_more, so_far_bad, so_far_cut, so_far_full}
use Rattle.session_hub.proofs.messages.AnswerLemmas.{gives_content, short_content}
use Rattle.session_hub.proofs.stream.FrameLemmas.{content_says}
use Rattle.session_hub.proofs.stream.FirstLemmas.{gave_some, not_more, first_bind}
use Rattle.session_hub.proofs.stream.speak.Goals as goal

-- nothing was answered yet
pub messages-init : goal.messages-init
messages-init g c = (so_far_start c.args.allowed.terms c.args.allowed.room _ _ _ _, λ none. (refl, refl))

-- less than a message is left
pub returns-in-More-clause-said : goal.returns-in-More-clause-said
returns-in-More-clause-said g c =
    so_far_more c.args.allowed.terms c.args.allowed.room _ _ _ _ _ _ _ _ _ c.messages.invariant.0 (ap frame_at (sym c.split_at.ensures.back) ∙ sym c.in-More.ensures.frame)

-- what is left is no message
pub returns-in-Ok-clause-said : goal.returns-in-Ok-clause-said
returns-in-Ok-clause-said g c =
    so_far_bad c.args.allowed.terms c.args.allowed.room _ _ _ _ _ _ _ _ _ _ c.messages.invariant.0 (ap frame_at (sym c.split_at.ensures.back) ∙ sym c.in-Bad.ensures.frame) c.in-Ok.ensures.ok refl

pub returns-in-Err-clause-said : goal.returns-in-Err-clause-said
returns-in-Err-clause-said g c = so_far_cut c.args.allowed.terms c.args.allowed.room _ _ _ _ _ _ _ _ _ _ _ _ c.messages.invariant.0
    (ap (λ xs. record { replies = xs; changes = c.messages.out.changes.items }) c.in-Err.ensures.err) refl refl

-- there was no memory for its answer
pub returns-in-Err-answer-clause-said : goal.returns-in-Err-answer-clause-said
returns-in-Err-answer-clause-said g c = so_far_cut c.args.allowed.terms c.args.allowed.room _ _ _ _ _ _ _ _ _ _ _ _ c.messages.invariant.0
    (put_same _ _ _ _ c.in-Err-answer.ensures.err c.in-Err-answer.ensures.unrecorded) c.in-Err-answer.ensures.entries c.in-Err-answer.ensures.asker

-- the message closes: its content says what it says
pub returns-in-Ok-true-clause-said : goal.returns-in-Ok-true-clause-said
returns-in-Ok-true-clause-said g c =
    let is : frame_at (drop c.messages.read c.args.stream.now) ≡ Whole c.in-Whole.length = ap frame_at (sym c.split_at.ensures.back) ∙ sym c.in-Whole.ensures.frame in
    let says = content_says c.in-Whole.ensures.content c.split_at.ensures.back c.split_at-in-Whole.ensures.front c.split_at-in-Whole-2.ensures.back in
    so_far_closed c.args.allowed.terms c.args.allowed.room _ _ _ _ (put_in c.messages.out) _ _ _ _ _ _ _ c.in-Whole.length c.messages.invariant.0 is
    (gives_content c.args.allowed.terms _ _ _ _ says (rw c.in-Ok-true.field-0-test at c.in-Ok-true.ensures.ok)) (short_content c.args.allowed.terms _ _ _ _ says c.in-Ok-true.ensures.short)

-- or it goes on behind the message
pub messages-preserved : goal.messages-preserved
messages-preserved g c =
    let is : frame_at (drop c.messages.read c.args.stream.now) ≡ Whole c.in-Whole.length = ap frame_at (sym c.split_at.ensures.back) ∙ sym c.in-Whole.ensures.frame in
    let says = content_says c.in-Whole.ensures.content c.split_at.ensures.back c.split_at-in-Whole.ensures.front c.split_at-in-Whole-2.ensures.back in (
      so_far_whole c.args.allowed.terms c.args.allowed.room _ _ _ _ (put_in c.messages.out) _ _ _ _ _ _ _ c.in-Whole.length c.messages.invariant.0 is
          (gives_content c.args.allowed.terms _ _ _ _ says (rw c.in-Ok-false.field-0-test at c.in-Ok-false.ensures.ok)) (short_content c.args.allowed.terms _ _ _ _ says c.in-Ok-false.ensures.short) (c.is_full.ensures.spare c.if-is_full.false),
      λ none. absurd (omega arith),
    )

-- a whole message has an octet and more
pub messages-smaller : goal.messages-smaller
messages-smaller g c =
    let bound = frame_bound c.split_at.result.1.now c.in-Whole.length (sym c.in-Whole.ensures.frame) in
    omega (arith, bound.0, bound.1, ap length c.split_at.ensures.back, length-drop c.messages.read c.args.stream.now)

-- the queue is full
pub returns-then-is_full-clause-said : goal.returns-then-is_full-clause-said
returns-then-is_full-clause-said g c = so_far_full c.args.allowed.terms c.args.allowed.room _ _ _ _ _ _ _ _ _ c.messages.invariant.0 (c.is_full.ensures.full c.if-is_full.true)

-- the first answer was given where the stream has one that has kept room
pub returns-in-More-clause-first : goal.returns-in-More-clause-first
returns-in-More-clause-first g c = λ room kept. gave_some c.messages.read c.messages.answered StaysOpen (λ none. (
    let begun : c.messages.read ≡ 0 = (c.messages.invariant.1 none).0 in
    not_more c.args.stream.now c.split_at.result.1.now kept (c.split_at.ensures.back ∙ ap (λ n. drop n c.args.stream.now) begun) (sym c.in-More.ensures.frame)))

pub returns-in-Ok-clause-first : goal.returns-in-Ok-clause-first
returns-in-Ok-clause-first g c = λ room kept. inl refl

pub returns-in-Err-clause-first : goal.returns-in-Err-clause-first
returns-in-Err-clause-first g c = λ room kept. gave_some c.messages.read c.messages.answered IsCut (λ none. (
    let same : c.messages.out.replies ≡ c.args.out.now.replies = (c.messages.invariant.1 none).1 in
    let fits : vec_len c.messages.out.replies + 38 ≤ vec_capacity c.messages.out.replies = subst (λ v. vec_len v + 38 ≤ vec_capacity v) (sym same) (omega (arith, room)) in
    absurd (true≢false (sym (c.in-Err.ensures.succeeds fits)))))

pub returns-in-Err-answer-clause-first : goal.returns-in-Err-answer-clause-first
returns-in-Err-answer-clause-first g c = λ room kept. gave_some c.messages.read c.messages.answered IsCut (λ none. (
    let begun : c.messages.read ≡ 0 = (c.messages.invariant.1 none).0 in
    let same : c.messages.out.replies ≡ c.args.out.now.replies = (c.messages.invariant.1 none).1 in
    let fits : vec_len c.messages.out.replies + 17 ≤ vec_capacity c.messages.out.replies = subst (λ v. vec_len v + 17 ≤ vec_capacity v) (sym same) (omega (arith, room)) in
    let rest = c.split_at.result.1.now in
    let bind = first_bind c.args.stream.now rest (take c.in-Whole.length rest) c.in-Whole.length kept (c.split_at.ensures.back ∙ ap (λ n. drop n c.args.stream.now) begun) (sym c.in-Whole.ensures.frame) refl in
    let says : message_of (take c.in-Whole.length rest) ≡ message_in c.split_at-in-Whole-2.result.1.now = content_says c.in-Whole.ensures.content refl c.split_at-in-Whole.ensures.front c.split_at-in-Whole-2.ensures.back in
    absurd (true≢false (sym (c.in-Err-answer.ensures.succeeds (subst IsAnonymousBind says bind) fits)))))

pub returns-in-Ok-true-clause-first : goal.returns-in-Ok-true-clause-first
returns-in-Ok-true-clause-first g c = λ room kept. inl refl

pub returns-then-is_full-clause-first : goal.returns-then-is_full-clause-first
returns-then-is_full-clause-first g c = λ room kept. inr (c.is_full.ensures.behind c.if-is_full.true)
