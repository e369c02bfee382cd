-- The first answer to a stream for which there is the kept room.
use Rattle.std.proofs.Common.{◌≡◌, ◌<◌, ℕ, zero, suc, List, [], take, refl, sym, ap, ◌∙◌, subst, inl, inr, arith}
use Rattle.session_model.specs.ldap_msg.declared.kinds.Frame.TheVariants.{Whole, More, Bad}
use Rattle.session_model.specs.ldap_msg.Streams.{frame_at}
use Rattle.session_model.specs.ldap_msg.reading.Messages.{message_of}
use Rattle.session_hub.specs.declared.spoken.Spoken.{Spoken}
use Rattle.session_hub.specs.declared.spoken.SpeechEnd.{SpeechEnd}
use Rattle.session_hub.specs.declared.spoken.SpeechEnd.TheVariants.{StaysOpen, Closes, IsCut, IsFull}
use Rattle.session_hub.specs.Answers.{GaveFirst, MayCut, cut_at}
use Rattle.session_hub.specs.FirstAnswers.{IsAnonymousBind, HasKeptAnswer, IsBehindFirst}
use Rattle.session_hub.specs.connection.Connections.{KeepsRest}

-- where some message was answered, the first was
pub gave_some : (read answered : ℕ) (end : SpeechEnd) → (answered ≡ 0 → ⊥) → GaveFirst (record { read = read; answered = answered; end = end })
gave_some read answered end some = inr (positive answered some)
  where
    positive : (n : ℕ) → (n ≡ 0 → ⊥) → 0 < n
    positive zero not_zero = absurd (not_zero refl)
    positive (suc n) not_zero = omega arith

-- a stream with such an answer is more than the front of a message
pub not_more : (stream rest : List ℕ) → HasKeptAnswer [] stream → rest ≡ stream → frame_at rest ≡ More → ⊥
not_more stream rest kept same more =
    elim kept [
      | inl bad ↦ (let e : Bad ≡ More = sym bad ∙ ap frame_at (sym same) ∙ more in cc)
      | inr begins ↦ (let e : Whole begins.count ≡ More = sym begins.whole ∙ ap frame_at (sym same) ∙ more in cc)
    ]

-- its first message, where there is one, is an anonymous bind
pub first_bind : (stream rest message : List ℕ) (count : ℕ) → HasKeptAnswer [] stream → rest ≡ stream → frame_at rest ≡ Whole count → message ≡ take count rest → IsAnonymousBind (message_of message)
first_bind stream rest message count kept same whole is =
    elim kept [
      | inl bad ↦ absurd (let e : Bad ≡ Whole count = sym bad ∙ ap frame_at (sym same) ∙ whole in cc)
      | inr begins ↦
          let e : Whole begins.count ≡ Whole count = sym begins.whole ∙ ap frame_at (sym same) ∙ whole in
          let counts : begins.count ≡ count = cc in
          subst (λ octets. IsAnonymousBind (message_of octets)) (ap (λ n. take n stream) counts ∙ ap (take count) (sym same) ∙ sym is) begins.bind
    ]

-- where an end is made a cut, the first answer stays given
pub gave_kept : (spoken : Spoken) (end : SpeechEnd) → MayCut spoken.end end → GaveFirst spoken → GaveFirst (record { read = spoken.read; answered = spoken.answered; end = end })
gave_kept spoken end may gave =
    elim gave [
      | inl closes ↦
          elim may [
            | inl same ↦ inl (same ∙ closes)
            | inr cut ↦ absurd (let e : Closes ≡ StaysOpen = sym closes ∙ cut.0 in cc)
          ]
      | inr some ↦ inr some
    ]

-- and a cut is behind it
pub behind_first : (spoken : Spoken) (unread rest : List ℕ) (end : SpeechEnd) → GaveFirst spoken → KeepsRest spoken.end unread rest end → IsBehindFirst (cut_at end spoken.answered)
behind_first spoken unread rest StaysOpen gave keeps = tt
behind_first spoken unread rest Closes gave keeps = tt
behind_first spoken unread rest IsFull gave keeps =
    elim gave [
      | inl closes ↦ absurd (let e : Closes ≡ IsFull = sym closes ∙ keeps.0 in cc)
      | inr some ↦ some
    ]
behind_first spoken unread rest IsCut gave keeps =
    elim gave [
      | inl closes ↦
          elim keeps.0 [
            | inl open_ ↦ absurd (let e : Closes ≡ StaysOpen = sym closes ∙ open_ in cc)
            | inr cut ↦ absurd (let e : Closes ≡ IsCut = sym closes ∙ cut in cc)
          ]
      | inr some ↦ some
    ]
