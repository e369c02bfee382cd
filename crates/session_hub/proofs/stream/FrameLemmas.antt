-- What stands at the front of a stream, by its first octets alone.
use Rattle.std.proofs.Common.{◌≡◌, ◌≤◌, ◌+◌, ◌-◌, min, ℕ, zero, suc, List, [], ◌∷◌, ◌++◌, length, take, drop, refl, sym, ap, ◌∙◌, subst, inl, inr, arith}
use Rattle.std.proofs.Math.Seq.{take-append-add}
use Rattle.std.proofs.lemmas.List.{take_min, take-take, length-take}
use Rattle.session_model.specs.ldap_msg.declared.kinds.Frame.TheVariants.{Whole, Bad}
use Rattle.session_model.specs.ldap_msg.Streams.{IsFrame, IsBroken, IsBrokenLength, IsOuter, frame_at}
use Rattle.session_model.specs.ber_elements.write.Element.{SpellsLength}
use Rattle.session_model.specs.ldap_msg.reading.Messages.{message_in, message_of}
use Rattle.session_model.specs.ldap_msg.reading.Heads.{IsHeaded}
use Rattle.session_model.proofs.ldap_msg_proofs.Theorems.{frame_sound, frame_complete}

-- a length is spelled in at most five octets
short_spelling : (spelled : List ℕ) (len : ℕ) → SpellsLength spelled len → length spelled ≤ 5
short_spelling [] len spells = absurd spells
short_spelling (octet ∷ octets) len spells =
    elim spells [
      | inl one ↦ (let none : length octets ≡ 0 = ap length one.1 in omega arith)
      | inr more ↦ (let few : length octets ≤ 4 = more.1 in omega arith)
    ]

-- the first of the octets behind the tag are enough to see that there are none of a message
broken_length_front : (count : ℕ) (octets : List ℕ) → 5 ≤ count → IsBrokenLength octets → IsBrokenLength (take count octets)
broken_length_front count [] enough broken = absurd broken
broken_length_front zero (octet ∷ octets) enough broken = absurd (omega arith)
broken_length_front (suc count) (octet ∷ octets) enough broken =
    elim broken [
      | inl first ↦ inl first
      | inr much ↦
          (let few : length much.spelled ≤ 5 = short_spelling much.spelled much.len much.spells in
          let more : length much.spelled + (suc count - length much.spelled) ≡ suc count = omega arith in
          inr (record {
            spelled = much.spelled;
            after = take (suc count - length much.spelled) much.after;
            len = much.len;
            joins = ap (take (suc count)) much.joins ∙ ap (λ n. take n (much.spelled ++ much.after)) (sym more) ∙ take-append-add much.spelled much.after (suc count - length much.spelled);
            spells = much.spells;
            above = much.above;
          }))
    ]

broken_front : (count : ℕ) (stream : List ℕ) → 6 ≤ count → IsBroken stream → IsBroken (take count stream)
broken_front count [] enough broken = absurd broken
broken_front zero (tag ∷ octets) enough broken = absurd (omega arith)
broken_front (suc count) (tag ∷ octets) enough broken = elim broken [ inl other ↦ inl other | inr length_of ↦ inr (broken_length_front count octets (omega arith) length_of) ]

-- a stream that begins with the front of no message has one within its first octets, of which there are six or more
pub bad_front : (count : ℕ) (stream : List ℕ) → 6 ≤ count → frame_at stream ≡ Bad → frame_at (take count stream) ≡ Bad
bad_front count stream enough bad =
    sym (frame_complete (take count stream) Bad (broken_front count stream enough (subst (IsFrame stream) bad (frame_sound stream))))

-- and one that begins with a message of no more octets begins so there
pub whole_front : (count most : ℕ) (stream : List ℕ) → count ≤ most → frame_at stream ≡ Whole count → frame_at (take most stream) ≡ Whole count
whole_front count most stream fits whole =
    let is : IsFrame stream (Whole count) = subst (IsFrame stream) whole (frame_sound stream) in
    let there : count ≤ length (take most stream) = omega (arith, is.0, length-take most stream) in
    sym (frame_complete (take most stream) (Whole count) (there, subst IsOuter (sym (take-take count most stream fits)) is.1))

-- octets, and as many of others behind them as there is room for, are the front of both
pub take-joined : (room more : ℕ) (xs ys : List ℕ) → more ≡ min (length ys) (room - length (take room xs)) → take room xs ++ take more ys ≡ take room (xs ++ ys)
take-joined zero more [] ys is = ap (λ n. take n ys) (let none : more ≡ 0 = omega arith in none)
take-joined zero more (x ∷ xs) ys is = ap (λ n. take n ys) (let none : more ≡ 0 = omega arith in none) ∙ take_none ys
  where
    take_none : (ys : List ℕ) → take 0 ys ≡ []
    take_none [] = refl
    take_none (y ∷ ys) = refl
take-joined (suc room) more [] ys is = ap (λ n. take n ys) (let some : more ≡ min (suc room) (length ys) = omega arith in some) ∙ take_min (suc room) ys
take-joined (suc room) more (x ∷ xs) ys is = ap (λ zs. x ∷ zs) (take-joined room more xs ys (omega arith))

-- what a whole message says is what its content says
pub content_says : {stream rest message content : List ℕ} {head count : ℕ} → IsHeaded rest head count → rest ≡ stream → message ≡ take count rest → content ≡ drop head message → message_of (take count stream) ≡ message_in content
content_says {stream} {rest} {message} {content} {head} {count} headed same front behind =
    ap (λ xs. message_of (take count xs)) (sym same) ∙ headed.message ∙ ap message_in (sym (behind ∙ ap (drop head) front))
