-- A reply's message that is read is the one that the octets say, and the one that they say is read.
use Rattle.std.proofs.Common.{◌≡◌, ℕ, cond, eqb, List, [], length, Option, Some, None, refl, sym, ap, subst, ◌∙◌}
use Rattle.std.proofs.lemmas.Bool.{eqb-true}
use Rattle.std.proofs.lemmas.List.{nil_from_length}
use Rattle.std.specs.Prelude.{Result, Ok, Err, IfOk, MatchResult}
use Rattle.std.proofs.lemmas.Option.{same_Some}
use Rattle.ber_layout.specs.declared.kinds.ReadFault.{ReadFault}
use Rattle.ber_layout.specs.declared.kinds.ReadFault.TheVariants.{BadMessage, NoMemory}
use Rattle.ber_layout.specs.element.Pieces.{◌>>=◌}
use Rattle.ber_layout.specs.components.Components.{Component, required_of}
use Rattle.ber_layout.specs.Layouts.{Value, reads}
use Rattle.ber_layout.specs.element.Reading.{Gives}
use Rattle.ber_layout.proofs.Theorems.{bind_some, guard_passed, reads_sound, reads_complete, required_sound, required_again, follows}
use Rattle.ldap_msg.specs.declared.kinds.Reply.{Reply}
use Rattle.ldap_msg.specs.declared.operations.Response.{Response}
use Rattle.ldap_msg.specs.operations.Operations.{response_tag, response_of}
use Rattle.ldap_msg.specs.reading.Messages.{id_part, tag_part, content_part}
use Rattle.ldap_msg.specs.Replies.{reply_layout, response_for, SaysIn, Replies, reply_in, reply_at, answer_from, answer_in, reply_of}
use Rattle.ldap_msg.proofs.replies.ReplyLemmas.{reply_sound, reply_again, tag_sound, tag_again}

-- the content says the messageID and the reply that are read of it
pub in_sound : (content : List ℕ) (answer : ℕ × Reply) → answer_in content ≡ Some answer → SaysIn answer content
unfolding answer_in
in_sound content answer e =
    let a = bind_some (reads reply_layout content) answer_from answer e in
    let made : Reply → ℕ × Reply = λ (r : Reply). (id_part a.0, r) in
    let b = bind_some (reply_at (tag_part a.0, content_part a.0)) (λ (r : Reply). Some (made r)) answer a.2 in
    let c = bind_some (response_of (tag_part a.0)) (λ (o : Response). reply_in o (content_part a.0)) b.0 b.1 in
    let sounds = reply_sound c.0 (content_part a.0) b.0 c.2 in
    let says : SaysIn (made b.0) content = record {
      parts = a.0;
      says = reads_sound reply_layout a.0 content a.1;
      id = refl;
      tag = tag_sound (tag_part a.0) c.0 c.1 ∙ ap response_tag (sym sounds.response);
      reply = sounds.says;
    } in
    subst (λ (m : ℕ × Reply). SaysIn m content) (same_Some (made b.0) answer b.2) says

-- the messageID and the reply that a content says are read of it
pub in_again : (answer : ℕ × Reply) (content : List ℕ) → SaysIn answer content → answer_in content ≡ Some answer
unfolding answer_in
in_again answer content says =
    let parts = says.parts in
    let made : Reply → ℕ × Reply = λ (r : Reply). (id_part parts, r) in
    let kind : response_of (tag_part parts) ≡ Some (response_for answer.1) = ap response_of says.tag ∙ tag_again (response_for answer.1) in
    ap (λ (o : Option (Value reply_layout)). o >>= answer_from) (reads_complete reply_layout parts content refl says.says)
    ∙ ap (λ (o : Option Response). (o >>= λ (p : Response). reply_in p (content_part parts)) >>= λ (r : Reply). Some (made r)) kind
    ∙ ap (λ (o : Option Reply). o >>= λ (r : Reply). Some (made r)) (reply_again answer.1 (content_part parts) says.reply)
    ∙ ap (λ (id : ℕ). Some (id, answer.1)) says.id

-- a reply that is read is the one that the octets say
pub reply_is_sound : (bytes : List ℕ) (answer : ℕ × Reply) → reply_of bytes ≡ Some answer → Replies answer.0 answer.1 bytes
unfolding reply_of
reply_is_sound bytes answer e =
    let a = bind_some (required_of 0x30 answer_in bytes) (λ (f : Component (ℕ × Reply)). cond (eqb (length f.rest) 0) (Some f.value) None) answer e in
    let g = guard_passed (eqb (length a.0.rest) 0) (Some a.0.value) answer a.2 in
    let none : a.0.rest ≡ [] = nil_from_length a.0.rest (eqb-true (length a.0.rest) 0 g.0) in
    let stands = required_sound 0x30 answer_in SaysIn in_sound bytes a.0 a.1 in
    subst (λ (m : ℕ × Reply). Replies m.0 m.1 bytes) (same_Some a.0.value answer g.1) (follows 0x30 SaysIn (λ rest. rest ≡ []) bytes a.0 stands none)

-- the reply that the octets say is read
pub reply_is_complete : (bytes : List ℕ) (id : ℕ) (answer : Reply) → Replies id answer bytes → reply_of bytes ≡ Some (id, answer)
unfolding reply_of
reply_is_complete bytes id answer says =
    ap (λ (s : List ℕ). required_of 0x30 answer_in s >>= λ (f : Component (ℕ × Reply)). cond (eqb (length f.rest) 0) (Some f.value) None) says.joins
    ∙ ap (λ (o : Option (Component (ℕ × Reply))). o >>= λ (f : Component (ℕ × Reply)). cond (eqb (length f.rest) 0) (Some f.value) None)
    (required_again 0x30 answer_in (id, answer) says.content says.front says.rest says.element (in_again (id, answer) says.content says.inner))
    ∙ ap (λ (s : List ℕ). cond (eqb (length s) 0) (Some (id, answer)) None) says.next

-- ---- what reading gives

pub found_by : (bytes : List ℕ) (r : Result (ℕ × Reply) ReadFault) → Gives (λ (found : ℕ × Reply). (found.0, found.1)) r (reply_of bytes)
    → IfOk r (λ found. Replies found.0 found.1 bytes)
found_by bytes (Ok answer) gives = reply_is_sound bytes answer gives
found_by bytes (Err fault) gives = tt

pub only_by : (bytes : List ℕ) (r : Result (ℕ × Reply) ReadFault) (id : ℕ) (other : Reply) → Replies id other bytes
    → Gives (λ (found : ℕ × Reply). (found.0, found.1)) r (reply_of bytes)
    → MatchResult r (λ found. (found.0 ≡ id) × (found.1 ≡ other)) (λ fault. fault ≡ NoMemory)
only_by bytes (Ok answer) id other says gives =
    let same : answer ≡ (id, other) = same_Some answer (id, other) (sym gives ∙ reply_is_complete bytes id other says) in
    (ap (λ (a : ℕ × Reply). a.0) same, ap (λ (a : ℕ × Reply). a.1) same)
only_by bytes (Err BadMessage) id other says gives = let complete = reply_is_complete bytes id other says in absurd cc
only_by bytes (Err NoMemory) id other says gives = refl
