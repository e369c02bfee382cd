-- A message that is read is the one that the octets say, and the one that they say is read.
use Rattle.std.proofs.Common.{◌≡◌, ℕ, cond, eqb, List, [], length, Option, Some, None, refl, sym, ap, subst, ◌∙◌}
use Rattle.std.proofs.lemmas.Bool.{eqb-true}
use Rattle.std.proofs.lemmas.List.{nil_from_length}
use Rattle.std.specs.Prelude.{Result, Ok, Err, IfOk, MatchResult}
use Rattle.std.proofs.lemmas.Option.{same_Some}
use Rattle.ber_layout.specs.declared.kinds.ReadFault.{ReadFault}
use Rattle.ber_layout.specs.declared.kinds.ReadFault.TheVariants.{BadMessage, NoMemory}
use Rattle.ber_layout.specs.element.Pieces.{◌>>=◌}
use Rattle.ber_layout.specs.components.Components.{Component, required_of}
use Rattle.ber_layout.specs.Layouts.{Value, reads}
use Rattle.ber_layout.specs.element.Reading.{Gives}
use Rattle.ber_layout.proofs.Theorems.{bind_some, guard_passed, reads_sound, reads_complete, required_sound, required_again, follows}
use Rattle.ldap_msg.specs.declared.kinds.Request.{Request}
use Rattle.ldap_msg.specs.declared.kinds.Message.{Message}
use Rattle.ldap_msg.specs.declared.kinds.Control.{Control}
use Rattle.ldap_msg.specs.declared.operations.Operation.{Operation}
use Rattle.ldap_msg.specs.operations.Operations.{request_tag, operation_of}
use Rattle.ldap_msg.specs.Controls.{controls_from}
use Rattle.ldap_msg.specs.reading.Contents.{operation_for, request_in, request_of}
use Rattle.ldap_msg.specs.reading.Messages.{message_layout, id_part, tag_part, content_part, controls_part, SaysIn, Says, message_from, message_in, message_of}
use Rattle.ldap_msg.proofs.reading.ContentLemmas.{request_sound, request_again, operation_tag, operation_again}

-- the content says the message that is read of it
pub in_sound : (content : List ℕ) (message : Message) → message_in content ≡ Some message → SaysIn message content
unfolding message_in
in_sound content message e =
    let a = bind_some (reads message_layout content) message_from message e in
    let made : Request → Message = λ (r : Request). record { id = id_part a.0; request = r; controls = controls_from (controls_part a.0) } in
    let b = bind_some (request_of (tag_part a.0, content_part a.0)) (λ (r : Request). Some (made r)) message a.2 in
    let c = bind_some (operation_of (tag_part a.0)) (λ (o : Operation). request_in o (content_part a.0)) b.0 b.1 in
    let sounds = request_sound c.0 (content_part a.0) b.0 c.2 in
    let says : SaysIn (made b.0) content = record {
      parts = a.0;
      says = reads_sound message_layout a.0 content a.1;
      id = refl;
      tag = operation_tag (tag_part a.0) c.0 c.1 ∙ ap request_tag (sym sounds.operation);
      request = sounds.says;
      controls = refl;
    } in
    subst (λ (m : Message). SaysIn m content) (same_Some (made b.0) message b.2) says

with_fields : (message : Message) (id : ℕ) (controls : List Control) → id ≡ message.id → controls ≡ message.controls
    → Some (record { id = id; request = message.request; controls = controls }) ≡ Some message
with_fields message id controls same_id same_controls =
    let made : ℕ → List Control → Message = λ (i : ℕ) (c : List Control). record { id = i; request = message.request; controls = c } in
    ap (λ (i : ℕ). Some (made i controls)) same_id ∙ ap (λ (c : List Control). Some (made message.id c)) same_controls

-- the message that a content says is read of it
pub in_again : (message : Message) (content : List ℕ) → SaysIn message content → message_in content ≡ Some message
unfolding message_in
in_again message content says =
    let parts = says.parts in
    let made : Request → Message = λ (r : Request). record { id = id_part parts; request = r; controls = controls_from (controls_part parts) } in
    let asked : operation_of (tag_part parts) ≡ Some (operation_for message.request) = ap operation_of says.tag ∙ operation_again (operation_for message.request) in
    ap (λ (o : Option (Value message_layout)). o >>= message_from) (reads_complete message_layout parts content refl says.says)
    ∙ ap (λ (o : Option Operation). (o >>= λ (p : Operation). request_in p (content_part parts)) >>= λ (r : Request). Some (made r)) asked
    ∙ ap (λ (o : Option Request). o >>= λ (r : Request). Some (made r)) (request_again message.request (content_part parts) says.request)
    ∙ with_fields message (id_part parts) (controls_from (controls_part parts)) says.id says.controls

-- a message that is read is the one that the octets say
pub message_sound : (bytes : List ℕ) (message : Message) → message_of bytes ≡ Some message → Says message bytes
unfolding message_of
message_sound bytes message e =
    let a = bind_some (required_of 0x30 message_in bytes) (λ (f : Component Message). cond (eqb (length f.rest) 0) (Some f.value) None) message e in
    let g = guard_passed (eqb (length a.0.rest) 0) (Some a.0.value) message a.2 in
    let none : a.0.rest ≡ [] = nil_from_length a.0.rest (eqb-true (length a.0.rest) 0 g.0) in
    let stands = required_sound 0x30 message_in SaysIn in_sound bytes a.0 a.1 in
    subst (λ (m : Message). Says m bytes) (same_Some a.0.value message g.1) (follows 0x30 SaysIn (λ rest. rest ≡ []) bytes a.0 stands none)

-- the message that the octets say is read
pub message_complete : (bytes : List ℕ) (message : Message) → Says message bytes → message_of bytes ≡ Some message
unfolding message_of
message_complete bytes message says =
    ap (λ (s : List ℕ). required_of 0x30 message_in s >>= λ (f : Component Message). cond (eqb (length f.rest) 0) (Some f.value) None) says.joins
    ∙ ap (λ (o : Option (Component Message)). o >>= λ (f : Component Message). cond (eqb (length f.rest) 0) (Some f.value) None)
    (required_again 0x30 message_in message says.content says.front says.rest says.element (in_again message says.content says.inner))
    ∙ ap (λ (s : List ℕ). cond (eqb (length s) 0) (Some message) None) says.next

-- ---- what reading gives

pub found_by : (bytes : List ℕ) (r : Result Message ReadFault) → Gives (λ message. message) r (message_of bytes) → IfOk r (λ message. Says message bytes)
found_by bytes (Ok message) gives = message_sound bytes message gives
found_by bytes (Err fault) gives = tt

pub only_by : (bytes : List ℕ) (r : Result Message ReadFault) (other : Message) → Says other bytes → Gives (λ message. message) r (message_of bytes)
    → MatchResult r (λ message. message ≡ other) (λ fault. fault ≡ NoMemory)
only_by bytes (Ok message) other says gives = let complete = message_complete bytes other says in cc
only_by bytes (Err BadMessage) other says gives = let complete = message_complete bytes other says in absurd cc
only_by bytes (Err NoMemory) other says gives = refl
