-- The content of a whole message stands behind its header, and says what the message says.
use Rattle.std.proofs.Common.{◌≡◌, ℕ, cond, eqb, List, [], ◌++◌, length, take, drop, Option, Some, None, refl, sym, ap, ◌∙◌, arith}
use Rattle.std.proofs.lemmas.List.{length-append, length-take-le, take-append-drop, append-nil}
use Rattle.std.proofs.Math.Seq.{drop-append_seam}
use Rattle.ber_elements.specs.Heading.{header_at}
use Rattle.ber_elements.specs.write.Element.{Elem}
use Rattle.ber_elements.proofs.Theorems.{element_again}
use Rattle.ber_layout.specs.element.Pieces.{◌>>=◌, tagged_at}
use Rattle.ber_layout.specs.components.Components.{Component, required_of}
use Rattle.ber_layout.proofs.Theorems.{piece_again}
use Rattle.ldap_msg.specs.declared.kinds.Framed.{Framed}
use Rattle.ldap_msg.specs.declared.kinds.Framed.TheVariants as framed
use Rattle.ldap_msg.specs.declared.kinds.Message.{Message}
use Rattle.ldap_msg.specs.Streams.{frame_at}
use Rattle.ldap_msg.specs.reading.Messages.{message_in, message_of}
use Rattle.ldap_msg.specs.reading.Heads.{frame_of, HasContent, head_of, HasHead}
use Rattle.ldap_msg.proofs.framing.StreamLemmas.{frame_bound}
use Rattle.ldap_msg.proofs.framing.OuterLemmas.{frame_outer}

-- one element by itself is found
alone : (content message : List ℕ) → Elem 0x30 content message → tagged_at 0x30 message ≡ Some (record { tag = 0x30; content = content; rest = [] })
unfolding tagged_at
alone content message e =
    ap (tagged_at 0x30) (sym (append-nil message)) ∙ rw (piece_again 0x30 content message [] e) refl

kept : (read : Option Message) → ((read >>= λ (value : Message). Some (record { value = value; rest = [] }))
    >>= λ (found : Component Message). cond (eqb (length found.rest) 0) (Some found.value) None) ≡ read
kept None = refl
kept (Some message) = refl

-- what a message says is what its content says
said_by : (message content : List ℕ) → tagged_at 0x30 message ≡ Some (record { tag = 0x30; content = content; rest = [] }) → message_of message ≡ message_in content
unfolding message_of required_of
said_by message content e = rw e (kept (message_in content))

pub content_by : (bytes : List ℕ) (is : Framed) → frame_of is ≡ frame_at bytes → HasHead bytes is → HasContent bytes is
content_by bytes (framed.Whole head count) frame has =
    let message = take count bytes in
    let outer = frame_outer bytes count (sym frame) in
    let e = outer.element in
    let bound = frame_bound bytes count (sym frame) in
    let joins : message ++ drop count bytes ≡ bytes = take-append-drop count bytes in
    let heads : head ≡ length e.header = sym has ∙ ap (λ (s : List ℕ). head_of (header_at s)) (sym joins) ∙ ap head_of (element_again 0x30 outer.content message (drop count bytes) e) in
    let content : drop head message ≡ outer.content = ap (λ (n : ℕ). drop n message) heads ∙ ap (drop (length e.header)) e.joined ∙ drop-append_seam e.header outer.content in
    let found : tagged_at 0x30 message ≡ Some (record { tag = 0x30; content = drop head message; rest = [] }) =
    alone outer.content message e ∙ ap (λ (s : List ℕ). Some (record { tag = 0x30; content = s; rest = [] })) (sym content) in
    record {
      within = omega (arith, heads, ap length e.joined, length-append e.header outer.content, length-take-le count bytes bound.1);
      there = bound.1;
      element = found;
      message = said_by message (drop head message) found;
    }
content_by bytes framed.More frame has = tt
content_by bytes framed.Bad frame has = tt
