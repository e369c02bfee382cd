-- The octets that are appended are the spelling, by how many octets the messageID has.
use Rattle.std.proofs.Common.{◌≡◌, ◌∷◌, [], ℕ, List, get_or, sym, ap, ◌∙◌, arith}
use Rattle.std.specs.Prelude.{pos}
use Rattle.ber_elements.specs.Integer.{int_octets}
use Rattle.ber_elements.specs.write.Spelling.{length_octets}
use Rattle.ber_layout.specs.Spellings.{element_octets}
use Rattle.ldap_msg.specs.operations.Operations.{response_tag}
use Rattle.ldap_msg.specs.Replies.{response_for}
use Rattle.ldap_msg.proofs.plain.PlainLemmas.{one_octet, two_octets, three_octets, four_octets, plain_is, where_ok}
use Rattle.ldap_msg.proofs.plain.put_plain.Goals as goal

pub returns-then-id-lt128-clause-ok : goal.returns-then-id-lt128-clause-ok
unfolding element_octets length_octets
returns-then-id-lt128-clause-ok c =
    let bytes = c.to_be_bytes.result in
    let number : int_octets (pos c.args.id) ≡ get_or bytes 3 0 ∷ [] =
    one_octet c.args.id c.if-id-lt128.true ∙ ap (λ (l : List ℕ). get_or l 3 0 ∷ []) (sym c.to_be_bytes.ensures) in
    let tagged : c.tag-tag.result ≡ response_tag (response_for c.args.reply.now) = c.tag-tag.ensures.exact ∙ ap response_tag c.response.ensures in
    rw (plain_is c.args.id c.number-code.result c.tag-tag.result c.args.code c.args.reply.now (get_or bytes 3 0 ∷ []) number c.number-code.ensures.exact tagged c.requires.content) (
    where_ok c.extend_from_slice.result _ _ c.args.out.now.items c.extend_from_slice.ensures.items
    )

pub returns-then-id-lt32768-clause-ok : goal.returns-then-id-lt32768-clause-ok
unfolding element_octets length_octets
returns-then-id-lt32768-clause-ok c =
    let bytes = c.to_be_bytes.result in
    let number : int_octets (pos c.args.id) ≡ get_or bytes 2 0 ∷ get_or bytes 3 0 ∷ [] =
    two_octets c.args.id c.if-id-lt128.false c.if-id-lt32768.true ∙ ap (λ (l : List ℕ). get_or l 2 0 ∷ get_or l 3 0 ∷ []) (sym c.to_be_bytes.ensures) in
    let tagged : c.tag-tag.result ≡ response_tag (response_for c.args.reply.now) = c.tag-tag.ensures.exact ∙ ap response_tag c.response.ensures in
    rw (plain_is c.args.id c.number-code.result c.tag-tag.result c.args.code c.args.reply.now (get_or bytes 2 0 ∷ get_or bytes 3 0 ∷ []) number c.number-code.ensures.exact tagged c.requires.content) (
    where_ok c.extend_from_slice-then-id-lt32768.result _ _ c.args.out.now.items c.extend_from_slice-then-id-lt32768.ensures.items
    )

pub returns-then-id-lt8388608-clause-ok : goal.returns-then-id-lt8388608-clause-ok
unfolding element_octets length_octets
returns-then-id-lt8388608-clause-ok c =
    let bytes = c.to_be_bytes.result in
    let number : int_octets (pos c.args.id) ≡ get_or bytes 1 0 ∷ get_or bytes 2 0 ∷ get_or bytes 3 0 ∷ [] =
    three_octets c.args.id c.if-id-lt32768.false c.if-id-lt8388608.true ∙ ap (λ (l : List ℕ). get_or l 1 0 ∷ get_or l 2 0 ∷ get_or l 3 0 ∷ []) (sym c.to_be_bytes.ensures) in
    let tagged : c.tag-tag.result ≡ response_tag (response_for c.args.reply.now) = c.tag-tag.ensures.exact ∙ ap response_tag c.response.ensures in
    rw (plain_is c.args.id c.number-code.result c.tag-tag.result c.args.code c.args.reply.now (get_or bytes 1 0 ∷ get_or bytes 2 0 ∷ get_or bytes 3 0 ∷ []) number c.number-code.ensures.exact tagged c.requires.content) (
    where_ok c.extend_from_slice-then-id-lt8388608.result _ _ c.args.out.now.items c.extend_from_slice-then-id-lt8388608.ensures.items
    )

pub returns-clause-ok : goal.returns-clause-ok
unfolding element_octets length_octets
returns-clause-ok c =
    let bytes = c.to_be_bytes.result in
    let number : int_octets (pos c.args.id) ≡ get_or bytes 0 0 ∷ get_or bytes 1 0 ∷ get_or bytes 2 0 ∷ get_or bytes 3 0 ∷ [] =
    four_octets c.args.id c.if-id-lt8388608.false (omega (arith, c.requires.id)) ∙ ap (λ (l : List ℕ). get_or l 0 0 ∷ get_or l 1 0 ∷ get_or l 2 0 ∷ get_or l 3 0 ∷ []) (sym c.to_be_bytes.ensures) in
    let tagged : c.tag-tag.result ≡ response_tag (response_for c.args.reply.now) = c.tag-tag.ensures.exact ∙ ap response_tag c.response.ensures in
    rw (plain_is c.args.id c.number-code.result c.tag-tag.result c.args.code c.args.reply.now (get_or bytes 0 0 ∷ get_or bytes 1 0 ∷ get_or bytes 2 0 ∷ get_or bytes 3 0 ∷ []) number c.number-code.ensures.exact tagged c.requires.content) (
    where_ok c.extend_from_slice-2.result _ _ c.args.out.now.items c.extend_from_slice-2.ensures.items
    )
