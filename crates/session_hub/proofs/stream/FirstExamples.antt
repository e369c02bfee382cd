-- Streams whose first answer has kept room, computed.
use Rattle.std.proofs.Common.{◌∷◌, [], inl, inr, lit≤, refl}
use Rattle.session_model.specs.ber_elements.Heading.{length_at, header_at}
use Rattle.session_model.specs.ber_elements.Integer.{int_at}
use Rattle.session_model.specs.ldap_msg.Streams.{framed, frame_at}
use Rattle.session_model.specs.ldap_msg.reading.Messages.{message_in, message_of}
use Rattle.session_model.specs.ber_layout.element.Pieces.{piece_of, piece_at, tagged_at, number_in, pieces_of, are_pieces}
use Rattle.session_model.specs.ber_layout.components.Components.{any_of, required_of, optional_of, marked_of, each_from, each_of}
use Rattle.session_model.specs.ber_layout.Layouts.{reads_into}
use Rattle.session_hub.specs.FirstAnswers.{HasKeptAnswer, IsAnonymousBind}

-- an anonymous bind, and an octet of what follows it
a_bind : HasKeptAnswer [] (0x30 ∷ 12 ∷ 2 ∷ 1 ∷ 1 ∷ 0x60 ∷ 7 ∷ 2 ∷ 1 ∷ 3 ∷ 4 ∷ 0 ∷ 0x80 ∷ 0 ∷ 0x30 ∷ [])
unfolding frame_at framed message_of message_in reads_into any_of required_of optional_of marked_of each_from each_of tagged_at piece_at piece_of number_in are_pieces pieces_of header_at length_at int_at
a_bind = inr (record { count = 14; whole = refl; bind = record { id = 1; says = refl }; joins = inl refl })

-- one with a list of no controls
a_bind_with_none : IsAnonymousBind (message_of (0x30 ∷ 14 ∷ 2 ∷ 1 ∷ 1 ∷ 0x60 ∷ 7 ∷ 2 ∷ 1 ∷ 3 ∷ 4 ∷ 0 ∷ 0x80 ∷ 0 ∷ 0xa0 ∷ 0 ∷ []))
unfolding message_of message_in reads_into any_of required_of optional_of marked_of each_from each_of tagged_at piece_at piece_of number_in are_pieces pieces_of header_at length_at int_at
a_bind_with_none = record { id = 1; says = refl }

-- a front that no message has
a_broken_stream : HasKeptAnswer [] (0x31 ∷ [])
unfolding frame_at framed
a_broken_stream = inl refl

-- an anonymous bind of which three octets were unread
a_bind_in_two_pieces : HasKeptAnswer (0x30 ∷ 12 ∷ 2 ∷ []) (1 ∷ 1 ∷ 0x60 ∷ 7 ∷ 2 ∷ 1 ∷ 3 ∷ 4 ∷ 0 ∷ 0x80 ∷ 0 ∷ [])
unfolding frame_at framed message_of message_in reads_into any_of required_of optional_of marked_of each_from each_of tagged_at piece_at piece_of number_in are_pieces pieces_of header_at length_at int_at
a_bind_in_two_pieces = inr (record { count = 14; whole = refl; bind = record { id = 1; says = refl }; joins = inr (lit≤ tt) })

-- the front of a message, with a piece behind it that makes it none: the length is indefinite
a_stream_that_breaks : HasKeptAnswer (0x30 ∷ []) (0x80 ∷ [])
unfolding frame_at framed header_at length_at
a_stream_that_breaks = inl refl
