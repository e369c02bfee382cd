-- Layouts on known cases (RFC 4511 4.5.1.7.2 and 4.1.11 have such contents).
use Rattle.std.proofs.Common.{◌≡◌, true, false, [], ◌∷◌, Some, None, refl}
use Rattle.ber_elements.specs.Heading.{length_at, header_at}
use Rattle.ber_elements.specs.write.Spelling.{length_octets}
use Rattle.ber_layout.specs.element.Pieces.{piece_of, piece_at, tagged_at}
use Rattle.ber_layout.specs.components.Components.{required_of, marked_of, each_from, each_of}
use Rattle.ber_layout.specs.Spellings.{element_octets}
use Rattle.ber_layout.specs.Layouts.{reads_into, reads, writes, is_clear}
use Rattle.ber_layout.specs.Layouts.Layout.{AnyOctets, End, Then, Maybe, Marked, Each}

-- tags differ, so it can be read in one way; an optional element and a list of one tag can't
noted_clear : is_clear (Then 4 AnyOctets (Marked 1 (Maybe 0x80 AnyOctets End))) ≡ true
noted_clear = refl

list_unclear : is_clear (Maybe 4 AnyOctets (Each 4 AnyOctets End)) ≡ false
list_unclear = refl

-- an absent mark is FALSE, and FALSE is written by absence
unmarked : reads (Then 4 AnyOctets (Marked 1 End)) (4 ∷ 1 ∷ 97 ∷ []) ≡ Some (97 ∷ [], (false, tt))
unfolding reads_into required_of marked_of tagged_at piece_at piece_of header_at length_at
unmarked = refl

marked_false : reads (Then 4 AnyOctets (Marked 1 End)) (4 ∷ 1 ∷ 97 ∷ 1 ∷ 1 ∷ 0 ∷ []) ≡ Some (97 ∷ [], (false, tt))
unfolding reads_into required_of marked_of tagged_at piece_at piece_of header_at length_at
marked_false = refl

written_false : writes (Then 4 AnyOctets (Marked 1 End)) (97 ∷ [], (false, tt)) ≡ 4 ∷ 1 ∷ 97 ∷ []
unfolding element_octets length_octets
written_false = refl

-- a list of two, and one whose last element is cut
two : reads (Each 4 AnyOctets End) (4 ∷ 1 ∷ 97 ∷ 4 ∷ 0 ∷ []) ≡ Some ((97 ∷ []) ∷ [] ∷ [], tt)
unfolding reads_into each_of each_from required_of tagged_at piece_at piece_of header_at length_at
two = refl

cut : reads (Each 4 AnyOctets End) (4 ∷ 1 ∷ 97 ∷ 4 ∷ 2 ∷ 98 ∷ []) ≡ None
unfolding reads_into each_of each_from required_of tagged_at piece_at piece_of header_at length_at
cut = refl
