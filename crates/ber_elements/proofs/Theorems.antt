-- What crates above may cite.

-- the heading that is computed is the one that the octets have, and no other is
pub use Rattle.ber_elements.proofs.laws.HeadingLemmas.{heading_sound, heading_complete, header_again, unreadable_again}
-- an element's heading is found, whatever follows it; a found heading stays; no element is the front of another
pub use Rattle.ber_elements.proofs.laws.ElementLemmas.{element_again, heading_begins, heading_again, header_bound, heading_bound, element_there, no_front}
-- what is written is a spelling, the shortest, and is read again
pub use Rattle.ber_elements.proofs.laws.SpellingLemmas.{length_spells, header_spells, written_header}
pub use Rattle.ber_elements.proofs.laws.WrittenIntegers.{int_spells, written_integer}
-- the integer that is computed is the one that the content stands for
pub use Rattle.ber_elements.proofs.integer.IntegerLemmas.{int_sound, int_complete, natural_short}
-- the written length is the shortest, and an integer has one content
pub use Rattle.ber_elements.proofs.laws.OneForm.{shortest_length}
pub use Rattle.ber_elements.proofs.laws.OneInteger.{one_form}
