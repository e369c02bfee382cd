-- What crates above may cite.

-- what is read of a layout is what the octets say, and what is made of it
pub use Rattle.ber_layout.proofs.laws.LayoutLemmas.{Sound, sound_into, complete_into, reads_sound, reads_complete}
-- what is written says the value, and is read again
pub use Rattle.ber_layout.proofs.laws.SpellingLemmas.{element_spells, writes_says, written_into, reads_again}
-- a step of a reading that gave something
pub use Rattle.ber_layout.proofs.components.StepLemmas.{bind_some, guard_some, guard_passed}
-- an element is found, whatever follows it, and one that was found stands there
pub use Rattle.ber_layout.proofs.element.PieceLemmas.{piece_sound, piece_again}
-- an element with a tag that is read stands there, and one that stands there is read
pub use Rattle.ber_layout.proofs.components.ComponentLemmas.{Stands, follows, required_sound, required_again}
-- a value in its ranges fits where all that is written of it is short
pub use Rattle.ber_layout.proofs.laws.RangeLemmas.{fits_within, element_longer, content_short, front_short, back_short}
-- an element at the front that is read stands there, and one that stands there is read
pub use Rattle.ber_layout.proofs.components.ComponentLemmas.{any_sound, any_again}
-- a fault of a part is one of the whole
pub use Rattle.ber_layout.proofs.components.FaultLemmas.{fails_so}
