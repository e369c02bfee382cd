use Rattle.std.proofs.Common.{[], refl, inl}
use Rattle.fair_pieces.proofs.laws.FairLemmas.{fair, all_fair}
use Rattle.fair_pieces.proofs.laws.pieces_are_fair.Goals as goal

pub returns : goal.returns
returns c = record { one = λ heard octets left w. fair heard octets left w; all = λ most octets. all_fair most [] 0 octets (inl (refl, refl)) }
