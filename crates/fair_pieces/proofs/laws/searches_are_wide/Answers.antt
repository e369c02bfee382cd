use Rattle.fair_pieces.proofs.laws.SearchLemmas.{search_wide, wide_search}
use Rattle.fair_pieces.proofs.laws.searches_are_wide.Goals as goal

pub returns : goal.returns
returns c = record { wide = search_wide; only = wide_search }
