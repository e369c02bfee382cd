-- A clone of a key has its octets.
use Rattle.std.specs.List.{each_same}
use Rattle.dir_tree.proofs.paths.CopyLemmas.{same_places}
use Rattle.dir_tree.proofs.paths.copy_places.Goals as goal

pub returns : goal.returns
returns c = record { ok = same_places (λ key. key.items) _ _ (λ one other e. each_same _ _ e.0) (λ one other e. e) _ _ c.in_ok-copy.ensures.cases }
