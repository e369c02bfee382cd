use Rattle.std.proofs.Common.{◌∙◌, ap, position, is_none}
use Rattle.mio_link.proofs.connections.NumberLemmas.{finds-free}
use Rattle.mio_link.proofs.connections.Connections.free.Goals as goal

-- what the search over all places says
pub returns : goal.returns
returns c = finds-free c.args.self.now.places.items c.free_in.result (c.free_in.ensures.exact ∙ ap (position is_none) c.deref.ensures.value)
