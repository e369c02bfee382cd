use Rattle.std.proofs.Common.{◌∙◌, ap, position}
use Rattle.mio_link.specs.Numbers.{stands}
use Rattle.mio_link.proofs.connections.NumberLemmas.{finds, finds-none}
use Rattle.mio_link.proofs.connections.Connections.place_of.Goals as goal

-- what the search over all places says
pub returns-clause-found : goal.returns-clause-found
returns-clause-found c = finds c.args.number c.args.self.now.places.items c.place_in.result (c.place_in.ensures.exact ∙ ap (position (stands c.args.number)) c.deref-2.ensures.value)

pub returns-clause-none : goal.returns-clause-none
returns-clause-none c = finds-none c.args.number c.args.self.now.places.items c.place_in.result (c.place_in.ensures.exact ∙ ap (position (stands c.args.number)) c.deref-2.ensures.value)
