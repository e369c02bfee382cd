-- The type that stands for an unknown one is in the table.
use Rattle.aci_item.proofs.parts.PartLemmas.{object_class}
use Rattle.aci_item.proofs.parts.kind.Goals as goal

pub returns-in-None-clause-fits : goal.returns-in-None-clause-fits
returns-in-None-clause-fits c = object_class
