-- The laws are proved of the definitions.
use Rattle.aci_laws.proofs.laws.KeptLemmas.{sorted-ordered, find-sorted}
use Rattle.aci_laws.proofs.laws.a_sorted_set_keeps_its_members.Goals as goal

pub returns : goal.returns
returns g c = record { ordered = sorted-ordered; keeps = find-sorted }
