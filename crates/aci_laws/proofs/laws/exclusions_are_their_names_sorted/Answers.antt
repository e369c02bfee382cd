-- The laws are proved of the definitions.
use Rattle.aci_laws.proofs.laws.ExclusionLemmas.{exclusions-sorted, names_sorted-ordered, find-names_sorted}
use Rattle.aci_laws.proofs.laws.exclusions_are_their_names_sorted.Goals as goal

pub returns : goal.returns
returns c = record { exact = exclusions-sorted; ordered = names_sorted-ordered; keeps = find-names_sorted }
