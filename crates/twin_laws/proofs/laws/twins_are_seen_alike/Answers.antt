-- The laws are proved of the definitions.
use Rattle.twin_laws.proofs.laws.TwinLaws.{view_of-twins, selected-twins, matched_name-twins, hidden-twins, in_force-twins, named_in-twins}
use Rattle.twin_laws.proofs.laws.twins_are_seen_alike.Goals as goal

pub returns : goal.returns
returns c = record {
  view = view_of-twins;
  in_force = in_force-twins;
  named = named_in-twins;
  selected = selected-twins;
  matched = matched_name-twins;
  hidden = hidden-twins;
}
