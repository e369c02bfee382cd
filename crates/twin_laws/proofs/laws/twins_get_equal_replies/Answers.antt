-- The law is proved of the definitions.
use Rattle.twin_laws.proofs.laws.TwinLaws.{search_replies-twins, compare_result-twins}
use Rattle.twin_laws.proofs.laws.twins_get_equal_replies.Goals as goal

pub returns : goal.returns
returns c = record { search = search_replies-twins; compare = compare_result-twins }
