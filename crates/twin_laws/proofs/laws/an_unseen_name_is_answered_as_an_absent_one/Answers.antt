-- The law is proved of the definitions.
use Rattle.twin_laws.proofs.laws.TwinLaws.{replies_at-unseen, hidden-unseen}
use Rattle.twin_laws.proofs.laws.an_unseen_name_is_answered_as_an_absent_one.Goals as goal

pub returns : goal.returns
returns c = record { search = replies_at-unseen; hidden = hidden-unseen }
