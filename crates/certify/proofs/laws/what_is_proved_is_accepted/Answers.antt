-- The law is proved of the definitions.
use Rattle.certify.proofs.laws.QuestionLemmas.{AreSaid-question_of}
use Rattle.certify.proofs.laws.AcceptedLaw.{verified-proved}
use Rattle.certify.proofs.laws.what_is_proved_is_accepted.Goals as goal

pub returns : goal.returns
returns c = record { exact = verified-proved; said = AreSaid-question_of }
