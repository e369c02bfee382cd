-- The law is proved of the definitions.
use Rattle.response_laws.proofs.laws.ResponseLemmas.{message-answered, bytes-answered}
use Rattle.response_laws.proofs.laws.each_request_has_one_response.Goals as goal

pub returns : goal.returns
returns c = record { read = message-answered; served = bytes-answered }
