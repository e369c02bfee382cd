use Rattle.command_words.proofs.address.Addresses.{after_loopback-stripped}
use Rattle.command_words.proofs.address.after_loopback.Goals as goal

pub returns : goal.returns
returns c = after_loopback-stripped _ _ c.strip_prefix.ensures.cases
