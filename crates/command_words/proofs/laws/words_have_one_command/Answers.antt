use Rattle.command_words.proofs.Theorems.{IsCommand-unique}
use Rattle.command_words.proofs.laws.words_have_one_command.Goals as goal

pub returns : goal.returns
returns c = IsCommand-unique
