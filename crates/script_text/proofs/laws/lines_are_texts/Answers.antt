use Rattle.script_text.proofs.laws.TextLemmas.{event_of-some, Spells-read}
use Rattle.script_text.proofs.laws.lines_are_texts.Goals as goal

pub returns : goal.returns
returns c = record { exact = λ line event. (event_of-some line event, Spells-read line event) }
