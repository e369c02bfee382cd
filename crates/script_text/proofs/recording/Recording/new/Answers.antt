use Rattle.std.proofs.Common.{rules}
use Rattle.script_text.specs.Recording.{events_from}
use Rattle.script_text.proofs.recording.Recording.new.Goals as goal

pub returns : goal.returns
unfolding events_from
returns c = search rules
