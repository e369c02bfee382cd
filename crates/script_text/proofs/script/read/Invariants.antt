use Rattle.std.proofs.Common.{◌≡◌, ◌+◌, ◌≤◌, length}
use Rattle.std.specs.Str.Lines.{lines}
use Rattle.script_text.specs.script.ScriptReading.{after_lines, script_of}
use Rattle.script_text.proofs.script.read.Given as goal

-- the events so far and the lines that are left give what the text gives, and each line took an octet
abbrev pub invariant-loop-rest : goal.invariant-loop-rest
invariant-loop-rest l = record { reads : after_lines l.reading (l.number + 1) (lines l.rest) ≡ script_of l.text; counted : l.number + length l.rest ≤ length l.text }

abbrev pub decreases-loop-rest : goal.decreases-loop-rest
decreases-loop-rest l = length l.rest
