use Rattle.std.proofs.Common.{◌<◌, ◌≤◌, ◌++◌, ◌∙◌, ap, drop, length, arith}
use Rattle.script_text.specs.Recording.{without_first}
use Rattle.wire_io.specs.Playing.{without_front}
use Rattle.wire_io.proofs.script.PlayingLemmas.{passed-listed, passed-recorded}
use Rattle.wire_io.proofs.script.Script.pass_first.Goals as goal
use Rattle.wire_io.proofs.script.Script.pass_first.Goals.{then-self-len, else-self-len}

-- the first event stood in the list or in the recording
pub returns : goal.returns
returns c = record {
  exact = elim c.if-self-len.branch [
    | then-self-len w ↦
        let within : c.self.inside.place < length c.self.inside.listed.items = omega (arith, w.if-self-len.true, c.len.ensures) in
        rw w.self-inside-is
        (passed-listed c.self.inside.place c.self.inside.given c.self.inside.listed.items c.self.inside.recorded within ∙ ap without_first c.self.view_is)
    | else-self-len w ↦
        let past : length c.self.inside.listed.items ≤ c.self.inside.place = omega (arith, w.if-self-len.false, c.len.ensures) in
        rw w.self-inside-is
        (ap (λ recorded. without_front 0 (drop c.self.inside.place c.self.inside.listed.items ++ recorded)) w.pass.ensures.exact
        ∙ passed-recorded c.self.inside.place c.self.inside.given c.self.inside.listed.items c.self.inside.recorded past ∙ ap without_first c.self.view_is)
  ];
}
