use Rattle.std.proofs.Common.{◌∙◌, ap, length, ◌-◌}
use Rattle.script_text.proofs.recording.RecordingLemmas.{recorded-length}
use Rattle.script_text.proofs.recording.Recording.len.Goals as goal

-- there are as many events as rows
pub returns : goal.returns
returns c = record {
  exact = ap (λ rows. length rows - c.self.inside.place) c.as_slice.ensures.value
      ∙ recorded-length c.self.inside.place c.self.inside.rows.items _ c.args.self.now c.self.view_is;
}
