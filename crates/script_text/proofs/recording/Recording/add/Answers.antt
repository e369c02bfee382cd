use Rattle.std.proofs.Common.{rules}
use Rattle.script_text.proofs.recording.RecordingLemmas.{recorded-pushed}
use Rattle.script_text.proofs.recording.Recording.add.Goals as goal

-- the row and its octets stand last
pub returns-clause-ok : goal.returns-clause-ok
returns-clause-ok c = recorded-pushed c.self.inside.place c.self.inside.start c.self.inside.rows.items _ c.self.inside.octets.items _ c.args.octets.now c.args.head c.args.self.now c.self.invariant c.self.view_is
    (search rules) c.in_ok-extend_from_slice.ensures.items
