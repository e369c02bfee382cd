use Rattle.std.proofs.Common.{◌∙◌, sym, ap, Some}
use Rattle.script_text.specs.Recording.{first_head}
use Rattle.script_text.proofs.recording.RecordingLemmas.{recorded-at, recorded-none, head_of-event_with}
use Rattle.script_text.proofs.recording.Recording.first.Goals as goal

-- the row at the place has the head
pub returns-in-Some : goal.returns-in-Some
returns-in-Some c = let found = c.in-Some.ensures.lookup in
    let cut = recorded-at c.self.inside.place c.self.inside.start c.self.inside.rows.items c.deref.result.now c.self.inside.octets.items c.in-Some.row.now c.args.self.now c.deref.ensures.value found.3.0 found.1 c.self.view_is in
    record { exact = sym (ap first_head cut ∙ ap Some (head_of-event_with c.in-Some.row.now.head _)) }

-- no row is left
pub returns-in-None : goal.returns-in-None
returns-in-None c = let found = c.in-None.ensures.lookup in
    let none = recorded-none c.self.inside.place c.self.inside.start c.self.inside.rows.items c.deref.result.now c.self.inside.octets.items c.args.self.now c.deref.ensures.value found.3 c.self.view_is in
    record { exact = sym (ap first_head none) }
