use Rattle.std.proofs.Common.{◌∙◌, sym, ap}
use Rattle.script_text.specs.Recording.{without_first}
use Rattle.script_text.proofs.recording.RecordingLemmas.{recorded-at, recorded-none}
use Rattle.script_text.proofs.recording.Recording.pass.Goals as goal

-- the event of the row at the place is passed
pub returns-in-Some : goal.returns-in-Some
returns-in-Some c = let found = c.in-Some.ensures.lookup in
    let cut = recorded-at c.self.inside.place c.self.inside.start c.self.inside.rows.items c.deref.result.now c.self.inside.octets.items c.in-Some.row.now c.args.self.now c.deref.ensures.value found.3.0 found.1 c.self.view_is in
    record { exact = sym (ap without_first cut) }

-- no row is left
pub returns-in_default : goal.returns-in_default
returns-in_default c = let found = c.in_default.ensures.lookup in
    let none = recorded-none c.self.inside.place c.self.inside.start c.self.inside.rows.items c.deref.result.now c.self.inside.octets.items c.args.self.now c.deref.ensures.value found.3 c.self.view_is in
    record { exact = none ∙ sym (ap without_first none) }
