use Rattle.std.proofs.Common.{◌∙◌, sym, ap, take, drop}
use Rattle.script_text.specs.Recording.{event_with, octets_in, first_octets}
use Rattle.script_text.proofs.recording.RecordingLemmas.{recorded-at, recorded-none}
use Rattle.script_text.proofs.recording.Recording.octets.Goals as goal

-- the octets of the row at the place
pub returns-in-Some : goal.returns-in-Some
returns-in-Some c = let found = c.in-Some.ensures.lookup in
    let cut = recorded-at c.self.inside.place c.self.inside.start c.self.inside.rows.items c.deref.result.now c.self.inside.octets.items c.in-Some.row.now c.args.self.now c.deref.ensures.value found.3.0 found.1 c.self.view_is in
    let left = c.rest.ensures.exact ∙ ap (λ octets. drop c.self.inside.start octets) c.as_slice.ensures.value in
    record { exact = c.octets_of.ensures.exact ∙ ap (λ octets. octets_in (event_with c.in-Some.row.now.head (take c.in-Some.row.now.size octets))) left ∙ sym (ap first_octets cut) }

-- no row is left
pub returns-in-None : goal.returns-in-None
returns-in-None c = let found = c.in-None.ensures.lookup in
    let none = recorded-none c.self.inside.place c.self.inside.start c.self.inside.rows.items c.deref.result.now c.self.inside.octets.items c.args.self.now c.deref.ensures.value found.3 c.self.view_is in
    record { exact = sym (ap first_octets none) }
