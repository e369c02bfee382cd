use Rattle.std.proofs.Common.{◌≡◌, ◌∙◌, ap, subst, [], ◌∷◌, ◌++◌, OnOk}
use Rattle.script_text.specs.declared.event.ScriptEvent.{ScriptEvent}
use Rattle.script_text.specs.Recording.{event_with, head_of}
use Rattle.script_text.proofs.recording.RecordingLemmas.{event_with-head_of}
use Rattle.script_text.proofs.recording.Recording.push.Goals as goal

-- what was added is the event
pub returns-clause-ok : goal.returns-clause-ok
returns-clause-ok c =
    let added : ScriptEvent → Type 0 = λ event. OnOk c.add.result (c.add.new.self ≡ c.args.self.now ++ event ∷ []) in
    let same : event_with c.head.result c.octets.result.now ≡ c.args.event.now =
    ap (λ head. event_with head c.octets.result.now) c.head.ensures.exact
    ∙ ap (λ octets. event_with (head_of c.args.event.now) octets) c.octets.ensures.exact
    ∙ event_with-head_of c.args.event.now in
    subst added same c.add.ensures.ok
