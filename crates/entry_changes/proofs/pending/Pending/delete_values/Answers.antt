-- The values go with those that went before, or may not.
use Rattle.std.proofs.Common.{◌≡◌, sym, ◌∙◌, ap}
use Rattle.entry_changes.specs.declared.kind.ChangeKind.TheVariants.{Delete}
use Rattle.entry_changes.specs.Change.{Modification, without_each, made}
use Rattle.entry_changes.specs.Steps.{left_in}
use Rattle.entry_changes.proofs.making.MadeLemmas.{changed-made, changed-refused}
use Rattle.entry_changes.proofs.pending.PendingLemmas.{gone-more, gone-refusal}
use Rattle.entry_changes.proofs.pending.Pending.delete_values.Goals as goal

pub returns-in-Some-clause-refused : goal.returns-in-Some-clause-refused
returns-in-Some-clause-refused g c =
    let asker = g.A.EntryAsker.asker c.args.asker.now in
    let old = left_in c.args.self.now in
    let turned = c.turn_to.new.self in
    let is : old ≡ without_each c.args.kind.0 turned.gone turned.entry =
    sym c.in_ok-turn_to.ensures.ok ∙ ap (λ kind. without_each kind turned.gone turned.entry) c.in_ok-turn_to.ensures.kind in
    let change : Modification = record { change = Delete; kind = c.args.kind.0; values = c.args.values.now } in
    changed-refused asker old change c.in-Some.code
    (sym c.in-Some.is ∙ c.delete_values_refusal-refusal.ensures.exact
    ∙ gone-refusal asker c.args.kind.0 turned.gone c.args.values.now old turned.entry (made change old) c.requires.given c.is_good.ensures.good is)

pub returns-clause-ok : goal.returns-clause-ok
returns-clause-ok g c =
    let asker = g.A.EntryAsker.asker c.args.asker.now in
    let old = left_in c.args.self.now in
    let turned = c.turn_to.new.self in
    let is : old ≡ without_each c.args.kind.0 turned.gone turned.entry =
    sym c.in_ok-turn_to.ensures.ok ∙ ap (λ kind. without_each kind turned.gone turned.entry) c.in_ok-turn_to.ensures.kind in
    let change : Modification = record { change = Delete; kind = c.args.kind.0; values = c.args.values.now } in
    changed-made asker old change (without_each turned.kind.0 c.put_all.new.gone turned.entry)
    (ap (λ kind. without_each kind c.put_all.new.gone turned.entry) c.in_ok-turn_to.ensures.kind
    ∙ gone-more c.args.kind.0 turned.gone c.args.values.now c.put_all.new.gone old turned.entry c.requires.given is c.in_ok-put_all.ensures.ok)
    (sym c.in_default.is ∙ c.delete_values_refusal-refusal.ensures.exact
    ∙ gone-refusal asker c.args.kind.0 turned.gone c.args.values.now old turned.entry (made change old) c.requires.given c.is_good.ensures.good is)
