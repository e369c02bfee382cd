-- The values may not take the place of others.
use Rattle.std.proofs.Common.{◌≡◌, sym, ◌∙◌, ap, List}
use Rattle.dir_tree.specs.dn_names.name.Names.{Keyed}
use Rattle.dir_tree.specs.Entry.{EntryInformation, values_of}
use Rattle.entry_changes.specs.declared.kind.ChangeKind.TheVariants.{Replace}
use Rattle.entry_changes.specs.Change.{asks_after, replace_refusal, left_by}
use Rattle.entry_changes.proofs.making.MadeLemmas.{changed-refused}
use Rattle.entry_changes.proofs.making.replace.Goals as goal

pub returns-in-Some-clause-refused : goal.returns-in-Some-clause-refused
returns-in-Some-clause-refused g c =
    let asker = g.A.EntryAsker.asker c.args.asker.now in
    let after : c.replace_values.new.entry ≡ left_by Replace c.args.kind.0 c.args.values.now c.args.entry.now =
    c.in_ok-replace_values.ensures.ok ∙ ap (λ (values : List Keyed). left_by Replace c.args.kind.0 values c.args.entry.now) c.in_ok-copies.ensures.ok in
    let old : c.deref.result.now ≡ values_of c.args.kind.0 c.args.entry.now.attributes = c.deref.ensures.value ∙ c.in_ok-old.ensures.ok ∙ c.values.ensures.exact in
    changed-refused asker c.args.entry.now (record { change = Replace; kind = c.args.kind.0; values = c.args.values.now }) c.in-Some.code
    (sym c.in-Some.is ∙ c.replace_refusal.ensures.exact
    ∙ ap (λ (after : EntryInformation). replace_refusal (asks_after asker after) c.args.kind.0 c.deref.result.now c.args.values.now) after
    ∙ ap (λ (old : List Keyed). replace_refusal (asks_after asker (left_by Replace c.args.kind.0 c.args.values.now c.args.entry.now)) c.args.kind.0 old c.args.values.now) old)
