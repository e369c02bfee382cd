-- The attribute goes, or is kept.
use Rattle.std.proofs.Common.{sym, ◌∙◌, ap, List, []}
use Rattle.dir_tree.specs.dn_names.name.Names.{Keyed}
use Rattle.dir_tree.specs.Entry.{values_of}
use Rattle.entry_changes.specs.declared.kind.ChangeKind.TheVariants.{Delete}
use Rattle.entry_changes.specs.Change.{asks_after, delete_refusal, left_by}
use Rattle.entry_changes.proofs.making.MadeLemmas.{delete_refusal-alike, changed-made, changed-refused}
use Rattle.entry_changes.proofs.making.delete_kind.Goals as goal

pub returns-in-Some-clause-refused : goal.returns-in-Some-clause-refused
returns-in-Some-clause-refused g c =
    let asker = g.A.EntryAsker.asker c.args.asker.now in
    changed-refused asker c.args.entry.now (record { change = Delete; kind = c.args.kind.0; values = [] }) c.in-Some.code
    (sym c.in-Some.is ∙ c.delete_kind_refusal.ensures.exact
    ∙ ap (λ (old : List Keyed). delete_refusal (asks_after asker c.args.entry.now) c.args.kind.0 old []) c.values.ensures.exact
    ∙ delete_refusal-alike asker c.args.entry.now (left_by Delete c.args.kind.0 [] c.args.entry.now) c.args.kind.0 (values_of c.args.kind.0 c.args.entry.now.attributes) [])

pub returns-clause-ok : goal.returns-clause-ok
returns-clause-ok g c =
    let asker = g.A.EntryAsker.asker c.args.asker.now in
    changed-made asker c.args.entry.now (record { change = Delete; kind = c.args.kind.0; values = [] }) c.drop_kind-found.new.self c.drop_kind-found.ensures.exact
    (sym c.in_default.is ∙ c.delete_kind_refusal.ensures.exact
    ∙ ap (λ (old : List Keyed). delete_refusal (asks_after asker c.args.entry.now) c.args.kind.0 old []) c.values.ensures.exact
    ∙ delete_refusal-alike asker c.args.entry.now (left_by Delete c.args.kind.0 [] c.args.entry.now) c.args.kind.0 (values_of c.args.kind.0 c.args.entry.now.attributes) [])
