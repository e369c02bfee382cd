-- The change is refused.
use Rattle.std.proofs.lemmas.Result.{IfErr-weaker}
use Rattle.entry_changes.specs.declared.kind.ChangeKind.TheVariants.{Replace}
use Rattle.entry_changes.specs.Change.{cause_of}
use Rattle.entry_changes.specs.Steps.{left_in}
use Rattle.entry_changes.proofs.pending.PendingLemmas.{settled-refused}
use Rattle.entry_changes.proofs.pending.Pending.replace.Goals as goal

pub returns-clause-refused : goal.returns-clause-refused
returns-clause-refused g c =
    IfErr-weaker c.replace.result _ _
    (λ fault says. settled-refused (g.A.EntryAsker.asker c.args.asker.now) (left_in c.args.self.now) c.settle.new.self.entry
    (record { change = Replace; kind = c.args.kind.0; values = c.args.values.now }) (cause_of fault) c.in_ok-settle.ensures.ok says)
    c.replace.ensures.refused
