-- The change is refused as what it is.
use Rattle.std.proofs.Common.{sym, ◌∙◌, subst}
use Rattle.std.proofs.lemmas.Result.{IfErr-weaker}
use Rattle.ldap_msg.specs.plain_values.Answers.{IsFaultOf}
use Rattle.entry_changes.specs.declared.kind.ChangeKind.TheVariants.{Add, Delete, Replace}
use Rattle.entry_changes.specs.Change.{Modification, changed, cause_of}
use Rattle.entry_changes.specs.Steps.{left_in}
use Rattle.entry_changes.proofs.making.MadeLemmas.{change-parts}
use Rattle.entry_changes.proofs.pending.Pending.apply.Goals as goal

pub returns-in-Add-clause-refused : goal.returns-in-Add-clause-refused
returns-in-Add-clause-refused g c =
    let is = change-parts c.args.change.now Add c.kind-kind.result.0 c.values.result.now (sym c.in-Add.is ∙ c.change.ensures.exact) c.kind-kind.ensures.exact c.values.ensures.exact in
    IfErr-weaker c.add.result _ _
    (λ fault says. subst (λ (change : Modification). IsFaultOf (cause_of fault) (changed (g.A.EntryAsker.asker c.args.asker.now) (left_in c.args.self.now) change)) is says)
    c.add.ensures.refused

pub returns-in-Delete-clause-refused : goal.returns-in-Delete-clause-refused
returns-in-Delete-clause-refused g c =
    let is = change-parts c.args.change.now Delete c.kind-kind.result.0 c.values-in-Delete.result.now (sym c.in-Delete.is ∙ c.change.ensures.exact) c.kind-kind.ensures.exact c.values-in-Delete.ensures.exact in
    IfErr-weaker c.delete.result _ _
    (λ fault says. subst (λ (change : Modification). IsFaultOf (cause_of fault) (changed (g.A.EntryAsker.asker c.args.asker.now) (left_in c.args.self.now) change)) is says)
    c.delete.ensures.refused

pub returns-in-Replace-clause-refused : goal.returns-in-Replace-clause-refused
returns-in-Replace-clause-refused g c =
    let is = change-parts c.args.change.now Replace c.kind-kind.result.0 c.values-in-Replace.result.now (sym c.in-Replace.is ∙ c.change.ensures.exact) c.kind-kind.ensures.exact c.values-in-Replace.ensures.exact in
    IfErr-weaker c.replace.result _ _
    (λ fault says. subst (λ (change : Modification). IsFaultOf (cause_of fault) (changed (g.A.EntryAsker.asker c.args.asker.now) (left_in c.args.self.now) change)) is says)
    c.replace.ensures.refused
