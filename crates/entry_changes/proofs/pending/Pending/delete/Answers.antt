-- The attribute may not be taken out.
use Rattle.std.proofs.Common.{◌≡◌, [], sym, ◌∙◌, subst, List}
use Rattle.std.proofs.lemmas.Result.{IfErr-weaker}
use Rattle.ldap_msg.specs.plain_values.Answers.{IsFaultOf}
use Rattle.dir_tree.specs.dn_names.name.Names.{Keyed}
use Rattle.entry_changes.specs.declared.kind.ChangeKind.TheVariants.{Delete}
use Rattle.entry_changes.specs.Change.{changed, cause_of}
use Rattle.entry_changes.specs.Steps.{left_in}
use Rattle.entry_changes.proofs.pending.PendingLemmas.{none_given, settled-refused}
use Rattle.entry_changes.proofs.pending.Pending.delete.Goals as goal

pub returns-clause-refused : goal.returns-clause-refused
returns-clause-refused g c =
    let asker = g.A.EntryAsker.asker c.args.asker.now in
    let old = left_in c.args.self.now in
    let none : c.args.values.now ≡ [] = none_given c.args.values.now (sym c.are_none.ensures.exact ∙ c.if-not-are_none.false) in
    IfErr-weaker c.delete_kind.result _ _
    (λ fault says. subst (λ (values : List Keyed). IsFaultOf (cause_of fault) (changed asker old (record { change = Delete; kind = c.args.kind.0; values = values }))) (sym none)
    (settled-refused asker old c.settle.new.self.entry (record { change = Delete; kind = c.args.kind.0; values = [] }) (cause_of fault) c.in_ok-settle.ensures.ok says))
    c.delete_kind.ensures.refused
