use Rattle.std.proofs.Common.{map, sym, ◌∙◌}
use Rattle.entry_changes.specs.Change.{goes_refusal, comes_refusal}
use Rattle.entry_changes.proofs.changing.RefusalLemmas.{first_some-decided, first_some-open}
use Rattle.entry_changes.proofs.refusing.values_refusal.Goals as goal

-- an old value may not go
pub returns-in-Some : goal.returns-in-Some
returns-in-Some g c = record {
  exact =
      first_some-decided (map (goes_refusal (g.A.Ask.asks c.args.asker.now) c.args.kind.0 c.args.values.now) c.args.old.now)
      (map (comes_refusal (g.A.Ask.asks c.args.asker.now) c.args.kind.0 c.args.old.now) c.args.values.now) c.in-Some.code (sym c.in-Some.is ∙ c.all_go_refusal.ensures.exact);
}

-- all may go
pub returns-in-None : goal.returns-in-None
returns-in-None g c = record {
  exact =
      c.all_come_refusal.ensures.exact
      ∙ sym (first_some-open (map (goes_refusal (g.A.Ask.asks c.args.asker.now) c.args.kind.0 c.args.values.now) c.args.old.now)
      (map (comes_refusal (g.A.Ask.asks c.args.asker.now) c.args.kind.0 c.args.old.now) c.args.values.now) (sym c.in-None.is ∙ c.all_go_refusal.ensures.exact));
}
