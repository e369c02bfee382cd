-- By whether an entry has the name.
use Rattle.std.proofs.Common.{◌≡◌, List, ℕ, subst}
use Rattle.std.specs.Prelude.{IfOk}
use Rattle.acdf_filters.specs.Asking.{protected_of}
use Rattle.certify.proofs.proving.TextLemmas.{proved_text-found, proved_text-absent}
use Rattle.certify.proofs.proving.target_text.Goals as goal

pub returns-in-Some : goal.returns-in-Some
returns-in-Some g c = record {
  ok = subst (λ (whole : List ℕ). IfOk c.entry_text.result (λ text. text.items ≡ whole))
      (proved_text-found c.tree.result.now (g.D.Dir.rows c.args.dir.now) c.args.who.now c.args.target.now (protected_of c.args.item) c.args.permission c.in-Some.found.entry.now
      c.tree.ensures.exact c.in-Some.ensures.exact) c.entry_text.ensures.ok;
}

pub returns-in-None : goal.returns-in-None
returns-in-None g c = record {
  ok = subst (λ (whole : List ℕ). IfOk c.from_slice.result (λ text. text.items ≡ whole))
      (proved_text-absent c.tree.result.now (g.D.Dir.rows c.args.dir.now) c.args.who.now c.args.target.now (protected_of c.args.item) c.args.permission
      c.tree.ensures.exact c.in-None.ensures.exact) c.from_slice.ensures.items;
}
