-- By whether an entry has the name.
use Rattle.std.proofs.Common.{◌≡◌, List, ℕ, sym, subst, ◌∙◌}
use Rattle.std.specs.Prelude.{string_bytes, IfOk}
use Rattle.dir_tree.specs.tree.Numbered.{IsNumberedTree}
use Rattle.acdf_filters.specs.Asking.{protected_of}
use Rattle.explanation.proofs.texts.TextLemmas.{text-found, text-absent}
use Rattle.explanation.proofs.texts.target_text.Goals as goal

pub returns-in-Some : goal.returns-in-Some
returns-in-Some g c = record {
  ok = text-found string_bytes c.entry_text.result (g.D.Dir.rows c.args.dir.now) c.tree-2.result.now c.args.who.now c.args.target.now (protected_of c.args.item) c.args.permission c.in-Some.number.0
      c.tree-2.ensures.exact (subst IsNumberedTree (c.tree.ensures.exact ∙ sym c.tree-2.ensures.exact) c.entries_form_a_tree.ensures.exact) c.in-Some.ensures.exact c.entry_text.ensures.ok;
}

pub returns-in-None : goal.returns-in-None
returns-in-None g c = record {
  ok = subst (λ (whole : List ℕ). IfOk c.from_str.result (λ text. string_bytes text ≡ whole))
      (text-absent (g.D.Dir.rows c.args.dir.now) c.tree-2.result.now c.args.who.now c.args.target.now (protected_of c.args.item) c.args.permission
      c.tree-2.ensures.exact (subst IsNumberedTree (c.tree.ensures.exact ∙ sym c.tree-2.ensures.exact) c.entries_form_a_tree.ensures.exact) c.in-None.ensures.exact)
      c.from_str.ensures.ok;
}
