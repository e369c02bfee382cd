-- A subentry has no points, and an ordinary entry those of its areas.
use Rattle.std.proofs.Common.{◌≡◌, ◌++◌, List, map, sym, ap, subst, ◌∙◌}
use Rattle.std.specs.Prelude.{OnOk}
use Rattle.std.proofs.lemmas.List.{append-nil}
use Rattle.dir_tree.specs.declared.number.EntryNo.{EntryNo}
use Rattle.dir_tree.specs.tree.Numbered.{entries_of, entries_at}
use Rattle.certify.specs.Lines.{Line, line_of}
use Rattle.certify.proofs.scopes.ScopeLemmas.{no_scope_lines, all_scope_lines}
use Rattle.certify.proofs.scopes.put_scopes.Goals as goal

pub returns-then-is_subentry : goal.returns-then-is_subentry
returns-then-is_subentry c = record {
  ok = sym (append-nil (map line_of c.args.lines.now.items))
      ∙ ap (λ (lines : List Line). map line_of c.args.lines.now.items ++ lines)
      (no_scope_lines (entries_of c.args.question.now.tree.now) c.args.question.now.entry.now (sym c.is_subentry.ensures.exact ∙ c.if-is_subentry.true));
}

pub returns : goal.returns
returns c =
    let rows = c.args.question.now.tree.now in
    let entry = c.args.question.now.entry.now in
    record {
      ok = subst (λ (lines : List Line). OnOk c.put_points.result (map line_of c.put_points.new.lines.items ≡ map line_of c.args.lines.now.items ++ lines))
          (all_scope_lines (entries_of rows) entry (entries_at rows (map (λ no. no.0) c.deref.result.now)) (sym c.is_subentry.ensures.exact ∙ c.if-is_subentry.false)
          (ap (λ (numbers : List EntryNo). entries_at rows (map (λ no. no.0) numbers)) c.deref.ensures.value ∙ c.in_ok-points.ensures.exact entry c.requires))
          c.put_points.ensures.ok;
    }
