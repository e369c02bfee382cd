-- The subentries are those that the tree keeps.
use Rattle.std.proofs.Common.{◌≡◌, ◌++◌, List, map, subst}
use Rattle.std.specs.Prelude.{OnOk}
use Rattle.certify.specs.Lines.{Line, line_of}
use Rattle.certify.proofs.scopes.ScopeLemmas.{point_lines}
use Rattle.certify.proofs.scopes.put_point.Goals as goal

pub returns : goal.returns
returns c = record {
  ok = subst (λ (lines : List Line). OnOk c.put_lines_at.result (map line_of c.put_lines_at.new.lines.items ≡ map line_of c.args.lines.now.items ++ lines))
      (point_lines c.args.question.now.tree.now c.args.question.now.entry.now c.args.point.now (map (λ no. no.0) c.access_subentries.result.now) c.entries_form_a_tree.ensures.exact c.access_subentries.ensures.exact)
      c.put_lines_at.ensures.ok;
}
