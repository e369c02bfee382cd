-- The class has the object identifier, or its superior is asked.
use Rattle.std.proofs.Common.{sym, ◌∙◌}
use Rattle.std.specs.Str.{bytes_eq}
use Rattle.filter_match.proofs.matching.+is_below.Goals as goal
use Rattle.dir_tree.proofs.TreeTheorems.{list_any-above}

pub returns-in-Some : goal.returns-in-Some
returns-in-Some t c = record {
  exact =
      c.is_below.ensures.exact
      ∙ sym (list_any-above (bytes_eq c.args.oid.now) c.args.class.0 _ (sym c.has_oid.ensures.exact ∙ c.if-has_oid.false)
      c.in-Some.ensures.exact);
}
