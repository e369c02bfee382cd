-- The type is there, or not.
use Rattle.std.proofs.Common.{sym, ◌∙◌}
use Rattle.dir_tree.proofs.attributes.put_value.Goals as goal

pub put_last-requires : goal.put_last-requires
put_last-requires c = sym c.has_kind.ensures.exact ∙ c.if-has_kind.true

pub put_first-requires : goal.put_first-requires
put_first-requires c = sym c.has_kind.ensures.exact ∙ c.if-has_kind.false
