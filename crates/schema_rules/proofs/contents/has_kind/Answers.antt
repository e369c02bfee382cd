-- An attribute has a value.
use Rattle.schema_rules.proofs.contents.EntryLemmas.{filled_kind}
use Rattle.schema_rules.proofs.contents.has_kind.Goals as goal

pub returns : goal.returns
returns c = record {
  exact = rw (c.is_empty.ensures, c.values.ensures.exact) (filled_kind c.args.kind.0 _ c.is_good.ensures.good.good);
}
