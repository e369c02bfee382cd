-- `retain` keeps the rows with values.
use Rattle.std.proofs.Common.{rules, nat_lt, length, ap, ◌∙◌}
use Rattle.indexmap.proofs.CallerLemmas.{filter-RetainsPairs}
use Rattle.dir_tree.specs.attributes.Rows.{attributes_of}
use Rattle.dir_tree.proofs.attributes.ChangeLemmas.{filter-rows}
use Rattle.dir_tree.proofs.attributes.drop_empty.Goals as goal

pub returns : goal.returns
returns c = record {
  exact =
      ap attributes_of
      (filter-RetainsPairs _ (λ row. nat_lt 0 (length row.1)) _ (λ k v b w g call. search rules) _ _
      c.retain.ensures.filtered)
      ∙ filter-rows c.args.attributes.now.entries;
}
