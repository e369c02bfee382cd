-- The values found lost the key, or there are none.
use Rattle.std.proofs.Common.{sym, ap, ◌∙◌}
use Rattle.dir_tree.specs.attributes.Rows.{attributes_of}
use Rattle.dir_tree.proofs.attributes.ChangeLemmas.{cut-set_value, cut-none}
use Rattle.dir_tree.proofs.attributes.cut_values.Goals as goal

pub returns-in-Some : goal.returns-in-Some
returns-in-Some c = record {
  exact =
      ap attributes_of (c.get_mut.follows.holds c.drop_key.new.self).0
      ∙ cut-set_value c.args.kind c.args.key.now c.in-Some.values.now c.drop_key.new.self
      c.args.attributes.now.entries c.get_mut.ensures.unique c.in-Some.ensures.value c.drop_key.ensures.exact;
}

pub returns-in_default : goal.returns-in_default
returns-in_default c = record {
  exact =
      ap (λ map. attributes_of map.entries) c.get_mut.follows.holds-at-none
      ∙ sym (cut-none c.args.kind c.args.key.now c.args.attributes.now.entries c.in_default.ensures.value);
}
