-- A value of which no equal one is there is one more.
use Rattle.std.proofs.Common.{◌≡◌, ◌+◌, ℕ, List, false, length, sym, ap, ◌∙◌}
use Rattle.dir_tree.specs.dn_names.name.Names.{Keyed}
use Rattle.dir_tree.specs.Entry.{values_of, has_key}
use Rattle.acdf_filters.proofs.limits.LimitLemmas.{length-with_new}
use Rattle.acdf_filters.proofs.limits.count_with.Goals as goal

pub returns-else-has_value : goal.returns-else-has_value
returns-else-has_value c = record {
  exact =
      let kind = c.args.kind.0 in
      let value = c.args.value.now in
      let values = values_of kind c.args.entry.now.attributes in
      let new : has_key value.key values ≡ false =
      ap (λ (key : List ℕ). has_key key values) (sym c.key.ensures.exact) ∙ sym c.has_value.ensures.exact ∙ c.if-has_value.false in
      ap (λ (found : List Keyed). length found + 1) c.values-count.ensures.exact ∙ sym (length-with_new kind value c.args.entry.now new);
}
