-- An equal value is there of the type, and of another where one was there.
use Rattle.std.proofs.Common.{◌≡◌, ◌==◌, ◌||◌, ℕ, List, Bool, true, false, sym, ap, ◌∙◌}
use Rattle.std.proofs.lemmas.Bool.{eq-eqb, ne_eqb}
use Rattle.dir_tree.specs.Entry.{values_of, has_key}
use Rattle.acdf_filters.proofs.limits.LimitLemmas.{has_key-with_value}
use Rattle.acdf_filters.proofs.limits.has_with.Goals as goal

pub returns-then-kind-other : goal.returns-then-kind-other
returns-then-kind-other c = record {
  exact =
      let kind = c.args.kind.0 in
      let other = c.args.other.0 in
      let value = c.args.value.now in
      let there = has_key value.key (values_of other c.args.entry.now.attributes) in
      let same : (kind == other) ≡ true = eq-eqb kind other c.if-kind-other.true in
      same ∙ sym (has_key-with_value kind other value c.args.entry.now ∙ ap (λ (b : Bool). b || there) same);
}

pub returns-else-kind-other : goal.returns-else-kind-other
returns-else-kind-other c = record {
  exact =
      let kind = c.args.kind.0 in
      let other = c.args.other.0 in
      let value = c.args.value.now in
      let values = values_of other c.args.entry.now.attributes in
      let apart : (kind == other) ≡ false = ne_eqb kind other c.if-kind-other.false in
      c.has_value.ensures.exact
      ∙ ap (λ (key : List ℕ). has_key key values) c.key.ensures.exact
      ∙ sym (has_key-with_value kind other value c.args.entry.now ∙ ap (λ (b : Bool). b || has_key value.key values) apart);
}
