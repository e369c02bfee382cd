-- The two tests in the other order: nearly every tree has room.
use Rattle.std.proofs.Common.{◌≡◌, Bool, true, false, ◌&&◌, refl, sym, ◌∙◌}
use Rattle.dir_tree.specs.Points.{is_access_subentry}
use Rattle.schema_rules.proofs.limits.is_subentry_too_many.Goals as goal

with_true : (one other : Bool) → other ≡ true → one ≡ (one && other)
with_true true other is = sym is
with_true false other is = refl

with_false : (one other : Bool) → other ≡ false → false ≡ (one && other)
with_false true other is = sym is
with_false false other is = refl

pub returns-then-is_full_of_subentries : goal.returns-then-is_full_of_subentries
returns-then-is_full_of_subentries c = record {
  exact = c.is_access_subentry.ensures.exact ∙ with_true _ _ (sym c.is_full_of_subentries.ensures.exact ∙ c.if-is_full_of_subentries.true);
}

pub returns-else-is_full_of_subentries : goal.returns-else-is_full_of_subentries
returns-else-is_full_of_subentries c = record {
  exact = c.if-is_full_of_subentries.false
      ∙ with_false (is_access_subentry c.args.entry.now) _ (sym c.is_full_of_subentries.ensures.exact ∙ c.if-is_full_of_subentries.false);
}
