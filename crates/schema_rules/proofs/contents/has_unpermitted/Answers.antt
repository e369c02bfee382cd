-- One of the attributes, or none.
use Rattle.std.proofs.Common.{◌==◌, ◌++◌, false, sym, ap, ◌∙◌, arith}
use Rattle.std.specs.List.{list_any}
use Rattle.std.specs.Option.{option_map_or}
use Rattle.dir_tree.specs.schema_tables.classes.Classes.{class_with, required_of, allowed_of}
use Rattle.schema_rules.specs.Classes.{class_permits}
use Rattle.schema_rules.proofs.contents.ClassLemmas.{flat_map-all_classes}
use Rattle.std.proofs.lemmas.List.{length-map}
use Rattle.schema_rules.proofs.values.ListLemmas.{any_here, none_more, none_at_all}
use Rattle.schema_rules.proofs.contents.has_unpermitted.Goals as goal

-- the marks are those of the listed classes
pub is_unpermitted_at-requires : goal.is_unpermitted_at-requires
is_unpermitted_at-requires c number =
    c.permitted_by-permitted.ensures.exact number
    ∙ ap (λ listed. list_any (λ value. option_map_or (class_permits number) (class_with value.key) false) listed) c.values.ensures.exact
    ∙ sym (flat_map-all_classes (λ other. number == other) (λ class. required_of class ++ allowed_of class) _)

pub returns-then-is_unpermitted_at : goal.returns-then-is_unpermitted_at
returns-then-is_unpermitted_at c = record {
  exact = sym (any_here _ _ c.loop-index.index (sym c.is_unpermitted_at.ensures.exact ∙ c.if-is_unpermitted_at.true));
}

pub loop-index-preserved : goal.loop-index-preserved
loop-index-preserved c =
    none_more _ _ c.loop-index.index c.loop-index.invariant (sym c.is_unpermitted_at.ensures.exact ∙ c.if-is_unpermitted_at.false)

pub returns : goal.returns
returns c =
    let past = c.kinds-index-end.ensures.exact in
    let count = length-map c.args.entry.now.attributes (λ attribute. attribute.kind) in
    record { exact = sym (none_at_all _ _ c.loop-index.index c.loop-index.invariant (omega arith)) }
