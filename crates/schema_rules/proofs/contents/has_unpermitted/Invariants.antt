-- None of the attributes so far.
use Rattle.std.proofs.Common.{◌≡◌, false, take, not, ◌||◌}
use Rattle.std.specs.List.{list_any}
use Rattle.dir_tree.specs.Entry.{kinds_of}
use Rattle.aci_item.specs.Listed.{is_among, permitted_by, all_classes}
use Rattle.aci_item.specs.Rules.{is_permitted_besides}
use Rattle.schema_rules.proofs.contents.has_unpermitted.Given as goal

abbrev pub invariant-loop-index : goal.invariant-loop-index
invariant-loop-index l = list_any (λ kind. not (is_among kind (permitted_by (all_classes l.entry.attributes)) || is_permitted_besides kind l.entry)) (take l.index (kinds_of l.entry.attributes)) ≡ false
