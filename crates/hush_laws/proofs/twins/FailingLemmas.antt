-- No part of being twins fails, as far as the same outside tells.
use Rattle.std.proofs.Common.{◌≡◌, true, false, ◌||◌, List, None, refl, ap₂, sym, ◌∙◌}
use Rattle.dir_tree.specs.dn_names.name.Names.{RdnSequence}
use Rattle.dir_tree.specs.Entry.{EntryInformation}
use Rattle.op_read.specs.acdf_filters.admin_scope.Areas.{without_subtree}
use Rattle.op_read.specs.acdf_filters.declared.asking.Requester.{Requester}
use Rattle.op_read.specs.read_model.Views.{view_of}
use Rattle.op_read.specs.twin_laws.Twins.{shows_within}
use Rattle.hush_laws.specs.Equality.{are_all_equal}
use Rattle.hush_laws.specs.TwinParts.{governs_within, lists_group_outside, failing_twins}
use Rattle.hush_laws.proofs.laws.EqualityLemmas.{are_all_equal-decide}
use Rattle.hush_laws.proofs.laws.TwinLemmas.{lists_group_outside-same}

-- the same items outside name no group within
pub none-fails : (top : RdnSequence) (before now : List EntryInformation) (who : Requester)
    → are_all_equal (without_subtree top before) (without_subtree top now) ≡ true
    → (governs_within top before || governs_within top now) ≡ false
    → (shows_within top (view_of before who) || shows_within top (view_of now who)) ≡ false
    → lists_group_outside top before ≡ false → None ≡ failing_twins top before now who
none-fails top before now who same governs shows lists =
    let alike : lists_group_outside top before ≡ lists_group_outside top now =
    lists_group_outside-same top before now ((are_all_equal-decide (without_subtree top before) (without_subtree top now)).0 same) in
    let either : (lists_group_outside top before || lists_group_outside top now) ≡ false = ap₂ (λ one other. one || other) lists (sym alike ∙ lists) in
    rw (same, governs, shows, either) refl
