-- Where none of the parts that were looked for fails, none does.
use Rattle.std.proofs.Common.{◌≡◌, Bool, true, false, ◌||◌, List, ap, ap₂, sym, ◌∙◌}
use Rattle.dir_tree.specs.tree.Numbered.{Numbered, entries_of}
use Rattle.op_read.specs.acdf_filters.admin_scope.Areas.{without_subtree}
use Rattle.hush_laws.specs.Equality.{are_all_equal}
use Rattle.hush_laws.specs.TwinParts.{governs_within}
use Rattle.hush_laws.proofs.twins.FailingLemmas.{none-fails}
use Rattle.hush_laws.proofs.twins.failing_twins.Goals as goal

pub returns : goal.returns
returns g c =
    let top = c.args.top.now in
    let before = entries_of (g.D.Dir.rows c.args.before.now) in
    let now = entries_of (g.E.Dir.rows c.args.now.now) in
    let same : are_all_equal (without_subtree top before) (without_subtree top now) ≡ true =
    ap₂ (λ (one other : List Numbered). are_all_equal (without_subtree top (entries_of one)) (without_subtree top (entries_of other))) (sym c.tree.ensures.exact) (sym c.tree-2.ensures.exact)
    ∙ sym c.are_same_outside.ensures.exact ∙ c.if-not-are_same_outside.false in
    let governs : (governs_within top before || governs_within top now) ≡ false =
    ap₂ (λ (one other : Bool). one || other) (sym c.requires.governs) (ap (λ (rows : List Numbered). governs_within top (entries_of rows)) (sym c.tree-3.ensures.exact))
    ∙ sym c.governs_in_either.ensures.exact ∙ c.if-governs_in_either.false in
    record { ok = none-fails top before now c.args.who.now same governs (sym c.in_ok-shows_in_either.ensures.ok ∙ c.if-branch.false) (sym c.requires.groups ∙ c.if-begun.false) }
