-- By the lemmas on what is found.
use Rattle.std.proofs.Common.{ℕ, List, sym, ap, subst, ◌∙◌, map}
use Rattle.std.specs.Prelude.{IsSome}
use Rattle.std.specs.List.{AllByRecursion}
use Rattle.dir_tree.specs.declared.number.EntryNo.{EntryNo}
use Rattle.dir_tree.specs.tree.Numbered.{entries_at, entry_of}
use Rattle.admin_scope.specs.Walking.{walk_of}
use Rattle.admin_scope.proofs.subentries.ListLemmas.{ok_from}
use Rattle.admin_scope.proofs.subentries.FindLemmas.{in_force-gathered, in_force-subentry, live-found, all_numbers_by}
use Rattle.admin_scope.proofs.subentries.in_force_by.Goals as goal

pub returns-then-is_subentry : goal.returns-then-is_subentry
returns-then-is_subentry c =
    let none = ap (λ (items : List EntryNo). map (λ no. no.0) items) c.new.ensures.items in
    record {
      exact = ap (entries_at c.args.tree.now) none ∙ in_force-subentry c.args.tree.now c.args.entry.now (sym c.is_subentry.ensures.exact ∙ c.if-is_subentry.true);
      live = subst (λ (ids : List ℕ). AllByRecursion (λ id. IsSome (entry_of id c.args.tree.now)) ids) (sym none) tt;
    }

pub returns : goal.returns
returns c =
    let rows = c.args.tree.now in
    let entry = c.args.entry.now in
    let same = all_numbers_by rows entry c.args.subtrees.now c.requires.subtrees (walk_of entry.name rows) in
    record {
      exact = ok_from _ _ (λ found h. in_force-gathered rows c.entries_form_a_tree.ensures.exact entry (sym c.is_subentry.ensures.exact ∙ c.if-is_subentry.false) _ (h ∙ same)) c.below_points.result c.below_points.ensures.exact;
      live = ok_from _ _ (λ found h. live-found rows entry _ (walk_of entry.name rows) (h ∙ same)) c.below_points.result c.below_points.ensures.exact;
    }
