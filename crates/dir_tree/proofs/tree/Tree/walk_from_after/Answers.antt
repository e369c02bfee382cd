-- All that the scope takes in comes behind the name.
use Rattle.std.proofs.Common.{◌≡◌, true, Option, sym, ap, ◌∙◌}
use Rattle.std.specs.Ordering.{is_lt}
use Rattle.dir_tree.specs.Entry.{EntryInformation}
use Rattle.dir_tree.specs.tree.Trees.{is_before}
use Rattle.dir_tree.specs.Scope.{in_scope, in_scope_after}
use Rattle.dir_tree.proofs.walk.AfterLemmas.{in_scope-behind}
use Rattle.dir_tree.proofs.tree.Tree.walk_from_after.Goals as goal

pub returns-then-is_lt-clause-exact : goal.returns-then-is_lt-clause-exact
returns-then-is_lt-clause-exact c =
    let after = c.args.after.now in
    let rows = c.args.self.now in
    let ahead : is_before c.args.after.now c.args.entry.now.name ≡ true =
    ap (is_before after) (sym c.name.ensures.exact) ∙ ap is_lt (sym c.compare_names.ensures.exact) ∙ sym c.is_lt.ensures ∙ c.if-is_lt.true in
    c.walk_from.ensures.exact
    ∙ ap (λ (base : Option EntryInformation). in_scope c.args.scope c.args.no.0 base rows) c.requires
    ∙ in_scope-behind c.args.scope c.args.no.0 c.args.entry.now after rows ahead
    ∙ ap (λ (base : Option EntryInformation). in_scope_after c.args.scope c.args.no.0 base after rows) (sym c.requires)
