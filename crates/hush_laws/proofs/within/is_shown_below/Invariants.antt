-- No entry so far is shown, so those that are left decide.
use Rattle.std.proofs.Common.{◌≡◌}
use Rattle.std.specs.List.{list_any}
use Rattle.dir_tree.specs.Scope.{scoped}
use Rattle.dir_tree.specs.declared.scope.Scope.TheVariants.{Sub}
use Rattle.hush_laws.specs.Rows.{is_number_shown}
use Rattle.hush_laws.proofs.within.is_shown_below.Given as goal

abbrev pub invariant-loop-number : goal.invariant-loop-number
invariant-loop-number g l =
    list_any (is_number_shown l.top (g.D.Dir.rows l.asking.dir.now) l.asking.who.now) l.number-iterator
    ≡ list_any (is_number_shown l.top (g.D.Dir.rows l.asking.dir.now) l.asking.who.now) (scoped Sub l.fn.base.0 (g.D.Dir.rows l.asking.dir.now))
