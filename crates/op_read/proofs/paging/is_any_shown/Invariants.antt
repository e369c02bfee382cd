-- The entries so far are not selected.
use Rattle.std.proofs.Common.{◌≡◌}
use Rattle.dir_tree.specs.Scope.{scoped}
use Rattle.page_core.specs.read_model.Selecting.{is_shown}
use Rattle.op_read.specs.Seeing.{scope_of}
use Rattle.op_read.specs.Sending.{shown_among}
use Rattle.op_read.proofs.paging.is_any_shown.Given as goal

abbrev pub invariant-loop-candidate : goal.invariant-loop-candidate
invariant-loop-candidate g l =
    shown_among (is_shown l.search.request.now l.search.subentries) (g.D.Dir.rows l.asking.dir.now) l.asking.who.now
    (scoped (scope_of l.search.request.now.scope) l.fn.number.0 (g.D.Dir.rows l.asking.dir.now))
    ≡ shown_among (is_shown l.search.request.now l.search.subentries) (g.D.Dir.rows l.asking.dir.now) l.asking.who.now l.candidate-iterator
