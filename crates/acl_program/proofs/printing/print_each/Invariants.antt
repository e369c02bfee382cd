use Rattle.std.proofs.Common.{◌≡◌, ◌≤◌, ◌-◌, length, take}
use Rattle.command_files.specs.wire_io.Putting.{appended}
use Rattle.acl_program.specs.program.Playing.{journal_lines}
use Rattle.acl_program.proofs.printing.print_each.Given as goal

-- the lines of the first connections were put
abbrev pub invariant-loop-index : goal.invariant-loop-index
invariant-loop-index g l = record {
  within : l.index ≤ length l.conns;
  put : g.K.Sink.put l.out ≡ appended (g.K.Sink.put l.initial.out) (journal_lines l.link.journal (take l.index l.conns));
  faults : g.K.Sink.faults l.out ≡ g.K.Sink.faults l.initial.out;
}

abbrev pub decreases-loop-index : goal.decreases-loop-index
decreases-loop-index g l = length l.conns - l.index
