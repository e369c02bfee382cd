-- The forms over the system, of which contracts see the count of faults alone.
use Rattle.std.specs.Prelude.{ℕ}
use Rattle.wire_io.specs.declared.file_shelf.FileShelf.{FileShelf}
use Rattle.wire_io.specs.declared.standard_sink.StdSink.{StdSink}

-- how many faults the system's shelf had
abbrev pub shelf_faults : {R : Type 0} → FileShelf R → ℕ
shelf_faults shelf = shelf.faults

-- how many faults the standard output had
abbrev pub sink_faults : {R : Type 0} → StdSink R → ℕ
sink_faults sink = sink.faults
