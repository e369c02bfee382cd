use Rattle.std.proofs.Common.{◌≡◌, drop}
use Rattle.wire_io.specs.Files.{file_of}
use Rattle.wire_io.specs.MemoryForms.{files_view}
use Rattle.wire_io.proofs.memory_shelf.find.Given as goal

-- the files passed are not of the name
abbrev pub invariant-loop-file : goal.invariant-loop-file
invariant-loop-file l = file_of l.name (files_view l.files) ≡ file_of l.name (files_view (drop l.file-index l.files))
