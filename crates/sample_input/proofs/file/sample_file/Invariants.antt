use Rattle.std.proofs.Common.{◌≡◌}
use Rattle.std.specs.Prelude.{string_bytes}
use Rattle.sample_input.specs.SampleFile.{sample_file}
use Rattle.sample_input.proofs.file.sample_file.Given as goal

-- the records of so many persons are there
abbrev pub invariant-loop-done : goal.invariant-loop-done
invariant-loop-done l = string_bytes l.text ≡ sample_file l.done
