use Rattle.std.proofs.Common.{Err, refl, ◌∙◌}
use Rattle.command_files.specs.wire_io.declared.answers.PutFault.TheVariants.{NoMemory}
use Rattle.command_files.proofs.wire_io_proofs.Theorems.{PutsAll-no_memory, PutCause-no_memory}
use Rattle.audit_program.proofs.printing.print_audit.Goals as goal

-- both lines were to be put, and how the sink answered
pub returns : goal.returns
returns g c = record {
  ends = record {
    answer = c.write_all-put.result;
    is = c.after.ensures.exact;
    puts = rw (c.as_bytes.ensures.value ∙ c.in-Ok.ensures) at c.write_all-put.ensures.tells;
    cause = c.write_all-put.ensures.cause;
  };
}

-- there was no memory for them, and nothing was put
pub returns-in_default : goal.returns-in_default
returns-in_default g c = record { ends = record { answer = Err NoMemory; is = refl; puts = PutsAll-no_memory _ _ _; cause = PutCause-no_memory _ _ } }
