use Rattle.std.proofs.Common.{refl}
use Rattle.command_files.specs.Outside.{written}
use Rattle.command_files.proofs.wire_io_proofs.Theorems.{appended-none}
use Rattle.acl_program.specs.Outcomes.{Served, text_of, status_of}
use Rattle.acl_program.specs.serve.Serving.{NotStored}
use Rattle.acl_program.proofs.troubles.EndsLemmas.{Ends-no_memory, Ends-put}
use Rattle.acl_program.proofs.serve.print_store_fault.Goals as goal

-- the text was to be put, and how the sink answered
pub returns-in-Failed : goal.returns-in-Failed
unfolding text_of status_of
returns-in-Failed g c = record {
  ends = λ asked call. rw c.in-Failed.is (Ends-put (Served asked (NotStored call _)) (written _ _) (written _ _) _ _ _ _ refl refl c.after.ensures.exact c.write_all-put.ensures.tells c.write_all-put.ensures.cause);
}

-- there was no memory, and nothing is put
pub returns-in-NoMemory : goal.returns-in-NoMemory
returns-in-NoMemory g c = record { ends = λ asked call. Ends-no_memory (Served asked (NotStored call _)) (written _ _) (written _ _) 0 (appended-none _) refl }
