-- How a program ends once a text was to be put, for any statuses that it has: it wanted one, and a refusal of the sink, or
-- want of memory, comes before it.
use Rattle.std.specs.Prelude.{◌≡◌, ℕ, List, Result, Ok, Err}
use Rattle.wire_io.specs.declared.answers.PutFault.{PutFault}
use Rattle.wire_io.specs.declared.answers.PutFault.TheVariants.{Failed, NoMemory}
use Rattle.wire_io.specs.Putting.{PutsAll, PutCause}
use Rattle.command_files.specs.Outside.{Written}

-- the statuses that a program has for a sink that refused, and for want of memory
pub record PutStatuses (S : Type 0) : Type 0 where
  pub refused : S
  pub starved : S

-- the status by how the sink answered
abbrev pub status_after : {S : Type 0} → PutStatuses S → Result (Unit {0}) PutFault → S → S
status_after statuses (Ok done) wanted = wanted
status_after statuses (Err Failed) wanted = statuses.refused
status_after statuses (Err NoMemory) wanted = statuses.starved

-- the text was put whole, and the program ended as it wanted; or a front of the text was put, with the status of the sink's
-- refusal, where its count of faults rose, or with that of want of memory
pub record EndsBy {S : Type 0} (statuses : PutStatuses S) (text : List ℕ) (wanted : S) (before : Written) (status : S) (after : Written) : Type 0 where
  pub answer : Result (Unit {0}) PutFault
  pub is : status ≡ status_after statuses answer wanted
  pub puts : PutsAll before.put text answer after.put
  pub cause : PutCause before.faults after.faults answer
