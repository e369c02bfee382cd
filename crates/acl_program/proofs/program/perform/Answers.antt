use Rattle.std.proofs.Common.{refl, sym}
use Rattle.command_words.specs.command.Command.{Help, Version}
use Rattle.acl_program.specs.Helping.{help_text, version_text}
use Rattle.acl_program.proofs.program.PerformLemmas.{Performs-answered}
use Rattle.acl_program.proofs.program.perform.Goals as goal

-- each command does what it is asked for
pub returns-in-Serve-clause-performs : goal.returns-in-Serve-clause-performs
returns-in-Serve-clause-performs g c = rw c.in-Serve.is c.serve.ensures.performs

pub returns-in-Replay-clause-performs : goal.returns-in-Replay-clause-performs
returns-in-Replay-clause-performs g c = rw c.in-Replay.is c.replay.ensures.performs

pub returns-in-Check-clause-performs : goal.returns-in-Check-clause-performs
returns-in-Check-clause-performs g c = rw c.in-Check.is c.check.ensures.performs

pub returns-in-Why-clause-performs : goal.returns-in-Why-clause-performs
returns-in-Why-clause-performs g c = rw c.in-Why.is c.tell_why.ensures.performs

pub returns-in-Dump-clause-performs : goal.returns-in-Dump-clause-performs
returns-in-Dump-clause-performs g c = rw c.in-Dump.is c.dump.ensures.performs

pub returns-in-Explain-clause-performs : goal.returns-in-Explain-clause-performs
returns-in-Explain-clause-performs g c = rw c.in-Explain.is c.tell_decision.ensures.performs

-- a sample has no more persons than its words may ask for
pub sample-requires : goal.sample-requires
sample-requires g c = record { few = rw c.in-Sample.is at c.requires.few }

pub returns-in-Sample-clause-performs : goal.returns-in-Sample-clause-performs
returns-in-Sample-clause-performs g c = rw c.in-Sample.is c.sample.ensures.performs

pub returns-in-Ask-clause-performs : goal.returns-in-Ask-clause-performs
returns-in-Ask-clause-performs g c = rw c.in-Ask.is c.tell_replies.ensures.performs

pub returns-in-Prove-clause-performs : goal.returns-in-Prove-clause-performs
returns-in-Prove-clause-performs g c = rw c.in-Prove.is c.tell_decision-in-Prove.ensures.performs

pub returns-in-Verify-clause-performs : goal.returns-in-Verify-clause-performs
returns-in-Verify-clause-performs g c = rw c.in-Verify.is c.tell_validity.ensures.performs

pub returns-in-Rights-clause-performs : goal.returns-in-Rights-clause-performs
returns-in-Rights-clause-performs g c = rw c.in-Rights.is c.tell_rights.ensures.performs

-- what is told without a file
pub returns-in-Help-clause-performs : goal.returns-in-Help-clause-performs
returns-in-Help-clause-performs g c = rw (c.in-Help.is, sym c.outside.view_is) (Performs-answered Help help_text _ _ _ refl refl c.print_help.ensures.ends refl)

pub returns-in-Version-clause-performs : goal.returns-in-Version-clause-performs
returns-in-Version-clause-performs g c = rw (c.in-Version.is, sym c.outside-in-Version.view_is) (Performs-answered Version version_text _ _ _ refl refl c.print_version.ensures.ends refl)
