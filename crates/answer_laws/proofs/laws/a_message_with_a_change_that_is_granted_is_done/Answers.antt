-- The law is proved of the definitions, and of what is done where it may be.
use Rattle.answer_laws.proofs.laws.ChangeLemmas.{answer_read-added, answer_read-deleted, answer_read-modified, answer_read-renamed}
use Rattle.answer_laws.proofs.laws.a_message_with_a_change_that_is_granted_is_done.Goals as goal

pub returns : goal.returns
returns c = record {
  added = answer_read-added c.exactly_what_may_be_done_is_done.ensures.added;
  deleted = answer_read-deleted c.exactly_what_may_be_done_is_done.ensures.deleted;
  modified = answer_read-modified c.exactly_what_may_be_changed_is_changed.ensures.modified;
  renamed = answer_read-renamed c.exactly_what_may_be_changed_is_changed.ensures.renamed;
}
