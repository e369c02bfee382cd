-- The law is proved of the definitions, and of what is read of replies and of pages.
use Rattle.response_laws.proofs.laws.ReadLemmas.{sent-cut, sent-no_rest, sent-read, sent-all_read}
use Rattle.response_laws.proofs.laws.what_is_sent_is_read_again.Goals as goal

pub returns : goal.returns
returns c = record {
  messages = sent-cut;
  no_rest = sent-no_rest;
  replies = sent-all_read c.replies_are_read_again.ensures.exact c.a_written_page_is_read_again.ensures.reply;
  reply = sent-read c.replies_are_read_again.ensures.exact c.a_written_page_is_read_again.ensures.reply;
}
