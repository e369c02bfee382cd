-- The law is proved of the definitions, and of what is read of replies and of pages.
use Rattle.response_laws.proofs.laws.AgainLemmas.{bytes-again, notice-again}
use Rattle.response_laws.proofs.laws.each_answer_is_read_again.Goals as goal

pub returns : goal.returns
returns c = record {
  answers = bytes-again c.replies_are_read_again.ensures.exact c.a_written_page_is_read_again.ensures.reply;
  notice = notice-again c.replies_are_read_again.ensures.exact c.a_written_page_is_read_again.ensures.reply;
}
