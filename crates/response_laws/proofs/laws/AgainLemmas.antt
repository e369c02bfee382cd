-- What answers a message is read again, where it has contents whose lengths can be written.
use Rattle.std.proofs.Common.{◌≡◌, ◌≤◌, ℕ, Bool, List, [], ◌∷◌, map, Option, Some, None, sym, subst, arith}
use Rattle.dir_tree.proofs.base_laws_proofs.Theorems.{all_append}
use Rattle.ldap_msg.specs.ber_elements.Integer.{int_octets}
use Rattle.ldap_msg.specs.ber_elements.write.Spelling.{length_octets}
use Rattle.ldap_msg.specs.ber_layout.Layouts.{Value, Says as SaysLayout}
use Rattle.ldap_msg.specs.ber_layout.Spellings.{element_octets}
use Rattle.ldap_msg.specs.declared.kinds.Message.{Message}
use Rattle.ldap_msg.specs.declared.kinds.Reply.{Reply}
use Rattle.ldap_msg.specs.reading.Messages.{message_layout, id_part, message_of}
use Rattle.ldap_msg.specs.Replies.{reply_of, notice_octets}
use Rattle.ldap_msg.proofs.Theorems.{message_sound}
use Rattle.op_read.specs.Short.{AreShort, IsShortEnding}
use Rattle.session_hub.specs.session_model.AnsweredMessages.{AnsweredMessage}
use Rattle.session_hub.specs.Parties.{DirectoryEntries, Requester}
use Rattle.session_hub.specs.declared.bounds.Terms.{Terms}
use Rattle.session_hub.specs.Limiting.{limited_message, limited_read}
use Rattle.session_hub.specs.Answering.{answered, answer_read, rules}
use Rattle.session_hub.specs.ShortAnswers.{IsShortAnswer, IsAnsweredShort}
use Rattle.response_laws.specs.Responses.{Plain, PageEnd, octets_of, reply_in, notice, AreResponses, AreReadAgain, IsReadAnswer}
use Rattle.response_laws.proofs.laws.SearchLemmas.{sent_by}
use Rattle.response_laws.proofs.laws.ReadLemmas.{ReadsReplies, ReadsEnds}
use Rattle.response_laws.proofs.laws.ResponseLemmas.{sent_by-octets, answered-responds, limited-kind}

-- the messageID of a message that was read is in its range
id-most : (parts : Value message_layout) (content : List ℕ) → SaysLayout message_layout parts content → id_part parts ≤ 2147483647
id-most (id, rest) content says = says.inner.to_high

read-most : (bytes : List ℕ) (message : Message) → message_of bytes ≡ Some message → message.id ≤ 2147483647
read-most bytes message read =
    let says = message_sound bytes message read in
    subst (λ id. id ≤ 2147483647) says.inner.id (id-most says.inner.parts says.content says.inner.says)

module _ (replies_read : ReadsReplies) (ends_read : ReadsEnds) where
  replies-again : (id : ℕ) → id ≤ 2147483647 → (replies : List Reply) → AreShort id replies → AreReadAgain id (map Plain replies)
  replies-again id most [] short = tt
  replies-again id most (first ∷ rest) short = (replies_read id first (record { most = most; short = short.0 }), replies-again id most rest short.1)

  -- so all that is sent
  sent-again : (id : ℕ) → id ≤ 2147483647 → (replies : List Reply) (cookie : Option (List ℕ)) → AreShort id replies → IsShortEnding id cookie → AreReadAgain id (sent_by replies cookie)
  sent-again id most replies None short ending = replies-again id most replies short
  sent-again id most replies (Some cookie) short ending =
      all_append (λ one. reply_of (octets_of id one) ≡ Some (id, reply_in one)) (map Plain replies) (PageEnd cookie ∷ []) (replies-again id most replies short)
      (ends_read id cookie (record { range = most; short = ending }), tt)

  -- so the answer to a message
  message-again : (keeps : Bool) (entries : DirectoryEntries) (who : Requester) (message : Message) → message.id ≤ 2147483647 → IsShortAnswer entries who (Some message)
      → IsReadAnswer message.request message.id (answer_read keeps entries who (Some message)).replies
  message-again keeps entries who message most short = record {
    answers = record {
      sent = sent_by (answered entries who message.controls message.request).replies (answered entries who message.controls message.request).cookie;
      responses = answered-responds entries who message.controls message.request;
      written = sent_by-octets message.id _ _;
    };
    again = sent-again message.id most _ _ short.replies short.ending;
  }

  -- so that to the octets that are read as it
  pub bytes-again : (terms : Terms) (asked : AnsweredMessage DirectoryEntries Requester) (message : Message) → message_of asked.message ≡ Some message → IsAnsweredShort terms asked
      → IsReadAnswer message.request message.id ((rules terms).answer asked.tree asked.who asked.message).replies
  unfolding rules IsAnsweredShort
  bytes-again terms asked message read short =
      subst (λ (found : Option Message). IsShortAnswer asked.tree asked.who (limited_read terms.limit found)
      → IsReadAnswer message.request message.id (answer_read terms.keeps asked.tree asked.who (limited_read terms.limit found)).replies) (sym read) again short
    where
      again : IsShortAnswer asked.tree asked.who (Some (limited_message terms.limit message))
          → IsReadAnswer message.request message.id (answer_read terms.keeps asked.tree asked.who (Some (limited_message terms.limit message))).replies
      again short =
          let whole = message-again terms.keeps asked.tree asked.who (limited_message terms.limit message) (read-most asked.message message read) short in
          record {
            answers = record {
              sent = whole.answers.sent;
              responses = subst (λ kind. AreResponses kind whole.answers.sent) (limited-kind terms.limit message.request) whole.answers.responses;
              written = whole.answers.written;
            };
            again = whole.again;
          }

  -- the notice of disconnection
  pub notice-again : reply_of notice_octets ≡ Some (0, notice)
  unfolding notice_octets element_octets int_octets length_octets
  notice-again = replies_read 0 notice (record { most = omega arith; short = omega arith })
