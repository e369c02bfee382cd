-- What crates above may cite.

-- a frame: a whole message has two octets or more, is there, and stays, whatever follows
pub use Rattle.ldap_msg.proofs.framing.StreamLemmas.{frame_bound, frame_again, more_bound}
-- one step, for a loop that reads messages where they lie
pub use Rattle.ldap_msg.proofs.laws.WholeLemmas.{whole_step, rest_step, broken_step, whole_more, rest_more, broken_more, whole_bad, rest_bad, broken_bad}
-- a stream that goes on, and what follows its messages
pub use Rattle.ldap_msg.proofs.laws.WholeLemmas.{whole_append, rest_append, whole_nil, rest_nil, whole_rest, rest_rest, rest_frame, broken_rest, rest_bound}
-- a request that is read is the one that the octets say, and the one that they say is read; so is a reply
pub use Rattle.ldap_msg.proofs.reading.MessageLemmas.{message_sound, message_complete}
pub use Rattle.ldap_msg.proofs.replies.AnswerLemmas.{reply_is_sound, reply_is_complete}
-- the code of a code's number is the code, and the number of a number's code is the number; a code's number is below 128
pub use Rattle.ldap_msg.proofs.operations.CodeLemmas.{code_back, number_back, code_bound}
-- the content of a whole message stands behind its header
pub use Rattle.ldap_msg.proofs.framing.HeadLemmas.{content_by}
-- what is written says itself, and no reply is empty
pub use Rattle.ldap_msg.proofs.laws.WrittenLemmas.{request_says, answer_says, reply_some}
-- a frame is the one that the stream has; a whole message is an outer element, and one by itself
pub use Rattle.ldap_msg.proofs.framing.OuterLemmas.{frame_sound, frame_complete, outer_frame, frame_outer, whole_alone}
-- the messages are the longest list of outer elements at the front, and the only one
pub use Rattle.ldap_msg.proofs.laws.LongestLemmas.{whole_parts, whole_longest, whole_only, broken_sound, broken_complete}
