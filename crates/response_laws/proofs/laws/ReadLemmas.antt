-- What is sent is cut into messages again, and each is read again.
use Rattle.std.proofs.Common.{◌≡◌, ℕ, List, [], ◌∷◌, ◌++◌, length, map, flat_map, Some, refl, ap, ap₂, ◌∙◌}
use Rattle.std.specs.List.{AllByRecursion}
use Rattle.std.proofs.Math.Seq.{take-append_seam, drop-append_seam}
use Rattle.dir_tree.proofs.base_laws_proofs.Theorems.{all_map}
use Rattle.ldap_msg.specs.declared.kinds.Reply.{Reply}
use Rattle.ldap_msg.specs.Streams.{IsOuter, whole, rest_of}
use Rattle.ldap_msg.specs.Replies.{reply_octets, reply_of}
use Rattle.ldap_msg.specs.Ranges.{IsWritableReply}
use Rattle.ldap_msg.proofs.Theorems.{outer_frame, whole_step, rest_step, whole_nil, rest_nil}
use Rattle.page_core.specs.Endings.{done, page_end}
use Rattle.page_core.specs.Laws.{IsWritableEnd}
use Rattle.response_laws.specs.Responses.{Sent, Plain, PageEnd, reply_in, octets_of, IsWritableSent, IsReadable}

-- the first message of a stream, and those behind it
one_more : (message rest : List ℕ) → IsOuter message → whole (message ++ rest) ≡ message ∷ whole rest
one_more message rest outer =
    whole_step (message ++ rest) (length message) (outer_frame message rest outer)
    ∙ ap₂ (λ first others. first ∷ whole others) (take-append_seam message rest) (drop-append_seam message rest)

no_rest_more : (message rest : List ℕ) → IsOuter message → rest_of (message ++ rest) ≡ rest_of rest
no_rest_more message rest outer = rest_step (message ++ rest) (length message) (outer_frame message rest outer) ∙ ap rest_of (drop-append_seam message rest)

pub sent-cut : (id : ℕ) (sent : List Sent) → AllByRecursion (λ one. IsOuter (octets_of id one)) sent → whole (flat_map (octets_of id) sent) ≡ map (octets_of id) sent
sent-cut id [] each = whole_nil
sent-cut id (one ∷ sent) each =
    one_more (octets_of id one) (flat_map (octets_of id) sent) each.0 ∙ ap (λ messages. octets_of id one ∷ messages) (sent-cut id sent each.1)

pub sent-no_rest : (id : ℕ) (sent : List Sent) → AllByRecursion (λ one. IsOuter (octets_of id one)) sent → rest_of (flat_map (octets_of id) sent) ≡ []
sent-no_rest id [] each = rest_nil
sent-no_rest id (one ∷ sent) each = no_rest_more (octets_of id one) (flat_map (octets_of id) sent) each.0 ∙ sent-no_rest id sent each.1

-- each by the law of its kind
abbrev pub ReadsReplies : Type 0
ReadsReplies = (id : ℕ) (reply : Reply) → IsWritableReply id reply → reply_of (reply_octets id reply) ≡ Some (id, reply)

abbrev pub ReadsEnds : Type 0
ReadsEnds = (id : ℕ) (cookie : List ℕ) → IsWritableEnd id cookie → reply_of (page_end id cookie) ≡ Some (id, done)

pub sent-read : ReadsReplies → ReadsEnds → (id : ℕ) (one : Sent) → IsWritableSent id one → reply_of (octets_of id one) ≡ Some (id, reply_in one)
sent-read replies ends id (Plain reply) writable = replies id reply writable
sent-read replies ends id (PageEnd cookie) writable = ends id cookie writable

-- so all are read again
each_read : ReadsReplies → ReadsEnds → (id : ℕ) (sent : List Sent) → AllByRecursion (IsReadable id) sent
    → map reply_of (map (octets_of id) sent) ≡ map (λ one. Some (id, reply_in one)) sent
each_read replies ends id [] each = refl
each_read replies ends id (one ∷ sent) each =
    ap₂ (λ first others. first ∷ others) (sent-read replies ends id one each.0.writable) (each_read replies ends id sent each.1)

pub sent-all_read : ReadsReplies → ReadsEnds → (id : ℕ) (sent : List Sent) → AllByRecursion (IsReadable id) sent
    → map reply_of (whole (flat_map (octets_of id) sent)) ≡ map (λ one. Some (id, reply_in one)) sent
sent-all_read replies ends id sent each =
    ap (map reply_of) (sent-cut id sent (all_map (IsReadable id) (λ one. IsOuter (octets_of id one)) (λ one is. is.whole) sent each))
    ∙ each_read replies ends id sent each
