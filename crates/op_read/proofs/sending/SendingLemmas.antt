-- What a search sends, one entry after the other, is what it sends.
use Rattle.std.proofs.Common.{◌≡◌, ◌≢◌, ℕ, ◌+◌, true, Option, Some, List, [], ◌∷◌, ◌++◌, refl, sym, ap, ◌∙◌, subst, append_assoc, length-append, arith}
use Rattle.std.specs.Prelude.{is_some}
use Rattle.std.proofs.lemmas.List.{map-append}
use Rattle.dir_tree.specs.dn_names.name.Names.{RdnSequence}
use Rattle.dir_tree.specs.Entry.{EntryInformation}
use Rattle.dir_tree.specs.tree.Numbered.{Numbered, entry_of}
use Rattle.dir_tree.specs.declared.number.EntryNo.{EntryNo}
use Rattle.acdf_filters.specs.declared.asking.Requester.{Requester}
use Rattle.ldap_msg.specs.declared.operations.ResultCode.{ResultCode}
use Rattle.ldap_msg.specs.declared.operations.ResultCode.TheVariants as code
use Rattle.ldap_msg.specs.declared.kinds.Reply.TheVariants as reply
use Rattle.ldap_msg.specs.declared.operations.Ending.TheVariants as ending
use Rattle.ldap_msg.specs.declared.kinds.SearchRequest.{SearchRequest}
use Rattle.page_core.specs.read_model.Views.{Row, View, result_of}
use Rattle.page_core.specs.read_model.Choosing.{sent_entry}
use Rattle.page_core.specs.read_model.SearchReplies.{within_limit, limit_code, found_replies}
use Rattle.op_read.specs.declared.sending.Sent.{Sent}
use Rattle.op_read.specs.declared.sending.Found.{Found}
use Rattle.op_read.specs.declared.sending.Found.TheVariants.{Nothing, Some as FoundSome, TooMany}
use Rattle.op_read.specs.Seeing.{row_in, rows_at, one_or_none}
use Rattle.op_read.specs.Sending.{is_filled, last_row, sent_entries, Sends, SendsAll, IsSent, ended_by}
use Rattle.op_read.specs.Short.{Puts}
use Rattle.op_read.proofs.sending.PutsLemmas.{puts-append, puts-same}

-- with one more there are some
filled-more : (rows : View) (row : Row) → true ≡ is_filled (rows ++ row ∷ [])
filled-more [] row = refl
filled-more (first ∷ rows) row = refl

-- one more was appended
entries-more : (id : ℕ) (request : SearchRequest) (rows : View) (row : Row) (before out after : List ℕ) → Puts id (sent_entries request rows) before out → Puts id (sent_entries request (row ∷ [])) out after
    → Puts id (sent_entries request (rows ++ row ∷ [])) before after
entries-more id request rows row before out after first more =
    puts-same id _ _ before after (sym (map-append (sent_entry request.selection request.kinds_only) rows (row ∷ [])))
    (puts-append id (sent_entries request rows) (sent_entries request (row ∷ [])) before out after first more)

-- and it is the last
last-more : (rows : View) (row : Row) → row ∷ [] ≡ last_row (rows ++ row ∷ [])
last-more [] row = refl
last-more (first ∷ []) row = refl
last-more (first ∷ next ∷ rows) row = last-more (next ∷ rows) row

-- the row of a number in use
pub row-at : (rows : List Numbered) (who : Requester) (number : EntryNo) (entry : EntryInformation) → entry_of number.0 rows ≡ Some entry → rows_at rows who (Some number) ≡ row_in rows who entry ∷ []
row-at rows who number entry e = ap (one_or_none (row_in rows who)) e

-- one more was sent, without a limit
pub sends-free : (at : Option EntryNo → View) (limit id : ℕ) (request : SearchRequest) (row : Row) (sent new : Sent) (out after : List ℕ) → limit ≡ 0 → is_some new.last ≡ true → at new.last ≡ row ∷ [] → Puts id (sent_entries request (row ∷ [])) out after
    → (all left : View) (before : List ℕ) → Sends at limit id request all (row ∷ left) before sent out → Sends at limit id request all left before new after
sends-free at limit id request row sent new out after free some last put all left before h = record {
  rows = h.rows ++ row ∷ [];
  whole = h.whole ∙ sym (append_assoc h.rows (row ∷ []) left);
  put = entries-more id request h.rows row before out after h.put put;
  some = some ∙ filled-more h.rows row;
  last = last ∙ last-more h.rows row;
  room = λ k. absurd (k free);
}

-- within a limit
pub sends-within : (at : Option EntryNo → View) (limit id : ℕ) (request : SearchRequest) (row : Row) (sent new : Sent) (out after : List ℕ) → limit ≢ 0 → is_some new.last ≡ true → at new.last ≡ row ∷ [] → new.room + 1 ≡ sent.room → Puts id (sent_entries request (row ∷ [])) out after
    → (all left : View) (before : List ℕ) → Sends at limit id request all (row ∷ left) before sent out → Sends at limit id request all left before new after
sends-within at limit id request row sent new out after bound some last room put all left before h = record {
  rows = h.rows ++ row ∷ [];
  whole = h.whole ∙ sym (append_assoc h.rows (row ∷ []) left);
  put = entries-more id request h.rows row before out after h.put put;
  some = some ∙ filled-more h.rows row;
  last = last ∙ last-more h.rows row;
  room = λ k. (let all = h.room k in omega (arith, length-append h.rows (row ∷ [])));
}

-- ---- the replies

-- the entries, and how the search ended
found-filled : (view all : View) (request : SearchRequest) (base : RdnSequence) → is_filled all ≡ true
    → sent_entries request (within_limit request.size all) ++ reply.Ended ending.Done (result_of (limit_code request.size all)) ∷ [] ≡ found_replies view request base all
unfolding found_replies
found-filled view [] request base h = absurd cc
found-filled view (first ∷ rest) request base h = refl

found-ended : (id : ℕ) (view all : View) (request : SearchRequest) (base : RdnSequence) (ended : ResultCode) (before middle after : List ℕ)
    → SendsAll request.size id request all before middle → limit_code request.size all ≡ ended → Puts id (reply.Ended ending.Done (result_of ended) ∷ []) middle after
    → Puts id (found_replies view request base all) before after
found-ended id view all request base ended before middle after sent is put =
    puts-same id _ _ before after
    (ap (λ (last : ResultCode). sent_entries request (within_limit request.size all) ++ reply.Ended ending.Done (result_of last) ∷ []) (sym is) ∙ found-filled view all request base sent.0)
    (puts-append id (sent_entries request (within_limit request.size all)) (reply.Ended ending.Done (result_of ended) ∷ []) before middle after sent.1 put)

-- what was sent, and how the search ended
pub found-replies : (at : Option EntryNo → View) (id : ℕ) (view all : View) (request : SearchRequest) (base : RdnSequence) (before middle after : List ℕ) (found : Found)
    → IsSent at request.size id request all before middle found → Puts id (reply.Ended ending.Done (ended_by view base found) ∷ []) middle after
    → Puts id (found_replies view request base all) before after
unfolding found_replies
found-replies at id view all request base before middle after Nothing sent put =
    puts-same id _ _ before after (ap (λ (rows : View). found_replies view request base rows) (sym sent.0))
    (subst (λ out. Puts id (reply.Ended ending.Done (ended_by view base Nothing) ∷ []) out after) sent.1 put)
found-replies at id view all request base before middle after FoundSome sent put = found-ended id view all request base code.Success before middle after sent.0 sent.1 put
found-replies at id view all request base before middle after (TooMany last) sent put = found-ended id view all request base code.SizeLimitExceeded before middle after sent.0 sent.1 put
