-- What a search sends, one entry after the other.
use Rattle.std.specs.Prelude.{◌≡◌, ◌≢◌, ℕ, ◌+◌, Bool, true, false, List, [], ◌∷◌, ◌++◌, length, map, filter, flat_map, Option, is_some}
use Rattle.dir_tree.specs.tree.Numbered.{Numbered, entry_of}
use Rattle.dir_tree.specs.declared.number.EntryNo.{EntryNo}
use Rattle.dir_tree.specs.dn_names.name.Names.{RdnSequence}
use Rattle.acdf_filters.specs.declared.asking.Requester.{Requester}
use Rattle.ldap_msg.specs.declared.operations.ResultCode.TheVariants as code
use Rattle.ldap_msg.specs.declared.kinds.LdapResult.{LdapResult}
use Rattle.ldap_msg.specs.declared.kinds.SearchRequest.{SearchRequest}
use Rattle.ldap_msg.specs.declared.kinds.Reply.{Reply}
use Rattle.page_core.specs.read_model.Views.{Row, View, result_of}
use Rattle.page_core.specs.read_model.Choosing.{sent_entry}
use Rattle.page_core.specs.read_model.SearchReplies.{within_limit, limit_code, nothing_found}
use Rattle.op_read.specs.declared.sending.Sent.{Sent}
use Rattle.op_read.specs.declared.sending.Found.{Found}
use Rattle.op_read.specs.declared.sending.Found.TheVariants.{Nothing, Some as FoundSome, TooMany}
use Rattle.op_read.specs.Seeing.{row_in, one_or_none}
use Rattle.op_read.specs.Short.{Puts}

-- there are some
abbrev pub is_filled : View → Bool
is_filled [] = false
is_filled (row ∷ rows) = true

-- the last of the rows, if there are any
abbrev pub last_row : View → View
last_row [] = []
last_row (row ∷ []) = row ∷ []
last_row (row ∷ next ∷ rows) = last_row (next ∷ rows)

-- the entry of a number, if it is shown
abbrev pub shown_at : (Row → Bool) → List Numbered → Requester → ℕ → View
shown_at test rows who id = filter test (one_or_none (row_in rows who) (entry_of id rows))

-- those of numbers
abbrev pub shown_among : (Row → Bool) → List Numbered → Requester → List ℕ → View
shown_among test rows who ids = flat_map (shown_at test rows who) ids

-- entries as they are sent
abbrev pub sent_entries : SearchRequest → View → List Reply
sent_entries request rows = map (sent_entry request.selection request.kinds_only) rows

-- of all that are found some were sent and these are left: the number of the last that was sent, and how many more may
-- be sent, if there is a limit
pub record Sends (at : Option EntryNo → View) (limit id : ℕ) (request : SearchRequest) (all left : View) (before : List ℕ) (sent : Sent) (after : List ℕ) : Type 0 where
  pub rows : View
  pub whole : all ≡ rows ++ left
  pub put : Puts id (sent_entries request rows) before after
  pub some : is_some sent.last ≡ is_filled rows
  pub last : at sent.last ≡ last_row rows
  pub room : limit ≢ 0 → length rows + sent.room ≡ limit

-- a step of a search: these are sent, or there is one that may not be
abbrev pub Goes : (Option EntryNo → View) → ℕ → ℕ → SearchRequest → View → Sent → List ℕ → Sent → List ℕ → Bool → Type 0
Goes at limit id request rows sent out sent_new out_new true =
    (all left : View) (before : List ℕ) → Sends at limit id request all (rows ++ left) before sent out
    → Sends at limit id request all left before sent_new out_new
Goes at limit id request rows sent out sent_new out_new false =
    (is_filled rows ≡ true) × (limit ≢ 0) × (sent.room ≡ 0) × (sent_new.last ≡ sent.last) × (out_new ≡ out)

-- all that are found were sent, as far as the limit allows
abbrev pub SendsAll : ℕ → ℕ → SearchRequest → View → List ℕ → List ℕ → Type 0
SendsAll limit id request all before after = (is_filled all ≡ true) × Puts id (sent_entries request (within_limit limit all)) before after

-- what was found, and sent; of more than may be sent the number of the last that was
abbrev pub IsSent : (Option EntryNo → View) → ℕ → ℕ → SearchRequest → View → List ℕ → List ℕ → Found → Type 0
IsSent at limit id request all before after Nothing = (all ≡ []) × (after ≡ before)
IsSent at limit id request all before after FoundSome = SendsAll limit id request all before after × (limit_code limit all ≡ code.Success)
IsSent at limit id request all before after (TooMany last) =
    SendsAll limit id request all before after × (limit_code limit all ≡ code.SizeLimitExceeded)
    × (at last ≡ last_row (within_limit limit all))

-- how the search ends then
abbrev pub ended_by : View → RdnSequence → Found → LdapResult
ended_by view base Nothing = nothing_found view base
ended_by view base FoundSome = result_of code.Success
ended_by view base (TooMany last) = result_of code.SizeLimitExceeded
