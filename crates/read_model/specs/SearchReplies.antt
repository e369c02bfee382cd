-- What a search is answered (RFC 4511 4.5, X.511 10.2): entries, and how it ended.
use Rattle.std.specs.Prelude.{ℕ, ◌==◌, nat_lt, Bool, List, [], ◌∷◌, ◌++◌, length, take, map, flat_map, Option, Result, Ok, Err, if◌then◌else◌}
use Rattle.std.specs.List.{list_any}
use Rattle.dir_tree.specs.dn_names.name.Names.{RdnSequence}
use Rattle.dir_tree.specs.dn_names.declared.error.BadName.{BadName}
use Rattle.dir_tree.specs.dn_names.parsing.NameText.{read_name}
use Rattle.ldap_msg.specs.declared.operations.ResultCode.{ResultCode}
use Rattle.ldap_msg.specs.declared.operations.ResultCode.TheVariants as code
use Rattle.ldap_msg.specs.declared.kinds.LdapResult.{LdapResult}
use Rattle.ldap_msg.specs.declared.kinds.SearchRequest.{SearchRequest}
use Rattle.ldap_msg.specs.declared.kinds.Reply.{Reply}
use Rattle.ldap_msg.specs.declared.kinds.Reply.TheVariants as reply
use Rattle.ldap_msg.specs.declared.operations.Ending.TheVariants as ending
use Rattle.ldap_msg.specs.Replies.{reply_octets}
use Rattle.read_model.specs.Views.{View, has_name, discloses, hidden, no_such_object, result_of}
use Rattle.read_model.specs.Selecting.{selected}
use Rattle.read_model.specs.Choosing.{sent_entry}
use Rattle.read_model.specs.RootEntry.{root_replies}

-- no more than the limit, if there is one
abbrev pub within_limit : ℕ → View → View
within_limit limit rows = if limit == 0 then rows else take limit rows

-- sizeLimitExceeded where more were selected than may be sent
abbrev pub limit_code : ℕ → View → ResultCode
limit_code limit rows = if limit == 0 then code.Success else if nat_lt limit (length rows) then code.SizeLimitExceeded else code.Success

-- how a search ends that selects nothing: as one of no entry, where the base may not be known of
abbrev pub nothing_found : View → RdnSequence → LdapResult
nothing_found view base = if discloses view base then result_of code.Success else no_such_object view base

-- the entries that are selected are sent, up to the limit
unfoldable pub found_replies : View → SearchRequest → RdnSequence → View → List Reply
found_replies view request base [] = reply.Ended ending.Done (nothing_found view base) ∷ []
found_replies view request base (first ∷ rest) =
    map (sent_entry request.selection request.kinds_only) (within_limit request.size (first ∷ rest))
    ++ reply.Ended ending.Done (result_of (limit_code request.size (first ∷ rest))) ∷ []

-- a search of a base that is a name
unfoldable pub replies_at : View → SearchRequest → Option Bool → RdnSequence → List Reply
replies_at view request subentries base =
    if list_any (has_name base) view then found_replies view request base (selected view request subentries base)
    else reply.Ended ending.Done (hidden view base) ∷ []

-- a search, by what its base is
abbrev pub replies_by : View → SearchRequest → Option Bool → Result RdnSequence BadName → List Reply
replies_by view request subentries (Err bad) = reply.Ended ending.Done (result_of code.InvalidDnSyntax) ∷ []
replies_by view request subentries (Ok []) = root_replies view request subentries
replies_by view request subentries (Ok (rdn ∷ rdns)) = replies_at view request subentries (rdn ∷ rdns)

-- the replies to a search, with the control of subentries or without
unfoldable pub search_replies : View → SearchRequest → Option Bool → List Reply
search_replies view request subentries = replies_by view request subentries (read_name request.base)

-- the written octets of replies to the message of this number, one behind the other
abbrev pub replies_octets : ℕ → List Reply → List ℕ
replies_octets id replies = flat_map (reply_octets id) replies
