-- Listings: the pages of a search, each asked for with the cookie of the one before, up to one with an empty cookie (RFC
-- 2696 3).
use Rattle.std.specs.Prelude.{◌≡◌, ◌≢◌, ℕ, zero, suc, Bool, true, List, [], ◌∷◌, ◌++◌, Option, Some, None, Ok}
use Rattle.std.specs.List.{list_any, AllByRecursion}
use Rattle.std.specs.Option.{option_map}
use Rattle.dir_tree.specs.dn_names.name.Names.{RdnSequence}
use Rattle.dir_tree.specs.dn_names.parsing.NameText.{read_name}
use Rattle.dir_tree.specs.dn_names.Printing.{print_name}
use Rattle.dir_tree.specs.Entry.{EntryInformation}
use Rattle.ldap_msg.specs.declared.kinds.KindValues.{KindValues}
use Rattle.ldap_msg.specs.declared.kinds.SearchRequest.{SearchRequest}
use Rattle.ldap_msg.specs.declared.kinds.Reply.{Reply}
use Rattle.ldap_msg.specs.declared.kinds.Reply.TheVariants as reply
use Rattle.read_model.specs.Views.{View}
use Rattle.read_model.specs.SearchReplies.{search_replies}
use Rattle.page_core.specs.Endings.{done}
use Rattle.page_core.specs.Pages.{Paged, is_success, page_replies}

-- the page of so many entries that a cookie asks for
abbrev pub pages_of : View → SearchRequest → Option Bool → ℕ → List ℕ → Paged
pages_of view request subentries size cookie =
    page_replies view request subentries (record { size = size; cookie = cookie })

-- the replies of a page and then those of the pages behind it, up to an empty cookie; none where there is no cookie
abbrev pub joined : (List ℕ → Option (List Reply)) → List Reply → Option (List ℕ) → Option (List Reply)
joined behind replies None = None
joined behind replies (Some []) = Some replies
joined behind replies (Some (octet ∷ octets)) = option_map (λ others. replies ++ others) (behind (octet ∷ octets))

-- the replies of at most so many pages from a cookie on, if they end with an empty cookie
abbrev pub listed : (List ℕ → Paged) → ℕ → List ℕ → Option (List Reply)
listed page zero cookie = None
listed page (suc count) cookie = joined (listed page count) (page cookie).replies (page cookie).cookie

-- each entry's name is what its printed form is read as
abbrev pub AreReadAgain : List EntryInformation → Type 0
AreReadAgain entries = AllByRecursion (λ entry. read_name (print_name entry.name) ≡ Ok entry.name) entries

-- the search can be listed: its base is a name other than the empty one, it has no limit, and it succeeds
pub record IsListable (view : View) (request : SearchRequest) (subentries : Option Bool) : Type 0 where
  pub base : RdnSequence
  pub reads : read_name request.base ≡ Ok base
  pub filled : base ≢ []
  pub unlimited : request.size ≡ 0
  pub succeeds : list_any is_success (search_replies view request subentries) ≡ true

-- at most so many pages of this size, from the empty cookie on, join to all replies of the search but the last
pub record JoinsToAnswer (view : View) (request : SearchRequest) (subentries : Option Bool) (size count : ℕ) : Type 0 where
  pub sent : List Reply
  pub pages : listed (pages_of view request subentries size) count [] ≡ Some sent
  pub answer : search_replies view request subentries ≡ sent ++ done ∷ []

-- the last reply of a page is an entry, and its name is the cookie
pub record IsNameOfLast (cookie : List ℕ) (replies : List Reply) : Type 0 where
  pub others : List Reply
  pub attributes : List KindValues
  pub last : replies ≡ others ++ reply.Entry cookie attributes ∷ []
