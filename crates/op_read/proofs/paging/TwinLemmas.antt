-- A page over a tree is that over each of its twins.
use Rattle.std.proofs.Common.{◌≡◌, ◌∙◌, refl, ap, ℕ, Bool, List, [], ◌∷◌, ◌++◌, Option, Some, None, filter}
use Rattle.std.specs.Prelude.{◌==◌, Result, Ok, Err, if◌then◌else◌}
use Rattle.std.specs.List.{list_any}
use Rattle.dir_tree.specs.dn_names.name.Names.{RdnSequence}
use Rattle.dir_tree.specs.dn_names.declared.error.BadName.{BadName}
use Rattle.dir_tree.specs.dn_names.parsing.NameText.{read_name}
use Rattle.dir_tree.specs.Entry.{EntryInformation}
use Rattle.acdf_filters.specs.declared.asking.Requester.{Requester}
use Rattle.ldap_msg.specs.declared.kinds.SearchRequest.{SearchRequest}
use Rattle.ldap_msg.specs.declared.kinds.Reply.{Reply}
use Rattle.page_core.specs.read_model.Views.{View, view_of}
use Rattle.page_core.specs.read_model.Selecting.{selected}
use Rattle.page_core.specs.read_model.SearchReplies.{search_replies}
use Rattle.page_core.specs.declared.page.Page.{Page}
use Rattle.page_core.specs.Starts.{start_of, is_after}
use Rattle.page_core.specs.Pages.{Paged, paged_octets, unpaged, page_of_rows, unlimited, is_success, page_after, page_from, page_by, fits_page, page_replies}
use Rattle.twin_laws.specs.Twins.{AreTwins}
use Rattle.twin_laws.proofs.Theorems.{search_replies-twins, selected-twins}
use Rattle.op_read.specs.Alike.{SendsPageAlike}
use Rattle.op_read.specs.Paging.{empty_page}

module _ (who : Requester) (one other : List EntryInformation) (top : RdnSequence) (twins : AreTwins who one other top) (request : SearchRequest) (subentries : Option Bool) where
  -- the page is of the whole answer's code and of the entries that are selected
  after-twins : (base : RdnSequence) (size : ℕ) (after : RdnSequence) → page_after (view_of one who) request subentries base size after ≡ page_after (view_of other who) request subentries base size after
  unfolding page_after
  after-twins base size after =
      ap (λ (whole : List Reply). if list_any is_success whole then page_of_rows request size (filter (is_after after) (selected (view_of one who) request subentries base)) else unpaged whole)
      (search_replies-twins who one other top twins (unlimited request) subentries)
      ∙ ap (λ (rows : View). if list_any is_success (search_replies (view_of other who) (unlimited request) subentries) then page_of_rows request size (filter (is_after after) rows) else unpaged (search_replies (view_of other who) (unlimited request) subentries))
      (selected-twins who one other top twins request subentries base)

  from-twins : (base : RdnSequence) (size : ℕ) (start : Option RdnSequence) → page_from (view_of one who) request subentries base size start ≡ page_from (view_of other who) request subentries base size start
  from-twins base size None = refl
  from-twins base size (Some after) = ap (λ (page : Paged). if size == 0 then empty_page else page) (after-twins base size after)

  by-twins : (page : Page) (base : Result RdnSequence BadName) → page_by (view_of one who) request subentries page base ≡ page_by (view_of other who) request subentries page base
  by-twins page (Err bad) = refl
  by-twins page (Ok []) = ap unpaged (search_replies-twins who one other top twins request subentries)
  by-twins page (Ok (rdn ∷ rdns)) = from-twins (rdn ∷ rdns) page.size (start_of page.cookie)

  pub page_replies-twins : (page : Page) → page_replies (view_of one who) request subentries page ≡ page_replies (view_of other who) request subentries page
  unfolding page_replies
  page_replies-twins page =
      ap (λ (whole : List Reply). if fits_page request page.size then unpaged whole else page_by (view_of one who) request subentries page (read_name request.base))
      (search_replies-twins who one other top twins request subentries)
      ∙ ap (λ (paged : Paged). if fits_page request page.size then unpaged (search_replies (view_of other who) request subentries) else paged) (by-twins page (read_name request.base))

pub page_alike : (who : Requester) (entries : List EntryInformation) (id : ℕ) (request : SearchRequest) (subentries : Option Bool) (page : Page) (old new : List ℕ)
    → new ≡ old ++ paged_octets id (page_replies (view_of entries who) request subentries page)
    → SendsPageAlike who entries id request subentries page old new
unfolding SendsPageAlike
page_alike who entries id request subentries page old new sent other top twins =
    sent ∙ ap (λ (paged : Paged). old ++ paged_octets id paged) (page_replies-twins who entries other top twins request subentries page)
