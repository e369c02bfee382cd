-- Pages of twins are the same: a page is made of what the whole search is answered, and of what it selects.
use Rattle.std.proofs.Common.{◌≡◌, ℕ, Bool, cond, List, [], ◌∷◌, Option, Some, None, Result, Ok, Err, refl, ap, ◌∙◌, filter}
use Rattle.std.specs.Prelude.{◌==◌}
use Rattle.std.specs.List.{list_any}
use Rattle.dir_tree.specs.dn_names.name.Names.{RdnSequence}
use Rattle.dir_tree.specs.dn_names.declared.error.BadName.{BadName}
use Rattle.dir_tree.specs.dn_names.parsing.NameText.{read_name}
use Rattle.dir_tree.specs.Entry.{EntryInformation}
use Rattle.acdf_filters.specs.declared.asking.Requester.{Requester}
use Rattle.ldap_msg.specs.declared.kinds.SearchRequest.{SearchRequest}
use Rattle.ldap_msg.specs.declared.kinds.Reply.{Reply}
use Rattle.read_model.specs.Views.{View, view_of}
use Rattle.read_model.specs.Selecting.{selected}
use Rattle.read_model.specs.SearchReplies.{search_replies}
use Rattle.page_core.specs.declared.page.Page.{Page}
use Rattle.page_core.specs.Starts.{start_of, is_after}
use Rattle.page_core.specs.Pages.{Paged, unpaged, page_of_rows, unlimited, is_success, page_after, page_from, page_by, fits_page, page_replies}
use Rattle.twin_laws.specs.Twins.{AreTwins}
use Rattle.twin_laws.proofs.Theorems.{search_replies-twins, selected-twins}

module _ (who : Requester) (one other : List EntryInformation) (top : RdnSequence) (twins : AreTwins who one other top)
    (request : SearchRequest) (subentries : Option Bool) where
  after-twins : (base : RdnSequence) (size : ℕ) (name : RdnSequence)
      → page_after (view_of one who) request subentries base size name
      ≡ page_after (view_of other who) request subentries base size name
  unfolding page_after
  after-twins base size name =
      ap (λ (whole : List Reply). cond (list_any is_success whole)
      (page_of_rows request size (filter (is_after name) (selected (view_of one who) request subentries base)))
      (unpaged whole))
      (search_replies-twins who one other top twins (unlimited request) subentries)
      ∙ ap (λ (rows : View). cond (list_any is_success
      (search_replies (view_of other who) (unlimited request) subentries))
      (page_of_rows request size (filter (is_after name) rows))
      (unpaged (search_replies (view_of other who) (unlimited request) subentries)))
      (selected-twins who one other top twins request subentries base)

  from-twins : (base : RdnSequence) (size : ℕ) (start : Option RdnSequence)
      → page_from (view_of one who) request subentries base size start
      ≡ page_from (view_of other who) request subentries base size start
  from-twins base size None = refl
  from-twins base size (Some name) =
      ap (λ (paged : Paged). cond (size == 0) (record { replies = []; cookie = Some [] }) paged)
      (after-twins base size name)

  by-twins : (page : Page) (base : Result RdnSequence BadName)
      → page_by (view_of one who) request subentries page base ≡ page_by (view_of other who) request subentries page base
  by-twins page (Err bad) = refl
  by-twins page (Ok []) = ap unpaged (search_replies-twins who one other top twins request subentries)
  by-twins page (Ok (rdn ∷ rdns)) = from-twins (rdn ∷ rdns) page.size (start_of page.cookie)

  -- each page is the same
  pub page_replies-twins : (page : Page)
      → page_replies (view_of one who) request subentries page ≡ page_replies (view_of other who) request subentries page
  unfolding page_replies
  page_replies-twins page =
      ap (λ (whole : List Reply). cond (fits_page request page.size) (unpaged whole)
      (page_by (view_of one who) request subentries page (read_name request.base)))
      (search_replies-twins who one other top twins request subentries)
      ∙ ap (λ (paged : Paged). cond (fits_page request page.size)
      (unpaged (search_replies (view_of other who) request subentries)) paged)
      (by-twins page (read_name request.base))
