-- The page that a cookie asks for, where the search can be listed.
use Rattle.std.proofs.Common.{◌≡◌, ◌≢◌, ℕ, ◌<◌, Bool, false, not, ◌&&◌, eqb, leb, List, [], ◌∷◌, filter, Option, Some, Ok, refl, sym, ap, ◌∙◌, arith}
use Rattle.std.specs.List.{list_any}
use Rattle.std.proofs.lemmas.Bool.{ne_eqb, cond-false, cond-true}
use Rattle.dir_tree.specs.dn_names.name.Names.{RdnSequence}
use Rattle.dir_tree.specs.dn_names.parsing.NameText.{read_name}
use Rattle.dir_tree.specs.dn_names.Modes.{text_fault}
use Rattle.dir_tree.specs.dn_names.Reading.{written_of}
use Rattle.dir_tree.specs.dn_names.Resolving.{resolve}
use Rattle.ldap_msg.specs.declared.kinds.SearchRequest.{SearchRequest}
use Rattle.read_model.specs.Views.{View}
use Rattle.read_model.specs.Selecting.{selected}
use Rattle.read_model.specs.SearchReplies.{search_replies}
use Rattle.page_core.specs.declared.page.Page.{Page}
use Rattle.page_core.specs.Starts.{filled_name, start_of, is_after}
use Rattle.page_core.specs.Pages.{page_of_rows, unlimited, is_success, page_after, page_from, page_by, fits_page, page_replies}
use Rattle.page_laws.specs.Listing.{IsListable, pages_of}

-- a text that is read as a name other than the empty one has octets, and as a cookie it says that name
pub record IsCookieOf (name : RdnSequence) (cookie : List ℕ) : Type 0 where
  pub filled : cookie ≢ []
  pub starts : start_of cookie ≡ Some name

nothing_read : read_name [] ≡ Ok []
unfolding read_name text_fault resolve written_of
nothing_read = refl

filled_again : (name : RdnSequence) → name ≢ [] → filled_name (Ok name) ≡ Some name
filled_again [] filled = absurd (filled refl)
filled_again (rdn ∷ rdns) filled = refl

pub cookie_of : (name : RdnSequence) (cookie : List ℕ) → name ≢ [] → read_name cookie ≡ Ok name → IsCookieOf name cookie
cookie_of name [] filled reads =
    let same : Ok [] ≡ Ok name = sym nothing_read ∙ reads in
    let empty : name ≡ [] = cc in
    absurd (filled empty)
cookie_of name (octet ∷ octets) filled reads =
    record { filled = λ e. absurd cc; starts = ap filled_name reads ∙ filled_again name filled }

-- ---- the page

module _ (view : View) (request : SearchRequest) (subentries : Option Bool)
    (listable : IsListable view request subentries) (size : ℕ) (some : 0 < size) where
  no_limit : fits_page request size ≡ false
  no_limit = ap (λ (limit : ℕ). not (eqb limit 0) && leb limit size) listable.unlimited

  -- the search without a limit is the search
  same_search : search_replies view (unlimited request) subentries ≡ search_replies view request subentries
  same_search =
      ap (λ (limit : ℕ). search_replies view (record request { size = limit }) subentries) (sym listable.unlimited)

  rows_after : (base after : RdnSequence) → page_after view request subentries base size after
      ≡ page_of_rows request size (filter (is_after after) (selected view request subentries base))
  unfolding page_after
  rows_after base after =
      cond-true (list_any is_success (search_replies view (unlimited request) subentries)) _ _
      (ap (list_any is_success) same_search ∙ listable.succeeds)

  rows_from : (base after : RdnSequence) (cookie : List ℕ) → start_of cookie ≡ Some after
      → page_from view request subentries base size (start_of cookie)
      ≡ page_of_rows request size (filter (is_after after) (selected view request subentries base))
  rows_from base after cookie starts =
      ap (page_from view request subentries base size) starts
      ∙ cond-false (eqb size 0) _ _ (ne_eqb size 0 (λ e. absurd (omega arith)))
      ∙ rows_after base after

  by_name : (base : RdnSequence) (page : Page) → base ≢ [] → page_by view request subentries page (Ok base)
      ≡ page_from view request subentries base page.size (start_of page.cookie)
  by_name [] page filled = absurd (filled refl)
  by_name (rdn ∷ rdns) page filled = refl

  -- the entries behind the name that the cookie says
  pub page_at : (after : RdnSequence) (cookie : List ℕ) → start_of cookie ≡ Some after
      → pages_of view request subentries size cookie
      ≡ page_of_rows request size (filter (is_after after) (selected view request subentries listable.base))
  unfolding page_replies
  page_at after cookie starts =
      let page : Page = record { size = size; cookie = cookie } in
      cond-false (fits_page request size) _ _ no_limit
      ∙ ap (page_by view request subentries page) listable.reads
      ∙ by_name listable.base page listable.filled
      ∙ rows_from listable.base after cookie starts
