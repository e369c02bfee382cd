-- A cookie that isn't empty names the last entry of its page.
use Rattle.std.proofs.Common.{◌≡◌, ℕ, Bool, List, [], ◌∷◌, length, map, take, filter, Option, Some, None, Result, Ok, Err, refl, sym, ap, subst, ◌∙◌, nat_lt}
use Rattle.std.specs.Prelude.{◌==◌}
use Rattle.std.specs.List.{list_any}
use Rattle.std.proofs.lemmas.Bool.{cond_both}
use Rattle.std.proofs.lemmas.Option.{same_Some}
use Rattle.dir_tree.specs.dn_names.name.Names.{RdnSequence}
use Rattle.dir_tree.specs.dn_names.declared.error.BadName.{BadName}
use Rattle.dir_tree.specs.dn_names.parsing.NameText.{read_name}
use Rattle.dir_tree.specs.dn_names.Printing.{print_by, print_name}
use Rattle.ldap_msg.specs.declared.kinds.SearchRequest.{SearchRequest}
use Rattle.ldap_msg.specs.declared.kinds.Reply.{Reply}
use Rattle.read_model.specs.Views.{Row, View}
use Rattle.read_model.specs.Selecting.{selected}
use Rattle.read_model.specs.Choosing.{sent_attributes, sent_entry}
use Rattle.read_model.specs.SearchReplies.{search_replies}
use Rattle.page_core.specs.declared.page.Page.{Page}
use Rattle.page_core.specs.Starts.{start_of, is_after}
use Rattle.page_core.specs.Pages.{Paged, unpaged, last_name, page_of_rows, unlimited, is_success, page_after, page_from, page_by, fits_page, page_replies}
use Rattle.page_laws.specs.Listing.{IsNameOfLast}

-- a cookie that the page has and that isn't empty is the name of its last entry
abbrev NamesLast : Paged → Type 0
NamesLast paged =
    (octet : ℕ) (octets : List ℕ) → paged.cookie ≡ Some (octet ∷ octets) → IsNameOfLast (octet ∷ octets) paged.replies

-- it has none, or the empty one
no_cookie : (replies : List Reply) → NamesLast (unpaged replies)
no_cookie replies octet octets e = absurd cc

no_more : (replies : List Reply) → NamesLast (record { replies = replies; cookie = Some [] })
no_more replies octet octets e = absurd cc

-- the last of the entries that are sent has the last name
last_sent : (selection : List (List ℕ)) (kinds_only : Bool) (row : Row) (rows : View)
    → IsNameOfLast (print_name (last_name (row ∷ rows))) (map (sent_entry selection kinds_only) (row ∷ rows))
unfolding sent_entry
last_sent selection kinds_only row [] = record { others = []; attributes = sent_attributes selection kinds_only row; last = refl }
last_sent selection kinds_only row (next ∷ rows) =
    let later = last_sent selection kinds_only next rows in
    record {
      others = sent_entry selection kinds_only row ∷ later.others;
      attributes = later.attributes;
      last = ap (λ (replies : List Reply). sent_entry selection kinds_only row ∷ replies) later.last;
    }

-- no name is printed as no octets
nothing_printed : print_name [] ≡ []
unfolding print_name print_by
nothing_printed = refl

-- of rows whose last name is printed as octets
sent_rows : (selection : List (List ℕ)) (kinds_only : Bool) (rows : View) (octet : ℕ) (octets : List ℕ)
    → print_name (last_name rows) ≡ octet ∷ octets
    → IsNameOfLast (octet ∷ octets) (map (sent_entry selection kinds_only) rows)
sent_rows selection kinds_only [] octet octets e = let clash = sym nothing_printed ∙ e in absurd cc
sent_rows selection kinds_only (row ∷ rows) octet octets e =
    subst (λ (cookie : List ℕ). IsNameOfLast cookie (map (sent_entry selection kinds_only) (row ∷ rows))) e
    (last_sent selection kinds_only row rows)

of_rows : (request : SearchRequest) (size : ℕ) (rows : View) → NamesLast (page_of_rows request size rows)
of_rows request size rows =
    let replies : List Reply = map (sent_entry request.selection request.kinds_only) (take size rows) in
    cond_both (nat_lt size (length rows)) (print_name (last_name (take size rows))) []
    (λ (cookie : List ℕ). NamesLast (record { replies = replies; cookie = Some cookie }))
    (λ more octet octets e. sent_rows request.selection request.kinds_only (take size rows) octet octets
    (same_Some _ _ e))
    (λ less. no_more replies)

after : (view : View) (request : SearchRequest) (subentries : Option Bool) (base : RdnSequence) (size : ℕ)
    (name : RdnSequence)
    → NamesLast (page_after view request subentries base size name)
unfolding page_after
after view request subentries base size name =
    let whole = search_replies view (unlimited request) subentries in
    let rows = filter (is_after name) (selected view request subentries base) in
    cond_both (list_any is_success whole) (page_of_rows request size rows) (unpaged whole) NamesLast
    (λ succeeds. of_rows request size rows) (λ fails. no_cookie whole)

from : (view : View) (request : SearchRequest) (subentries : Option Bool) (base : RdnSequence) (size : ℕ)
    (start : Option RdnSequence)
    → NamesLast (page_from view request subentries base size start)
from view request subentries base size None = no_cookie _
from view request subentries base size (Some name) =
    cond_both (size == 0) (record { replies = []; cookie = Some [] })
    (page_after view request subentries base size name) NamesLast
    (λ none. no_more []) (λ some. after view request subentries base size name)

by : (view : View) (request : SearchRequest) (subentries : Option Bool) (page : Page) (base : Result RdnSequence BadName)
    → NamesLast (page_by view request subentries page base)
by view request subentries page (Err bad) = no_cookie _
by view request subentries page (Ok []) = no_cookie _
by view request subentries page (Ok (rdn ∷ rdns)) =
    from view request subentries (rdn ∷ rdns) page.size (start_of page.cookie)

-- so of each page
pub names_last : (view : View) (request : SearchRequest) (subentries : Option Bool) (page : Page) (octet : ℕ)
    (octets : List ℕ)
    → (page_replies view request subentries page).cookie ≡ Some (octet ∷ octets)
    → IsNameOfLast (octet ∷ octets) (page_replies view request subentries page).replies
unfolding page_replies
names_last view request subentries page =
    cond_both (fits_page request page.size) (unpaged (search_replies view request subentries))
    (page_by view request subentries page (read_name request.base)) NamesLast
    (λ fits. no_cookie (search_replies view request subentries))
    (λ more. by view request subentries page (read_name request.base))
