-- A search by pages, by the cases of its size, its cookie, its base and its limit.
use Rattle.std.proofs.Common.{◌≡◌, ◌≢◌, ℕ, Bool, true, false, List, [], ◌∷◌, length, Option, Some, None, refl, sym, ap, ◌∙◌, arith}
use Rattle.std.specs.Prelude.{◌==◌, Result, Ok, Err, if◌then◌else◌}
use Rattle.std.specs.Result.{result_ok}
use Rattle.std.proofs.lemmas.Bool.{ne_eqb, eq-eqb}
use Rattle.dir_tree.specs.dn_names.name.Names.{RdnSequence}
use Rattle.dir_tree.specs.dn_names.declared.error.BadName.{BadName}
use Rattle.dir_tree.specs.dn_names.parsing.NameText.{read_name}
use Rattle.ldap_msg.specs.declared.operations.ResultCode.TheVariants as code
use Rattle.ldap_msg.specs.declared.kinds.SearchRequest.{SearchRequest}
use Rattle.ldap_msg.specs.declared.kinds.Reply.TheVariants as reply
use Rattle.ldap_msg.specs.declared.operations.Ending.TheVariants as ending
use Rattle.page_core.specs.read_model.Views.{View, no_such_object}
use Rattle.page_core.specs.read_model.RootEntry.{root_replies}
use Rattle.page_core.specs.read_model.SearchReplies.{replies_at, search_replies}
use Rattle.page_core.specs.declared.page.Page.{Page}
use Rattle.page_core.specs.Starts.{start_of}
use Rattle.page_core.specs.Pages.{Paged, unpaged, ended, unlimited, page_after, page_from, page_by, fits_page, page_replies}
use Rattle.op_read.specs.Paging.{empty_page, page_at, page_sized_at, page_from_at, page_named, is_done, page_of_none}

-- ---- the size, and the cookie

pub size-none : (view : View) (request : SearchRequest) (subentries : Option Bool) (base : RdnSequence) (size : ℕ) (after : RdnSequence) → size ≡ 0
    → empty_page ≡ page_sized_at view request subentries base size after
size-none view request subentries base size after e = rw (eq-eqb size 0 e) refl

pub size-some : (view : View) (request : SearchRequest) (subentries : Option Bool) (base : RdnSequence) (size : ℕ) (after : RdnSequence) → size ≢ 0
    → page_at view request subentries base size after ≡ page_sized_at view request subentries base size after
size-some view request subentries base size after some = rw (ne_eqb size 0 some) refl

-- ---- no entry is behind the name

pub none-done : (view all : View) (base : RdnSequence) → is_done view all base ≡ true → empty_page ≡ page_of_none view all base
none-done view all base e = rw e refl

pub none-fails : (view all : View) (base : RdnSequence) → is_done view all base ≡ false → unpaged (reply.Ended ending.Done (no_such_object view base) ∷ []) ≡ page_of_none view all base
none-fails view all base e = rw e refl

-- ---- the base

pub named-root : (view : View) (request : SearchRequest) (subentries : Option Bool) (page : Page) (base : RdnSequence) → length base ≡ 0
    → unpaged (root_replies view request subentries) ≡ page_named view request subentries page base
named-root view request subentries page [] e = refl
named-root view request subentries page (rdn ∷ rdns) e = absurd (omega arith)

pub named-filled : (view : View) (request : SearchRequest) (subentries : Option Bool) (page : Page) (base : RdnSequence) → length base ≢ 0
    → page_from_at view request subentries base page.size (start_of page.cookie) ≡ page_named view request subentries page base
named-filled view request subentries page [] some = absurd (some refl)
named-filled view request subentries page (rdn ∷ rdns) some = refl

at-after : (view : View) (request : SearchRequest) (subentries : Option Bool) (base : RdnSequence) (size : ℕ) (after : RdnSequence) → search_replies view (unlimited request) subentries ≡ replies_at view (unlimited request) subentries base
    → page_at view request subentries base size after ≡ page_after view request subentries base size after
unfolding page_after
at-after view request subentries base size after whole = rw whole refl

page-named : (view : View) (request : SearchRequest) (subentries : Option Bool) (page : Page) (base : RdnSequence) → read_name request.base ≡ Ok base
    → page_named view request subentries page base ≡ page_by view request subentries page (Ok base)
unfolding search_replies
page-named view request subentries page [] read = rw read refl
page-named view request subentries page (rdn ∷ rdns) read = by (start_of page.cookie)
  where
    base : RdnSequence
    base = rdn ∷ rdns

    by : (start : Option RdnSequence) → page_from_at view request subentries base page.size start ≡ page_from view request subentries base page.size start
    by None = refl
    by (Some after) = ap (λ (behind : Paged). if page.size == 0 then empty_page else behind) (at-after view request subentries base page.size after (rw read refl))

-- what the base is read as
name-read : (read : Result RdnSequence BadName) (name : RdnSequence) → Some name ≡ result_ok read → read ≡ Ok name
name-read (Err bad) name is = absurd cc
name-read (Ok other) name is = ap Ok (same is)
  where
    same : Some name ≡ Some other → other ≡ name
    same e = cc

pub by-name : (view : View) (request : SearchRequest) (subentries : Option Bool) (page : Page) (base : RdnSequence) → Some base ≡ result_ok (read_name request.base)
    → page_named view request subentries page base ≡ page_by view request subentries page (read_name request.base)
by-name view request subentries page base is =
    let read = name-read (read_name request.base) base is in
    page-named view request subentries page base read ∙ ap (page_by view request subentries page) (sym read)

pub by-none : (view : View) (request : SearchRequest) (subentries : Option Bool) (page : Page) (read : Result RdnSequence BadName) → None ≡ result_ok read
    → ended code.InvalidDnSyntax ≡ page_by view request subentries page read
by-none view request subentries page (Err bad) is = refl
by-none view request subentries page (Ok name) is = absurd cc

-- ---- the limit

pub limit-fits : (view : View) (request : SearchRequest) (subentries : Option Bool) (page : Page) → fits_page request page.size ≡ true
    → unpaged (search_replies view request subentries) ≡ page_replies view request subentries page
unfolding page_replies
limit-fits view request subentries page e = rw e refl

pub limit-pages : (view : View) (request : SearchRequest) (subentries : Option Bool) (page : Page) → fits_page request page.size ≡ false
    → page_by view request subentries page (read_name request.base) ≡ page_replies view request subentries page
unfolding page_replies
limit-pages view request subentries page e = rw e refl
