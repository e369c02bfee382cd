-- A page of what is selected behind a name, by what was found.
use Rattle.std.proofs.Common.{◌≡◌, ◌≢◌, ◌⊎◌, inl, inr, ℕ, Bool, true, false, List, [], ◌∷◌, ◌++◌, Option, Some, refl, sym, ap, ◌∙◌, subst, map, filter, take, length, arith}
use Rattle.std.specs.Prelude.{nat_lt, if◌then◌else◌}
use Rattle.std.specs.List.{list_any}
use Rattle.std.proofs.lemmas.Bool.{cases_Bool, ne_eqb, le-ltb}
use Rattle.std.proofs.Math.Seq.{take-nil}
use Rattle.dir_tree.specs.dn_names.name.Names.{RdnSequence}
use Rattle.dir_tree.specs.dn_names.Printing.{print_name}
use Rattle.dir_tree.specs.declared.number.EntryNo.{EntryNo}
use Rattle.ldap_msg.specs.declared.operations.ResultCode.TheVariants as code
use Rattle.ldap_msg.specs.declared.kinds.SearchRequest.{SearchRequest}
use Rattle.ldap_msg.specs.declared.kinds.Reply.{Reply}
use Rattle.ldap_msg.specs.declared.kinds.Reply.TheVariants as reply
use Rattle.ldap_msg.specs.declared.operations.Ending.TheVariants as ending
use Rattle.page_core.specs.read_model.Views.{View, Row, has_name, discloses, hidden, no_such_object, result_of}
use Rattle.page_core.specs.read_model.Selecting.{selected, is_selected}
use Rattle.page_core.specs.read_model.Choosing.{sent_entry}
use Rattle.page_core.specs.read_model.SearchReplies.{within_limit, limit_code, nothing_found, found_replies, replies_at}
use Rattle.page_core.specs.Starts.{is_after}
use Rattle.page_core.specs.Pages.{Paged, unpaged, last_name, next_cookie, page_of_rows, unlimited, is_success}
use Rattle.op_read.specs.declared.sending.Found.{Found}
use Rattle.op_read.specs.declared.sending.Found.TheVariants.{Nothing, Some as FoundSome, TooMany}
use Rattle.op_read.specs.Paging.{ending_page, empty_page, is_done, page_of_none, page_ending, page_at}
use Rattle.op_read.specs.Sending.{is_filled, last_row, sent_entries, IsSent}
use Rattle.op_read.specs.Short.{Puts, PutsPage}
use Rattle.op_read.proofs.sending.PutsLemmas.{puts-same, puts-page, page-sent}

-- ---- the whole search

-- entries are followed by the code success, where there are any
any-last : {A : Type 0} (p : A → Bool) (xs : List A) (x : A) → p x ≡ true → list_any p (xs ++ x ∷ []) ≡ true
any-last p [] x e = rw e refl
any-last p (y ∷ xs) x e = elim (cases_Bool (p y)) [
  | inl f ↦ rw f refl
  | inr f ↦ rw f (any-last p xs x e)
]

whole-filled : (view : View) (request : SearchRequest) (base : RdnSequence) (all : View) → is_filled all ≡ true → list_any is_success (found_replies view (unlimited request) base all) ≡ true
unfolding found_replies
whole-filled view request base [] h = absurd cc
whole-filled view request base (first ∷ rest) h =
    any-last is_success (map (sent_entry request.selection request.kinds_only) (first ∷ rest)) (reply.Ended ending.Done (result_of code.Success)) refl

-- the whole search of a base that is an entry's name
whole-at : (view : View) (request : SearchRequest) (subentries : Option Bool) (base : RdnSequence) → list_any (has_name base) view ≡ true
    → replies_at view (unlimited request) subentries base ≡ found_replies view (unlimited request) base (selected view request subentries base)
unfolding replies_at selected is_selected
whole-at view request subentries base here = rw here refl

done-filled : (view : View) (request : SearchRequest) (subentries : Option Bool) (base : RdnSequence) → list_any (has_name base) view ≡ true → is_filled (selected view request subentries base) ≡ true
    → list_any is_success (replies_at view (unlimited request) subentries base) ≡ true
done-filled view request subentries base here some =
    ap (list_any is_success) (whole-at view request subentries base here) ∙ whole-filled view request base (selected view request subentries base) some

-- where none is selected
none-there : (all : View) → is_filled all ≡ false → all ≡ []
none-there [] e = refl
none-there (row ∷ rows) e = absurd cc

whole-none : (view : View) (request : SearchRequest) (subentries : Option Bool) (base : RdnSequence) → list_any (has_name base) view ≡ true → is_filled (selected view request subentries base) ≡ false
    → replies_at view (unlimited request) subentries base ≡ reply.Ended ending.Done (nothing_found view base) ∷ []
unfolding found_replies
whole-none view request subentries base here none =
    whole-at view request subentries base here ∙ ap (found_replies view (unlimited request) base) (none-there (selected view request subentries base) none)

-- ---- a page

-- some are behind the name only where some are selected
filled-behind : (p : Row → Bool) (rows : View) → is_filled (filter p rows) ≡ true → is_filled rows ≡ true
filled-behind p [] e = absurd cc
filled-behind p (row ∷ rows) e = refl

-- how many there are, by the code
not-more : (size : ℕ) (rows : View) → size ≢ 0 → limit_code size rows ≡ code.Success → nat_lt size (length rows) ≡ false
not-more size rows some e = by (cases_Bool (nat_lt size (length rows)))
  where
    by : ((nat_lt size (length rows) ≡ true) ⊎ (nat_lt size (length rows) ≡ false)) → nat_lt size (length rows) ≡ false
    by (inl f) = (let more : limit_code size rows ≡ code.SizeLimitExceeded = rw (ne_eqb size 0 some, f) refl in absurd cc)
    by (inr f) = f

is-more : (size : ℕ) (rows : View) → size ≢ 0 → limit_code size rows ≡ code.SizeLimitExceeded → nat_lt size (length rows) ≡ true
is-more size rows some e = by (cases_Bool (nat_lt size (length rows)))
  where
    by : ((nat_lt size (length rows) ≡ true) ⊎ (nat_lt size (length rows) ≡ false)) → nat_lt size (length rows) ≡ true
    by (inl f) = f
    by (inr f) = (let all : limit_code size rows ≡ code.Success = rw (ne_eqb size 0 some, f) refl in absurd cc)

within-take : (size : ℕ) (rows : View) → size ≢ 0 → within_limit size rows ≡ take size rows
within-take size rows some = rw (ne_eqb size 0 some) refl

-- the name of the last row is that of the last
last-named : (rows : View) → last_name rows ≡ last_name (last_row rows)
last-named [] = refl
last-named (row ∷ []) = refl
last-named (row ∷ next ∷ rows) = last-named (next ∷ rows)

-- a page of rows, where the whole search succeeds
at-done : (view : View) (request : SearchRequest) (subentries : Option Bool) (base : RdnSequence) (size : ℕ) (after : RdnSequence) → list_any is_success (replies_at view (unlimited request) subentries base) ≡ true
    → page_of_rows request size (filter (is_after after) (selected view request subentries base)) ≡ page_at view request subentries base size after
at-done view request subentries base size after done = rw done refl

-- rows were sent, and then the end of a page with this cookie
page-rows : (id : ℕ) (request : SearchRequest) (size : ℕ) (rows : View) (before middle new cookie : List ℕ) (page : Paged) → size ≢ 0
    → Puts id (sent_entries request (within_limit size rows)) before middle → PutsPage id (ending_page cookie) middle new → cookie ≡ next_cookie size rows → page_of_rows request size rows ≡ page
    → PutsPage id page before new
page-rows id request size rows before middle new cookie page some sent put is whole =
    page-sent id before new _ page
    (puts-page id (sent_entries request (take size rows)) cookie before middle new (puts-same id _ _ before middle (ap (sent_entries request) (within-take size rows some)) sent) put)
    (ap (λ (cookie : List ℕ). record { replies = sent_entries request (take size rows); cookie = Some cookie }) is ∙ whole)

-- ---- a page behind whose name no entry is

no-rows : (request : SearchRequest) (size : ℕ) (rows : View) → rows ≡ [] → empty_page ≡ page_of_rows request size rows
no-rows request size rows e =
    let cookie : next_cookie size [] ≡ [] = rw (below-none size) refl in
    let sent : take size [] ≡ [] = take-nil size in
    ap (λ (cookie : List ℕ). record { replies = []; cookie = Some cookie }) (sym cookie)
    ∙ ap (λ (sent : View). record { replies = map (sent_entry request.selection request.kinds_only) sent; cookie = Some (next_cookie size []) }) (sym sent)
    ∙ ap (λ (rows : View). page_of_rows request size rows) (sym e)
  where
    below-none : (size : ℕ) → nat_lt size 0 ≡ false
    below-none size = le-ltb size 0 (omega arith)

page-nothing : (view : View) (request : SearchRequest) (subentries : Option Bool) (base : RdnSequence) (size : ℕ) (after : RdnSequence) → list_any (has_name base) view ≡ true
    → filter (is_after after) (selected view request subentries base) ≡ []
    → page_of_none view (selected view request subentries base) base ≡ page_at view request subentries base size after
page-nothing view request subentries base size after here none =
    by (cases_Bool (discloses view base)) (cases_Bool (is_filled (selected view request subentries base)))
  where
    all : View
    all = selected view request subentries base

    succeeds : is_done view all base ≡ true → list_any is_success (replies_at view (unlimited request) subentries base) ≡ true → page_of_none view all base ≡ page_at view request subentries base size after
    succeeds done success =
        let is : page_of_none view all base ≡ empty_page = rw done refl in
        is ∙ no-rows request size (filter (is_after after) all) none ∙ at-done view request subentries base size after success

    by : ((discloses view base ≡ true) ⊎ (discloses view base ≡ false)) → ((is_filled all ≡ true) ⊎ (is_filled all ≡ false)) → page_of_none view all base ≡ page_at view request subentries base size after
    by (inl d) (inl f) = succeeds (rw d refl) (done-filled view request subentries base here f)
    by (inr d) (inl f) = succeeds (rw (d, f) refl) (done-filled view request subentries base here f)
    by (inl d) (inr f) =
        let whole : replies_at view (unlimited request) subentries base ≡ reply.Ended ending.Done (result_of code.Success) ∷ [] = whole-none view request subentries base here f ∙ rw d refl in
        succeeds (rw d refl) (ap (list_any is_success) whole)
    by (inr d) (inr f) =
        let whole : replies_at view (unlimited request) subentries base ≡ reply.Ended ending.Done (no_such_object view base) ∷ [] = whole-none view request subentries base here f ∙ rw d refl in
        let is : page_of_none view all base ≡ unpaged (reply.Ended ending.Done (no_such_object view base) ∷ []) = rw (d, f) refl in
        is ∙ sym (fails (replies_at view (unlimited request) subentries base) (reply.Ended ending.Done (no_such_object view base) ∷ []) whole refl)
      where
        fails : (replies other : List Reply) → replies ≡ other → list_any is_success other ≡ false → (if list_any is_success replies then page_of_rows request size (filter (is_after after) all) else unpaged replies) ≡ unpaged other
        fails replies other is none = rw (is, none) refl

-- ---- how a page ends

pub page-ended : (at : Option EntryNo → View) (id : ℕ) (view : View) (request : SearchRequest) (subentries : Option Bool) (base after : RdnSequence) (size : ℕ) (found : Found) (before middle new : List ℕ)
    → size ≢ 0 → list_any (has_name base) view ≡ true
    → IsSent at size id request (filter (is_after after) (selected view request subentries base)) before middle found
    → PutsPage id (page_ending at view (selected view request subentries base) base found) middle new
    → PutsPage id (page_at view request subentries base size after) before new
page-ended at id view request subentries base after size Nothing before middle new some here sent put =
    page-sent id before new (page_of_none view (selected view request subentries base) base) (page_at view request subentries base size after)
    (subst (λ out. PutsPage id (page_of_none view (selected view request subentries base) base) out new) sent.1 put) (page-nothing view request subentries base size after here sent.0)
page-ended at id view request subentries base after size FoundSome before middle new some here sent put =
    let rows = filter (is_after after) (selected view request subentries base) in
    let last : [] ≡ next_cookie size rows = rw (not-more size rows some sent.1) refl in
    page-rows id request size rows before middle new [] (page_at view request subentries base size after) some sent.0.1 put last
    (at-done view request subentries base size after
    (done-filled view request subentries base here (filled-behind (is_after after) (selected view request subentries base) sent.0.0)))
page-ended at id view request subentries base after size (TooMany last) before middle new some here sent put =
    let rows = filter (is_after after) (selected view request subentries base) in
    let named : last_name (at last) ≡ last_name (take size rows) =
    ap last_name (sent.2 ∙ ap last_row (within-take size rows some)) ∙ sym (last-named (take size rows)) in
    let more : print_name (last_name (take size rows)) ≡ next_cookie size rows = rw (is-more size rows some sent.1) refl in
    page-rows id request size rows before middle new (print_name (last_name (at last))) (page_at view request subentries base size after) some sent.0.1 put
    (ap print_name named ∙ more)
    (at-done view request subentries base size after
    (done-filled view request subentries base here (filled-behind (is_after after) (selected view request subentries base) sent.0.0)))

-- ---- a base that is no entry's name

hidden-fails : (view : View) (base : RdnSequence) → is_success (reply.Ended ending.Done (hidden view base)) ≡ false
unfolding hidden
hidden-fails view base = elim (cases_Bool (discloses view base)) [
  | inl e ↦ rw e refl
  | inr e ↦ rw e refl
]

pub page-none : (view : View) (request : SearchRequest) (subentries : Option Bool) (base : RdnSequence) (size : ℕ) (after : RdnSequence) → list_any (has_name base) view ≡ false
    → unpaged (reply.Ended ending.Done (hidden view base) ∷ []) ≡ page_at view request subentries base size after
unfolding replies_at
page-none view request subentries base size after none = rw (none, hidden-fails view base) refl
