-- Pages join to the answer: each page is the front of what is left, and the next begins behind its last name.
use Rattle.std.proofs.Common.{◌≡◌, ◌≢◌, inl, inr, ℕ, zero, suc, ◌<◌, ◌≤◌, Bool, ltb, List, [], ◌∷◌, ◌++◌, length, map, take, drop, filter, Option, Some, Ok, refl, sym, ap, subst, ◌∙◌, arith, append_assoc, length-drop}
use Rattle.std.specs.Option.{option_map}
use Rattle.std.specs.List.{AllByRecursion}
use Rattle.std.proofs.lemmas.Bool.{cases_lt, lt-ltb, le-ltb, cond-true, cond-false}
use Rattle.std.proofs.lemmas.List.{map-append, take-append-drop, take_all, length-take, length-map}
use Rattle.dir_tree.proofs.base_laws_proofs.Theorems.{all_filter}
use Rattle.dir_tree.specs.dn_names.name.Names.{RdnSequence}
use Rattle.dir_tree.specs.dn_names.parsing.NameText.{read_name}
use Rattle.dir_tree.specs.dn_names.Printing.{print_name}
use Rattle.dir_tree.specs.Entry.{EntryInformation}
use Rattle.dir_tree.specs.tree.Trees.{IsTree}
use Rattle.acdf_filters.specs.declared.asking.Requester.{Requester}
use Rattle.ldap_msg.specs.declared.kinds.SearchRequest.{SearchRequest}
use Rattle.ldap_msg.specs.declared.kinds.Reply.{Reply}
use Rattle.read_model.specs.Views.{Row, View, row_of, view_of}
use Rattle.read_model.specs.Selecting.{is_selected, selected}
use Rattle.read_model.specs.Choosing.{sent_entry}
use Rattle.page_core.specs.Starts.{start_of, is_after}
use Rattle.page_core.specs.Pages.{Paged, last_name, next_cookie, page_of_rows}
use Rattle.page_laws.specs.Listing.{pages_of, joined, listed, AreReadAgain, IsListable, JoinsToAnswer}
use Rattle.page_laws.proofs.laws.RowLemmas.{AreInOrder, all_front, all_back, all_seen, in_order-seen, in_order-filter, length-filter_most, last_all, last_name-behind, filter-after_last, after_nothing}
use Rattle.page_laws.proofs.laws.PageLemmas.{cookie_of, page_at}
use Rattle.page_laws.proofs.laws.AnswerLemmas.{answer_all}

-- a name that its printed form is read as, other than the empty one
abbrev IsRead : RdnSequence → Type 0
IsRead name = (read_name (print_name name) ≡ Ok name) × (name ≢ [])

-- behind a cookie that isn't empty the pages go on
joined-more : (behind : List ℕ → Option (List Reply)) (replies : List Reply) (cookie : List ℕ) → cookie ≢ []
    → joined behind replies (Some cookie) ≡ option_map (λ others. replies ++ others) (behind cookie)
joined-more behind replies [] filled = absurd (filled refl)
joined-more behind replies (octet ∷ octets) filled = refl

-- of a front that isn't empty, what holds of each name holds of the last
last_holds : (P : RdnSequence → Type 0) (rows : View) → rows ≢ [] → AllByRecursion (λ row. P row.entry.name) rows
    → P (last_name rows)
last_holds P [] filled h = absurd (filled refl)
last_holds P (row ∷ rows) filled h = last_all P row rows h

-- behind the last name of a front of rows in order are the others
others_after : (front rows back : View) → rows ≢ [] → AreInOrder ((front ++ rows) ++ back)
    → filter (is_after (last_name rows)) ((front ++ rows) ++ back) ≡ back
others_after front [] back filled h = absurd (filled refl)
others_after [] (row ∷ rows) back filled h = filter-after_last row rows back h
others_after (first ∷ front) (row ∷ rows) back filled h =
    ap (λ (name : RdnSequence). filter (is_after name) ((first ∷ front ++ row ∷ rows) ++ back))
    (sym (last_name-behind (first ∷ front) row rows))
    ∙ filter-after_last first (front ++ row ∷ rows) back h

-- a front of some rows is none of no length
some_taken : (size : ℕ) (rows : View) → 0 < size → 0 < length rows → take size rows ≢ []
some_taken size rows some filled e =
    let none : length (take size rows) ≡ 0 = ap length e in
    absurd (omega (arith, length-take size rows, none))

module _ (view : View) (request : SearchRequest) (subentries : Option Bool)
    (listable : IsListable view request subentries) (size : ℕ) (some : 0 < size)
    (in_order : AreInOrder (selected view request subentries listable.base))
    (read : AllByRecursion (λ row. IsRead row.entry.name) (selected view request subentries listable.base)) where
  abbrev rows : View
  rows = selected view request subentries listable.base

  abbrev sent : View → List Reply
  sent left = map (sent_entry request.selection request.kinds_only) left

  -- the pages behind a name send what is left, if there are enough of them
  abbrev IsListed : ℕ → Type 0
  IsListed count =
      (cookie : List ℕ) (after : RdnSequence) (front left : View) → start_of cookie ≡ Some after → rows ≡ front ++ left
      → filter (is_after after) rows ≡ left → length left < count
      → listed (pages_of view request subentries size) count cookie ≡ Some (sent left)

  -- one page, and those behind it
  page_and : (count : ℕ) (cookie : List ℕ) (after : RdnSequence) (left : View) → start_of cookie ≡ Some after
      → filter (is_after after) rows ≡ left
      → listed (pages_of view request subentries size) (suc count) cookie
      ≡ joined (listed (pages_of view request subentries size) count) (sent (take size left))
      (Some (next_cookie size left))
  page_and count cookie after left starts are =
      ap (λ (page : Paged). joined (listed (pages_of view request subentries size) count) page.replies page.cookie)
      (page_at view request subentries listable size some after cookie starts ∙ ap (page_of_rows request size) are)

  -- the last page
  last_page : (count : ℕ) (left : View) → length left ≤ size
      → joined (listed (pages_of view request subentries size) count) (sent (take size left))
      (Some (next_cookie size left)) ≡ Some (sent left)
  last_page count left few =
      ap (λ (cookie : List ℕ). joined (listed (pages_of view request subentries size) count) (sent (take size left))
      (Some cookie))
      (cond-false (ltb size (length left)) (print_name (last_name (take size left))) [] (le-ltb size (length left) few))
      ∙ ap (λ (all : View). Some (sent all)) (take_all size left few)

  -- a page with more behind it
  next_page : (count : ℕ) → IsListed count → (front left : View) → rows ≡ front ++ left → size < length left
      → length left < suc count
      → joined (listed (pages_of view request subentries size) count) (sent (take size left))
      (Some (next_cookie size left)) ≡ Some (sent left)
  next_page count behind front left are more enough =
      let filled = some_taken size left some (omega arith) in
      let name = last_name (take size left) in
      let cut : rows ≡ (front ++ take size left) ++ drop size left =
      are ∙ ap (λ (xs : View). front ++ xs) (sym (take-append-drop size left))
      ∙ sym (append_assoc front (take size left) (drop size left)) in
      let each = all_back (λ (row : Row). IsRead row.entry.name) front (take size left)
      (all_front (λ (row : Row). IsRead row.entry.name) (front ++ take size left) (drop size left)
      (subst (λ (xs : View). AllByRecursion (λ row. IsRead row.entry.name) xs) cut read)) in
      let is = last_holds IsRead (take size left) filled each in
      let of = cookie_of name (print_name name) is.1 is.0 in
      let others : filter (is_after name) rows ≡ drop size left =
      ap (filter (is_after name)) cut
      ∙ others_after front (take size left) (drop size left) filled (subst AreInOrder cut in_order) in
      let rest = behind (print_name name) name (front ++ take size left) (drop size left) of.starts cut others
      (omega (arith, length-drop size left)) in
      ap (λ (cookie : List ℕ). joined (listed (pages_of view request subentries size) count) (sent (take size left))
      (Some cookie))
      (cond-true (ltb size (length left)) (print_name name) [] (lt-ltb size (length left) more))
      ∙ joined-more (listed (pages_of view request subentries size) count) (sent (take size left))
      (print_name name) of.filled
      ∙ ap (option_map (λ (others : List Reply). sent (take size left) ++ others)) rest
      ∙ ap Some (sym (map-append (sent_entry request.selection request.kinds_only) (take size left) (drop size left))
      ∙ ap sent (take-append-drop size left))

  are_listed : (count : ℕ) → IsListed count
  are_listed zero cookie after front left starts are behind enough = absurd (omega arith)
  are_listed (suc count) cookie after front left starts are behind enough =
      page_and count cookie after left starts behind
      ∙ elim (cases_lt size (length left)) [
        | inl more ↦ next_page count (are_listed count) front left are more enough
        | inr few ↦ last_page count left few
      ]

  -- from the empty cookie on
  pub all_listed : (count : ℕ) → length rows < count → AllByRecursion (λ row. row.entry.name ≢ []) rows
      → listed (pages_of view request subentries size) count [] ≡ Some (sent rows)
  all_listed count enough named = are_listed count [] [] [] rows refl refl (after_nothing rows named) enough

-- ---- over a tree

-- what holds of each entry's name holds of each that is selected
all_selected : (P : RdnSequence → Type 0) (entries : List EntryInformation) (who : Requester) (request : SearchRequest)
    (subentries : Option Bool)
    (base : RdnSequence) → AllByRecursion (λ entry. P entry.name) entries
    → AllByRecursion (λ row. P row.entry.name) (selected (view_of entries who) request subentries base)
unfolding selected
all_selected P entries who request subentries base h =
    all_filter (λ (row : Row). P row.entry.name) (is_selected request subentries base) (view_of entries who)
    (all_seen (λ (row : Row). P row.entry.name) entries who entries h)

selected_in_order : (entries : List EntryInformation) (who : Requester) (request : SearchRequest)
    (subentries : Option Bool) (base : RdnSequence)
    → IsTree entries → AreInOrder (selected (view_of entries who) request subentries base)
unfolding selected
selected_in_order entries who request subentries base tree =
    in_order-filter (is_selected request subentries base) (view_of entries who)
    (in_order-seen entries who entries tree.sorted)

-- no more is selected than there is
length-selected : (entries : List EntryInformation) (who : Requester) (request : SearchRequest)
    (subentries : Option Bool) (base : RdnSequence)
    → length (selected (view_of entries who) request subentries base) ≤ length entries
unfolding selected
length-selected entries who request subentries base =
    let seen = length-map entries (row_of entries who) in
    omega (arith, seen, length-filter_most (is_selected request subentries base) (view_of entries who))

-- two facts of each
all_both : {A : Type 0} (P Q : A → Type 0) (xs : List A) → AllByRecursion P xs → AllByRecursion Q xs
    → AllByRecursion (λ x. P x × Q x) xs
all_both P Q [] p q = tt
all_both P Q (x ∷ xs) p q = ((p.0, q.0), all_both P Q xs p.1 q.1)

-- the pages of a search join to its answer
pub pages_join : (entries : List EntryInformation) → IsTree entries → AreReadAgain entries → (who : Requester)
    (request : SearchRequest) (subentries : Option Bool) → IsListable (view_of entries who) request subentries
    → (size count : ℕ) → 0 < size → length entries < count
    → JoinsToAnswer (view_of entries who) request subentries size count
pages_join entries tree again who request subentries listable size count some enough =
    let view = view_of entries who in
    let base = listable.base in
    let read = all_both (λ (entry : EntryInformation). read_name (print_name entry.name) ≡ Ok entry.name)
    (λ (entry : EntryInformation). entry.name ≢ [])
    entries again tree.named in
    let few : length (selected view request subentries base) < count =
    omega (arith, length-selected entries who request subentries base) in
    record {
      sent = map (sent_entry request.selection request.kinds_only) (selected view request subentries base);
      pages = all_listed view request subentries listable size some
          (selected_in_order entries who request subentries base tree)
          (all_selected IsRead entries who request subentries base read) count few
          (all_selected (λ (name : RdnSequence). name ≢ []) entries who request subentries base tree.named);
      answer = answer_all view request subentries listable;
    }
