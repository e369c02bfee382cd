-- A search that is read is the one that its content says, and the one that it says is read.
use Rattle.std.proofs.Common.{◌≡◌, ℕ, List, Option, Some, refl, ap, subst, ◌∙◌}
use Rattle.std.proofs.lemmas.Option.{same_Some}
use Rattle.ber_layout.specs.element.Pieces.{◌>>=◌}
use Rattle.ber_layout.specs.Layouts.{Value, reads}
use Rattle.ber_layout.proofs.Theorems.{bind_some, reads_sound, reads_complete}
use Rattle.ldap_filter.specs.filter.Filters.{Filter}
use Rattle.ldap_filter.specs.reading.FilterReading.{filter_of}
use Rattle.ldap_filter.proofs.Theorems.{filter_sound, filter_complete}
use Rattle.ldap_msg.specs.declared.kinds.SearchRequest.{SearchRequest}
use Rattle.ldap_msg.specs.Search.{search_layout, filter_part, search_with, SaysSearch, search_from, search_of}

-- a search that is read is the one that its content says
pub search_sound : (content : List ℕ) (search : SearchRequest) → search_of content ≡ Some search → SaysSearch search content
search_sound content search e =
    let a = bind_some (reads search_layout content) search_from search e in
    let b = bind_some (filter_of (filter_part a.0)) (λ (f : Filter). Some (search_with a.0 f)) search a.2 in
    let made : SaysSearch (search_with a.0 b.0) content =
    record { parts = a.0; says = reads_sound search_layout a.0 content a.1; filter = filter_sound (filter_part a.0) b.0 b.1; is = refl } in
    subst (λ (s : SearchRequest). SaysSearch s content) (same_Some (search_with a.0 b.0) search b.2) made

-- the search that a content says is read
pub search_again : (search : SearchRequest) (content : List ℕ) → SaysSearch search content → search_of content ≡ Some search
search_again search content says =
    ap (λ (o : Option (Value search_layout)). o >>= search_from) (reads_complete search_layout says.parts content refl says.says)
    ∙ ap (λ (o : Option Filter). o >>= λ (f : Filter). Some (search_with says.parts f)) (filter_complete search.filter (filter_part says.parts) says.filter)
    ∙ ap (λ (s : SearchRequest). Some s) says.is
