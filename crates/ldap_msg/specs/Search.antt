-- Search requests (RFC 4511 4.5.1).
use Rattle.std.specs.Prelude.{◌≡◌, ℕ, Bool, true, false, List, Option, Some, ◌==◌, if◌then◌else◌}
use Rattle.ber_layout.specs.element.Pieces.{◌>>=◌}
use Rattle.ber_layout.specs.Layouts.{Layout, Value, Says as SaysLayout, reads}
use Rattle.ber_layout.specs.Layouts.Layout.{AnyOctets, Number, Skipped, Flag, End, Further, AnyElement, Then, Each}
use Rattle.ldap_filter.specs.filter.Filters.{Filter}
use Rattle.ldap_filter.specs.reading.FilterLayouts.{IsFilter}
use Rattle.ldap_filter.specs.reading.FilterReading.{filter_of}
use Rattle.ldap_filter.specs.FilterSpelling.{filter_octets}
use Rattle.ldap_msg.specs.declared.kinds.SearchScope.{SearchScope}
use Rattle.ldap_msg.specs.declared.kinds.SearchScope.TheVariants.{BaseObject, SingleLevel, WholeSubtree}
use Rattle.ldap_msg.specs.declared.kinds.SearchRequest.{SearchRequest}

-- scope ENUMERATED { baseObject (0), singleLevel (1), wholeSubtree (2) }
abbrev pub scope_number : SearchScope → ℕ
scope_number BaseObject = 0
scope_number SingleLevel = 1
scope_number WholeSubtree = 2

-- the scope of a number up to 2
abbrev pub scope_from : ℕ → SearchScope
scope_from number =
    if number == scope_number BaseObject then BaseObject else if number == scope_number SingleLevel then SingleLevel else WholeSubtree

-- the scope is the base object alone
abbrev pub is_base : SearchScope → Bool
is_base BaseObject = true
is_base SingleLevel = false
is_base WholeSubtree = false

-- sizeLimit INTEGER (0 .. maxInt), timeLimit INTEGER (0 .. maxInt), typesOnly BOOLEAN, filter Filter, attributes
-- AttributeSelection, ...; the time limit isn't kept
abbrev pub limits_layout : Layout
limits_layout = Then 0x02 (Number 0 2147483647) (Then 0x02 (Skipped 0 2147483647) (Then 0x01 Flag (AnyElement (Then 0x30 (Each 0x04 AnyOctets End) Further))))

-- SearchRequest ::= [APPLICATION 3] SEQUENCE { baseObject LDAPDN, scope ENUMERATED, derefAliases ENUMERATED, and
-- these }; derefAliases isn't kept
abbrev pub search_layout : Layout
search_layout = Then 0x04 AnyOctets (Then 0x0a (Number 0 2) (Then 0x0a (Skipped 0 3) limits_layout))

-- the filter's element
abbrev pub filter_part : Value search_layout → ℕ × List ℕ
filter_part (base, (scope, (aliases, (size, (time, (kinds_only, (filter, rest))))))) = filter

-- the search of these parts with this filter
abbrev pub search_with : Value search_layout → Filter → SearchRequest
search_with (base, (scope, (aliases, (size, (time, (kinds_only, (element, ((selection, _), _)))))))) filter =
    record { base = base; scope = scope_from scope; size = size; kinds_only = kinds_only; filter = filter; selection = selection }

-- the content says the search
pub record SaysSearch (search : SearchRequest) (content : List ℕ) : Type 0 where
  pub parts : Value search_layout
  pub says : SaysLayout search_layout parts content
  pub filter : IsFilter search.filter (filter_part parts)
  pub is : search_with parts search.filter ≡ search

-- the search that a content says
abbrev pub search_from : Value search_layout → Option SearchRequest
search_from parts = filter_of (filter_part parts) >>= λ filter. Some (search_with parts filter)

abbrev pub search_of : List ℕ → Option SearchRequest
search_of content = reads search_layout content >>= search_from

-- the parts of its limits, its filter and its selection
abbrev pub limits_parts : SearchRequest → Value limits_layout
limits_parts search = (search.size, (tt, (search.kinds_only, (filter_octets search.filter, ((search.selection, tt), tt)))))

-- the parts of a search
abbrev pub search_parts : SearchRequest → Value search_layout
search_parts search = (search.base, (scope_number search.scope, (tt, limits_parts search)))
