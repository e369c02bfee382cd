-- The filter that an element's tag and content say, computed (RFC 4511 4.5.1.7).
use Rattle.std.specs.Prelude.{◌≡◌, ℕ, zero, suc, Bool, List, [], ◌∷◌, length, Option, Some, None, ◌==◌, if◌then◌else◌}
use Rattle.ber_layout.specs.element.Pieces.{◌>>=◌}
use Rattle.ber_layout.specs.components.Components.{Component, any_of}
use Rattle.ber_layout.specs.Layouts.{Value, reads}
use Rattle.ldap_filter.specs.filter.Filters.{Filter, Filters}
use Rattle.ldap_filter.specs.filter.Filters.Filter.{And, Or, Not, Equal, Parts, AtLeast, AtMost, Present, Approx, Extensible}
use Rattle.ldap_filter.specs.filter.Filters.Filters.{Nil, Cons}
use Rattle.ldap_filter.specs.Assertion.{assertion_layout}
use Rattle.ldap_filter.specs.reading.FilterLayouts.{parts_layout, most_deep}

-- what is made of the parts of an assertion
abbrev pub asserted_from : (List ℕ → List ℕ → Filter) → Value assertion_layout → Filter
asserted_from make (kind, (value, _)) = make kind value

abbrev pub asserted : (List ℕ → List ℕ → Filter) → List ℕ → Option Filter
asserted make content = reads assertion_layout content >>= λ parts. Some (asserted_from make parts)

-- substrings, of which there is at least one
abbrev pub substrings_from : List ℕ → Option (List ℕ) → List (List ℕ) → Option (List ℕ) → Option Filter
substrings_from kind (Some initial) any final = Some (Parts kind (Some initial) any final)
substrings_from kind None any (Some final) = Some (Parts kind None any (Some final))
substrings_from kind None [] None = None
substrings_from kind None (first ∷ any) None = Some (Parts kind None (first ∷ any) None)

abbrev pub parts_from : Value parts_layout → Option Filter
parts_from (kind, ((initial, (any, (final, _))), _)) = substrings_from kind initial any final

abbrev pub parts_in : List ℕ → Option Filter
parts_in content = reads parts_layout content >>= parts_from

-- the items by their tags
abbrev pub item_of : ℕ → List ℕ → Option Filter
item_of tag content =
    if tag == 0xa3 then asserted Equal content
    else if tag == 0xa4 then parts_in content
    else if tag == 0xa5 then asserted AtLeast content
    else if tag == 0xa6 then asserted AtMost content
    else if tag == 0x87 then Some (Present content)
    else if tag == 0xa8 then asserted Approx content
    else if tag == 0xa9 then Some (Extensible content)
    else None

-- the filters of at most so many elements, which are all that there is
unfoldable pub all_from : ℕ → (ℕ × List ℕ → Option Filter) → List ℕ → Option Filters
all_from most reader [] = Some Nil
all_from zero reader (octet ∷ bytes) = None
all_from (suc most) reader (octet ∷ bytes) =
    any_of (octet ∷ bytes) >>= λ found. (reader found.value >>= λ first. (all_from most reader found.rest >>= λ rest. Some (Cons first rest)))

-- the filters of all elements
unfoldable pub all_of : (ℕ × List ℕ → Option Filter) → List ℕ → Option Filters
all_of reader bytes = all_from (length bytes) reader bytes

-- the filter of the one element
abbrev pub only_of : (ℕ × List ℕ → Option Filter) → List ℕ → Option Filter
only_of reader bytes = any_of bytes >>= λ found. (if length found.rest == 0 then reader found.value else None)

-- a filter whose members the reader reads
abbrev pub level_of : (ℕ × List ℕ → Option Filter) → ℕ × List ℕ → Option Filter
level_of reader (tag, content) =
    if tag == 0xa0 then (all_of reader content >>= λ members. Some (And members))
    else if tag == 0xa1 then (all_of reader content >>= λ members. Some (Or members))
    else if tag == 0xa2 then (only_of reader content >>= λ member. Some (Not member))
    else item_of tag content

-- a filter that is at most so deep
unfoldable pub filter_at : ℕ → ℕ × List ℕ → Option Filter
filter_at zero element = None
filter_at (suc deep) element = level_of (filter_at deep) element

-- the filter that a tag and a content say
unfoldable pub filter_of : ℕ × List ℕ → Option Filter
filter_of element = filter_at most_deep element
