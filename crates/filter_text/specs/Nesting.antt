-- How many filters are open in a text, and which texts are too deep.
use Rattle.std.specs.Prelude.{ℕ, ◌-◌, ◌<◌, ◌≤◌, ◌==◌, List, length, take, count_by}
use Rattle.regular_text.specs.Place.{Begins}
use Rattle.ldap_filter.specs.reading.FilterLayouts.{most_deep}
use Rattle.filter_text.specs.FilterText.{IsFilterText}

-- how many filters are open behind the octets: parentheses stand for nothing else in a filter's text
abbrev pub open_in : List ℕ → ℕ
open_in front = count_by (λ octet. octet == 40) front - count_by (λ octet. octet == 41) front

-- some front with which a filter's text begins has more filters open than a filter may be deep
pub record IsTooDeep (text : List ℕ) : Type 0 where
  pub size : ℕ
  pub within : size ≤ length text
  pub begins : Begins IsFilterText (take size text)
  pub deep : most_deep < open_in (take size text)
