-- Filters that were read before others.
use Rattle.std.specs.Prelude.{List, [], ◌∷◌, Option, Some}
use Rattle.ber_layout.specs.element.Pieces.{◌>>=◌}
use Rattle.ldap_filter.specs.filter.Filters.{Filter, Filters}
use Rattle.ldap_filter.specs.filter.Filters.Filters.{Cons}

-- filters before others
abbrev pub joined : List Filter → Filters → Filters
joined [] others = others
joined (first ∷ rest) others = Cons first (joined rest others)

-- filters before those that were read, if they were
abbrev pub behind : List Filter → Option Filters → Option Filters
behind members found = found >>= λ others. Some (joined members others)
