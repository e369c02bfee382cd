use Rattle.ldap_filter.specs.FilterSpelling.{filter_octets}
use Rattle.ldap_filter.proofs.Theorems.{filter_complete, filter_spells}
use Rattle.ldap_filter.proofs.laws.filters_are_read_again.Goals as goal

pub returns : goal.returns
returns c = record { says = filter_spells; exact = λ f has short within. filter_complete f (filter_octets f) (filter_spells f has short, within) }
