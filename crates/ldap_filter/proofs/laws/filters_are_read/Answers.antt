use Rattle.ldap_filter.proofs.Theorems.{filter_sound, filter_complete}
use Rattle.ldap_filter.proofs.laws.filters_are_read.Goals as goal

pub returns : goal.returns
returns c = record { found = λ f element. filter_sound element f; only = λ f element. filter_complete f element }
