use Rattle.ldap_msg.proofs.Theorems.{broken_sound, broken_complete}
use Rattle.ldap_msg.proofs.laws.broken_streams.Goals as goal

pub returns : goal.returns
returns c = record { found = broken_sound; only = broken_complete }
