-- A loadable tree is a good one of loadable entries.
use Rattle.loading_laws.proofs.laws.OctetLemmas.{IsBytes-from_AreOctets}
use Rattle.loading_laws.proofs.laws.a_loadable_tree_loads_again.Goals as goal

pub returns : goal.returns
returns c = record {
  exact = λ entries is. c.what_is_written_loads_again.ensures.exact entries is.good is.loadable;
  loaded = λ text entries octets is. record {
    good = c.what_is_loaded_is_good.ensures.exact text entries (IsBytes-from_AreOctets text octets) is;
    loadable = c.what_is_loaded_is_loadable.ensures.exact text entries (IsBytes-from_AreOctets text octets) is;
  };
}
