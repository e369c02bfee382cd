-- The test of the name's key is that of equal octets.
use Rattle.dir_tree.specs.dn_names.Printing.{name_key}
use Rattle.acdf_filters.proofs.users.UserLemmas.{bytes_eq-from_iff}
use Rattle.acdf_filters.proofs.users.is_key.Goals as goal

pub returns : goal.returns
returns c = record {
  exact = bytes_eq-from_iff c.is_key_of.result (name_key c.args.name.now) c.args.key.now c.is_key_of.ensures.exact;
}
