-- The law is proved of the definitions.
use Rattle.certify.proofs.laws.LastLemmas.{numbered-users, numbered-item, numbered-permission, numbered-precedence, numbered-class, numbered-explicit}
use Rattle.certify.proofs.laws.a_filter_leaves_those_of_its_number_or_more.Goals as goal

pub returns : goal.returns
returns c = record {
  users = numbered-users;
  item = numbered-item;
  permission = numbered-permission;
  precedence = numbered-precedence;
  class = numbered-class;
  explicit = numbered-explicit;
}
