-- What is read is good, and what is good is printed as it is read.
use Rattle.subtree_spec.proofs.laws.RoundTrip.{IsGoodSubtree-from_SubText, SubText-print_subtree, read_subtree-print_subtree}
use Rattle.subtree_spec.proofs.laws.a_printed_specification_is_read_again.Goals as goal

pub returns : goal.returns
returns c = record {
  good = IsGoodSubtree-from_SubText;
  printed = SubText-print_subtree;
  exact = read_subtree-print_subtree;
}
