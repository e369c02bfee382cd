-- The components one behind the other, and the end of the braces.
use Rattle.std.proofs.Common.{◌++◌, true}
use Rattle.std.specs.Prelude.{string_bytes, codes, option_map}
use Rattle.gser_tree.specs.Writing.{print_number, print_optional, print_filled}
use Rattle.gser_tree.proofs.Theorems.{PutsMembers-append, PutsMembers-braces}
use Rattle.subtree_spec.specs.Subtrees.{subtree_of}
use Rattle.subtree_spec.specs.SubtreePrinted.{print_base, print_exclusions, print_minimum, print_refinement, print_components, print_subtree}
use Rattle.subtree_spec.proofs.printing.put_spec.Goals as goal

pub returns : goal.returns
unfolding print_subtree
returns c =
    let spec = subtree_of c.args.spec.now in
    let base = print_optional (codes "base") (print_base spec.base) in
    let exclusions = print_optional (codes "specificExclusions") (print_filled (print_exclusions spec.before spec.after)) in
    let minimum = print_optional (codes "minimum") (print_minimum spec.minimum) in
    let maximum = print_optional (codes "maximum") (option_map print_number spec.maximum) in
    let filter = print_optional (codes "specificationFilter") (option_map print_refinement spec.filter) in
    let text0 = string_bytes c.args.out.now in
    let text1 = string_bytes c.put_base.new.out in
    let text2 = string_bytes c.put_exclusions_of.new.out in
    let text3 = string_bytes c.put_minimum.new.out in
    let text4 = string_bytes c.put_maximum.new.out in
    let text5 = string_bytes c.put_filter.new.out in
    let first1 = c.in_ok-first.first in
    let first2 = c.in_ok-first-2.first in
    let first3 = c.in_ok-first-3.first in
    let first4 = c.in_ok-first-4.first in
    let first5 = c.in_ok-first-5.first in
    let two = PutsMembers-append text3 text4 text5 first3 first4 first5 maximum filter c.in_ok-first-4.ensures.ok c.in_ok-first-5.ensures.ok in
    let three = PutsMembers-append text2 text3 text5 first2 first3 first5 minimum (maximum ++ filter) c.in_ok-first-3.ensures.ok two in
    let four = PutsMembers-append text1 text2 text5 first1 first2 first5 exclusions (minimum ++ (maximum ++ filter)) c.in_ok-first-2.ensures.ok three in
    let five = PutsMembers-append text0 text1 text5 true first1 first5 base (exclusions ++ (minimum ++ (maximum ++ filter))) c.in_ok-first.ensures.ok four in
    record { ok = PutsMembers-braces text0 text5 (string_bytes c.put_end.new.out) first5 (print_components spec) five c.in_ok-put_end.ensures.ok }
