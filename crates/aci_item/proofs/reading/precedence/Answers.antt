-- A number that was read fits one octet.
use Rattle.std.proofs.Common.{arith}
use Rattle.gser_tree.specs.Tree.{shape_of}
use Rattle.aci_item.proofs.parts.PartLemmas.{number_within}
use Rattle.aci_item.proofs.reading.precedence.Goals as goal

pub overflow_cast-result : goal.overflow_cast-result
overflow_cast-result c =
    let small = number_within 255 (shape_of c.args.tree.now) c.args.bad.now.first c.number.new.bad.first c.in_ok-value.value c.in_ok-value.ensures.read in
    omega (arith, small)
