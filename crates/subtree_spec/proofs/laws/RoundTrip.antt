-- A specification that some text gives is read again from its printed form.
use Rattle.std.proofs.Common.{◌≡◌, ℕ, List, ap, ◌∙◌, arith}
use Rattle.std.specs.Prelude.{None, Ok}
use Rattle.gser_tree.specs.Writing.{text_of}
use Rattle.gser_tree.proofs.Theorems.{IsRead, IsTextOf-written}
use Rattle.subtree_spec.specs.Subtrees.{Subtree}
use Rattle.subtree_spec.specs.SubtreeText.{subtree, SubText, judged, read_subtree}
use Rattle.subtree_spec.specs.SubtreePrinted.{print_subtree}
use Rattle.subtree_spec.specs.GoodSubtrees.{IsGoodSubtree}
use Rattle.subtree_spec.proofs.laws.SubtreePrints.{subtree_prints}
use Rattle.subtree_spec.proofs.laws.SubtreeOnly.{subtree_is_good}
use Rattle.subtree_spec.proofs.reading.ReadLemmas.{reads_shape}

pub IsGoodSubtree-from_SubText : (spec : Subtree) (text : List ℕ) → SubText spec text → IsGoodSubtree spec
IsGoodSubtree-from_SubText spec text given = (subtree_is_good given.shape None spec given.reads).1

pub SubText-print_subtree : (spec : Subtree) → IsGoodSubtree spec → SubText spec (text_of (print_subtree spec))
SubText-print_subtree spec good =
    let found = IsTextOf-written 65 (IsRead subtree spec) (print_subtree spec) (subtree_prints spec good) in
    record { shape = found.0; written = found.1; reads = found.3 None }

pub read_subtree-print_subtree : (spec : Subtree) → IsGoodSubtree spec → read_subtree (text_of (print_subtree spec)) ≡ Ok spec
read_subtree-print_subtree spec good =
    let found = IsTextOf-written 65 (IsRead subtree spec) (print_subtree spec) (subtree_prints spec good) in
    reads_shape (text_of (print_subtree spec)) found.0 found.1 (omega (arith, found.2)) ∙ ap judged (found.3 None)
