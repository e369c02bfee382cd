-- Fronts of names.
use Rattle.std.proofs.Common.{◌≡◌, true, ◌++◌, ap, ◌∙◌}
use Rattle.std.proofs.lemmas.List.{append_assoc}
use Rattle.dir_tree.specs.dn_names.name.Names.{RdnSequence}
use Rattle.dir_tree.specs.dn_names.NameOrder.{is_prefix_of, types_and_keys}
use Rattle.dir_tree.proofs.dn_names_proofs.Theorems.{is_prefix_of-types_and_keys}

-- a front of a front is a front
pub prefix_chain : (x y z : RdnSequence) → is_prefix_of x y ≡ true → is_prefix_of y z ≡ true → is_prefix_of x z ≡ true
prefix_chain x y z e f =
    let first = (is_prefix_of-types_and_keys x y).0 e in
    let second = (is_prefix_of-types_and_keys y z).0 f in
    (is_prefix_of-types_and_keys x z).1 (
      first.0 ++ second.0,
      second.1 ∙ ap (λ t. t ++ second.0) first.1 ∙ append_assoc (types_and_keys x) first.0 second.0,
    )
