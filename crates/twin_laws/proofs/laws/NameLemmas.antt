-- Names at or below a name, and outside.
use Rattle.std.proofs.Common.{◌≡◌, true, false, ◌∙◌, length, nat_lt, arith}
use Rattle.std.proofs.lemmas.Bool.{false_from_ne_true, both_ways, and_parts, ltb-true}
use Rattle.dir_tree.specs.dn_names.name.Names.{RdnSequence}
use Rattle.dir_tree.specs.dn_names.NameOrder.{is_same, is_prefix_of}
use Rattle.acdf_filters.proofs.admin_scope_proofs.Theorems.{prefix_chain}
use Rattle.dir_tree.specs.tree.Trees.{is_below}
use Rattle.dir_tree.proofs.TreeTheorems.{prefix_like as same_below, same_back, length-front}

-- a name outside is none of those at or below
pub same_outside : (top base name : RdnSequence) → is_prefix_of top base ≡ false → is_prefix_of top name ≡ true
    → is_same base name ≡ false
same_outside top base name outside e =
    false_from_ne_true (is_same base name) (λ f. both_ways (is_prefix_of top base) outside (same_below top base name e f))

-- none of those at or below is a name outside
pub same_within : (top base name : RdnSequence) → is_prefix_of top base ≡ true → is_prefix_of top name ≡ false
    → is_same base name ≡ false
same_within top base name e outside =
    false_from_ne_true (is_same base name) (λ f. both_ways (is_prefix_of top name) outside (same_below top name base e (same_back base name f)))

-- nor is a name outside below one of them
pub below_within : (top base name : RdnSequence) → is_prefix_of top base ≡ true → is_prefix_of top name ≡ false
    → is_prefix_of base name ≡ false
below_within top base name e outside =
    false_from_ne_true (is_prefix_of base name) (λ f. both_ways (is_prefix_of top name) outside (prefix_chain top base name e f))

-- what is above a name is not below it
pub above_outside : (base top : RdnSequence) → is_below base top ≡ true → is_prefix_of top base ≡ false
above_outside base top e =
    let parts = and_parts (is_prefix_of base top) (nat_lt (length base) (length top)) e in
    let longer = ltb-true (length base) (length top) parts.1 in
    false_from_ne_true (is_prefix_of top base) (λ f. let shorter = length-front top base f in omega (arith, longer, shorter))
