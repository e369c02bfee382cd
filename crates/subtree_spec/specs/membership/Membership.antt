-- Which names belong to a subtree, its refinement aside (X.501 12.3, RFC 3672 section 2.1).
use Rattle.std.specs.Prelude.{ℕ, ◌+◌, Bool, true, ◌&&◌, nat_le, nat_lt, not, ◌++◌, length, drop, Option, Some, None}
use Rattle.std.specs.List.{list_any}
use Rattle.dn_names.specs.name.Names.{RdnSequence}
use Rattle.dn_names.specs.NameOrder.{is_prefix_of}
use Rattle.subtree_spec.specs.Subtrees.{Subtree}

-- at most the maximum, where there is one
abbrev pub is_within : Option ℕ → ℕ → Bool
is_within None count = true
is_within (Some maximum) count = nat_le count maximum

-- a name below the base: from minimum to maximum RDNs, no chopBefore at its front, no chopAfter at its front but itself
abbrev pub holds_rest : Subtree → RdnSequence → Bool
holds_rest spec rest =
    nat_le spec.minimum (length rest) && is_within spec.maximum (length rest)
    && not (list_any (λ name. is_prefix_of name rest) spec.before)
    && not (list_any (λ name. nat_lt (length name) (length rest) && is_prefix_of name rest) spec.after)

-- a name below the point: the base, and then such a rest
unfoldable pub holds_below : Subtree → RdnSequence → RdnSequence → Bool
holds_below spec point name =
    is_prefix_of (point ++ spec.base) name && holds_rest spec (drop (length point + length spec.base) name)

-- the same with the base read from the root
unfoldable pub holds_name : Subtree → RdnSequence → Bool
holds_name spec name = is_prefix_of spec.base name && holds_rest spec (drop (length spec.base) name)
