-- Each member of a filter is less deep than the filter.
use Rattle.std.specs.Prelude.{ℕ, ◌+◌, ◌≤◌, max, List, [], ◌∷◌}
use Rattle.std.proofs.Common.{arith}
use denote.Param.Weighed.{most}
use Rattle.ldap_filter.specs.declared.filter.Node.{Node}
use Rattle.ldap_filter.specs.declared.filter.Node.TheVariants as node
use Rattle.ldap_filter.specs.declared.filter.Filter.TheDeep.{deep-Node}
use Rattle.ldap_filter.specs.filter.Filters.{Filter, depth, depths, filters_of}
use Rattle.ldap_filter.specs.filter.Nodes.{filter_of_node}

-- the deepest of a list
members_fall : (members : List Filter) → most (λ member. depth member + 1) members ≤ depths (filters_of members) + 1
members_fall [] = omega arith
members_fall (first ∷ rest) = omega (arith, members_fall rest)

-- the deepest member of a node
pub node_falls : (n : Node) → max (deep-Node n) 0 ≤ depth (filter_of_node n)
node_falls (node.And members) = omega (arith, members_fall members.items)
node_falls (node.Or members) = omega (arith, members_fall members.items)
node_falls (node.Not member) = omega arith
node_falls (node.Equal kind value) = omega arith
node_falls (node.Parts kind initial any final) = omega arith
node_falls (node.AtLeast kind value) = omega arith
node_falls (node.AtMost kind value) = omega arith
node_falls (node.Present kind) = omega arith
node_falls (node.Approx kind value) = omega arith
node_falls (node.Extensible content) = omega arith
