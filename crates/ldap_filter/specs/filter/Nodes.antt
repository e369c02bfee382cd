-- The filter of a node, whose members are filters already.
use Rattle.std.specs.Prelude.{ℕ, List, Option}
use Rattle.ldap_filter.specs.declared.filter.Node.{Node}
use Rattle.ldap_filter.specs.declared.filter.Node.TheVariants as node
use Rattle.ldap_filter.specs.filter.Filters.{Filter, filters_of}
use Rattle.ldap_filter.specs.filter.Filters.Filter.{And, Or, Not, Equal, Parts, AtLeast, AtMost, Present, Approx, Extensible}

-- the filter of a node
abbrev pub filter_of_node : Node → Filter
filter_of_node (node.And members) = And (filters_of members.items)
filter_of_node (node.Or members) = Or (filters_of members.items)
filter_of_node (node.Not member) = Not member.value
filter_of_node (node.Equal kind value) = Equal kind value
filter_of_node (node.Parts kind initial any final) = Parts kind initial any final
filter_of_node (node.AtLeast kind value) = AtLeast kind value
filter_of_node (node.AtMost kind value) = AtMost kind value
filter_of_node (node.Present kind) = Present kind
filter_of_node (node.Approx kind value) = Approx kind value
filter_of_node (node.Extensible content) = Extensible content
