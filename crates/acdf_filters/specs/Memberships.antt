-- The groups of which memberships are known.
use Rattle.std.specs.Prelude.{List, map}
use Rattle.dir_tree.specs.dn_names.name.Names.{RdnSequence}
use Rattle.acdf_filters.specs.declared.question.Membership.{Membership}

-- the groups of which the memberships are known
abbrev pub groups_of : List Membership → List RdnSequence
groups_of known = map (λ membership. membership.group) known
