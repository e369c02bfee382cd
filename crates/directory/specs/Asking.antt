-- Who asks, of the entries of a numbered tree.
use Rattle.std.specs.Prelude.{◌≡◌, List}
use Rattle.std.specs.List.{AllByRecursion-prop}
use Rattle.std.proofs.Math.Bool.{Bool-set}
use Rattle.dir_tree.specs.tree.Numbered.{Numbered, entries_of}
use Rattle.acdf_filters.specs.declared.asking.Requester.{Requester}
use Rattle.acdf_filters.specs.declared.question.Membership.{Membership}
use Rattle.acdf_filters.specs.weighing.Weighing.{AreMemberships, is_member}
use Rattle.read_model.specs.Views.{View, view_of}

-- the rows' entries as the requester sees them
abbrev pub view_in : List Numbered → Requester → View
view_in rows who = view_of (entries_of rows) who

-- each membership that is known is what the rows' entries say
abbrev pub Knows : List Numbered → Requester → List Membership → Type 0
Knows rows who known = AreMemberships (entries_of rows) who.name known

-- it is so in one way
pub knows-prop : (rows : List Numbered) (who : Requester) (known : List Membership) → IsProp (Knows rows who known)
knows-prop rows who known =
    AllByRecursion-prop (λ membership. membership.member ≡ is_member (entries_of rows) who.name membership.group)
    (λ membership. Bool-set membership.member (is_member (entries_of rows) who.name membership.group)) known
