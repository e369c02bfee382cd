-- Subtree specifications (RFC 3672 section 2.1, X.501 12.3): which entries below a point belong to a subtree.
use Rattle.std.specs.Prelude.{ℕ, List, [], ◌∷◌, Option, option_map, string_bytes}
use Rattle.dn_names.specs.name.Names.{RdnSequence}
use Rattle.subtree_spec.specs.declared.spec.Refinement.{Refinement, fold-Refinement}
use Rattle.subtree_spec.specs.declared.spec.Refinement.TheOpen.{Refinement-F}
use Rattle.subtree_spec.specs.declared.spec.Spec.{Spec}

-- Refinement ::= CHOICE { item [0] OBJECT-CLASS.&id, and [1] SET OF Refinement, or [2] SET OF Refinement, not [3] Refinement }
mutual
  pub data Choice : Type 0 where
    Item : List ℕ → Choice
    And : Choices → Choice
    Or : Choices → Choice
    Not : Choice → Choice

  pub data Choices : Type 0 where
    None : Choices
    Some : Choice → Choices → Choices

-- a list of refinements
abbrev pub gathered : List Choice → Choices
gathered [] = None
gathered (choice ∷ choices) = Some choice (gathered choices)

-- SubtreeSpecification ::= SEQUENCE { base [0] LocalName DEFAULT {}, COMPONENTS OF ChopSpecification,
-- specificationFilter [4] Refinement OPTIONAL }: the names of specificExclusions by their kind
pub record Subtree : Type 0 where
  pub base : RdnSequence
  pub before : List RdnSequence
  pub after : List RdnSequence
  pub minimum : ℕ
  pub maximum : Option ℕ
  pub filter : Option Choice

-- one level of a refinement of the program
abbrev pub level_choice : Refinement-F Choice → Choice
level_choice (Refinement-F.Item oid) = Item (string_bytes oid)
level_choice (Refinement-F.And refinements) = And (gathered refinements.items)
level_choice (Refinement-F.Or refinements) = Or (gathered refinements.items)
level_choice (Refinement-F.Not refinement) = Not refinement.value

-- a refinement of the program
abbrev pub choice_of : Refinement → Choice
choice_of = fold-Refinement Choice level_choice

-- a specification of the program
abbrev pub subtree_of : Spec → Subtree
subtree_of spec = record {
  base = spec.base;
  before = spec.before.items;
  after = spec.after.items;
  minimum = spec.minimum;
  maximum = spec.maximum;
  filter = option_map choice_of spec.filter;
}
