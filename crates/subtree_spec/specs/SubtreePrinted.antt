-- The one printed form of subtree specifications (RFC 3672 Appendix A, RFC 3641), as lexemes: an empty base, no
-- exclusions and minimum 0 are left out, the names of chopBefore come first, items are dotted.
use Rattle.std.specs.Prelude.{ℕ, List, [], ◌∷◌, ◌++◌, ◌==◌, map, Option, Some, None, option_map, codes, if◌then◌else◌}
use Rattle.dn_names.specs.name.Names.{RdnSequence}
use Rattle.dn_names.specs.Printing.{print_name}
use Rattle.gser_tree.specs.Lexemes.{Lexeme}
use Rattle.gser_tree.specs.Writing.{print_word, print_number, print_string, print_choice, print_braces, print_optional, print_filled}
use Rattle.subtree_spec.specs.Subtrees as subtrees
use Rattle.subtree_spec.specs.Subtrees.{Choice, Choices, Item, And, Or, Not, Subtree}

-- a name, in a string
abbrev pub print_dn : RdnSequence → List Lexeme
print_dn name = print_string (print_name name)

-- a base that is not empty
abbrev pub print_base : RdnSequence → Option (List Lexeme)
print_base [] = None
print_base (rdn ∷ rdns) = Some (print_dn (rdn ∷ rdns))

-- exclusions of a kind
abbrev pub print_chops : List ℕ → List RdnSequence → List (List Lexeme)
print_chops kind names = map (λ name. print_choice kind (print_dn name)) names

-- all exclusions
abbrev pub print_exclusions : List RdnSequence → List RdnSequence → List (List Lexeme)
print_exclusions before after = print_chops (codes "chopBefore") before ++ print_chops (codes "chopAfter") after

-- a minimum that is not 0
abbrev pub print_minimum : ℕ → Option (List Lexeme)
print_minimum minimum = if minimum == 0 then None else Some (print_number minimum)

abbrev mutual
  -- a refinement
  pub print_refinement : Choice → List Lexeme
  print_refinement (Item oid) = print_choice (codes "item") (print_word oid)
  print_refinement (And choices) = print_choice (codes "and") (print_braces (print_refinements choices))
  print_refinement (Or choices) = print_choice (codes "or") (print_braces (print_refinements choices))
  print_refinement (Not choice) = print_choice (codes "not") (print_refinement choice)

  -- the refinements of a set
  pub print_refinements : Choices → List (List Lexeme)
  print_refinements subtrees.None = []
  print_refinements (subtrees.Some choice choices) = print_refinement choice ∷ print_refinements choices

-- the components of a specification that are not left out
abbrev pub print_components : Subtree → List (List Lexeme)
print_components spec =
    print_optional (codes "base") (print_base spec.base)
    ++ (print_optional (codes "specificExclusions") (print_filled (print_exclusions spec.before spec.after))
    ++ (print_optional (codes "minimum") (print_minimum spec.minimum)
    ++ (print_optional (codes "maximum") (option_map print_number spec.maximum)
    ++ print_optional (codes "specificationFilter") (option_map print_refinement spec.filter))))

-- a specification
unfoldable pub print_subtree : Subtree → List Lexeme
print_subtree spec = print_braces (print_components spec)
