-- The names of specificExclusions (RFC 3672 section 2.1.2) said another way: all of them in the order of the text, and
-- then those of each kind sorted.
use Rattle.std.specs.Prelude.{List, ℕ, [], ◌∷◌, None, codes, fold, if◌then◌else◌}
use Rattle.std.specs.Str.{bytes_eq}
use Rattle.dir_tree.specs.dn_names.name.Names.{RdnSequence}
use Rattle.gser_tree.specs.looking.Looking.{chosen_in}
use Rattle.gser_tree.specs.looking.Shapes.{Shape}
use Rattle.gser_tree.specs.Reading.{Read, expect, give, ◌>>=◌}
use Rattle.subtree_spec.specs.Parts.{name, set_of}
use Rattle.subtree_spec.specs.SubtreeText.{Chops, put_name}

-- CHOICE { chopBefore [0] LocalName, chopAfter [1] LocalName }
pub data Exclusion : Type 0 where
  Before : RdnSequence → Exclusion
  After : RdnSequence → Exclusion

-- an exclusion of the kind that an identifier names
abbrev pub exclusion_of : List ℕ → Shape → Read Exclusion
exclusion_of kind value =
    if bytes_eq kind (codes "chopBefore") then (name value >>= λ name. give (Before name))
    else if bytes_eq kind (codes "chopAfter") then (name value >>= λ name. give (After name))
    else λ bad. None

-- a member
abbrev pub exclusion : Shape → Read Exclusion
exclusion shape = expect (chosen_in shape) >>= λ chosen. exclusion_of chosen.0.text chosen.1

-- the names of each kind
abbrev pub names_before : List Exclusion → List RdnSequence
names_before [] = []
names_before (Before name ∷ all) = name ∷ names_before all
names_before (After name ∷ all) = names_before all

abbrev pub names_after : List Exclusion → List RdnSequence
names_after [] = []
names_after (Before name ∷ all) = names_after all
names_after (After name ∷ all) = name ∷ names_after all

-- names as a set
abbrev pub names_sorted : List RdnSequence → List RdnSequence
names_sorted names = fold (λ seen name. put_name name seen) [] names

-- exclusions as two sets
abbrev pub chops_sorted : List Exclusion → Chops
chops_sorted all = record { before = names_sorted (names_before all); after = names_sorted (names_after all) }

-- all members in the order of the text, and then sorted
abbrev pub exclusions_sorted : Shape → Read Chops
exclusions_sorted shape = set_of exclusion shape >>= λ all. give (chops_sorted all)
