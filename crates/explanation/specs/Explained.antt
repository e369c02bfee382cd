-- How a decision came about (X.501 18.8): how many tuples count for the entry, how many are left by each of the six
-- filters, which those of the last one are, and what is decided.
use Rattle.std.specs.Prelude.{◌≡◌, ℕ, Bool, false, List, [], length, map, string_bytes}
use Rattle.std.specs.Option.{option_map_or}
use Rattle.dir_tree.specs.dn_names.name.Names.{RdnSequence}
use Rattle.dir_tree.specs.Entry.{EntryInformation}
use Rattle.dir_tree.specs.tree.Numbered.{Numbered, entries_of, entry_of}
use Rattle.acdf_filters.specs.Asking.{Asked}
use Rattle.acdf_filters.specs.Filters.{Placed, left_by_users, left_by_item, left_by_permission, left_by_precedence, left_by_class, left_by_explicit, decided}
use Rattle.acdf_filters.specs.Granted.{placed_of}
use Rattle.explanation.specs.declared.steps.Counts.{Counts}
use Rattle.explanation.specs.declared.steps.KeptTuple.{KeptTuple}
use Rattle.explanation.specs.declared.steps.Steps.{Steps}

-- how many count, and how many each filter leaves
pub record AreCounts (asked : Asked) (xs : List Placed) (counts : Counts) : Type 0 where
  pub listed : counts.listed ≡ length xs
  pub users : counts.users ≡ length (left_by_users asked xs)
  pub item : counts.item ≡ length (left_by_item asked xs)
  pub permission : counts.permission ≡ length (left_by_permission asked xs)
  pub precedence : counts.precedence ≡ length (left_by_precedence asked xs)
  pub class : counts.class ≡ length (left_by_class asked xs)
  pub explicit : counts.explicit ≡ length (left_by_explicit asked xs)

-- what is said of a tuple that is left: the name of the entry that holds its item, the item's tag, and whether it grants
pub record Kept : Type 0 where
  pub source : RdnSequence
  pub tag : List ℕ
  pub grants : Bool

-- the name of the entry of the number
abbrev pub name_at : List Numbered → ℕ → RdnSequence
name_at rows id = option_map_or (λ entry. entry.name) (entry_of id rows) []

-- what is said of it by a number in place of the name
abbrev pub kept_at : List Numbered → KeptTuple → Kept
kept_at rows kept = record { source = name_at rows kept.source.0; tag = string_bytes kept.tag; grants = kept.grants }

-- what is said of a tuple
abbrev pub kept_of : Placed → Kept
kept_of x = record { source = x.listed.source; tag = x.listed.tag; grants = x.listed.tuple.grants }

-- the decision on the item of the entry came about so
pub record IsExplained (rows : List Numbered) (entry : EntryInformation) (asked : Asked) (steps : Steps) : Type 0 where
  pub counts : AreCounts asked (placed_of (entries_of rows) asked.who entry) steps.counts
  pub kept : map (kept_at rows) steps.kept.items ≡ map kept_of (left_by_explicit asked (placed_of (entries_of rows) asked.who entry))
  pub granted : steps.granted ≡ decided asked (placed_of (entries_of rows) asked.who entry)

-- nothing counts, nothing is left, and access is refused
pub record IsNothing (steps : Steps) : Type 0 where
  pub counts : steps.counts ≡ record { listed = 0; users = 0; item = 0; permission = 0; precedence = 0; class = 0; explicit = 0 }
  pub kept : steps.kept.items ≡ []
  pub refused : steps.granted ≡ false
