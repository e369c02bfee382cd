-- Tuples as a program filters them: by what the filters ask of each.
use Rattle.std.specs.Prelude.{◌≡◌, ℕ, Bool, ◌&&◌, List, [], length, map, filter, string_bytes}
use Rattle.std.specs.List.{list_all}
use Rattle.std.specs.Option.{option_map_or}
use Rattle.dir_tree.specs.dn_names.name.Names.{RdnSequence}
use Rattle.dir_tree.specs.tree.Numbered.{Numbered, entry_of}
use Rattle.acdf_filters.specs.aci_item.AciTuples.{AciTuple}
use Rattle.acdf_filters.specs.Asking.{Asked}
use Rattle.acdf_filters.specs.users.Choices.{highest, lowest, passing_or_all, is_filled}
use Rattle.acdf_filters.specs.Covering.{covers, is_explicit}
use Rattle.acdf_filters.specs.Filters.{Placed, stays, rank, permits}
use Rattle.acdf_filters.specs.Tuples.{Listed, listed_in}
use Rattle.acdf_filters.specs.weighing.Weighing.{asked_of, asked_ranks}
use Rattle.acdf_filters.specs.declared.question.Question.{Question}
use Rattle.explanation.specs.declared.facts.Facts.{Facts}
use Rattle.explanation.specs.declared.candidates.Candidate.{Candidate}
use Rattle.explanation.specs.declared.steps.Counts.{Counts}
use Rattle.explanation.specs.declared.steps.KeptTuple.{KeptTuple}
use Rattle.explanation.specs.Explained.{name_at, Kept}

-- what the filters ask of a tuple
abbrev pub facts_of : Asked → AciTuple → List ℕ → Facts
facts_of asked tuple ranks = record {
  stays = stays asked.who.level tuple ranks;
  covers = covers asked.who.name asked.item tuple.items;
  permitted = permits asked tuple;
  precedence = tuple.precedence;
  rank = rank tuple ranks;
  explicit = is_explicit asked.who.name asked.item tuple.items;
  grants = tuple.grants;
}

-- the same with the name of the entry that holds the item, and the item's tag
pub record Described : Type 0 where
  pub source : RdnSequence
  pub tag : List ℕ
  pub facts : Facts

-- of a tuple with its ranks
abbrev pub described : Asked → Placed → Described
described asked x = record { source = x.listed.source; tag = x.listed.tag; facts = facts_of asked x.listed.tuple x.ranks }

-- of a tuple, for what a program asks
abbrev pub described_for : Question → Listed → Described
described_for question x =
    record { source = x.source; tag = x.tag; facts = facts_of (asked_of question) x.tuple (asked_ranks question x.tuple) }

-- of what the program holds
abbrev pub described_at : List Numbered → Candidate → Described
described_at rows candidate = record { source = name_at rows candidate.source.0; tag = string_bytes candidate.tag; facts = candidate.facts }

-- the tuples of the values of the type of the entry of the number; none where it is not in use
abbrev pub listed_at : List Numbered → ℕ → ℕ → List Listed
listed_at rows kind id = option_map_or (listed_in kind) (entry_of id rows) []

-- of all that it holds
abbrev pub described_all : List Numbered → List Candidate → List Described
described_all rows candidates = map (described_at rows) candidates

-- what each filter leaves, by the facts
abbrev pub staying : {A : Type 0} → (A → Facts) → List A → List A
staying facts xs = filter (λ x. (facts x).stays) xs

abbrev pub covering : {A : Type 0} → (A → Facts) → List A → List A
covering facts xs = filter (λ x. (facts x).covers) (staying facts xs)

abbrev pub permitted : {A : Type 0} → (A → Facts) → List A → List A
permitted facts xs = filter (λ x. (facts x).permitted) (covering facts xs)

abbrev pub foremost : {A : Type 0} → (A → Facts) → List A → List A
foremost facts xs = highest (λ x. (facts x).precedence) (permitted facts xs)

abbrev pub most_specific : {A : Type 0} → (A → Facts) → List A → List A
most_specific facts xs = lowest (λ x. (facts x).rank) (foremost facts xs)

abbrev pub deciding : {A : Type 0} → (A → Facts) → List A → List A
deciding facts xs = passing_or_all (λ x. (facts x).explicit) (most_specific facts xs)

-- how many there are, and how many each filter leaves
pub record AreCounted (xs : List Candidate) (counts : Counts) : Type 0 where
  pub listed : counts.listed ≡ length xs
  pub users : counts.users ≡ length (staying (λ one. one.facts) xs)
  pub item : counts.item ≡ length (covering (λ one. one.facts) xs)
  pub permission : counts.permission ≡ length (permitted (λ one. one.facts) xs)
  pub precedence : counts.precedence ≡ length (foremost (λ one. one.facts) xs)
  pub class : counts.class ≡ length (most_specific (λ one. one.facts) xs)
  pub explicit : counts.explicit ≡ length (deciding (λ one. one.facts) xs)

-- what is said of one that is left
abbrev pub kept_from : Candidate → KeptTuple
kept_from candidate = record { source = candidate.source; tag = candidate.tag; grants = candidate.facts.grants }

abbrev pub kept_in : Described → Kept
kept_in x = record { source = x.source; tag = x.tag; grants = x.facts.grants }

-- access is granted by those that are left
abbrev pub all_grant : List KeptTuple → Bool
all_grant kept = is_filled kept && list_all (λ one. one.grants) kept
