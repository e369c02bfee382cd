-- What a program reads and prints, as far as it is told: the files of a shelf, and what was put in a sink, each with its
-- count of faults.
use Rattle.std.specs.Prelude.{ℕ, List, Option}
use Rattle.wire_io.specs.Files.{Files}

-- the files of a shelf
pub record Shelved : Type 0 where
  pub files : Option Files
  pub faults : ℕ

-- what was put in a sink
pub record Written : Type 0 where
  pub put : Option (List ℕ)
  pub faults : ℕ

-- a shelf, by its files and its count
abbrev pub shelved : Option Files → ℕ → Shelved
shelved files faults = record { files = files; faults = faults }

-- a sink, by what was put and its count
abbrev pub written : Option (List ℕ) → ℕ → Written
written put faults = record { put = put; faults = faults }
