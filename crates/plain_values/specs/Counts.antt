-- A count of faults, from 0 to 2^64 - 1, which stays at its last value once it stands there.
use Rattle.std.specs.Prelude.{ℕ, ◌<◌, ◌≤◌, ◌+◌, ◌-◌, ◌^◌, ◌⊎◌, nat_lt, if◌then◌else◌}

-- the last value of a count
abbrev pub last_count : ℕ
last_count = 2 ^ 64 - 1

-- the count is as it was, or above
pub record NeverFalls (before after : ℕ) : Type 0 where
  pub never_falls : before ≤ after

-- the count rose, or it stands at its last value, where it can't be seen to rise
pub record Rose (before after : ℕ) : Type 0 where
  pub never_falls : before ≤ after
  pub rose : (before < after) ⊎ (last_count ≤ after)

-- the count after one more fault
abbrev pub next_count : ℕ → ℕ
next_count before = if nat_lt before last_count then before + 1 else last_count
