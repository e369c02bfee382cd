-- Words taken apart: behind a front, and at the first `=`.
use Rattle.std.specs.Prelude.{ℕ, ◌+◌, ◌==◌, List, length, take, drop, position, Option, Some, None, option_map, if◌then◌else◌}
use Rattle.std.specs.Borrow.{Bor}
use Rattle.std.specs.Str.{bytes_eq}

-- what follows a front, where the text begins with it
abbrev pub after : List ℕ → List ℕ → Option (List ℕ)
after front text = if bytes_eq (take (length front) text) front then Some (drop (length front) text) else None

-- what stands before the first `=` and after it
abbrev pub cut_at_equals : List ℕ → Option (List ℕ × List ℕ)
cut_at_equals text = option_map (λ place. (take place text, drop (place + 1) text)) (position (λ octet. octet == 61) text)

-- two lent texts as octets
abbrev pub pair_view : Bor (List ℕ) × Bor (List ℕ) → List ℕ × List ℕ
pair_view pair = (pair.0.now, pair.1.now)
