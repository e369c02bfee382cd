use Rattle.std.proofs.Common.{◌≡◌, ℕ, ◌<◌, false}
use Rattle.mio_link.specs.Numbers.{is_put_off_at, AllStand}
use Rattle.mio_link.proofs.connections.Connections.let_go.Given as goal

-- none of the connections up to the place waits for the disk, and each stands where it stood
abbrev pub invariant-loop-place : goal.invariant-loop-place
invariant-loop-place l = ((place : ℕ) → place < l.place → is_put_off_at l.self place ≡ false) × AllStand l.fn.self l.self
