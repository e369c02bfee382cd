-- The order of authentication levels (X.501 18.4.2.3).
use Rattle.std.specs.Prelude.{ℕ, List, [], ◌∷◌}
use Rattle.aci_item.specs.declared.level.Level.{Level}
use Rattle.aci_item.specs.declared.level.Level.TheVariants.{Anyone, Simple, Strong}

-- none, then simple, then strong
abbrev pub rank_of : Level → ℕ
rank_of Anyone = 0
rank_of Simple = 1
rank_of Strong = 2

-- each level
abbrev pub levels : List Level
levels = Anyone ∷ Simple ∷ Strong ∷ []
