-- A component without a value of its own, as it is read.
use Rattle.std.proofs.Common.{◌≡◌, ℕ, Bool, true, false, List, refl, ap, ◌∙◌}
use Rattle.gser_tree.specs.looking.Looking.{flag}
use Rattle.gser_tree.specs.looking.Shapes.{Shape}
use Rattle.gser_tree.proofs.Theorems.{flagged}
use Rattle.aci_item.specs.members.ItemParts.{flag_by}

pub flag_reads : (name : List ℕ) (here : Bool) (members rest : List Shape) → flag name members ≡ flagged here rest → (here ≡ false → members ≡ rest)
    → flag_by members (flag name members) ≡ record { value = here; rest = rest }
flag_reads name true members rest read kept = ap (flag_by members) read
flag_reads name false members rest read kept = ap (flag_by members) read ∙ ap (λ m. record { value = false; rest = m }) (kept refl)
