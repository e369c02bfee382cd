-- The program's table of bits.
use Rattle.std.specs.Prelude.{ℕ, Bool, List}
use Rattle.aci_item.specs.declared.bits.Row.{Row}
use Rattle.aci_item.specs.declared.permission.Permission.{Permission}
use Rattle.aci_item.specs.Permission.{Bit}
use Rattle.aci_item.specs.ItemPrinted.{bit_name}

-- a bit as the program gives it
abbrev pub bit_of : Permission × Bool → Bit
bit_of pair = record { permission = pair.0; grants = pair.1 }

-- a bit with its name
abbrev pub named_bit : Bit → List ℕ × Bit
named_bit bit = (bit_name bit, bit)

-- the same of a row
abbrev pub row_of : Row → List ℕ × Bit
row_of row = (row.name.now, record { permission = row.permission; grants = row.grants })
