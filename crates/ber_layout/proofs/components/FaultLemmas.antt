-- A fault of a part is one of the whole.
use Rattle.std.proofs.Common.{◌≡◌, Option, None}
use Rattle.ber_layout.specs.declared.kinds.ReadFault.{ReadFault}
use Rattle.ber_layout.specs.declared.kinds.ReadFault.TheVariants as fault
use Rattle.ber_layout.specs.element.Reading.{Fails}

-- where no part is read, the whole isn't
pub fails_so : {X Y : Type 0} (cause : ReadFault) (part : Option X) (whole : Option Y) → (part ≡ None → whole ≡ None) → Fails cause part → Fails cause whole
fails_so fault.BadMessage part whole so fails = so fails
fails_so fault.NoMemory part whole so fails = tt
