-- What is left, read from the state so far, has the fault of the whole.
use Rattle.std.proofs.Common.{◌≡◌, drop}
use Rattle.regular_text.specs.Machine.{fault_at}
use Rattle.dn_names.specs.declared.modes.Mode.TheVariants.{Start}
use Rattle.dn_names.specs.Modes.{machine}
use Rattle.dn_names.proofs.scan.fault_place.Given as goal

abbrev pub invariant-loop-place : goal.invariant-loop-place
invariant-loop-place l = fault_at machine l.place (drop l.place l.octets) l.mode ≡ fault_at machine 0 l.octets Start
