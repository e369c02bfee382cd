-- The text has more RDNs than a name may have.
use Rattle.std.proofs.Common.{◌≡◌, ℕ, true, List, length, None, Err}
use Rattle.std.specs.Prelude.{nat_lt}
use Rattle.dn_names.specs.declared.error.BadName.TheVariants.{TooMany}
use Rattle.dn_names.specs.Modes.{text_fault}
use Rattle.dn_names.specs.Reading.{written_of}
use Rattle.dn_names.specs.Resolving.{resolve}
use Rattle.dn_names.specs.parsing.NameText.{read_name}
use Rattle.dn_names.proofs.parsing.parse_by.Goals as goal

too_many : (octets : List ℕ) → None ≡ text_fault octets → true ≡ nat_lt 64 (length (written_of octets)) → read_name octets ≡ Err TooMany
unfolding read_name resolve
too_many octets fault many = rw (← fault, ← many)

pub returns-in-None : goal.returns-in-None
returns-in-None c = record { exact = too_many c.args.octets.now c.in-None.ensures.exact c.if-has_too_many.ensures.exact }
