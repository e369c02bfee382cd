-- The computed heading is the one that the octets have, and no other is.
use Rattle.std.proofs.Common.{sym, subst, ◌∙◌}
use Rattle.ber_elements.specs.Heading.{IsHeading}
use Rattle.ber_elements.proofs.Theorems.{heading_sound, heading_complete}
use Rattle.ber_elements.proofs.read.header.Goals as goal

pub returns-clause-found : goal.returns-clause-found
returns-clause-found c = subst (IsHeading c.args.bytes.now) (sym c.heading.ensures) (heading_sound c.args.bytes.now)

pub returns-clause-only : goal.returns-clause-only
returns-clause-only c other h = c.heading.ensures ∙ sym (heading_complete c.args.bytes.now other h)
