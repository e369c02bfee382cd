use Rattle.std.proofs.Common.{length, refl}
use Rattle.mio_link.proofs.connection.Connection.hear.Goals as goal

-- on hold no octets are given
pub returns-else-not-self : goal.returns-else-not-self
returns-else-not-self c = record {
  whose = c.hear_ready.ensures.whose;
  fits = c.hear_ready.ensures.fits (length c.args.buf.now);
  number = refl;
}
