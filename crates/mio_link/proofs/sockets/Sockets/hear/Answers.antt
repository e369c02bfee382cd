use Rattle.std.proofs.Common.{length}
use Rattle.mio_link.proofs.sockets.Sockets.hear.Goals as goal

-- that one may take octets gives none
pub returns-in-Some-clause-fits : goal.returns-in-Some-clause-fits
returns-in-Some-clause-fits c = c.in-Some.ensures.fits (length c.args.buf.now)
