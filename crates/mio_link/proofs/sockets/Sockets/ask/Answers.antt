use Rattle.std.proofs.Common.{length}
use Rattle.mio_link.proofs.sockets.Sockets.ask.Goals as goal

-- neither gives octets
pub returns-in-Some : goal.returns-in-Some
returns-in-Some c = record {
  whose = c.admit.ensures.whose;
  bounds = c.admit.ensures.bounds;
  stand = λ place number. rw (c.admit.ensures.numbers place) (λ at. at);
  fits = c.admit.ensures.fits (length c.args.buf.now);
}

pub returns-in-None : goal.returns-in-None
returns-in-None c = record {
  whose = c.accept.ensures.whose;
  bounds = c.accept.ensures.bounds;
  stand = c.accept.ensures.stand;
  fits = c.accept.ensures.fits (length c.args.buf.now);
}
