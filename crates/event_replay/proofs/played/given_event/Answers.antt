-- Each event is the one that was heard.
use Rattle.event_replay.proofs.played.PlayLemmas.{given-opened, given-bytes, given-ended, given-stop}
use Rattle.event_replay.proofs.played.given_event.Goals as goal

pub returns-in-Opened : goal.returns-in-Opened
returns-in-Opened c = record { ok = given-opened c.args.buffer.now c.args.heard c.in-Opened.conn c.in-Opened.is }

pub returns-in_ok-octets-in-Bytes : goal.returns-in_ok-octets-in-Bytes
returns-in_ok-octets-in-Bytes c = record {
  ok = given-bytes c.args.buffer.now c.args.heard c.in-Bytes.conn c.in-Bytes.count c.in_ok-octets-in-Bytes.octets c.in-Bytes.is c.in_ok-octets-in-Bytes.ensures.ok c.requires.fits c.requires.long;
}

pub returns-in-Ended : goal.returns-in-Ended
returns-in-Ended c = record { ok = given-ended c.args.buffer.now c.args.heard c.in-Ended.conn c.in-Ended.is }

pub returns-in-Stop : goal.returns-in-Stop
returns-in-Stop c = record { ok = given-stop c.args.buffer.now c.args.heard c.in-Stop.is }
