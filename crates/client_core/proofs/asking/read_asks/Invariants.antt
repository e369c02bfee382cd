use Rattle.std.proofs.Common.{◌≡◌, ◌+◌, ◌-◌, ◌≤◌, length}
use Rattle.ldif_records.specs.lines.Places.{IsPlace, records_from}
use Rattle.client_core.specs.Asks.{asks_in, asks_of, AreSendable}
use Rattle.client_core.specs.Steps.{joined}
use Rattle.client_core.proofs.asking.read_asks.Given as goal

-- the requests so far with those of the records that are left are all; there are no more of them than octets before
abbrev pub invariant-loop-asks : goal.invariant-loop-asks
invariant-loop-asks l = record {
  whole : asks_of l.text ≡ joined l.asks.items (asks_in (length l.asks.items + 1) (records_from l.text l.at));
  sendable : AreSendable l.asks.items;
  few : length l.asks.items ≤ l.at.offset;
  place : IsPlace l.text l.at;
}

abbrev pub decreases-loop-asks : goal.decreases-loop-asks
decreases-loop-asks l = length l.text - l.at.offset
