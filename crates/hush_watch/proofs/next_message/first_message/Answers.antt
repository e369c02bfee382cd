use Rattle.std.proofs.Common.{◌≡◌, take, arith}
use Rattle.std.proofs.lemmas.Grind.{common_steps}
use Rattle.hush_watch.proofs.FirstLemmas.{first-whole, first-more, first-bad}
use Rattle.hush_watch.proofs.next_message.first_message.Goals as goal

-- a whole message stands there
pub returns-in_ok-extend_from_slice-in-Whole : goal.returns-in_ok-extend_from_slice-in-Whole
returns-in_ok-extend_from_slice-in-Whole c =
    let front : c.from_vec.result ≡ take c.in-Whole.count c.args.octets.now = grind (arith, common_steps) in
    record { ok = first-whole c.args.octets.now c.from_vec.result c.in-Whole.count c.in-Whole.ensures.exact c.in-Whole.ensures.found.0 front }

-- or none does
pub returns-in-More : goal.returns-in-More
returns-in-More c = record { ok = first-more c.args.octets.now c.in-More.ensures.exact }

pub returns-in-Bad : goal.returns-in-Bad
returns-in-Bad c = record { ok = first-bad c.args.octets.now c.in-Bad.ensures.exact }
