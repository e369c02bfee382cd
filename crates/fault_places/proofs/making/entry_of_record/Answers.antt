-- The entry of a record by its name.
use Rattle.std.proofs.Common.{sym, ◌∙◌}
use Rattle.std.specs.Prelude.{Some, None}
use Rattle.fault_places.proofs.making.MakingLemmas.{made_by}
use Rattle.fault_places.proofs.making.entry_of_record.Goals as goal

pub returns-in-Some : goal.returns-in-Some
returns-in-Some c =
    let made = made_by c.args.given.now c.as_slice.result.now (Some c.in-Some.name) c.as_slice.ensures.exact
    (λ line. sym c.in-Some.is ∙ c.in_ok-name.ensures.ok line) in
    record { ok = rw made c.entry_of.ensures.ok }

pub returns-in-None : goal.returns-in-None
returns-in-None c = record {
  ok = sym (made_by c.args.given.now c.as_slice.result.now None c.as_slice.ensures.exact (λ line. sym c.in-None.is ∙ c.in_ok-name.ensures.ok line));
}
