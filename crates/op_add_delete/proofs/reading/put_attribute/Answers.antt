-- An attribute put last, unless one came twice.
use Rattle.std.proofs.Common.{sym, ◌∙◌}
use Rattle.std.proofs.lemmas.Bool.{or_parts}
use Rattle.std.proofs.lemmas.Result.{on_ok_weaker}
use Rattle.op_add_delete.specs.reading.Reading.{attribute_of}
use Rattle.op_add_delete.proofs.reading.ReadingLemmas.{distinct-repeats, put-nothing, put-twice, put-last}
use Rattle.op_add_delete.proofs.reading.put_attribute.Goals as goal

-- one came twice before
pub returns-then-twice : goal.returns-then-twice
returns-then-twice c = record { ok = rw c.if-twice.true (put-nothing c.args.entry.now (attribute_of c.args.given)) }

-- this one does
pub returns-then-found : goal.returns-then-found
returns-then-found c = record { ok = rw c.if-twice.false (put-twice c.args.entry.now (attribute_of c.args.given) (sym c.in_ok-found.ensures.ok ∙ c.if-found.true)) }

pub set_values-requires-clause-distinct : goal.set_values-requires-clause-distinct
set_values-requires-clause-distinct c = distinct-repeats _ _ (or_parts _ _ (sym c.in_ok-found.ensures.ok ∙ c.if-found.false)).1

-- none did
pub returns : goal.returns
returns c =
    let parts = or_parts _ _ (sym c.in_ok-found.ensures.ok ∙ c.if-found.false) in
    record {
      ok = on_ok_weaker c.set_values.result (λ is. rw c.if-twice.false (put-last c.args.entry.now c.set_values.new.self (attribute_of c.args.given) parts.0 is)) c.set_values.ensures.ok;
    }
