-- Attributes are read one after the other.
use Rattle.std.proofs.Common.{◌∙◌, ap, sym, drop, ◌+◌, Ok}
use Rattle.std.specs.Prelude.{Bool}
use Rattle.std.specs.List.{list_any}
use Rattle.std.proofs.lemmas.Bool.{or_parts}
use Rattle.std.proofs.lemmas.List.{drop_all}
use Rattle.dir_tree.proofs.base_laws_proofs.Theorems.{next-item}
use Rattle.ldap_msg.specs.plain_values.Results.{◌>>=◌}
use Rattle.op_add_delete.specs.reading.NewEntries.{lacks_values, read_each}
use Rattle.op_add_delete.specs.reading.Reading.{attribute_of}
use Rattle.op_add_delete.specs.reading.Steps.{entry_from, finished}
use Rattle.op_add_delete.proofs.reading.ReadingLemmas.{attribute-filled, each-step, each-fault, each-twice, each-done}
use Rattle.op_add_delete.proofs.reading.read_each.Goals as goal

-- values of it are given
pub put_attribute-requires : goal.put_attribute-requires
put_attribute-requires c =
    let left = next-item c.args.given.now c.loop-item.item-index c.item-item.result c.loop-item-test.true c.item-item.is in
    let parts = or_parts (lacks_values c.item-item.result) (list_any lacks_values (drop (c.loop-item.item-index + 1) c.args.given.now)) (sym (ap (list_any lacks_values) left) ∙ c.loop-item.invariant.filled) in
    record { filled = attribute-filled c.item-item.result (attribute_of c.in-Ok.attribute) parts.0 c.in-Ok.ensures.exact }

-- one is none
pub returns-in-Err : goal.returns-in-Err
returns-in-Err c =
    let left = next-item c.args.given.now c.loop-item.item-index c.item-item.result c.loop-item-test.true c.item-item.is in
    record {
      exact = each-fault c.loop-item.twice c.loop-item.entry.attributes c.args.given.now c.loop-item.item-index c.item-item.result _ c.args.name c.in-Err.fault left c.loop-item.invariant.left c.in-Err.ensures.exact;
    }

-- one more is read
pub loop-item-preserved : goal.loop-item-preserved
loop-item-preserved c =
    let left = next-item c.args.given.now c.loop-item.item-index c.item-item.result c.loop-item-test.true c.item-item.is in
    let parts = or_parts (lacks_values c.item-item.result) (list_any lacks_values (drop (c.loop-item.item-index + 1) c.args.given.now)) (sym (ap (list_any lacks_values) left) ∙ c.loop-item.invariant.filled) in
    record {
      name = c.in_ok-put_attribute-in-Ok.ensures.ok.name ∙ c.loop-item.invariant.name;
      filled = parts.1;
      left =
          c.loop-item.invariant.left
          ∙ each-step c.loop-item.twice c.put_attribute.new.twice c.loop-item.entry.attributes c.put_attribute.new.entry.attributes c.args.given.now c.loop-item.item-index c.item-item.result (attribute_of c.in-Ok.attribute)
          left c.in-Ok.ensures.exact c.in_ok-put_attribute-in-Ok.ensures.ok.goes_on;
    }

-- one came twice
pub returns-then-twice : goal.returns-then-twice
returns-then-twice c =
    let none = drop_all c.loop-item.item-index c.args.given.now c.loop-item-test.false in
    record {
      exact = ap (entry_from c.args.name)
          (c.loop-item.invariant.left
          ∙ ap (λ (twice : Bool). read_each (drop c.loop-item.item-index c.args.given.now) >>= finished twice c.loop-item.entry.attributes) c.if-twice.true
          ∙ each-twice c.loop-item.entry.attributes _ none);
    }

-- all are read
pub returns : goal.returns
returns c =
    let none = drop_all c.loop-item.item-index c.args.given.now c.loop-item-test.false in
    record {
      exact =
          ap (entry_from c.args.name)
          (c.loop-item.invariant.left
          ∙ ap (λ (twice : Bool). read_each (drop c.loop-item.item-index c.args.given.now) >>= finished twice c.loop-item.entry.attributes) c.if-twice.false
          ∙ each-done c.loop-item.entry.attributes _ none c.is_good.ensures.good)
          ∙ ap (λ name. Ok (record { name = name; attributes = c.loop-item.entry.attributes })) (sym c.loop-item.invariant.name);
    }
