-- The text is cut at its dots, and the parts are counted.
use Rattle.std.proofs.Common.{rules, tests}
use Rattle.std.proofs.lemmas.Iterator.Consumers.{count_from_yields_List}
use Rattle.std.proofs.lemmas.Iterator.Splits.{YieldsList-from_slice_split}
use Rattle.schema_tables.proofs.oids.part_count.Goals as goal

pub returns : goal.returns
returns c =
    record {
      exact =
          count_from_yields_List _ c.count.result c.count.ensures.ran
          (YieldsList-from_slice_split _ _ c.args.text.now c.split.ensures.rest c.split.ensures.done c.split.ensures.closure (λ x r q k. search (rules, tests)));
    }
