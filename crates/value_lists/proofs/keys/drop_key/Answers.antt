-- `retain` keeps what passes the test.
use Rattle.std.proofs.Common.{not, rules}
use Rattle.std.specs.Str.{bytes_eq}
use Rattle.std.proofs.lemmas.Fn.{filter_same}
use Rattle.value_lists.proofs.keys.drop_key.Goals as goal

pub returns : goal.returns
returns c = record {
  exact =
      filter_same _ (λ value. not (bytes_eq c.args.key.now value.key)) _ (λ value passes after call. search rules) _ _
      c.retain.ensures.filtered;
}
