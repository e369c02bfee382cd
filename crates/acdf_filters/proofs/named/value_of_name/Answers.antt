-- The value has the key of the name that was printed.
use Rattle.std.proofs.Common.{◌++◌, ap, ◌∙◌, arith, Vec, ℕ, Global}
use Rattle.dir_tree.specs.schema_tables.Attributes.{attributes}
use Rattle.dir_tree.specs.dn_names.Printing.{print_name}
use Rattle.acdf_filters.proofs.named.NamedLemmas.{key-value_of}
use Rattle.acdf_filters.proofs.named.value_of_name.Goals as goal

-- `member` is in the table
pub make_value-requires : goal.make_value-requires
unfolding attributes
make_value-requires c = omega arith

pub returns-in-Ok : goal.returns-in-Ok
returns-in-Ok c = record {
  key =
      key-value_of c.args.name.now c.into_bytes.result.items c.in-Ok.value c.known_good.ensures.good
      (ap (λ (v : Vec ℕ Global). v.items) c.into_bytes.ensures.value ∙ c.in_ok-print.ensures.ok
      ∙ ap (λ front. front ++ print_name c.args.name.now) c.new-text.ensures.bytes)
      c.in-Ok.ensures.ok;
}
