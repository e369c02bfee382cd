-- The name is there, and then what stands after it decides.
use Rattle.std.proofs.Common.{◌∷◌, sym, ◌∙◌, ap}
use Rattle.schema_tables.specs.Attributes.{name_of}
use Rattle.dn_names.specs.Printing.{print_value}
use Rattle.dn_names.specs.KeyReading.{strip}
use Rattle.dn_names.proofs.is_key.StripLemmas.{strip_some}
use Rattle.dn_names.proofs.is_key.after_pair.Goals as goal

pub returns-in-Some : goal.returns-in-Some
returns-in-Some c =
    let there = rw (c.as_bytes.ensures.value, c.type_name.ensures.exact, c.kind.ensures.exact) at c.in-Some.ensures.exact in
    record {
      exact = c.after_equals.ensures.exact
          ∙ ap (λ k. strip (61 ∷ print_value k) c.in-Some.value.now) (c.key.ensures.exact ∙ ap (λ v. v.key) c.value.ensures.exact)
          ∙ sym (strip_some (name_of c.args.pair.now.kind) (61 ∷ print_value c.args.pair.now.value.key) c.args.octets.now c.in-Some.value.now (sym there));
    }
