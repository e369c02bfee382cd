-- The octets are the name of the row.
use Rattle.std.proofs.Common.{◌≡◌, sym, ◌∙◌}
use Rattle.std.proofs.lemmas.Slice.Eq.{bytes_eq-Decides}
use Rattle.schema_tables.proofs.attributes.AttributeLemmas.{attr_of-spelled}
use Rattle.schema_tables.proofs.attributes.is_spelled.Goals as goal

pub returns-in-Some-clause-exact : goal.returns-in-Some-clause-exact
returns-in-Some-clause-exact c =
    λ is.
    let same : c.as_bytes.result.now ≡ c.args.octets.now = (bytes_eq-Decides c.as_bytes.result.now c.args.octets.now).0 (sym c.eq.ensures ∙ is) in
    attr_of-spelled c.in-Some.row c.args.attribute.0 c.args.octets.now (sym c.in-Some.ensures.exact) (sym c.as_bytes.ensures.value ∙ same)
