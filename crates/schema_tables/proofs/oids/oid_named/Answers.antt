-- The first of the three tables that has the name gives its object identifier.
use Rattle.schema_tables.proofs.oids.OidLemmas.{oid_among-append, option_map-option_or}
use Rattle.schema_tables.proofs.oids.oid_named.Goals as goal

pub returns : goal.returns
returns c =
    record {
      exact =
          simp (
            c.or-2.ensures,
            c.or.ensures,
            option_map-option_or,
            c.attribute_oid_named.ensures.exact,
            c.class_oid_named.ensures.exact,
            c.role_oid_named.ensures.exact,
            oid_among-append,
          );
    }
