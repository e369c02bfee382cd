-- The tables have dotted object identifiers, and none of their names is dotted.
use Rattle.schema_tables.proofs.Theorems.{IsDottedOid-from, is_dotted_oid-from, oid_of-is_dotted, oid_of-dotted}
use Rattle.schema_tables.proofs.laws.a_dotted_form_is_its_own.Goals as goal

pub returns : goal.returns
returns c =
    record {
      dotted = λ text oid found. IsDottedOid-from oid (oid_of-is_dotted text oid found);
      kept = λ text dotted. oid_of-dotted text (is_dotted_oid-from text dotted);
    }
