-- The table of roles as the program holds it.
use Rattle.schema_tables.specs.declared.roles.RoleRow.{RoleRow}
use Rattle.schema_tables.specs.Naming.{Named}

-- the plain value of a row that the program holds
abbrev pub named_of_row : RoleRow → Named
named_of_row row = record { name = row.name.now; oid = row.oid.now }
