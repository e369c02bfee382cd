-- The roles of administrative points (X.501 section 14.3), as one table.
use Rattle.std.specs.Prelude.{List, [], ◌∷◌, codes}
use Prim.Native.String.{String}
use Rattle.schema_tables.specs.Naming.{Named}

-- a row of those texts
abbrev pub role : String → String → Named
role name oid = record { name = codes name; oid = codes oid }

-- the table
unfoldable pub roles : List Named
roles =
    role "autonomousArea" "2.5.23.1"
    ∷ role "accessControlSpecificArea" "2.5.23.2"
    ∷ role "accessControlInnerArea" "2.5.23.3"
    ∷ []
