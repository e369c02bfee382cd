-- What may stand where in access control items (X.501 18.4.2) and subtree specifications (RFC 3672 Appendix A), in their
-- generic string encoding (RFC 3641): a table, a row for each component, member, alternative and word of a form. Components
-- stand in the order of their rows. In the short spelling a level stands as a word and a user as a string.
use Rattle.std.specs.Prelude.{ℕ, Bool, true, false, ◌&&◌, List, [], ◌∷◌, codes, find, Option, if◌then◌else◌}
use Rattle.std.specs.List.{list_any}
use Rattle.std.specs.Str.{bytes_eq}
use Prim.Native.String.{String}
use Rattle.gser_tree.specs.Reading.{is_number}
use Rattle.subtree_spec.specs.Parts.{is_oid}
use Rattle.text_stops.specs.declared.rows.Part.{Part}
use Rattle.text_stops.specs.declared.rows.Part.TheVariants.{Needed, Optional, Flag, Member, Choice, Word, Text, Number, Oid}
use Rattle.text_stops.specs.declared.rows.Row as code

-- a row: the form, what stands there, its name, and the form of the value behind it
pub record Row : Type 0 where
  pub form : List ℕ
  pub part : Part
  pub name : List ℕ
  pub next : List ℕ

-- the plain value of a row that the program holds
abbrev pub row_of : code.Row → Row
row_of row = record { form = row.form.now; part = row.part; name = row.name.now; next = row.next.now }

-- a row of those texts
abbrev pub row : String → Part → String → String → Row
row form part name next = record { form = codes form; part = part; name = codes name; next = codes next }

-- the table
unfoldable pub table : List Row
table =
    row "ACIItem" Needed "identificationTag" "String"
    ∷ row "ACIItem" Needed "precedence" "INTEGER"
    ∷ row "ACIItem" Needed "authenticationLevel" "AuthenticationLevel"
    ∷ row "ACIItem" Needed "itemOrUserFirst" "ItemOrUserFirst"
    ∷ row "AuthenticationLevel" Choice "basicLevels" "BasicLevels"
    ∷ row "AuthenticationLevel" Word "none" ""
    ∷ row "AuthenticationLevel" Word "simple" ""
    ∷ row "AuthenticationLevel" Word "strong" ""
    ∷ row "BasicLevels" Needed "level" "Level"
    ∷ row "Level" Word "none" ""
    ∷ row "Level" Word "simple" ""
    ∷ row "Level" Word "strong" ""
    ∷ row "ItemOrUserFirst" Choice "itemFirst" "ItemFirst"
    ∷ row "ItemOrUserFirst" Choice "userFirst" "UserFirst"
    ∷ row "ItemFirst" Needed "protectedItems" "ProtectedItems"
    ∷ row "ItemFirst" Needed "itemPermissions" "ItemPermissions"
    ∷ row "UserFirst" Needed "userClasses" "UserClasses"
    ∷ row "UserFirst" Needed "userPermissions" "UserPermissions"
    ∷ row "ItemPermissions" Member "" "ItemPermission"
    ∷ row "ItemPermission" Optional "precedence" "INTEGER"
    ∷ row "ItemPermission" Needed "userClasses" "UserClasses"
    ∷ row "ItemPermission" Needed "grantsAndDenials" "GrantsAndDenials"
    ∷ row "UserPermissions" Member "" "UserPermission"
    ∷ row "UserPermission" Optional "precedence" "INTEGER"
    ∷ row "UserPermission" Needed "protectedItems" "ProtectedItems"
    ∷ row "UserPermission" Needed "grantsAndDenials" "GrantsAndDenials"
    ∷ row "UserClasses" Flag "allUsers" ""
    ∷ row "UserClasses" Flag "thisEntry" ""
    ∷ row "UserClasses" Optional "name" "Users"
    ∷ row "UserClasses" Optional "userGroup" "Users"
    ∷ row "UserClasses" Optional "subtree" "Subtrees"
    ∷ row "Users" Member "" "User"
    ∷ row "User" Text "" ""
    ∷ row "User" Needed "dn" "String"
    ∷ row "Subtrees" Member "" "SubtreeSpecification"
    ∷ row "ProtectedItems" Flag "entry" ""
    ∷ row "ProtectedItems" Flag "allUserAttributeTypes" ""
    ∷ row "ProtectedItems" Optional "attributeType" "AttributeTypes"
    ∷ row "ProtectedItems" Optional "allAttributeValues" "AttributeTypes"
    ∷ row "ProtectedItems" Flag "allUserAttributeTypesAndValues" ""
    ∷ row "ProtectedItems" Optional "attributeValue" "AttributeValues"
    ∷ row "ProtectedItems" Optional "selfValue" "AttributeTypes"
    ∷ row "ProtectedItems" Optional "maxValueCount" "MaxValueCounts"
    ∷ row "ProtectedItems" Optional "restrictedBy" "RestrictedValues"
    ∷ row "AttributeTypes" Member "" "OBJECT IDENTIFIER"
    ∷ row "AttributeValues" Member "" "AttributeTypeAndValue"
    ∷ row "AttributeTypeAndValue" Needed "type" "OBJECT IDENTIFIER"
    ∷ row "AttributeTypeAndValue" Needed "value" "String"
    ∷ row "MaxValueCounts" Member "" "MaxValueCount"
    ∷ row "MaxValueCount" Needed "type" "OBJECT IDENTIFIER"
    ∷ row "MaxValueCount" Needed "maxCount" "INTEGER"
    ∷ row "RestrictedValues" Member "" "RestrictedValue"
    ∷ row "RestrictedValue" Needed "type" "OBJECT IDENTIFIER"
    ∷ row "RestrictedValue" Needed "valuesIn" "OBJECT IDENTIFIER"
    ∷ row "GrantsAndDenials" Member "" "Bit"
    ∷ row "Bit" Word "grantAdd" ""
    ∷ row "Bit" Word "denyAdd" ""
    ∷ row "Bit" Word "grantDiscloseOnError" ""
    ∷ row "Bit" Word "denyDiscloseOnError" ""
    ∷ row "Bit" Word "grantRead" ""
    ∷ row "Bit" Word "denyRead" ""
    ∷ row "Bit" Word "grantRemove" ""
    ∷ row "Bit" Word "denyRemove" ""
    ∷ row "Bit" Word "grantBrowse" ""
    ∷ row "Bit" Word "denyBrowse" ""
    ∷ row "Bit" Word "grantExport" ""
    ∷ row "Bit" Word "denyExport" ""
    ∷ row "Bit" Word "grantImport" ""
    ∷ row "Bit" Word "denyImport" ""
    ∷ row "Bit" Word "grantModify" ""
    ∷ row "Bit" Word "denyModify" ""
    ∷ row "Bit" Word "grantRename" ""
    ∷ row "Bit" Word "denyRename" ""
    ∷ row "Bit" Word "grantReturnDN" ""
    ∷ row "Bit" Word "denyReturnDN" ""
    ∷ row "Bit" Word "grantCompare" ""
    ∷ row "Bit" Word "denyCompare" ""
    ∷ row "Bit" Word "grantFilterMatch" ""
    ∷ row "Bit" Word "denyFilterMatch" ""
    ∷ row "Bit" Word "grantInvoke" ""
    ∷ row "Bit" Word "denyInvoke" ""
    ∷ row "SubtreeSpecification" Optional "base" "String"
    ∷ row "SubtreeSpecification" Optional "specificExclusions" "SpecificExclusions"
    ∷ row "SubtreeSpecification" Optional "minimum" "INTEGER"
    ∷ row "SubtreeSpecification" Optional "maximum" "INTEGER"
    ∷ row "SubtreeSpecification" Optional "specificationFilter" "Refinement"
    ∷ row "SpecificExclusions" Member "" "SpecificExclusion"
    ∷ row "SpecificExclusion" Choice "chopBefore" "String"
    ∷ row "SpecificExclusion" Choice "chopAfter" "String"
    ∷ row "Refinement" Choice "item" "OBJECT IDENTIFIER"
    ∷ row "Refinement" Choice "and" "Refinements"
    ∷ row "Refinement" Choice "or" "Refinements"
    ∷ row "Refinement" Choice "not" "Refinement"
    ∷ row "Refinements" Member "" "Refinement"
    ∷ row "String" Text "" ""
    ∷ row "INTEGER" Number "" ""
    ∷ row "OBJECT IDENTIFIER" Oid "" ""
    ∷ []

-- the row is of the form
abbrev pub is_of : List ℕ → Row → Bool
is_of form row = bytes_eq row.form form

-- what the row lets stand stands in braces
abbrev pub is_brace : Part → Bool
is_brace Needed = true
is_brace Optional = true
is_brace Flag = true
is_brace Member = true
is_brace Choice = false
is_brace Word = false
is_brace Text = false
is_brace Number = false
is_brace Oid = false

-- the row says what stands in the braces of the form
abbrev pub has_braces : List ℕ → Row → Bool
has_braces form row = is_of form row && is_brace row.part

-- what the row lets stand has to be there
abbrev pub is_needed : Part → Bool
is_needed Needed = true
is_needed part = false

-- the word is one that the part lets stand
abbrev pub fits_part : List ℕ → Part → List ℕ → Bool
fits_part word Word name = bytes_eq word name
fits_part word Choice name = bytes_eq word name
fits_part word Number name = is_number word
fits_part word Oid name = is_oid word
fits_part word Needed name = false
fits_part word Optional name = false
fits_part word Flag name = false
fits_part word Member name = false
fits_part word Text name = false

-- the row is of the form, and lets the word stand
abbrev pub fits : List ℕ → List ℕ → Row → Bool
fits form word row = is_of form row && fits_part word row.part row.name

-- the same of a string
abbrev pub is_text_part : Part → Bool
is_text_part Text = true
is_text_part part = false

abbrev pub fits_text : List ℕ → Row → Bool
fits_text form row = is_text_part row.part && is_of form row

-- the first row of the form that lets the word stand
abbrev pub row_with : List ℕ → List ℕ → Option Row
row_with form word = find (fits form word) table

-- a string may stand for a value of the form
abbrev pub has_text : List ℕ → Bool
has_text form = list_any (fits_text form) table

-- the rows from the first on that says what stands in the braces of the form
abbrev pub brace_rows : List ℕ → List Row → List Row
brace_rows form [] = []
brace_rows form (row ∷ rows) = if has_braces form row then row ∷ rows else brace_rows form rows
