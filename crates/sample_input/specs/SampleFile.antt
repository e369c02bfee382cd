-- The data file of a sample (RFC 2849): an area of access control with one subentry, which opens one of two units, and persons
-- by turns in the open unit and in the other.
use Rattle.std.specs.Prelude.{ℕ, zero, suc, ◌%◌, ◌==◌, List, ◌++◌, codes, decimal, if◌then◌else◌}

-- the area
abbrev pub area_record : List ℕ
area_record = codes "version: 1\n\ndn: dc=sample\nobjectClass: domain\ndc: sample\nadministrativeRole: accessControlSpecificArea\n"

-- what everyone may do: all that reading takes
abbrev pub grants : List ℕ
grants =
    codes "userPermissions { { protectedItems { entry, allUserAttributeTypesAndValues }, "
    ++ codes "grantsAndDenials { grantBrowse, grantReturnDN, grantRead, grantFilterMatch, grantDiscloseOnError } } }"

-- its subentry: that is granted at and below the open unit
abbrev pub subentry_record : List ℕ
subentry_record =
    codes "\ndn: cn=acl,dc=sample\nobjectClass: subentry\nobjectClass: accessControlSubentry\ncn: acl\n"
    ++ (codes "subtreeSpecification: { base \"ou=open\" }\nprescriptiveACI: { identificationTag \"a\", precedence 0, "
    ++ (codes "authenticationLevel none, itemOrUserFirst userFirst: { userClasses { allUsers }, " ++ (grants ++ codes " } }\n")))

-- the two units
abbrev pub unit_records : List ℕ
unit_records = codes "\ndn: ou=open,dc=sample\nobjectClass: organizationalUnit\nou: open\n\ndn: ou=shut,dc=sample\nobjectClass: organizationalUnit\nou: shut\n"

-- the unit of a person: the open one for odd numbers
abbrev pub unit_of : ℕ → List ℕ
unit_of number = if (number % 2) == 1 then codes "open" else codes "shut"

-- the name of a person
unfoldable pub person_name : ℕ → List ℕ
person_name number = codes "uid=u" ++ (decimal number ++ (codes ",ou=" ++ (unit_of number ++ codes ",dc=sample")))

-- the record of a person
unfoldable pub person_record : ℕ → List ℕ
person_record number = codes "\ndn: " ++ (person_name number ++ (codes "\nobjectClass: account\nuid: u" ++ (decimal number ++ codes "\n")))

-- the file of so many persons, with numbers from 1 on
unfoldable pub sample_file : ℕ → List ℕ
sample_file zero = area_record ++ (subentry_record ++ unit_records)
sample_file (suc count) = sample_file count ++ person_record (suc count)
