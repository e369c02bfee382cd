-- The definitions, computed on known cases.
use Rattle.std.proofs.Common.{◌≡◌, true, false, [], ◌∷◌, Some, None, codes, refl}
use Rattle.schema_tables.specs.declared.kinds.Syntax.TheVariants.{Country, Aci}
use Rattle.schema_tables.specs.declared.kinds.ClassKind.TheVariants.{Auxiliary}
use Rattle.schema_tables.specs.Naming.{is_keystring}
use Rattle.schema_tables.specs.Attributes.{attributes, attr_of, syntax_of, name_of, is_naming, is_single, is_operational}
use Rattle.schema_tables.specs.classes.Classes.{classes, words, class_of, kind_of, superior_of, required_of, allowed_of}
use Rattle.schema_tables.specs.roles.Roles.{roles}
use Rattle.schema_tables.specs.Oids.{is_dotted_oid, oid_of}

-- words are cut at their spaces
two_words : words "sn cn" ≡ codes "sn" ∷ codes "cn" ∷ []
two_words = refl

-- RFC 4519 section 2.2: countryName is single-valued, and is found whatever its case
c_by_name : attr_of (codes "C") ≡ Some 4
unfolding attributes
c_by_name = refl

c_by_identifier : attr_of (codes "2.5.4.6") ≡ Some 4
unfolding attributes
c_by_identifier = refl

c_syntax : syntax_of 4 ≡ Some Country
unfolding attributes
c_syntax = refl

c_single : is_single 4 ≡ true
unfolding attributes
c_single = refl

-- X.501: prescriptiveACI is operational and names no entry
prescriptive : name_of 32 ≡ codes "prescriptiveACI"
unfolding attributes
prescriptive = refl

prescriptive_syntax : syntax_of 32 ≡ Some Aci
unfolding attributes
prescriptive_syntax = refl

prescriptive_operational : is_operational 32 ≡ true
unfolding attributes
prescriptive_operational = refl

prescriptive_naming : is_naming 32 ≡ false
unfolding attributes
prescriptive_naming = refl

-- past the table there is nothing
past_the_table : syntax_of 35 ≡ None
unfolding attributes
past_the_table = refl

-- RFC 4519 section 3.12: a person must have sn and cn
person : class_of (codes "PERSON") ≡ Some 5
unfolding classes
person = refl

person_required : required_of 5 ≡ 2 ∷ 1 ∷ []
unfolding attributes classes
person_required = refl

person_allowed : allowed_of 5 ≡ 18 ∷ 13 ∷ 17 ∷ 11 ∷ []
unfolding attributes classes
person_allowed = refl

-- RFC 2798: inetOrgPerson stands below organizationalPerson
inet_org_person : superior_of 13 ≡ Some 6
unfolding classes
inet_org_person = refl

-- RFC 4519 section 3.3: dcObject is auxiliary
dc_object : kind_of 14 ≡ Some Auxiliary
unfolding classes
dc_object = refl

top_superior : superior_of 0 ≡ None
unfolding classes
top_superior = refl

-- RFC 4512 section 1.4: descriptors and dotted identifiers
key : is_keystring (codes "x-1") ≡ true
key = refl

no_key : is_keystring (codes "1x") ≡ false
no_key = refl

dotted : is_dotted_oid (codes "1.3.6.1") ≡ true
unfolding is_dotted_oid
dotted = refl

one_number : is_dotted_oid (codes "1") ≡ false
unfolding is_dotted_oid
one_number = refl

leading_zero : is_dotted_oid (codes "1.01") ≡ false
unfolding is_dotted_oid
leading_zero = refl

empty_number : is_dotted_oid (codes "1.") ≡ false
unfolding is_dotted_oid
empty_number = refl

-- a role by its name, an unknown identifier, an unknown name
role_oid : oid_of (codes "AUTONOMOUSAREA") ≡ Some (codes "2.5.23.1")
unfolding attributes classes roles
role_oid = refl

unknown_oid : oid_of (codes "1.2.3") ≡ Some (codes "1.2.3")
unfolding attributes classes roles is_dotted_oid
unknown_oid = refl

unknown_name : oid_of (codes "nothing") ≡ None
unfolding attributes classes roles is_dotted_oid
unknown_name = refl
