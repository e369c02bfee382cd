-- What items ask, what filters are of an entry, and what they need.
use Rattle.std.proofs.Common.{◌≡◌, ℕ, true, false, [], ◌∷◌, Option, Some, None, refl}
use Rattle.std.specs.Prelude.{codes, ◌==◌, not}
use Rattle.std.specs.Str.{bytes_eq}
use Prim.Native.String.{String}
use Rattle.dir_tree.specs.schema_tables.Attributes.{attributes}
use Rattle.dir_tree.specs.schema_tables.classes.Classes.{classes}
use Rattle.dir_tree.specs.dn_names.name.Names.{Keyed}
use Rattle.dir_tree.specs.dn_names.NameValues.{value_of}
use Rattle.dir_tree.specs.match_rules.Keys.{key_of}
use Rattle.dir_tree.specs.match_rules.Syntaxes.{is_of}
use Rattle.dir_tree.specs.Entry.{EntryInformation}
use Rattle.ldap_filter.specs.filter.Filters.{Filter}
use Rattle.ldap_filter.specs.filter.Filters.Filter.{And, Or, Not, Equal, Parts, AtLeast, Present, Extensible}
use Rattle.ldap_filter.specs.filter.Filters.Filters.{Nil, Cons}
use Rattle.filter_match.specs.declared.truth.Truth.TheVariants.{True, False, Undefined}
use Rattle.filter_match.specs.Needs.{is_needed}
use Rattle.filter_match.specs.Substrings.{is_substring}
use Rattle.filter_match.specs.Tests.{Test, equal_test, order_test, parts_test, present_test, rule_of, test_of}
use Rattle.filter_match.specs.Tests.Assertion.{HasKey, IsClass, IsAtLeast, IsAtMost}
use Rattle.filter_match.specs.Tests.Test.{Nothing, IsThere, HasValue}
use Rattle.filter_match.specs.Truth.{Permits, matches, has_match, test_truth, truth}

-- ---- what items ask

of_an_unknown_type : test_of (Equal (codes "shoeSize") (codes "9")) ≡ Nothing
unfolding test_of equal_test attributes
of_an_unknown_type = refl

of_octets : test_of (Equal (codes "USERPASSWORD") (codes "Abc")) ≡ HasValue 18 (HasKey (codes "Abc"))
unfolding test_of equal_test attributes value_of key_of is_of
of_octets = refl

of_a_type : test_of (Present (codes "2.5.4.3")) ≡ IsThere 1
unfolding test_of present_test attributes
of_a_type = refl

-- no order and no parts of identifiers and octets
of_order : test_of (AtLeast (codes "objectClass") (codes "person")) ≡ Nothing
unfolding test_of order_test rule_of attributes
of_order = refl

of_parts : test_of (Parts (codes "userPassword") (Some (codes "A")) [] None) ≡ Nothing
unfolding test_of parts_test rule_of attributes
of_parts = refl

-- ---- parts in a key

parts_in_order : is_substring (codes "univ of mich") (codes "univ") (codes "of" ∷ []) (codes "mich") ≡ true
unfolding is_substring
parts_in_order = refl

parts_over_another : is_substring (codes "aba") (codes "ab") [] (codes "ba") ≡ false
unfolding is_substring
parts_over_another = refl

parts_twice : is_substring (codes "a-b") [] (codes "b" ∷ codes "b" ∷ []) [] ≡ false
unfolding is_substring
parts_twice = refl

-- ---- entries

-- a value of its octets, which are its key
abbrev plain : String → Keyed
plain octets = record { octets = codes octets; key = codes octets }

-- Ann: an organizationalPerson with two names
abbrev ann : EntryInformation
ann = record {
  name = [];
  attributes =
      record { kind = 0; values = plain "2.5.6.7" ∷ [] }
      ∷ record { kind = 1; values = plain "ann" ∷ plain "lee" ∷ [] }
      ∷ [];
}

-- all is permitted
abbrev all : Permits
all = record { kind = λ kind. true; value = λ kind value. true }

-- all but the type
abbrev all_but : ℕ → Permits
all_but kind = record { kind = λ other. not (other == kind); value = λ other value. true }

-- all but a value
abbrev all_but_value : String → Permits
all_but_value octets = record { kind = λ kind. true; value = λ kind value. not (bytes_eq (codes octets) value.key) }

an_equal_value : test_truth all ann (HasValue 1 (HasKey (codes "lee"))) ≡ True
unfolding test_truth has_match matches
an_equal_value = refl

another_value : test_truth all ann (HasValue 1 (HasKey (codes "bob"))) ≡ False
unfolding test_truth has_match matches
another_value = refl

a_superclass : test_truth all ann (HasValue 0 (IsClass (codes "2.5.6.6"))) ≡ True
unfolding test_truth has_match matches classes
a_superclass = refl

another_class : test_truth all ann (HasValue 0 (IsClass (codes "2.5.6.14"))) ≡ False
unfolding test_truth has_match matches classes
another_class = refl

a_key_behind : test_truth all ann (HasValue 1 (IsAtLeast (codes "bob"))) ≡ True
unfolding test_truth has_match matches
a_key_behind = refl

no_key_before : test_truth all ann (HasValue 1 (IsAtMost (codes "aaron"))) ≡ False
unfolding test_truth has_match matches
no_key_before = refl

a_type_not_permitted : test_truth (all_but 1) ann (HasValue 1 (HasKey (codes "ann"))) ≡ Undefined
unfolding test_truth has_match matches
a_type_not_permitted = refl

an_absent_type_not_permitted : test_truth (all_but 2) ann (IsThere 2) ≡ Undefined
unfolding test_truth
an_absent_type_not_permitted = refl

a_value_not_permitted : test_truth (all_but_value "ann") ann (HasValue 1 (HasKey (codes "ann"))) ≡ False
unfolding test_truth has_match matches
a_value_not_permitted = refl

another_value_that_matches : test_truth (all_but_value "ann") ann (HasValue 1 (IsAtLeast (codes "ann"))) ≡ True
unfolding test_truth has_match matches
another_value_that_matches = refl

presence_asks_for_no_value : test_truth (record { kind = λ kind. true; value = λ kind value. false }) ann (IsThere 1) ≡ True
unfolding test_truth
presence_asks_for_no_value = refl

-- ---- and, or, not

of_none : truth all ann (And Nil) ≡ True
of_none = refl

one_of_none : truth all ann (Or Nil) ≡ False
one_of_none = refl

abbrev unknown : Filter
unknown = Extensible []

abbrev there : Filter
there = Present (codes "cn")

not_undefined : truth all ann (Not unknown) ≡ Undefined
unfolding test_of test_truth
not_undefined = refl

false_and_undefined : truth all ann (And (Cons unknown (Cons (Not there) Nil))) ≡ False
unfolding test_of test_truth present_test attributes
false_and_undefined = refl

true_and_undefined : truth all ann (And (Cons there (Cons unknown Nil))) ≡ Undefined
unfolding test_of test_truth present_test attributes
true_and_undefined = refl

true_or_undefined : truth all ann (Or (Cons unknown (Cons there Nil))) ≡ True
unfolding test_of test_truth present_test attributes
true_or_undefined = refl

false_or_undefined : truth all ann (Or (Cons (Not there) (Cons unknown Nil))) ≡ Undefined
unfolding test_of test_truth present_test attributes
false_or_undefined = refl

-- ---- what is needed

abbrev secret : Filter
secret = Equal (codes "userPassword") (codes "Abc")

abbrev asked : Option Test
asked = Some (HasValue 18 (HasKey (codes "Abc")))

needed_by_and : is_needed (And (Cons there (Cons secret Nil))) asked ≡ true
unfolding test_of present_test equal_test attributes value_of key_of is_of
needed_by_and = refl

needed_by_each_of_or : is_needed (Or (Cons secret (Cons (And (Cons there (Cons secret Nil))) Nil))) asked ≡ true
unfolding test_of present_test equal_test attributes value_of key_of is_of
needed_by_each_of_or = refl

not_needed_by_one_of_or : is_needed (Or (Cons there (Cons secret Nil))) asked ≡ false
unfolding test_of present_test equal_test attributes value_of key_of is_of
not_needed_by_one_of_or = refl

not_needed_where_denied : is_needed (Not secret) asked ≡ false
unfolding test_of equal_test attributes value_of key_of is_of
not_needed_where_denied = refl

needed_where_denied_twice : is_needed (Not (Not secret)) asked ≡ true
unfolding test_of equal_test attributes value_of key_of is_of
needed_where_denied_twice = refl

a_class_is_not_needed : is_needed (Equal (codes "objectClass") (codes "person")) (Some (HasValue 0 (IsClass (codes "2.5.6.6")))) ≡ false
a_class_is_not_needed = refl
