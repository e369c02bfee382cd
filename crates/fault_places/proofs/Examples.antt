-- The definitions on known cases.
use Rattle.std.proofs.Common.{◌≡◌, true, false, refl}
use Rattle.std.specs.Prelude.{codes, ℕ, Some, None, Ok, Err}
use Rattle.dir_tree.specs.schema_tables.Attributes.{attributes}
use Rattle.dir_tree.specs.schema_tables.classes.Classes.{classes}
use Rattle.dir_tree.specs.dn_names.name.Names.{Keyed}
use Rattle.subtree_spec.specs.declared.error.BadText.TheVariants as fault
use Rattle.fault_places.specs.Saying.{stop_by}
use Rattle.fault_places.specs.LineFaults.{unknown_type}
use Rattle.fault_places.specs.ClassFaults.{is_required_by, is_permitted_by}

-- a part that breaks its rule comes before the table
a_part : stop_by {A = ℕ} (Err (fault.Part 3)) (Some 9) ≡ Some (Some 3)
a_part = refl

no_grammar : stop_by {A = ℕ} (Err fault.Text) (Some 9) ≡ Some (Some 9)
no_grammar = refl

a_good_text : stop_by {A = ℕ} (Ok 1) (Some 9) ≡ None
a_good_text = refl

-- a record without an empty line before it
a_joined_record : unknown_type (codes "dn") ≡ codes "an empty line is missing before \"dn\""
a_joined_record = refl

-- inetOrgPerson requires sn, by the class of persons above it, and allows mail, of its own
person : Keyed
person = record { octets = codes "inetOrgPerson"; key = codes "2.16.840.1.113730.3.2.2" }

its_surname : is_required_by 2 person ≡ true
unfolding person classes attributes
its_surname = refl

its_mail : is_required_by 23 person ≡ false
unfolding person classes attributes
its_mail = refl

its_own_mail : is_permitted_by 23 person ≡ true
unfolding person classes attributes
its_own_mail = refl
