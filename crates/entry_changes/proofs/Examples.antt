-- The definitions on small cases.
use Rattle.std.proofs.Common.{◌≡◌, ℕ, true, false, [], ◌∷◌, List, Some, None, Ok, Err, refl}
use Rattle.std.specs.Prelude.{codes, not, nat_lt, length}
use Prim.Native.String.{String}
use Rattle.dir_tree.specs.dn_names.name.Names.{Keyed, TypeAndValue, RdnSequence}
use Rattle.dir_tree.specs.Entry.{EntryInformation, kinds_of, values_of}
use Rattle.ldif_load.specs.load.Loading.{with_pairs}
use Rattle.acdf_filters.specs.aci_item.declared.permission.Permission.TheVariants.{Add, Remove, DiscloseOnError}
use Rattle.acdf_filters.specs.Asking.{Kind, Value}
use Rattle.ldap_msg.specs.declared.operations.ResultCode.TheVariants as code
use Rattle.entry_changes.specs.declared.kind.ChangeKind.{ChangeKind}
use Rattle.entry_changes.specs.declared.kind.ChangeKind.TheVariants as change_kind
use Rattle.entry_changes.specs.Change.{Asks, Asker, Modification, add_refusal, delete_refusal, replace_refusal, left_by, changed, changed_by}
use Rattle.entry_changes.specs.Renaming.{gone_pairs, without_pairs, renamed_entry}

-- a value of its octets and its key
abbrev value : String → String → Keyed
value octets key = record { octets = codes octets; key = codes key }

-- Ann, of type 1, with the description, of type 11, "A"
abbrev ann : Keyed
ann = value "Ann" "ann"

abbrev person : EntryInformation
person = record {
  name = (record { kind = 25; value = value "a" "a" } ∷ []) ∷ (record { kind = 1; value = ann } ∷ []) ∷ [];
  attributes =
      record { kind = 1; values = ann ∷ value "Anna" "anna" ∷ [] }
      ∷ record { kind = 11; values = value "A" "a" ∷ [] }
      ∷ [];
}

-- requesters with all permissions, with none, and with some
abbrev all : Asks
all item permission = true

abbrev nothing : Asks
nothing item permission = false

abbrev known : Asks
known item DiscloseOnError = true
known item permission = false

abbrev adds : Asks
adds item Add = true
adds item permission = false

abbrev removes : Asks
removes item Remove = true
removes item permission = false

-- permissions for types alone, and for values alone
abbrev of_types : Asks
of_types (Kind kind) permission = true
of_types item permission = false

abbrev of_values : Asks
of_values (Value kind value) permission = true
of_values item permission = false

-- an asker that allows all, and one that allows no third value of a type
abbrev anyone : Asker
anyone = record { allows = all; adds = λ after kind value. true }

abbrev up_to_two : Asker
up_to_two = record { allows = of_types; adds = λ after kind value. not (nat_lt 2 (length (values_of kind after.attributes))) }

-- a change
abbrev change : ChangeKind → ℕ → List Keyed → Modification
change which kind values = record { change = which; kind = kind; values = values }

-- ---- adds

-- a value that is there is told where it may be known of, or be added
there_and_known : add_refusal known 1 (ann ∷ []) (value "ANN" "ann" ∷ []) ≡ Some code.AttributeOrValueExists
unfolding add_refusal
there_and_known = refl

there_and_added : add_refusal adds 1 (ann ∷ []) (value "ANN" "ann" ∷ []) ≡ Some code.AttributeOrValueExists
unfolding add_refusal
there_and_added = refl

there_and_hidden : add_refusal nothing 1 (ann ∷ []) (value "ANN" "ann" ∷ []) ≡ Some code.InsufficientAccessRights
unfolding add_refusal
there_and_hidden = refl

-- as where it is not there
not_there_and_hidden : add_refusal nothing 1 (value "Lee" "lee" ∷ []) (value "ANN" "ann" ∷ []) ≡ Some code.InsufficientAccessRights
unfolding add_refusal
not_there_and_hidden = refl

-- a type that comes anew must be allowed too, and one that is there need not
a_new_type : add_refusal of_values 1 [] (ann ∷ []) ≡ Some code.InsufficientAccessRights
unfolding add_refusal
a_new_type = refl

an_old_type : add_refusal of_values 1 (value "Lee" "lee" ∷ []) (ann ∷ []) ≡ None
unfolding add_refusal
an_old_type = refl

a_type_alone : add_refusal of_types 1 [] (ann ∷ []) ≡ Some code.InsufficientAccessRights
unfolding add_refusal
a_type_alone = refl

-- the values are judged in their order
the_second_value : add_refusal all 1 (ann ∷ []) (value "Lee" "lee" ∷ ann ∷ []) ≡ Some code.AttributeOrValueExists
unfolding add_refusal
the_second_value = refl

-- added values come last
two_more : values_of 11 (left_by change_kind.Add 11 (value "B" "b" ∷ value "C" "c" ∷ []) person).attributes
    ≡ value "A" "a" ∷ value "B" "b" ∷ value "C" "c" ∷ []
two_more = refl

-- ---- deletes

-- a value that is not there
no_such_value : delete_refusal all 1 (ann ∷ []) (value "Lee" "lee" ∷ []) ≡ Some code.NoSuchAttribute
unfolding delete_refusal
no_such_value = refl

-- one that may not be removed is told as one that is not there, unless it may be known of
withheld_and_known : delete_refusal known 1 (ann ∷ []) (ann ∷ []) ≡ Some code.InsufficientAccessRights
unfolding delete_refusal
withheld_and_known = refl

withheld_and_hidden : delete_refusal nothing 1 (ann ∷ []) (ann ∷ []) ≡ Some code.NoSuchAttribute
unfolding delete_refusal
withheld_and_hidden = refl

-- a whole attribute asks nothing of its values, and values ask nothing of their type
a_whole_attribute : delete_refusal of_types 1 (ann ∷ []) [] ≡ None
unfolding delete_refusal
a_whole_attribute = refl

a_value_alone : delete_refusal of_values 1 (ann ∷ []) (ann ∷ []) ≡ None
unfolding delete_refusal
a_value_alone = refl

no_such_attribute : delete_refusal all 1 [] [] ≡ Some code.NoSuchAttribute
unfolding delete_refusal
no_such_attribute = refl

-- a value goes by its key, the attribute with its last value
the_last_value : kinds_of (left_by change_kind.Delete 11 (value "a" "a" ∷ []) person).attributes ≡ 1 ∷ []
the_last_value = refl

the_attribute : kinds_of (left_by change_kind.Delete 1 [] person).attributes ≡ 11 ∷ []
the_attribute = refl

-- ---- replaces

-- the same octets ask for nothing
the_same_octets : replace_refusal nothing 1 (ann ∷ []) (ann ∷ []) ≡ None
unfolding replace_refusal
the_same_octets = refl

-- another spelling is another value: the old one goes, and the new one comes
another_spelling : replace_refusal nothing 1 (ann ∷ []) (value "ANN" "ann" ∷ []) ≡ Some code.NoSuchAttribute
unfolding replace_refusal
another_spelling = refl

another_spelling_known : replace_refusal known 1 (ann ∷ []) (value "ANN" "ann" ∷ []) ≡ Some code.InsufficientAccessRights
unfolding replace_refusal
another_spelling_known = refl

another_spelling_removed : replace_refusal removes 1 (ann ∷ []) (value "ANN" "ann" ∷ []) ≡ Some code.InsufficientAccessRights
unfolding replace_refusal
another_spelling_removed = refl

another_spelling_allowed : replace_refusal of_values 1 (ann ∷ []) (value "ANN" "ann" ∷ []) ≡ None
unfolding replace_refusal
another_spelling_allowed = refl

-- by nothing: the attribute and each of its values go
by_nothing : replace_refusal of_values 1 (ann ∷ []) [] ≡ Some code.NoSuchAttribute
unfolding replace_refusal
by_nothing = refl

by_nothing_of_values : replace_refusal of_types 1 (ann ∷ []) [] ≡ Some code.NoSuchAttribute
unfolding replace_refusal
by_nothing_of_values = refl

by_nothing_allowed : replace_refusal all 1 (ann ∷ []) [] ≡ None
unfolding replace_refusal
by_nothing_allowed = refl

left_by_nothing : kinds_of (left_by change_kind.Replace 1 [] person).attributes ≡ 11 ∷ []
left_by_nothing = refl

-- of an attribute that is not there: by nothing it stays so, and by values it comes
absent_by_nothing : replace_refusal nothing 2 [] [] ≡ None
unfolding replace_refusal
absent_by_nothing = refl

left_absent : left_by change_kind.Replace 2 [] person ≡ person
left_absent = refl

absent_by_values : replace_refusal of_values 2 [] (ann ∷ []) ≡ Some code.InsufficientAccessRights
unfolding replace_refusal
absent_by_values = refl

absent_by_values_allowed : replace_refusal adds 2 [] (ann ∷ []) ≡ None
unfolding replace_refusal
absent_by_values_allowed = refl

-- ---- changes in their order

-- each is judged by what the earlier ones left
a_value_moves : changed_by anyone person (
    record { change = change_kind.Delete; kind = 11; values = value "a" "a" ∷ [] }
    ∷ record { change = change_kind.Add; kind = 11; values = value "a" "a" ∷ [] }
    ∷ []
    ) ≡ Ok (record person {
      attributes = record { kind = 1; values = ann ∷ value "Anna" "anna" ∷ [] } ∷ record { kind = 11; values = value "a" "a" ∷ [] } ∷ [];
    })
unfolding changed_by add_refusal delete_refusal
a_value_moves = refl

-- the first that is refused decides
the_first_refusal : changed_by anyone person (
    record { change = change_kind.Delete; kind = 11; values = [] }
    ∷ record { change = change_kind.Delete; kind = 11; values = [] }
    ∷ record { change = change_kind.Add; kind = 1; values = ann ∷ [] }
    ∷ []
    ) ≡ Err code.NoSuchAttribute
unfolding changed_by delete_refusal
the_first_refusal = refl

-- ---- what an entry would be

-- the values of a change count together
one_more : changed up_to_two person (change change_kind.Add 11 (value "B" "b" ∷ []))
    ≡ Ok (left_by change_kind.Add 11 (value "B" "b" ∷ []) person)
unfolding add_refusal
one_more = refl

two_more_are_too_many : changed up_to_two person (change change_kind.Add 11 (value "B" "b" ∷ value "C" "c" ∷ [])) ≡ Err code.InsufficientAccessRights
unfolding add_refusal
two_more_are_too_many = refl

-- with those that earlier changes left
one_by_one : changed_by up_to_two person (change change_kind.Add 11 (value "B" "b" ∷ []) ∷ change change_kind.Add 11 (value "C" "c" ∷ []) ∷ [])
    ≡ Err code.InsufficientAccessRights
unfolding changed_by add_refusal
one_by_one = refl

-- a value that is there counts once
there_again : changed up_to_two person (change change_kind.Add 1 (ann ∷ [])) ≡ Err code.AttributeOrValueExists
unfolding add_refusal
there_again = refl

-- those that take the place of others count without these
two_for_two : changed up_to_two person (change change_kind.Replace 2 (value "B" "b" ∷ value "C" "c" ∷ []))
    ≡ Ok (left_by change_kind.Replace 2 (value "B" "b" ∷ value "C" "c" ∷ []) person)
unfolding replace_refusal
two_for_two = refl

three_for_none : changed up_to_two person (change change_kind.Replace 2 (value "B" "b" ∷ value "C" "c" ∷ value "D" "d" ∷ [])) ≡ Err code.InsufficientAccessRights
unfolding replace_refusal
three_for_none = refl

-- ---- renames

-- names of Ann's entry: in another spelling, with a second value, and Lee's
named : List TypeAndValue → RdnSequence
named rdn = (record { kind = 25; value = value "a" "a" } ∷ []) ∷ rdn ∷ []

lee : RdnSequence
lee = named (record { kind = 1; value = value "Lee" "lee" } ∷ [])

the_old_value_stays : values_of 1 (renamed_entry lee false person).attributes ≡ ann ∷ value "Anna" "anna" ∷ value "Lee" "lee" ∷ []
unfolding renamed_entry with_pairs named lee
the_old_value_stays = refl

the_old_value_goes : values_of 1 (renamed_entry lee true person).attributes ≡ value "Anna" "anna" ∷ value "Lee" "lee" ∷ []
unfolding renamed_entry with_pairs without_pairs named lee
the_old_value_goes = refl

-- a value that the new RDN has too does not go, and keeps its spelling
another_spelling_stays : renamed_entry (named (record { kind = 1; value = value "ANN" "ann" } ∷ [])) true person
    ≡ record person { name = named (record { kind = 1; value = value "ANN" "ann" } ∷ []) }
unfolding renamed_entry with_pairs without_pairs named
another_spelling_stays = refl

-- the same value under another type
of_another_type : gone_pairs person.name (named (record { kind = 2; value = ann } ∷ [])) ≡ record { kind = 1; value = ann } ∷ []
unfolding named
of_another_type = refl

-- of two pairs the one that the new RDN lacks
one_of_two : gone_pairs (named (record { kind = 1; value = ann } ∷ record { kind = 11; value = value "A" "a" } ∷ [])) (named (record { kind = 1; value = value "ann" "ann" } ∷ []))
    ≡ record { kind = 11; value = value "A" "a" } ∷ []
unfolding named
one_of_two = refl
