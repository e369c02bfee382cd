-- The definitions of trees computed on a small one.
use Rattle.std.proofs.Common.{◌≡◌, ℕ, List, [], ◌∷◌, Some, None, refl}
use Rattle.dn_names.specs.name.Names.{TypeAndValue, RdnSequence}
use Rattle.dn_names.specs.NameOrder.{name_cmp, is_same, is_prefix_of}
use Rattle.dir_tree.specs.tree.Numbered.{Numbered, entries_of, find_name, find_front, suffix_of, superior_of, put_row, without}
use Rattle.dir_tree.specs.Scope.{scoped}
use Rattle.dir_tree.specs.declared.scope.Scope.TheVariants.{Base, One, Sub}
use Rattle.dir_tree.specs.Refusals.{insert_refusal, remove_refusal, replace_refusal}
use Rattle.dir_tree.specs.declared.refusals.InsertRefusal.TheVariants as inserting
use Rattle.dir_tree.specs.declared.refusals.RemoveRefusal.TheVariants as removing
use Rattle.dir_tree.specs.declared.refusals.ReplaceRefusal.TheVariants as replacing

-- an RDN of one octet, with its key
abbrev rdn : ℕ → ℕ → List TypeAndValue
rdn octet key = record { kind = 1; value = record { octets = octet ∷ []; key = key ∷ [] } } ∷ []

abbrev row : ℕ → RdnSequence → Numbered
row id name = record { id = id; entry = record { name = name; attributes = [] } }

-- a, with b and c below it and d below b
abbrev a : RdnSequence
a = rdn 97 97 ∷ []

abbrev b : RdnSequence
b = rdn 97 97 ∷ rdn 98 98 ∷ []

abbrev d : RdnSequence
d = rdn 97 97 ∷ rdn 98 98 ∷ rdn 100 100 ∷ []

abbrev c : RdnSequence
c = rdn 97 97 ∷ rdn 99 99 ∷ []

-- c written in capitals
abbrev c' : RdnSequence
c' = rdn 65 97 ∷ rdn 67 99 ∷ []

abbrev rows : List Numbered
rows = row 3 a ∷ row 0 b ∷ row 2 d ∷ row 1 c ∷ []

put_in_order : put_row (row 1 c) (put_row (row 2 d) (put_row (row 0 b) (put_row (row 3 a) []))) ≡ rows
unfolding name_cmp
put_in_order = refl

put_back : put_row (row 0 b) (without 0 rows) ≡ rows
unfolding name_cmp
put_back = refl

found : find_name c' rows ≡ Some 1
unfolding name_cmp is_same
found = refl

not_found : find_name (rdn 98 98 ∷ []) rows ≡ None
unfolding name_cmp is_same
not_found = refl

front_found : find_front 2 d rows ≡ Some 0
unfolding name_cmp is_same
front_found = refl

front_too_long : find_front 4 d rows ≡ None
front_too_long = refl

suffix : suffix_of rows ≡ Some 3
suffix = refl

superior : superior_of 2 rows ≡ Some 0
unfolding name_cmp is_same
superior = refl

superior_of_the_suffix : superior_of 3 rows ≡ None
unfolding name_cmp is_same
superior_of_the_suffix = refl

base : scoped Base 0 rows ≡ 0 ∷ []
base = refl

one : scoped One 3 rows ≡ 0 ∷ 1 ∷ []
unfolding name_cmp is_same is_prefix_of
one = refl

sub : scoped Sub 0 rows ≡ 0 ∷ 2 ∷ []
unfolding name_cmp is_same is_prefix_of
sub = refl

none_of_no_number : scoped Sub 7 rows ≡ []
none_of_no_number = refl

taken : insert_refusal c' (entries_of rows) ≡ Some inserting.NameTaken
unfolding name_cmp is_same
taken = refl

no_superior : insert_refusal (rdn 98 98 ∷ rdn 97 97 ∷ []) (entries_of rows) ≡ Some inserting.NoSuperior
unfolding name_cmp is_same
no_superior = refl

first_in : insert_refusal c [] ≡ None
first_in = refl

absent : remove_refusal 7 rows ≡ Some removing.Absent
absent = refl

below : remove_refusal 0 rows ≡ Some removing.HasBelow
unfolding name_cmp is_same is_prefix_of
below = refl

may_go : remove_refusal 2 rows ≡ None
unfolding name_cmp is_same is_prefix_of
may_go = refl

same_name : replace_refusal 1 c' rows ≡ None
unfolding name_cmp is_same is_prefix_of
same_name = refl

another's_name : replace_refusal 1 b rows ≡ Some replacing.NameTaken
unfolding name_cmp is_same
another's_name = refl

-- below another superior, below none, below itself, and nowhere
moved : replace_refusal 1 (rdn 97 97 ∷ rdn 98 98 ∷ rdn 99 99 ∷ []) rows ≡ None
unfolding name_cmp is_same is_prefix_of
moved = refl

below_nothing : replace_refusal 1 (rdn 97 97 ∷ rdn 101 101 ∷ rdn 99 99 ∷ []) rows ≡ Some replacing.NoSuperior
unfolding name_cmp is_same
below_nothing = refl

below_itself : replace_refusal 1 (rdn 97 97 ∷ rdn 99 99 ∷ rdn 99 99 ∷ []) rows ≡ Some replacing.NoSuperior
unfolding name_cmp is_same
below_itself = refl

beside_the_suffix : replace_refusal 1 (rdn 99 99 ∷ []) rows ≡ Some replacing.NoSuperior
unfolding name_cmp is_same
beside_the_suffix = refl

empty_name : replace_refusal 3 [] rows ≡ Some replacing.NoSuperior
unfolding name_cmp is_same
empty_name = refl

moves_others : replace_refusal 0 (rdn 97 97 ∷ rdn 101 101 ∷ []) rows ≡ Some replacing.HasBelow
unfolding name_cmp is_same is_prefix_of
moves_others = refl

renamed : replace_refusal 1 (rdn 97 97 ∷ rdn 101 101 ∷ []) rows ≡ None
unfolding name_cmp is_same is_prefix_of
renamed = refl

moved_with_others : replace_refusal 0 (rdn 97 97 ∷ rdn 99 99 ∷ rdn 98 98 ∷ []) rows ≡ Some replacing.HasBelow
unfolding name_cmp is_same is_prefix_of
moved_with_others = refl

suffix_of_others : replace_refusal 3 (rdn 101 101 ∷ []) rows ≡ Some replacing.HasBelow
unfolding name_cmp is_same is_prefix_of
suffix_of_others = refl

suffix_respelled : replace_refusal 3 (rdn 65 97 ∷ []) rows ≡ None
unfolding name_cmp is_same is_prefix_of
suffix_respelled = refl

suffix_renamed : replace_refusal 3 (rdn 101 101 ∷ []) (row 3 a ∷ []) ≡ None
unfolding name_cmp is_same is_prefix_of
suffix_renamed = refl
