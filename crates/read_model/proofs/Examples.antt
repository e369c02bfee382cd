-- What is read and compared, computed on small views.
use Rattle.std.proofs.Common.{◌≡◌, ℕ, List, [], ◌∷◌, Bool, true, false, Some, None, refl}
use Rattle.std.specs.Prelude.{codes}
use Prim.Native.String.{String}
use Rattle.dir_tree.specs.schema_tables.Attributes.{attributes}
use Rattle.dir_tree.specs.dn_names.name.Names.{Keyed, TypeAndValue, RdnSequence}
use Rattle.dir_tree.specs.dn_names.NameOrder.{name_cmp, is_same, is_prefix_of}
use Rattle.dir_tree.specs.Entry.{EntryInformation}
use Rattle.acdf_filters.specs.aci_item.declared.permission.Permission.{Permission}
use Rattle.acdf_filters.specs.aci_item.declared.permission.Permission.TheVariants.{Compare, DiscloseOnError}
use Rattle.acdf_filters.specs.aci_item.Permission.{is_same as is_same_permission}
use Rattle.acdf_filters.specs.Asking.{Protected}
use Rattle.read_model.specs.Views.{Row, View, matched_name, discloses, result_of, hidden}
use Rattle.ldap_msg.specs.declared.operations.ResultCode.TheVariants as code
use Rattle.ldap_msg.specs.declared.kinds.SearchScope.TheVariants.{SingleLevel}
use Rattle.read_model.specs.Selecting.{takes_in}
use Rattle.read_model.specs.Choosing.{is_chosen}
use Rattle.read_model.specs.CompareReplies.{compared}

abbrev value : String → Keyed
value text = record { octets = codes text; key = codes text }

-- a name of one RDN for each letter
abbrev rdn : String → List TypeAndValue
rdn name = record { kind = 1; value = value name } ∷ []

abbrev top : RdnSequence
top = rdn "t" ∷ []

abbrev below : RdnSequence
below = rdn "t" ∷ rdn "a" ∷ []

abbrev entry : RdnSequence → EntryInformation
entry name = record { name = name; attributes = record { kind = 1; values = value "v" ∷ [] } ∷ [] }

-- an entry on which everything is allowed, one on which nothing is, and one of which only may be known
abbrev allowed : RdnSequence → Row
allowed name = record { entry = entry name; allows = λ item permission. true }

abbrev closed : RdnSequence → Row
closed name = record { entry = entry name; allows = λ item permission. false }

abbrev known : RdnSequence → Row
known name = record { entry = entry name; allows = λ item permission. is_same_permission permission DiscloseOnError }

abbrev view : View
view = allowed top ∷ closed below ∷ []

-- the nearest entry that may be known of
nearest : matched_name view (rdn "t" ∷ rdn "a" ∷ rdn "x" ∷ []) ≡ top
unfolding matched_name name_cmp is_same is_prefix_of
nearest = refl

none_is_nearer : matched_name view top ≡ []
unfolding matched_name name_cmp is_same is_prefix_of
none_is_nearer = refl

the_first_is_disclosed : discloses view top ≡ true
unfolding name_cmp is_same
the_first_is_disclosed = refl

the_second_is_not : discloses view below ≡ false
unfolding name_cmp is_same
the_second_is_not = refl

-- what may be known of and not be done is refused without a name
refused_openly : hidden view top ≡ result_of code.InsufficientAccessRights
unfolding hidden name_cmp is_same
refused_openly = refl

-- scopes: the base, what is immediately below it, and all
one_level : takes_in SingleLevel top (entry below) ≡ true
unfolding name_cmp is_same is_prefix_of
one_level = refl

not_the_base : takes_in SingleLevel top (entry top) ≡ false
unfolding name_cmp is_same is_prefix_of
not_the_base = refl

-- choices: none at all, all user attributes, all operational ones, and no attribute
user_attributes : is_chosen [] 1 ≡ true
unfolding attributes
user_attributes = refl

operational_attributes : is_chosen (codes "+" ∷ []) 29 ≡ true
unfolding attributes
operational_attributes = refl

no_attribute : is_chosen (codes "1.1" ∷ []) 1 ≡ false
unfolding attributes
no_attribute = refl

-- compares: an equal value, another, and a type that may be known of alone
equal_value : compared 1 (value "v") (allowed top) ≡ result_of code.CompareTrue
unfolding compared
equal_value = refl

other_value : compared 1 (value "w") (allowed top) ≡ result_of code.CompareFalse
unfolding compared
other_value = refl

known_type : compared 1 (value "v") (known top) ≡ result_of code.InsufficientAccessRights
unfolding compared
known_type = refl

unknown_type : compared 1 (value "v") (closed top) ≡ result_of code.NoSuchAttribute
unfolding compared
unknown_type = refl
