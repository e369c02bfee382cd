-- When an entry may not stand in a tree: the rules in the order in which they are tried, each below the result code that
-- tells of it (RFC 4511 appendix A). X.501 and X.511 leave the order open; it is this profile's.
use Rattle.std.specs.Prelude.{◌≡◌, ◌≢◌, ℕ, nat_lt, nat_le, ◌==◌, Bool, false, not, ◌&&◌, ◌||◌, List, [], ◌∷◌, ◌++◌, length, find, sum_by, codes, Option, Some, None, is_none, is_err}
use Rattle.std.specs.List.{AllByRecursion, list_any, list_all}
use Rattle.std.specs.Option.{option_map, option_map_or}
use Rattle.dir_tree.specs.schema_tables.declared.kinds.Syntax.{Syntax}
use Rattle.dir_tree.specs.schema_tables.declared.kinds.Syntax.TheVariants.{Text, Ascii, Phone, Country, Octets, Oid, Name, Subtree, Aci}
use Rattle.dir_tree.specs.schema_tables.Attributes.{is_single, syntax_of}
use Rattle.dir_tree.specs.schema_tables.classes.Classes.{class_with}
use Rattle.aci_item.specs.declared.entry_rule.EntryRule.{EntryRule}
use Rattle.aci_item.specs.declared.entry_rule.EntryRule.TheVariants.{RdnValues, StructuralClass, Classes, Syntaxes, SingleValues, Place, Limits}
use Rattle.aci_item.specs.AciText.{read_item}
use Rattle.dir_tree.specs.dn_names.name.Names.{Keyed, last_rdn}
use Rattle.dir_tree.specs.dn_names.name.GoodNames.{IsGoodName}
use Rattle.dir_tree.specs.Entry.{Attribute, EntryInformation, kinds_of, values_of, has_kind, has_key, IsGoodAttributes}
use Rattle.dir_tree.specs.EntryClasses.{object_class, has_class}
use Rattle.dir_tree.specs.Points.{is_point, is_subentry, is_access_subentry, access_subentries}
use Rattle.dir_tree.specs.tree.Trees.{most_entries, superior_name, named_in, IsTree}
use Rattle.dir_tree.specs.Scope.{is_child}
use Rattle.subtree_spec.specs.SubtreeText.{read_subtree}
use Rattle.aci_item.specs.Listed.{all_classes, structural_classes, are_in_line, is_among, required_by, permitted_by}

-- notAllowedOnRDN (67): a value of the last RDN is none of the entry's

-- the entry lacks a value of its last RDN
unfoldable pub lacks_own_value : EntryInformation → Bool
lacks_own_value entry = list_any (λ pair. not (has_key pair.value.key (values_of pair.kind entry.attributes))) (last_rdn entry.name)

-- objectClassModsProhibited (69): other structural classes are listed than before (X.501 13.3.2)

-- each class of the one list is among the other
abbrev pub are_among : List ℕ → List ℕ → Bool
are_among some all = list_all (λ class. is_among class all) some

-- the entry lists other structural classes than the one whose place it takes
unfoldable pub has_other_structural : Option EntryInformation → EntryInformation → Bool
has_other_structural None entry = false
has_other_structural (Some old) entry =
    not (are_among (structural_classes old.attributes) (structural_classes entry.attributes)
    && are_among (structural_classes entry.attributes) (structural_classes old.attributes))

-- objectClassViolation (65)

-- no class is listed
abbrev pub lists_none : EntryInformation → Bool
lists_none entry = length (values_of object_class entry.attributes) == 0

-- a class is listed that isn't in the table
abbrev pub lists_unknown : EntryInformation → Bool
lists_unknown entry = list_any (λ value. is_none (class_with value.key)) (values_of object_class entry.attributes)

-- no structural class is listed (X.501 8.3.2)
abbrev pub lists_no_structural : EntryInformation → Bool
lists_no_structural entry = length (structural_classes entry.attributes) == 0

-- two structural classes are listed that are not in one line of superclasses (X.501 8.3.2)
abbrev pub lists_two_lines : EntryInformation → Bool
lists_two_lines entry =
    list_any (λ one. list_any (λ other. not (are_in_line one other)) (structural_classes entry.attributes)) (structural_classes entry.attributes)

-- an attribute that a class requires is absent
abbrev pub lacks_required : EntryInformation → Bool
lacks_required entry = list_any (λ kind. not (has_kind kind entry.attributes)) (required_by (all_classes entry.attributes))

-- the operational attributes that classes do not list (X.501 14.3 and 18.5): entryACI stands in every entry, and
-- administrativeRole, accessControlScheme and subentryACI in every entry that is no subentry
abbrev pub is_permitted_besides : ℕ → EntryInformation → Bool
is_permitted_besides kind entry = (kind == 33) || ((kind == 29) || (kind == 31) || (kind == 34)) && not (is_subentry entry)

-- an attribute that nothing allows is there
abbrev pub has_unpermitted : EntryInformation → Bool
has_unpermitted entry =
    list_any (λ kind. not (is_among kind (permitted_by (all_classes entry.attributes)) || is_permitted_besides kind entry)) (kinds_of entry.attributes)

-- the class of access control subentries is listed without that of subentries
abbrev pub lists_access_alone : EntryInformation → Bool
lists_access_alone entry = has_class (codes "2.5.17.1") entry && not (has_class (codes "2.5.17.0") entry)

-- one of these seven is the case
unfoldable pub breaks_classes : EntryInformation → Bool
breaks_classes entry =
    lists_none entry || lists_unknown entry || lists_no_structural entry || lists_two_lines entry
    || lacks_required entry || has_unpermitted entry || lists_access_alone entry

-- invalidAttributeSyntax (21): a value is not in the grammar of its syntax. The syntaxes of text are read before an entry is
-- checked

-- the octets are no value of the syntax
abbrev pub is_unread : Syntax → List ℕ → Bool
is_unread Text octets = false
is_unread Ascii octets = false
is_unread Phone octets = false
is_unread Country octets = false
is_unread Octets octets = false
is_unread Oid octets = false
is_unread Name octets = false
is_unread Subtree octets = is_err (read_subtree octets)
is_unread Aci octets = is_err (read_item octets)

-- one of the values is none of the syntax
abbrev pub has_unread_of : List Keyed → Syntax → Bool
has_unread_of values syntax = list_any (λ value. is_unread syntax value.octets) values

-- one of the values of the attribute is none of its type's syntax
abbrev pub has_unread_value : Attribute → Bool
has_unread_value attribute = option_map_or (has_unread_of attribute.values) (syntax_of attribute.kind) false

-- an attribute has such a value
unfoldable pub has_unread : EntryInformation → Bool
has_unread entry = list_any has_unread_value entry.attributes

-- constraintViolation (19): a single-valued attribute has two values
unfoldable pub has_two_values : EntryInformation → Bool
has_two_values entry = list_any (λ attribute. is_single attribute.kind && nat_lt 1 (length attribute.values)) entry.attributes

-- namingViolation (64): a subentry stands immediately below an administrative point, and nothing below it (RFC 3672 2)

-- the entry may not stand immediately below this superior, or without one
abbrev pub stands_wrong : Option EntryInformation → EntryInformation → Bool
stands_wrong None entry = is_subentry entry
stands_wrong (Some superior) entry = is_subentry superior || is_subentry entry && not (is_point superior)

-- the entry may not stand immediately above one of those that stand below the entry whose place it takes; below a new
-- entry none stands
abbrev pub stands_wrong_above : Option EntryInformation → List EntryInformation → EntryInformation → Bool
stands_wrong_above None others entry = false
stands_wrong_above (Some old) others entry =
    list_any (λ other. is_child old.name other && (is_subentry entry || is_subentry other && not (is_point entry))) others

-- the entry may not stand where its name says
unfoldable pub is_misplaced : Option EntryInformation → List EntryInformation → EntryInformation → Bool
is_misplaced old others entry =
    stands_wrong (named_in (superior_name entry.name) others) entry || stands_wrong_above old others entry

-- adminLimitExceeded (11): entries, access control subentries, or the octets of the entry's values

-- the octets of the values together
abbrev pub octets_in : EntryInformation → ℕ
octets_in entry = sum_by (λ attribute. sum_by (λ value. length value.octets) attribute.values) entry.attributes

-- how many access control subentries a tree has at most
abbrev pub most_subentries : ℕ
most_subentries = 256

-- how many octets the values of an entry have together at most
abbrev pub most_octets_in : ℕ
most_octets_in = 67108864

-- the tree is full, or full of access control subentries and this is one, or the values have too many octets
unfoldable pub is_past_limits : List EntryInformation → EntryInformation → Bool
is_past_limits others entry =
    nat_le most_entries (length others)
    || is_access_subentry entry && nat_le most_subentries (access_subentries others)
    || nat_lt most_octets_in (octets_in entry)

-- a row of the rules: which it is, and whether an entry breaks it that takes the place of an old one, or of none, among
-- others
pub record Rule : Type 0 where
  pub rule : EntryRule
  pub breaks : Option EntryInformation → List EntryInformation → EntryInformation → Bool

-- the rules, in the order in which they are tried
abbrev pub rules : List Rule
rules =
    record { rule = RdnValues; breaks = λ old others. lacks_own_value }
    ∷ record { rule = StructuralClass; breaks = λ old others. has_other_structural old }
    ∷ record { rule = Classes; breaks = λ old others. breaks_classes }
    ∷ record { rule = Syntaxes; breaks = λ old others. has_unread }
    ∷ record { rule = SingleValues; breaks = λ old others. has_two_values }
    ∷ record { rule = Place; breaks = is_misplaced }
    ∷ record { rule = Limits; breaks = λ old. is_past_limits }
    ∷ []

-- the first rule that the entry breaks, in the place of an old one or of none, among the others
unfoldable pub broken_rule : Option EntryInformation → List EntryInformation → EntryInformation → Option EntryRule
broken_rule old others entry = option_map (λ row. row.rule) (find (λ row. row.breaks old others entry) rules)

-- the entry breaks none of them
pub record Meets (old : Option EntryInformation) (others : List EntryInformation) (entry : EntryInformation) : Type 0 where
  pub own_values : lacks_own_value entry ≡ false
  pub structural : has_other_structural old entry ≡ false
  pub classes : breaks_classes entry ≡ false
  pub syntaxes : has_unread entry ≡ false
  pub single : has_two_values entry ≡ false
  pub placed : is_misplaced old others entry ≡ false
  pub limits : is_past_limits others entry ≡ false

-- the entry at each place meets the rules among the others
abbrev pub MeetsRules : List EntryInformation → Type 0
MeetsRules entries =
    (front back : List EntryInformation) (entry : EntryInformation) → entries ≡ front ++ entry ∷ back → broken_rule None (front ++ back) entry ≡ None

-- the entries are those of a tree, each with a good name and good attributes, and each meets the rules
pub record AreGood (entries : List EntryInformation) : Type 0 where
  pub tree : IsTree entries
  pub names : AllByRecursion (λ entry. IsGoodName entry.name) entries
  pub attributes : AllByRecursion (λ entry. IsGoodAttributes entry.attributes) entries
  pub meets : MeetsRules entries

-- a good tree: such entries, of which there is one
pub record IsGoodTree (entries : List EntryInformation) : Type 0 where
  pub some : entries ≢ []
  pub good : AreGood entries
