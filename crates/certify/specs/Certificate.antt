-- The certificate of an access control decision (X.501 18.8): what was asked, the access control subentries below the
-- entry's points and whether each subtree holds the entry (X.501 14.3 and 18.3), how far each tuple that counts comes, and
-- what is decided. It can be redone from a tree by hand.
use Rattle.std.specs.Prelude.{ℕ, Bool, true, false, List, [], ◌∷◌, ◌++◌, map, filter, flat_map, Option, Some, None, codes, decimal, if◌then◌else◌}
use Rattle.std.specs.Option.{option_map_or}
use Rattle.std.specs.Str.{bytes_eq}
use Rattle.dir_tree.specs.schema_tables.Attributes.{name_of}
use Rattle.dir_tree.specs.dn_names.name.Names.{RdnSequence}
use Rattle.dir_tree.specs.Entry.{EntryInformation}
use Rattle.dir_tree.specs.Points.{is_subentry, is_access_subentry}
use Rattle.dir_tree.specs.Scope.{is_child}
use Rattle.dir_tree.specs.tree.Trees.{named_in}
use Rattle.acdf_filters.specs.gser_tree.Writing.{text_of, print_string}
use Rattle.acdf_filters.specs.admin_scope.Areas.{areas}
use Rattle.acdf_filters.specs.admin_scope.InForce.{subtree_holds}
use Rattle.acdf_filters.specs.aci_item.ItemPrinted.{permission_name}
use Rattle.acdf_filters.specs.aci_item.declared.permission.Permission.{Permission}
use Rattle.acdf_filters.specs.declared.asking.Requester.{Requester}
use Rattle.acdf_filters.specs.Asking.{Protected, Entry, Kind, Value, Asked, asked_on}
use Rattle.acdf_filters.specs.Filters.{Placed, decided}
use Rattle.acdf_filters.specs.Granted.{placed_of}
use Rattle.explanation.specs.Questions.{Question}
use Rattle.explanation.specs.Texts.{effect}
use Rattle.line_text.specs.Escapes.{escaped}
use Rattle.certify.specs.Lines.{Line, whole, before, line_text}
use Rattle.certify.specs.LastFilter.{last_filter}

-- who asks: a requester of no name is anonymous
abbrev pub who_line : Option RdnSequence → Line
who_line None = whole (codes "who anonymous")
who_line (Some name) = before (codes "who ") name

-- on what of the entry, as a word says it: `entry`, `type:NAME` or `value:NAME=TEXT`
abbrev pub item_word : Protected → List ℕ
item_word Entry = codes "entry"
item_word (Kind kind) = codes "type:" ++ name_of kind
item_word (Value kind value) = codes "value:" ++ (name_of kind ++ (codes "=" ++ value.octets))

-- what was asked: four lines
abbrev pub question_lines : EntryInformation → Asked → List Line
question_lines entry asked =
    who_line asked.who.name
    ∷ before (codes "target ") entry.name
    ∷ whole (codes "item " ++ escaped (item_word asked.item))
    ∷ whole (codes "permission " ++ permission_name asked.permission)
    ∷ []

-- whether a subentry's subtree holds the entry
abbrev pub scope_word : Bool → List ℕ
scope_word true = codes "in "
scope_word false = codes "out "

-- `in NAME` or `out NAME` of a subentry below the point
abbrev pub scope_line : EntryInformation → EntryInformation → EntryInformation → Line
scope_line entry point subentry = before (scope_word (subtree_holds point subentry entry)) subentry.name

-- those of the access control subentries immediately below the point, in the order of their names
abbrev pub scope_lines_at : List EntryInformation → EntryInformation → EntryInformation → List Line
scope_lines_at entries entry point =
    map (scope_line entry point) (filter (λ subentry. is_child point.name subentry) (filter is_access_subentry entries))

-- those below each point of the entry, from the entry upwards; none for a subentry
abbrev pub scope_lines : List EntryInformation → EntryInformation → List Line
scope_lines entries entry = if is_subentry entry then [] else flat_map (scope_lines_at entries entry) (areas entries entry)

-- a line says that a subentry's subtree holds the entry
abbrev pub says_in : Line → Bool
says_in line = bytes_eq line.text (scope_word true)

-- `tuple K grant "TAG"` or `tuple K deny "TAG"`: K is the number of the last filter that leaves the tuple
abbrev pub tuple_text : ℕ → Bool → List ℕ → List ℕ
tuple_text number grants tag =
    codes "tuple " ++ (decimal number ++ (codes " " ++ (effect grants ++ (codes " " ++ escaped (text_of (print_string tag))))))

-- that of a tuple among those of an entry
abbrev pub tuple_line : Asked → List Placed → Placed → Line
tuple_line asked xs x = whole (tuple_text (last_filter asked xs x) x.listed.tuple.grants x.listed.tag)

-- what is decided
abbrev pub outcome_word : Bool → List ℕ
outcome_word true = codes "granted"
outcome_word false = codes "refused"

-- the lines about the tuples of an entry
abbrev pub decision_lines : Asked → List Placed → List Line
decision_lines asked xs = map (tuple_line asked xs) xs ++ whole (outcome_word (decided asked xs)) ∷ []

-- the certificate of a decision on the entry
unfoldable pub certificate : List EntryInformation → Asked → EntryInformation → List Line
certificate entries asked entry =
    question_lines entry asked ++ (scope_lines entries entry ++ decision_lines asked (placed_of entries asked.who entry))

-- as text
abbrev pub certificate_text : List EntryInformation → Asked → EntryInformation → List ℕ
certificate_text entries asked entry = flat_map line_text (certificate entries asked entry)

-- that of the decision on the entry of the name: `absent` where there is none
unfoldable pub proved_text : List EntryInformation → Requester → RdnSequence → Protected → Permission → List ℕ
proved_text entries who target item permission =
    option_map_or (λ entry. certificate_text entries (asked_on who entry item permission) entry) (named_in target entries) (codes "absent\n")

-- that of the decision that a question asks for
abbrev pub text_proved : List EntryInformation → Question → List ℕ
text_proved entries question = proved_text entries question.who question.target question.item question.permission
