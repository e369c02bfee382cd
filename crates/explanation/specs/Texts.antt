-- The printed text of an access control decision (X.501 18.8), filter by filter: a line for each subentry in force, one
-- for the number of tuples that count and for that which each filter leaves, one for each tuple that is left at the end,
-- and one for what is decided. Each line ends in LF.
use Rattle.std.specs.Prelude.{ℕ, Bool, true, false, List, ◌++◌, length, map, flat_map, codes, decimal}
use Rattle.std.specs.Option.{option_map_or}
use Rattle.dir_tree.specs.dn_names.name.Names.{RdnSequence}
use Rattle.dir_tree.specs.dn_names.Printing.{print_name}
use Rattle.acdf_filters.specs.gser_tree.Writing.{text_of, print_string}
use Rattle.dir_tree.specs.Entry.{EntryInformation}
use Rattle.dir_tree.specs.tree.Trees.{named_in}
use Rattle.acdf_filters.specs.admin_scope.InForce.{in_force}
use Rattle.acdf_filters.specs.aci_item.declared.permission.Permission.{Permission}
use Rattle.acdf_filters.specs.declared.asking.Requester.{Requester}
use Rattle.acdf_filters.specs.Asking.{Protected, Asked, asked_on}
use Rattle.acdf_filters.specs.Filters.{Placed, left_by_users, left_by_item, left_by_permission, left_by_precedence, left_by_class, left_by_explicit, decided}
use Rattle.acdf_filters.specs.Granted.{placed_of}
use Rattle.explanation.specs.Questions.{Question}
use Rattle.explanation.specs.Explained.{Kept, kept_of}

-- `subentry NAME`
abbrev pub subentry_line : EntryInformation → List ℕ
subentry_line subentry = codes "subentry " ++ (print_name subentry.name ++ codes "\n")

-- a word and a number
abbrev pub count_line : List ℕ → ℕ → List ℕ
count_line word count = word ++ (codes " " ++ (decimal count ++ codes "\n"))

-- how many tuples count, and how many each filter leaves
abbrev pub count_lines : Asked → List Placed → List ℕ
count_lines asked xs =
    count_line (codes "listed") (length xs)
    ++ (count_line (codes "users") (length (left_by_users asked xs))
    ++ (count_line (codes "item") (length (left_by_item asked xs))
    ++ (count_line (codes "permission") (length (left_by_permission asked xs))
    ++ (count_line (codes "precedence") (length (left_by_precedence asked xs))
    ++ (count_line (codes "class") (length (left_by_class asked xs))
    ++ count_line (codes "explicit") (length (left_by_explicit asked xs)))))))

-- whether a tuple grants
abbrev pub effect : Bool → List ℕ
effect true = codes "grant"
effect false = codes "deny"

-- `kept NAME "TAG" grant` or `kept NAME "TAG" deny`: the entry that holds the item, and its tag as a string (RFC 3641 3.5)
abbrev pub kept_line : Kept → List ℕ
kept_line kept =
    codes "kept " ++ (print_name kept.source ++ (codes " " ++ (text_of (print_string kept.tag) ++ (codes " " ++ (effect kept.grants ++ codes "\n")))))

-- what is decided
abbrev pub outcome_line : Bool → List ℕ
outcome_line true = codes "granted\n"
outcome_line false = codes "refused\n"

-- the text of a decision on an entry
abbrev pub entry_text : List EntryInformation → EntryInformation → Asked → List ℕ
entry_text entries entry asked =
    flat_map subentry_line (in_force entries entry)
    ++ (count_lines asked (placed_of entries asked.who entry)
    ++ (flat_map kept_line (map kept_of (left_by_explicit asked (placed_of entries asked.who entry)))
    ++ outcome_line (decided asked (placed_of entries asked.who entry))))

-- the text of a decision on the entry of the name
unfoldable pub explained_text : List EntryInformation → Requester → RdnSequence → Protected → Permission → List ℕ
explained_text entries who target item permission =
    option_map_or (λ entry. entry_text entries entry (asked_on who entry item permission)) (named_in target entries) (codes "absent\n")

-- the text of the decision that a question asks for
abbrev pub text_explained : List EntryInformation → Question → List ℕ
text_explained entries question = explained_text entries question.who question.target question.item question.permission
