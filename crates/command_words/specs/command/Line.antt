-- The words of a command after its name, as they are written: operands and options in any order, and after the
-- delimiter `--` operands alone (POSIX.1, Utility Syntax Guidelines 10 and 13; GNU's long options).
use Rattle.std.specs.Prelude.{◌≡◌, ◌≤◌, ℕ, Bool, true, false, not, ◌||◌, List, [], ◌∷◌, ◌++◌, length, Option, Some, None, IsTrue, Contains, bytes_eq, codes, flat_map, ◌==◌, if◌then◌else◌}
use Rattle.std.specs.List.{AllByRecursion}
use Rattle.command_words.specs.declared.table.OptionName.{OptionName}
use Rattle.command_words.specs.declared.table.Sought.{Sought}
use Rattle.command_words.specs.declared.table.Sought.TheVariants.{Operands, Arguments}
use Rattle.command_words.specs.Table.{Row, option_word, takes_argument, is_same_option}

-- one item of a line: an operand, or an option in one of its three spellings
pub data Item : Type 0 where
  Operand : List ℕ → Item
  Flag : OptionName → Item
  Joined : OptionName → List ℕ → Item
  Apart : OptionName → List ℕ → Item

-- the first octet is `-`
abbrev pub begins_with_dash : List ℕ → Bool
begins_with_dash [] = false
begins_with_dash (octet ∷ octets) = octet == 45

-- before the delimiter an operand, and an argument that stands apart, doesn't begin with `-`, or is `-` alone
abbrev pub is_operand : List ℕ → Bool
is_operand word = not (begins_with_dash word) || bytes_eq word (codes "-")

-- `--name`
abbrev pub long : OptionName → List ℕ
long name = codes "--" ++ option_word name

-- the words that write an item: `word`, `--name`, `--name=text`, or `--name` and then `text`
abbrev pub item_words : Item → List (List ℕ)
item_words (Operand word) = word ∷ []
item_words (Flag name) = long name ∷ []
item_words (Joined name text) = (long name ++ (codes "=" ++ text)) ∷ []
item_words (Apart name text) = long name ∷ text ∷ []

-- the items that a command may have: a flag has no argument, and one that stands apart doesn't begin with `-`, or is `-`
-- alone
abbrev pub IsItem : Row → Item → Type 0
IsItem row (Operand word) = IsTrue (is_operand word)
IsItem row (Flag name) = Contains row.options name × (takes_argument name ≡ false)
IsItem row (Joined name text) = Contains row.options name × (takes_argument name ≡ true)
IsItem row (Apart name text) = Contains row.options name × (takes_argument name ≡ true) × IsTrue (is_operand text)

-- the items, and the words after `--` where it stands
pub record Line : Type 0 where
  pub items : List Item
  pub rest : Option (List (List ℕ))

-- `--` and the words after it
abbrev pub rest_words : Option (List (List ℕ)) → List (List ℕ)
rest_words None = []
rest_words (Some words) = codes "--" ∷ words

-- the words that write a line
abbrev pub line_words : Line → List (List ℕ)
line_words line = flat_map item_words line.items ++ rest_words line.rest

-- what an item gives: an operand, or the argument of an option, which is empty for a flag
abbrev pub item_texts : Sought → Item → List (List ℕ)
item_texts Operands (Operand word) = word ∷ []
item_texts Operands (Flag name) = []
item_texts Operands (Joined name text) = []
item_texts Operands (Apart name text) = []
item_texts (Arguments sought) (Operand word) = []
item_texts (Arguments sought) (Flag name) = if is_same_option sought name then [] ∷ [] else []
item_texts (Arguments sought) (Joined name text) = if is_same_option sought name then text ∷ [] else []
item_texts (Arguments sought) (Apart name text) = if is_same_option sought name then text ∷ [] else []

-- all words after the delimiter are operands
abbrev pub rest_texts : Sought → Option (List (List ℕ)) → List (List ℕ)
rest_texts Operands (Some words) = words
rest_texts Operands None = []
rest_texts (Arguments sought) rest = []

-- the operands, or the arguments of an option, in the order of the line
abbrev pub texts_of : Sought → Line → List (List ℕ)
texts_of sought line = flat_map (item_texts sought) line.items ++ rest_texts sought line.rest

-- a line that a command takes: its items, exactly its number of operands, and each of its options at most once
pub record IsLine (row : Row) (line : Line) : Type 0 where
  pub items : AllByRecursion (IsItem row) line.items
  pub operands : length (texts_of Operands line) ≡ row.operands
  pub once : AllByRecursion (λ name. length (texts_of (Arguments name) line) ≤ 1) row.options
