-- What a word that begins with two dashes and goes on is for a row: an option in one of its spellings, or nothing.
use Rattle.std.proofs.Common.{◌≡◌, ◌∙◌, Bool, true, false, ◌∷◌, ◌++◌, Option, Some, None, option_map, refl, sym, ap}
use Rattle.std.specs.Prelude.{Contains}
use Rattle.clap.specs.Lexer.{name_and_value}
use Rattle.clap.specs.Walk.{Text, arg_by_id, arg_by_long}
use Rattle.command_words.specs.declared.table.OptionName.{OptionName}
use Rattle.command_words.specs.Table.{Row, option_word, option_named, takes_argument}
use Rattle.command_words.proofs.command.Rules.{option, option_by, rules, by-id, by-long}
use Rattle.command_words.proofs.table.Tables.{Named, option_named-sound}
use Rattle.command_words.proofs.command.Words.{Cut, Whole, Parts, cut_of}

-- each option of the row is found by its name
pub record IsReadable (row : Row) : Type 0 where
  pub named : (name : OptionName) → Contains row.options name → option_named row (option_word name) ≡ Some name

-- clap finds this option by its long name
pub record Finds (row : Row) (takes : Bool) (name : OptionName) : Type 0 where
  pub of_row : Contains row.options name
  pub takes_is : takes_argument name ≡ takes
  pub found : arg_by_long (rules row) (option_word name) ≡ Some (option_by takes (option_word name))

pub data Kind (row : Row) (body : Text) : Type 0 where
  Unknown : (parts : Text × Option Text) → name_and_value body ≡ parts → arg_by_long (rules row) parts.0 ≡ None → Kind row body
  Valued : (word value : Text) → name_and_value body ≡ (word, Some value) → arg_by_long (rules row) word ≡ Some (option_by false word) → Kind row body
  Opened : (name : OptionName) → Finds row true name → body ≡ option_word name → name_and_value body ≡ (option_word name, None) → Kind row body
  Assigned : (name : OptionName) (value : Text) → Finds row true name → body ≡ option_word name ++ 61 ∷ value → name_and_value body ≡ (option_word name, Some value) → Kind row body
  Flagged : (name : OptionName) → Finds row false name → body ≡ option_word name → name_and_value body ≡ (option_word name, None) → Kind row body

pub finds : (row : Row) (name : OptionName) (takes : Bool) → Contains row.options name → option_named row (option_word name) ≡ Some name → takes_argument name ≡ takes → Finds row takes name
finds row name takes of_row named takes_is = record {
  of_row = of_row;
  takes_is = takes_is;
  found = by-long row (option_word name) ∙ ap (option_map option) named ∙ ap (λ (own : Bool). Some (option_by own (option_word name))) takes_is;
}

-- and by its own
pub value-by-id : (row : Row) → IsReadable row → (name : OptionName) → Finds row true name → arg_by_id (rules row) (option_word name) ≡ Some (option_by true (option_word name))
value-by-id row readable name own = by-id row name (readable.named name own.of_row) ∙ ap (λ (takes : Bool). Some (option_by takes (option_word name))) own.takes_is

named-back : (row : Row) (text : Text) (name : OptionName) → text ≡ option_word name → option_named row text ≡ Some name → option_named row (option_word name) ≡ Some name
named-back row text name is named = ap (option_named row) (sym is) ∙ named

whole-kind : (row : Row) (body : Text) → name_and_value body ≡ (body, None) → Kind row body
whole-kind row body cut = by (option_named row body) refl
  where
    taken : (name : OptionName) → option_named row body ≡ Some name → Named row body name → (takes : Bool) → takes_argument name ≡ takes → Kind row body
    taken name is named true takes =
        Opened name (finds row name true named.of_row (named-back row body name named.word_is is) takes) named.word_is (cut ∙ ap (λ (word : Text). (word, None)) named.word_is)
    taken name is named false takes =
        Flagged name (finds row name false named.of_row (named-back row body name named.word_is is) takes) named.word_is (cut ∙ ap (λ (word : Text). (word, None)) named.word_is)

    by : (found : Option OptionName) → option_named row body ≡ found → Kind row body
    by None is = Unknown (body, None) cut (by-long row body ∙ ap (option_map option) is)
    by (Some name) is = taken name is (option_named-sound row body name is) (takes_argument name) refl

parts-kind : (row : Row) (body word value : Text) → body ≡ word ++ 61 ∷ value → name_and_value body ≡ (word, Some value) → Kind row body
parts-kind row body word value are cut = by (option_named row word) refl
  where
    taken : (name : OptionName) → option_named row word ≡ Some name → Named row word name → (takes : Bool) → takes_argument name ≡ takes → Kind row body
    taken name is named true takes =
        Assigned name value (finds row name true named.of_row (named-back row word name named.word_is is) takes) (are ∙ ap (λ (own : Text). own ++ 61 ∷ value) named.word_is)
        (cut ∙ ap (λ (own : Text). (own, Some value)) named.word_is)
    taken name is named false takes =
        Valued (option_word name) value (cut ∙ ap (λ (own : Text). (own, Some value)) named.word_is) (finds row name false named.of_row (named-back row word name named.word_is is) takes).found

    by : (found : Option OptionName) → option_named row word ≡ found → Kind row body
    by None is = Unknown (word, Some value) cut (by-long row word ∙ ap (option_map option) is)
    by (Some name) is = taken name is (option_named-sound row word name is) (takes_argument name) refl

pub kind_of : (row : Row) (body : Text) → Kind row body
kind_of row body = by (cut_of body)
  where
    by : Cut body → Kind row body
    by (Whole cut) = whole-kind row body cut
    by (Parts word value are cut) = parts-kind row body word value are cut
