-- A line that grows by an item at its front, and what it gives.
use Rattle.std.proofs.Common.{◌≡◌, ◌∙◌, List, [], ◌∷◌, ◌++◌, None, refl, sym, ap}
use Rattle.std.specs.Prelude.{flat_map}
use Rattle.std.proofs.lemmas.List.{append-nil, append_assoc}
use Rattle.clap.specs.Walk.{Text}
use Rattle.command_words.specs.declared.table.Sought.{Sought}
use Rattle.command_words.specs.declared.table.Sought.TheVariants.{Operands, Arguments}
use Rattle.command_words.specs.command.Line.{Item, Line, item_texts, item_words, line_words, rest_texts, rest_words, texts_of}
use Rattle.command_words.proofs.command.Uses.{Given, with_item}

abbrev pub put : Item → Line → Line
put item line = record { items = item ∷ line.items; rest = line.rest }

-- the words of an item and of the line after it
pub words-put : (item : Item) (line : Line) → line_words (put item line) ≡ item_words item ++ line_words line
words-put item line = append_assoc (item_words item) (flat_map item_words line.items) (rest_words line.rest)

-- their texts
pub own-texts-put : (item : Item) (line : Line) (sought : Sought) → texts_of sought (put item line) ≡ item_texts sought item ++ texts_of sought line
own-texts-put item line sought = append_assoc (item_texts sought item) (flat_map (item_texts sought) line.items) (rest_texts sought line.rest)

-- their texts behind those that were given before
pub texts-put : (given : Given) (item : Item) (line : Line) (sought : Sought) → with_item item given sought ++ texts_of sought line ≡ given sought ++ texts_of sought (put item line)
texts-put given item line sought =
    append_assoc (given sought) (item_texts sought item) (texts_of sought line) ∙ ap (λ (more : List Text). given sought ++ more) (sym (own-texts-put item line sought))

-- a line of no words gives nothing
nothing-given : (sought : Sought) → texts_of sought (record { items = []; rest = None }) ≡ []
nothing-given Operands = refl
nothing-given (Arguments name) = refl

pub texts-empty : (given : Given) (sought : Sought) → given sought ≡ given sought ++ texts_of sought (record { items = []; rest = None })
texts-empty given sought = sym (ap (λ (more : List Text). given sought ++ more) (nothing-given sought) ∙ append-nil (given sought))
