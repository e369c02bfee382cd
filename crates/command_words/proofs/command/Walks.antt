-- The walk over the words of a command: its fault and the rows that it leaves, word by word.
use Rattle.std.proofs.Common.{◌≡◌, ◌∙◌, true, false, List, [], ◌∷◌, ◌++◌, Option, Some, refl, sym, ap, ap₂, subst}
use Rattle.std.specs.Prelude.{codes, fold}
use Rattle.std.specs.Option.{option_map_or}
use Rattle.std.proofs.lemmas.List.{append-nil, append_assoc}
use Rattle.clap.specs.Walk.{Row as Kept, Rule, Text, Waiting, Walk, arg_by_id, settled_rows, walked}
use Rattle.clap.specs.Kinds.{Kinds, or_else}
use Rattle.clap.specs.Faults.{settle_fault, turn_fault, use_fault, walk_fault}
use Rattle.command_words.specs.declared.table.Sought.{Sought}
use Rattle.command_words.specs.declared.table.Sought.TheVariants.{Operands, Arguments}
use Rattle.command_words.specs.Table.{Row}
use Rattle.command_words.specs.command.Line.{Operand, item_texts, rest_texts}
use Rattle.command_words.proofs.command.Rules.{option_by, rules, shape}
use Rattle.command_words.proofs.command.Steps.{Pending, Refused, Turns, at, owed, settle, trailing-turn}
use Rattle.command_words.proofs.command.Uses.{Given, Holds, holds-same, operand-holds, with_item}

-- where the walk ends
abbrev pub end : Row → Walk → List Text → Walk
end row walk words = fold (walked (rules row) []) walk words

-- the fault of the walk, and then of the use that is pending at its end
abbrev pub total : Row → Walk → List Text → Kinds
total row walk words = or_else (walk_fault (shape row) [] walk words) (settle_fault (rules row) false (end row walk words).held)

-- the rows with that use
abbrev pub end_rows : Row → Walk → List Text → List Kept
end_rows row walk words = settled_rows (rules row) (end row walk words).held.pending (end row walk words).held.rows

pub or_else-past : (first second third : Kinds) → or_else (or_else first second) third ≡ or_else first (or_else second third)
or_else-past [] second third = refl
or_else-past (k ∷ first) second third = refl

-- where two have no fault, neither has one
pub both-pass : (first second : Kinds) → or_else first second ≡ [] → (first ≡ []) × (second ≡ [])
both-pass [] second none = (refl, none)
both-pass (k ∷ first) second none = absurd (cc)

pub pass-both : (first second : Kinds) → first ≡ [] → second ≡ [] → or_else first second ≡ []
pass-both first second none later = rw none later

-- a word, and the words after it
pub total-more : (row : Row) (walk after : Walk) (word : Text) (words : List Text) (fault : Kinds) → Turns row walk word fault after → total row walk (word ∷ words) ≡ or_else fault (total row after words)
unfolding walk_fault
total-more row walk after word words fault turns =
    or_else-past (turn_fault (shape row) [] walk word) (walk_fault (shape row) [] (walked (rules row) [] walk word) words) _
    ∙ ap₂ (λ (kinds : Kinds) (next : Walk). or_else kinds (total row next words)) turns.faults turns.leaves

pub end_rows-more : (row : Row) (walk after : Walk) (word : Text) (words : List Text) (fault : Kinds) → Turns row walk word fault after → end_rows row walk (word ∷ words) ≡ end_rows row after words
end_rows-more row walk after word words fault turns = ap (λ (next : Walk). end_rows row next words) turns.leaves

-- where there is no fault, the word has none, nor have the words after it
pub record Passes (row : Row) (after : Walk) (words : List Text) (fault : Kinds) : Type 0 where
  pub word : fault ≡ []
  pub later : total row after words ≡ []

pub passes : (row : Row) (walk after : Walk) (word : Text) (words : List Text) (fault : Kinds) → Turns row walk word fault after → total row walk (word ∷ words) ≡ [] → Passes row after words fault
passes row walk after word words fault turns none =
    let parts = both-pass fault (total row after words) (sym (total-more row walk after word words fault turns) ∙ none) in
    record { word = parts.0; later = parts.1 }

-- a word that is refused has a fault
pub refused-fails : (row : Row) (walk : Walk) (word : Text) (words : List Text) → Refused row walk word → total row walk (word ∷ words) ≡ [] → ⊥
unfolding walk_fault
refused-fails row walk word words refused none =
    let parts = both-pass (turn_fault (shape row) [] walk word) _ (sym (or_else-past (turn_fault (shape row) [] walk word) (walk_fault (shape row) [] (walked (rules row) [] walk word) words) _) ∙ none) in
    let first : refused.first ∷ refused.more ≡ [] = sym refused.is ∙ parts.0 in
    cc

-- an option that has no value yet
pub unvalued-fails : (row : Row) (id : Text) (rows : List Kept) → arg_by_id (rules row) id ≡ Some (option_by true id) → owed row rows (Some (id, [])) ≡ [] → ⊥
unvalued-fails row id rows found none =
    let fault = sym (ap (λ (rule : Option Rule). option_map_or (λ (own : Rule). use_fault false own [] rows) rule []) found) ∙ none in
    cc

-- words after `--` are operands
rest_texts-more : (sought : Sought) (word : Text) (words : List Text) → item_texts sought (Operand word) ++ rest_texts sought (Some words) ≡ rest_texts sought (Some (word ∷ words))
rest_texts-more Operands word words = refl
rest_texts-more (Arguments name) word words = refl

rest_texts-none : (sought : Sought) → rest_texts sought (Some []) ≡ []
rest_texts-none Operands = refl
rest_texts-none (Arguments name) = refl

rest-end : (rows : List Kept) (given : Given) → Holds rows given → Holds rows (λ sought. given sought ++ rest_texts sought (Some []))
rest-end rows given holds = holds-same rows given _ (λ sought. sym (ap (λ (more : List Text). given sought ++ more) (rest_texts-none sought) ∙ append-nil (given sought))) holds

rest-more : (rows : List Kept) (given : Given) (word : Text) (words : List Text) → Holds rows (λ sought. with_item (Operand word) given sought ++ rest_texts sought (Some words)) → Holds rows (λ sought. given sought ++ rest_texts sought (Some (word ∷ words)))
rest-more rows given word words holds =
    holds-same rows _ _ (λ sought. append_assoc (given sought) (item_texts sought (Operand word)) (rest_texts sought (Some words)) ∙ ap (λ (more : List Text). given sought ++ more) (rest_texts-more sought word words)) holds

pub trailing-owed : (row : Row) (waiting : Waiting) (rows : List Kept) (pending : Pending) (words : List Text) → total row (at waiting true rows pending) words ≡ [] → owed row rows pending ≡ []
unfolding walk_fault
trailing-owed row waiting rows pending [] none = none
trailing-owed row waiting rows pending (word ∷ words) none = (passes row _ _ word words _ (trailing-turn row waiting rows pending word) none).word

pub trailing-holds : (row : Row) (words : List Text) (waiting : Waiting) (rows : List Kept) (pending : Pending) (given : Given) → Holds (settle row rows pending) given → Holds (end_rows row (at waiting true rows pending) words) (λ sought. given sought ++ rest_texts sought (Some words))
trailing-holds row [] waiting rows pending given holds = rest-end _ given holds
trailing-holds row (word ∷ words) waiting rows pending given holds =
    let turns = trailing-turn row waiting rows pending word in
    let later = trailing-holds row words _ (settle row rows pending) (Some (codes "operands", word ∷ [])) (with_item (Operand word) given) (operand-holds (settle row rows pending) given word holds) in
    subst (λ (left : List Kept). Holds left (λ sought. given sought ++ rest_texts sought (Some (word ∷ words)))) (sym (end_rows-more row _ _ word words _ turns)) (rest-more _ given word words later)

pub trailing-passes : (row : Row) (words : List Text) (waiting : Waiting) (rows : List Kept) (pending : Pending) → owed row rows pending ≡ [] → total row (at waiting true rows pending) words ≡ []
unfolding walk_fault
trailing-passes row [] waiting rows pending none = none
trailing-passes row (word ∷ words) waiting rows pending none =
    total-more row _ _ word words _ (trailing-turn row waiting rows pending word) ∙ pass-both _ _ none (trailing-passes row words _ (settle row rows pending) (Some (codes "operands", word ∷ [])) refl)
