-- What the steps of preparing an item give.
use Rattle.std.specs.Prelude.{Bool, true, false, Option, Result}
use Rattle.dir_tree.specs.plain_values.Answers.{IsNothing, AnswersAny}
use Rattle.dir_tree.specs.match_rules.declared.errors.PrepareFault.{PrepareFault}
use Rattle.dir_tree.specs.match_rules.declared.errors.PrepareFault.TheVariants.{NotOfSyntax, NoMemory}

-- the fault says that the octets are of no value
abbrev pub is_of_syntax : PrepareFault → Bool
is_of_syntax NotOfSyntax = true
is_of_syntax NoMemory = false

-- nothing is expected, or memory was wanted
abbrev pub Fails : {A : Type 0} → PrepareFault → Option A → Type 0
Fails fault expected = IsNothing (is_of_syntax fault) expected

-- what is expected, or want of memory in its place
abbrev pub Gives : {V A : Type 0} → (V → A) → Result V PrepareFault → Option A → Type 0
Gives view answer expected = AnswersAny view is_of_syntax answer expected
