-- What crates above may cite: words are one command at most.
use Rattle.std.proofs.Common.{◌≡◌, ◌∙◌, ℕ, List, [], ◌∷◌, sym, subst}
use Rattle.std.proofs.lemmas.Option.{same_Some}
use Rattle.command_words.specs.declared.table.CommandName.{CommandName}
use Rattle.command_words.specs.command.Command.{CommandView, IsCommand}
use Rattle.command_words.specs.parser.Asked.{IsAsked}
use Rattle.command_words.proofs.command.Commands.{Named, asked-once, command-named}

-- words are one command at most
pub IsCommand-unique : (words : List (List ℕ)) (one other : CommandView) → IsCommand words one → IsCommand words other → one ≡ other
IsCommand-unique [] one other is is_other = absurd (cc)
IsCommand-unique (first ∷ words) one other is is_other = by (command-named first words one is) (command-named first words other is_other)
  where
    by : Named first words one → Named first words other → one ≡ other
    by own theirs = asked-once own.name words one other own.is (subst (λ (name : CommandName). IsAsked name words other) (same_Some theirs.name own.name (sym theirs.named ∙ own.named)) theirs.is)
