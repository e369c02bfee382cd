-- The integer that is computed is the one that the content stands for, and it stands for no other.
use Rattle.std.proofs.Common.{sym, subst, ◌∙◌, ◌≤◌, Option, length}
use Rattle.std.specs.Prelude.{ℤ, IfSome}
use Rattle.ber_elements.specs.Integer.{IsInteger}
use Rattle.ber_elements.proofs.integer.IntegerLemmas.{int_sound, int_complete}
use Rattle.ber_elements.proofs.integer.read_int.Goals as goal

pub returns-clause-found : goal.returns-clause-found
returns-clause-found c =
    subst (λ (o : Option ℤ). IfSome o (λ value. IsInteger c.args.content.now value × (length c.args.content.now ≤ 8)))
    (sym c.integer.ensures) (int_sound c.args.content.now)

pub returns-clause-only : goal.returns-clause-only
returns-clause-only c value h few = c.integer.ensures ∙ int_complete c.args.content.now value h few
