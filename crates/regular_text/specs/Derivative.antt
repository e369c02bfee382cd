-- What may follow the first octet of a grammar's texts: the derivative of a regular expression
-- (Brzozowski, Derivatives of Regular Expressions, 1964, definition 3.1 and theorem 3.1).
use Rattle.std.specs.Prelude.{Bool, true, false, ◌&&◌, ◌||◌, if◌then◌else◌}
use Rattle.regular_text.specs.Grammar.{Grammar}
use Rattle.regular_text.specs.Grammar.Grammar.{Never, Nothing, One, Either, Then, Many}

-- the empty text is in the grammar
abbrev pub has_empty : {K : Type 0} → Grammar K → Bool
has_empty Never = false
has_empty Nothing = true
has_empty (One test) = false
has_empty (Either left right) = has_empty left || has_empty right
has_empty (Then first second) = has_empty first && has_empty second
has_empty (Many part) = true

-- Either, without an alternative that no text matches
abbrev pub either : {K : Type 0} → Grammar K → Grammar K → Grammar K
either Never right = right
either left Never = left
either left right = Either left right

-- Then, without a part that no text matches, or that the empty text alone matches
abbrev pub then_next : {K : Type 0} → Grammar K → Grammar K → Grammar K
then_next Never second = Never
then_next Nothing second = second
then_next first second = Then first second

-- what may follow a first octet of the class
abbrev pub after : {K : Type 0} → K → Grammar K → Grammar K
after class Never = Never
after class Nothing = Never
after class (One test) = if test class then Nothing else Never
after class (Either left right) = either (after class left) (after class right)
after class (Then first second) =
    if has_empty first then either (then_next (after class first) second) (after class second) else then_next (after class first) second
after class (Many part) = then_next (after class part) (Many part)
