-- Members that the program has written.
use Rattle.std.proofs.Common.{◌≡◌, ℕ, Bool, true, false, List, [], ◌∷◌, ◌++◌, refl, sym, ap, ◌∙◌, append_assoc}
use Rattle.std.proofs.lemmas.List.{append-nil}
use Rattle.std.proofs.lemmas.Grind.{flat_map-append}
use Rattle.gser_tree.specs.Lexemes.{Lexeme, show}
use Rattle.gser_tree.specs.Writing.{text_of, separator, ending, print_choice, print_component, print_members, print_braces, listed, is_first, PutsMembers}

-- the octets of lexemes behind lexemes
pub text_of-append : (one other : List Lexeme) → text_of (one ++ other) ≡ text_of one ++ text_of other
text_of-append one other = flat_map-append show one other

-- two pieces one behind the other
pub put_both : (old middle new : List ℕ) (one other : List Lexeme) → middle ≡ old ++ text_of one → new ≡ middle ++ text_of other
    → new ≡ old ++ text_of (one ++ other)
put_both old middle new one other first second =
    second ∙ ap (λ m. m ++ text_of other) first ∙ append_assoc old (text_of one) (text_of other)
    ∙ ap (λ t. old ++ t) (sym (text_of-append one other))

-- nothing was written
pub PutsMembers-none : (old : List ℕ) (first : Bool) → PutsMembers old old first first []
PutsMembers-none old first = (sym (append-nil old), refl)

-- a member, of which the front came first
pub PutsMembers-one : (old middle new : List ℕ) (first : Bool) (front value : List Lexeme)
    → middle ≡ old ++ text_of (separator first ++ front) → new ≡ middle ++ text_of value
    → PutsMembers old new first false ((front ++ value) ∷ [])
PutsMembers-one old middle new first front value begun rest = (
  put_both old middle new (separator first ++ front) value begun rest
      ∙ ap (λ l. old ++ text_of l) (append_assoc (separator first) front value ∙ ap (λ v. separator first ++ v) (sym (append-nil (front ++ value)))),
  refl,
)

-- a component, of which the name came first
pub PutsMembers-component : (old middle new : List ℕ) (first : Bool) (name : List ℕ) (value : List Lexeme)
    → middle ≡ old ++ text_of (separator first ++ print_component name []) → new ≡ middle ++ text_of value
    → PutsMembers old new first false (print_component name value ∷ [])
PutsMembers-component old middle new first name value begun rest = PutsMembers-one old middle new first (print_component name []) value begun rest

-- a choice, of which the kind came first
pub put_choice : (old middle new kind : List ℕ) (value : List Lexeme) → middle ≡ old ++ text_of (print_choice kind [])
    → new ≡ middle ++ text_of value → new ≡ old ++ text_of (print_choice kind value)
put_choice old middle new kind value begun rest = put_both old middle new (print_choice kind []) value begun rest

listed-append : (first : Bool) (one other : List (List Lexeme)) → listed first (one ++ other) ≡ listed first one ++ listed (is_first first one) other
listed-append first [] other = refl
listed-append first (item ∷ items) other =
    ap (λ l. separator first ++ (item ++ l)) (listed-append false items other ∙ ap (λ b. listed false items ++ listed b other) (behind items))
    ∙ ap (λ l. separator first ++ l) (sym (append_assoc item (listed false items) (listed false other)))
    ∙ sym (append_assoc (separator first) (item ++ listed false items) (listed false other))
  where
    behind : (items : List (List Lexeme)) → is_first false items ≡ false
    behind [] = refl
    behind (item ∷ items) = refl

is_first-append : (first : Bool) (one other : List (List Lexeme)) → is_first first (one ++ other) ≡ is_first (is_first first one) other
is_first-append first [] other = refl
is_first-append first (item ∷ items) [] = refl
is_first-append first (item ∷ items) (next ∷ others) = refl

-- members behind members
pub PutsMembers-append : (old middle new : List ℕ) (first second third : Bool) (one other : List (List Lexeme))
    → PutsMembers old middle first second one → PutsMembers middle new second third other → PutsMembers old new first third (one ++ other)
PutsMembers-append old middle new first second third one other begun rest = (
  put_both old middle new (listed first one) (listed second other) begun.0 rest.0
      ∙ ap (λ b. old ++ text_of (listed first one ++ listed b other)) begun.1
      ∙ ap (λ l. old ++ text_of l) (sym (listed-append first one other)),
  rest.1 ∙ ap (λ b. is_first b other) begun.1 ∙ sym (is_first-append first one other),
)

members-listed : (first : Bool) (items : List (List Lexeme)) → print_members first items ≡ listed first items ++ ending (is_first first items)
members-listed first [] = refl
members-listed first (item ∷ items) =
    ap (λ l. separator first ++ (item ++ l)) (members-listed false items ∙ ap (λ b. listed false items ++ ending b) (behind items))
    ∙ ap (λ l. separator first ++ l) (sym (append_assoc item (listed false items) (ending false)))
    ∙ sym (append_assoc (separator first) (item ++ listed false items) (ending false))
  where
    behind : (items : List (List Lexeme)) → is_first false items ≡ false
    behind [] = refl
    behind (item ∷ items) = refl

-- all members, and then the end of the braces
pub PutsMembers-braces : (old middle new : List ℕ) (next : Bool) (items : List (List Lexeme))
    → PutsMembers old middle true next items → new ≡ middle ++ text_of (ending next) → new ≡ old ++ text_of (print_braces items)
PutsMembers-braces old middle new next items members end =
    put_both old middle new (listed true items) (ending next) members.0 end
    ∙ ap (λ b. old ++ text_of (listed true items ++ ending b)) members.1
    ∙ ap (λ l. old ++ text_of l) (sym (members-listed true items))
