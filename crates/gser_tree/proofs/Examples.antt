-- The definitions on known cases.
use Rattle.std.proofs.Common.{◌≡◌, [], ◌∷◌, ◌++◌, refl}
use Rattle.std.specs.Prelude.{codes}
use Rattle.std.specs.Prelude as std
use Rattle.gser_tree.specs.declared.marks.Class.TheVariants.{Letter, Other}
use Rattle.gser_tree.specs.declared.token.Token.TheVariants as token
use Rattle.gser_tree.specs.declared.marks.Mark.TheVariants.{Open, Close, Comma, Colon}
use Rattle.gser_tree.specs.Lexemes.{class_of, show, Quoted}
use Rattle.gser_tree.specs.looking.Shapes.{Shape, Word, Braces, Named, Chosen, None, Some, tokens_of, nest}
use Rattle.gser_tree.specs.TextOf.{part_at}
use Rattle.gser_tree.specs.Growing.{grow, value_of}
use Rattle.gser_tree.specs.Reading.{is_number, at_most, noted}
use Rattle.gser_tree.specs.Writing.{text_of, print_word, print_string, print_component, print_choice, print_braces, print_optional, print_flag, print_filled}

a_hyphen : class_of 45 ≡ Letter
unfolding class_of
a_hyphen = refl

a_tab : class_of 9 ≡ Other
unfolding class_of
a_tab = refl

-- a quotation mark in a string is written twice
a_mark : show (Quoted (codes "a\"b")) ≡ codes "\"a\"\"b\""
a_mark = refl

-- { a b:c }
a_value : Shape
a_value = Braces (Some (Named (part_at 2 (codes "a")) (Chosen (part_at 4 (codes "b")) (Word (part_at 6 (codes "c"))))) None)

its_tokens : tokens_of a_value ≡ token.Sign Open ∷ token.Word (part_at 2 (codes "a")) ∷ token.Word (part_at 4 (codes "b")) ∷ token.Sign Colon
    ∷ token.Word (part_at 6 (codes "c")) ∷ token.Sign Close ∷ []
unfolding a_value
its_tokens = refl

its_nesting : nest a_value ≡ 1
unfolding a_value
its_nesting = refl

its_value : value_of (tokens_of a_value) ≡ std.Some a_value
unfolding a_value value_of grow
its_value = refl

-- a comma ends no braces
no_value : value_of (token.Sign Open ∷ token.Word (part_at 1 (codes "a")) ∷ token.Sign Comma ∷ token.Sign Close ∷ []) ≡ std.None
unfolding value_of grow
no_value = refl

-- numbers
a_zero : is_number (codes "0") ≡ std.true
a_zero = refl

a_leading_zero : is_number (codes "01") ≡ std.false
a_leading_zero = refl

too_much : at_most 255 (codes "256") ≡ std.None
too_much = refl

-- the first bad place stays
the_first_place : noted (std.Some 3) 7 ≡ std.Some 3
the_first_place = refl

-- printed forms
no_members : text_of (print_braces []) ≡ codes "{ }"
no_members = refl

two_members : text_of (print_braces (print_component (codes "a") (print_word (codes "10")) ∷ print_choice (codes "b") (print_string (codes "\"")) ∷ []))
    ≡ codes "{ a 10, b:\"\"\"\" }"
two_members = refl

what_is_present : text_of (print_braces (print_optional (codes "a") std.None ++ print_optional (codes "b") (std.Some (print_word (codes "c")))
    ++ print_flag (codes "d") std.true ++ print_flag (codes "e") std.false)) ≡ codes "{ b c, d NULL }"
what_is_present = refl

no_set : print_optional (codes "a") (print_filled []) ≡ []
no_set = refl
