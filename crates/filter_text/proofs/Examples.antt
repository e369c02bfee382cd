-- What some texts of filters are read as, where others leave the grammar, and how some filters are printed.
use Rattle.std.proofs.Common.{◌≡◌, ℕ, zero, suc, true, List, [], ◌∷◌, ◌++◌, Some, None, refl}
use Rattle.std.specs.Prelude.{codes, Ok, Err, is_ok}
use Rattle.ldap_filter.specs.filter.Filters.{Filter}
use Rattle.ldap_filter.specs.filter.Filters.Filter.{And, Or, Not, Equal, Parts, AtLeast, AtMost, Present, Approx}
use Rattle.ldap_filter.specs.filter.Filters.Filters.{Nil, Cons}
use Rattle.filter_text.specs.Classes.{class_of}
use Rattle.filter_text.specs.Items.{value_of, parts_of, item_of}
use Rattle.filter_text.specs.Faults.{Text, TooDeep}
use Rattle.filter_text.specs.Reading.{step, filter_in}
use Rattle.filter_text.specs.Printing.{print_value, print_filter}

an_equality : filter_in (codes "(cn=a)") ≡ Ok (Equal (codes "cn") (codes "a"))
unfolding filter_in step class_of item_of parts_of value_of
an_equality = refl

an_empty_value : filter_in (codes "(2.5.4.3=)") ≡ Ok (Equal (codes "2.5.4.3") [])
unfolding filter_in step class_of item_of parts_of value_of
an_empty_value = refl

an_escape : filter_in (codes "(o=a\\28\\2aB)") ≡ Ok (Equal (codes "o") (codes "a(*B"))
unfolding filter_in step class_of item_of parts_of value_of
an_escape = refl

at_least : filter_in (codes "(a-1>=x=<)") ≡ Ok (AtLeast (codes "a-1") (codes "x=<"))
unfolding filter_in step class_of item_of parts_of value_of
at_least = refl

at_most : filter_in (codes "(cn<=b)") ≡ Ok (AtMost (codes "cn") (codes "b"))
unfolding filter_in step class_of item_of parts_of value_of
at_most = refl

approx : filter_in (codes "(cn~=\\7E)") ≡ Ok (Approx (codes "cn") (codes "~"))
unfolding filter_in step class_of item_of parts_of value_of
approx = refl

presence : filter_in (codes "(cn=*)") ≡ Ok (Present (codes "cn"))
unfolding filter_in step class_of item_of parts_of value_of
presence = refl

an_initial_part : filter_in (codes "(cn=a*)") ≡ Ok (Parts (codes "cn") (Some (codes "a")) [] None)
unfolding filter_in step class_of item_of parts_of value_of
an_initial_part = refl

a_final_part : filter_in (codes "(cn=*a)") ≡ Ok (Parts (codes "cn") None [] (Some (codes "a")))
unfolding filter_in step class_of item_of parts_of value_of
a_final_part = refl

all_parts : filter_in (codes "(cn=a*b\\00*c*d)") ≡ Ok (Parts (codes "cn") (Some (codes "a")) ((98 ∷ 0 ∷ []) ∷ codes "c" ∷ []) (Some (codes "d")))
unfolding filter_in step class_of item_of parts_of value_of
all_parts = refl

middle_parts : filter_in (codes "(cn=*b*)") ≡ Ok (Parts (codes "cn") None (codes "b" ∷ []) None)
unfolding filter_in step class_of item_of parts_of value_of
middle_parts = refl

no_members : filter_in (codes "(&)") ≡ Ok (And Nil)
unfolding filter_in step class_of item_of parts_of value_of
no_members = refl

nested : filter_in (codes "(|(&(a=1)(b=2))(!(c=*)))") ≡ Ok (Or (Cons (And (Cons (Equal (codes "a") (codes "1")) (Cons (Equal (codes "b") (codes "2")) Nil))) (Cons (Not (Present (codes "c"))) Nil)))
unfolding filter_in step class_of item_of parts_of value_of
nested = refl

-- places of faults
no_octets : filter_in [] ≡ Err (Text 0)
unfolding filter_in
no_octets = refl

no_parenthesis : filter_in (codes "cn=a") ≡ Err (Text 0)
unfolding filter_in step class_of
no_parenthesis = refl

a_space : filter_in (codes "( cn=a)") ≡ Err (Text 1)
unfolding filter_in step class_of
a_space = refl

a_leading_zero : filter_in (codes "(2.05=a)") ≡ Err (Text 4)
unfolding filter_in step class_of
a_leading_zero = refl

one_number : filter_in (codes "(2=a)") ≡ Err (Text 2)
unfolding filter_in step class_of
one_number = refl

an_option : filter_in (codes "(cn;x=a)") ≡ Err (Text 3)
unfolding filter_in step class_of
an_option = refl

half_an_operator : filter_in (codes "(cn>a)") ≡ Err (Text 4)
unfolding filter_in step class_of
half_an_operator = refl

no_end : filter_in (codes "(cn=a") ≡ Err (Text 5)
unfolding filter_in step class_of
no_end = refl

an_asterisk_behind_at_least : filter_in (codes "(cn>=a*)") ≡ Err (Text 6)
unfolding filter_in step class_of
an_asterisk_behind_at_least = refl

two_asterisks : filter_in (codes "(cn=a**b)") ≡ Err (Text 6)
unfolding filter_in step class_of
two_asterisks = refl

no_digit : filter_in (codes "(cn=\\g0)") ≡ Err (Text 5)
unfolding filter_in step class_of
no_digit = refl

one_digit : filter_in (codes "(cn=\\a)") ≡ Err (Text 6)
unfolding filter_in step class_of
one_digit = refl

a_nul : filter_in (codes "(cn=" ++ 0 ∷ 41 ∷ []) ≡ Err (Text 4)
unfolding filter_in step class_of
a_nul = refl

a_negation_of_none : filter_in (codes "(!)") ≡ Err (Text 2)
unfolding filter_in step class_of
a_negation_of_none = refl

a_negation_of_two : filter_in (codes "(!(a=)(b=))") ≡ Err (Text 6)
unfolding filter_in step class_of item_of parts_of value_of
a_negation_of_two = refl

octets_behind_the_end : filter_in (codes "(a=))") ≡ Err (Text 4)
unfolding filter_in step class_of item_of parts_of value_of
octets_behind_the_end = refl

-- negations, one within the other, of a test
negated : ℕ → List ℕ → List ℕ
negated zero text = text
negated (suc count) text = 40 ∷ 33 ∷ (negated count text ++ 41 ∷ [])

-- 64 filters may be open at once, and 65 may not, whatever follows
as_deep_as_may_be : is_ok (filter_in (negated 63 (codes "(a=)"))) ≡ true
unfolding negated filter_in step class_of item_of parts_of value_of
as_deep_as_may_be = refl

too_deep_by_one : filter_in (negated 64 (codes "(a=)")) ≡ Err TooDeep
unfolding negated filter_in step class_of item_of parts_of value_of
too_deep_by_one = refl

-- printed forms
a_printed_value : print_value (97 ∷ 0 ∷ 40 ∷ 195 ∷ []) ≡ codes "a\\00\\28\\c3"
unfolding print_value
a_printed_value = refl

printed_parts : print_filter (Parts (codes "cn") None (codes "b" ∷ codes "*" ∷ []) (Some (codes "c"))) ≡ codes "(cn=*b*\\2a*c)"
unfolding print_value
printed_parts = refl

printed_nesting : print_filter (And (Cons (Not (Present (codes "c"))) (Cons (Or Nil) (Cons (Approx (codes "d") (codes "\\")) Nil)))) ≡ codes "(&(!(c=*))(|)(d~=\\5c))"
unfolding print_value
printed_nesting = refl

printed_equality : print_filter (Equal (codes "cn") (codes "a~(b")) ≡ codes "(cn=a~\\28b)"
unfolding print_value
printed_equality = refl

printed_orders : print_filter (Or (Cons (AtLeast (codes "a") (codes "1")) (Cons (AtMost (codes "a") (10 ∷ [])) Nil))) ≡ codes "(|(a>=1)(a<=\\0a))"
unfolding print_value
printed_orders = refl

-- a filter with each form
every_form : Filter
every_form =
    And (Cons (Equal (codes "a") (codes ")b")) (Cons (AtLeast (codes "a") []) (Cons (AtMost (codes "a") (255 ∷ []))
    (Cons (Approx (codes "a") (codes "b c")) (Cons (Present (codes "2.5.4.3")) (Cons (Or Nil)
    (Cons (Not (Parts (codes "a") (Some (codes "b")) (codes "*" ∷ []) (Some (codes "\\")))) (Cons (Parts (codes "a") None [] (Some (codes "c"))) Nil))))))))

printed_forms : print_filter every_form ≡ codes "(&(a=\\29b)(a>=)(a<=\\ff)(a~=b c)(2.5.4.3=*)(|)(!(a=b*\\2a*\\5c))(a=*c))"
unfolding every_form print_value
printed_forms = refl

read_again : filter_in (print_filter every_form) ≡ Ok every_form
unfolding every_form print_value filter_in step class_of item_of parts_of value_of
read_again = refl
