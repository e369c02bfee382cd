-- Printed sets, and what the calls of the program wrote of them.
use Rattle.std.proofs.Common.{◌≡◌, ℕ, ◌<◌, ◌≤◌, ◌+◌, Bool, true, false, cond, List, [], ◌∷◌, ◌++◌, length, take, get_or, refl, sym, ap, subst, ◌∙◌, eqb-true, add-one, arith}
use Rattle.std.proofs.Math.Seq.{take-suc}
use Rattle.std.proofs.lemmas.List.{map-append, take_all}
use Rattle.std.proofs.lemmas.List.Elements.{filter-append}
use Rattle.std.proofs.lemmas.Simd.{map-map}
use Rattle.std.specs.Prelude.{filter, map, ◌==◌, if◌then◌else◌}
use Rattle.gser_tree.specs.Lexemes.{Lexeme}
use Rattle.gser_tree.specs.Writing.{text_of, print_braces, print_component, print_filled, print_optional, print_word, separator, ending, PutsMembers}
use Rattle.gser_tree.proofs.Theorems.{PutsMembers-none, PutsMembers-component, PutsMembers-append, PutsMembers-braces}
use Rattle.aci_item.specs.declared.bits.Row.{Row}
use Rattle.aci_item.specs.ItemPrinted.{bit_name, print_bits}
use Rattle.aci_item.specs.Permission.{Bit, all_bits, has_bit, in_order, is_among}
use Rattle.aci_item.specs.Rows.{named_bit, row_of}

-- all members of a set, and the end of the braces
pub put_members : {A : Type 0} (print : A → List Lexeme) (old middle new : List ℕ) (next : Bool) (values : List A) (count : ℕ) → length values ≤ count
    → PutsMembers old middle true next (map print (take count values)) → new ≡ middle ++ text_of (ending next)
    → new ≡ old ++ text_of (print_braces (map print values))
put_members print old middle new next values count all begun end =
    PutsMembers-braces old middle new next (map print values)
    (subst (λ (items : List (List Lexeme)). PutsMembers old middle true next items) (ap (map print) (take_all count values all)) begun) end

-- the same of values as they are seen
pub put_viewed : {V A : Type 0} (view : V → A) (print : A → List Lexeme) (old middle new : List ℕ) (next : Bool) (values : List V) (count : ℕ)
    → length values ≤ count → PutsMembers old middle true next (map (λ value. print (view value)) (take count values))
    → new ≡ middle ++ text_of (ending next) → new ≡ old ++ text_of (print_braces (map print (map view values)))
put_viewed view print old middle new next values count all begun end =
    put_members (λ value. print (view value)) old middle new next values count all begun end
    ∙ ap (λ items. old ++ text_of (print_braces items)) (sym (map-map print view values))

-- a set that is not empty
pub put_filled : (old middle new : List ℕ) (first : Bool) (name : List ℕ) (items : List (List Lexeme)) (none : Bool) → none ≡ (length items == 0)
    → none ≡ false → middle ≡ old ++ text_of (separator first ++ print_component name []) → new ≡ middle ++ text_of (print_braces items)
    → PutsMembers old new first false (print_optional name (print_filled items))
put_filled old middle new first name [] none is some begun rest = cc
put_filled old middle new first name (item ∷ items) none is some begun rest =
    PutsMembers-component old middle new first name (print_braces (item ∷ items)) begun rest

-- a set that is empty
pub put_nothing : (old : List ℕ) (first : Bool) (name : List ℕ) (items : List (List Lexeme)) (none : Bool) → none ≡ (length items == 0)
    → none ≡ true → PutsMembers old old first first (print_optional name (print_filled items))
put_nothing old first name [] none is empty = PutsMembers-none old first
put_nothing old first name (item ∷ items) none is empty =
    absurd (let count : length (item ∷ items) ≡ 0 = eqb-true (length (item ∷ items)) 0 (sym is ∙ empty) in omega arith)

-- two components one behind the other
pub put_pair : (old one two three new : List ℕ) (first : Bool) (name other : List ℕ) (value last : List Lexeme)
    → one ≡ old ++ text_of (separator first ++ print_component name []) → two ≡ one ++ text_of value
    → three ≡ two ++ text_of (separator false ++ print_component other []) → new ≡ three ++ text_of last
    → PutsMembers old new first false (print_component name value ∷ print_component other last ∷ [])
put_pair old one two three new first name other value last begun here next rest =
    PutsMembers-append old two new first false false (print_component name value ∷ []) (print_component other last ∷ [])
    (PutsMembers-component old one two first name value begun here) (PutsMembers-component two three new false other last next rest)

-- the same in braces
pub put_braced_pair : (old one two three four new name other : List ℕ) (value last : List Lexeme)
    → one ≡ old ++ text_of (separator true ++ print_component name []) → two ≡ one ++ text_of value
    → three ≡ two ++ text_of (separator false ++ print_component other []) → four ≡ three ++ text_of last → new ≡ four ++ text_of (ending false)
    → new ≡ old ++ text_of (print_braces (print_component name value ∷ print_component other last ∷ []))
put_braced_pair old one two three four new name other value last begun here next rest end =
    PutsMembers-braces old four new false (print_component name value ∷ print_component other last ∷ [])
    (put_pair old one two three four true name other value last begun here next rest) end

-- the members that pass a test, with one more that is written where it passes
pub put_tested : {A : Type 0} (test : A → Bool) (print : A → List Lexeme) (old before new : List ℕ) (first second third : Bool) (values : List A) (index : ℕ)
    (value : A) (here : Bool) → index < length values → value ≡ get_or values index value → here ≡ test value
    → PutsMembers old before first second (map print (filter test (take index values)))
    → PutsMembers before new second third (if here then print value ∷ [] else [])
    → PutsMembers old new first third (map print (filter test (take (index + 1) values)))
put_tested test print old before new first second third values index value here within is passes begun rest =
    subst (λ (items : List (List Lexeme)). PutsMembers old new first third items) (sym same)
    (PutsMembers-append old before new first second third (map print (filter test (take index values))) (if here then print value ∷ [] else []) begun rest)
  where
    one : (b : Bool) → map print (cond b (value ∷ []) []) ≡ (if b then print value ∷ [] else [])
    one true = refl
    one false = refl

    same : map print (filter test (take (index + 1) values)) ≡ map print (filter test (take index values)) ++ (if here then print value ∷ [] else [])
    same =
        ap (λ count. map print (filter test (take count values))) (add-one index)
        ∙ ap (λ values. map print (filter test values)) (take-suc values index value within)
        ∙ ap (λ last. map print (filter test (take index values ++ last ∷ []))) (sym is)
        ∙ ap (map print) (filter-append test (take index values) (value ∷ []))
        ∙ map-append print (filter test (take index values)) (filter test (value ∷ []))
        ∙ ap (λ l. map print (filter test (take index values)) ++ l) (one (test value) ∙ ap (λ b. if b then print value ∷ [] else []) (sym passes))

-- what passes a test by a view, printed by the view
pub print_tested : {A B : Type 0} (view : A → B) (test : B → Bool) (print : B → List Lexeme) (values : List A)
    → map (λ value. print (view value)) (filter (λ value. test (view value)) values) ≡ map print (filter test (map view values))
print_tested view test print [] = refl
print_tested view test print (value ∷ values) =
    elim (test (view value)) as (λ b. map (λ value. print (view value)) (cond b (value ∷ filter (λ value. test (view value)) values) (filter (λ value. test (view value)) values))
    ≡ map print (cond b (view value ∷ filter test (map view values)) (filter test (map view values))))
    [ true ↦ ap (λ rest. print (view value) ∷ rest) (print_tested view test print values) | false ↦ print_tested view test print values ]

-- the bits of all rows, and the end of the braces
pub put_rows : (old middle new : List ℕ) (next : Bool) (rows : List Row) (count : ℕ) (bits : List Bit) → length rows ≤ count
    → map row_of rows ≡ map named_bit all_bits → in_order bits ≡ bits
    → PutsMembers old middle true next (map (λ row. print_word row.name.now) (filter (λ row. has_bit row.permission row.grants bits) (take count rows)))
    → new ≡ middle ++ text_of (ending next) → new ≡ old ++ text_of (print_bits bits)
put_rows old middle new next rows count bits all table ordered begun end =
    let print : List ℕ × Bit → List Lexeme = λ pair. print_word pair.0 in
    let test : List ℕ × Bit → Bool = λ pair. is_among bits pair.1 in
    let same : map (λ (row : Row). print_word row.name.now) (filter (λ (row : Row). has_bit row.permission row.grants bits) (take count rows))
    ≡ map (λ bit. print_word (bit_name bit)) bits =
    ap (λ (rows : List Row). map (λ (row : Row). print_word row.name.now) (filter (λ (row : Row). has_bit row.permission row.grants bits) rows)) (take_all count rows all)
    ∙ print_tested row_of test print rows
    ∙ ap (λ pairs. map print (filter test pairs)) table
    ∙ sym (print_tested named_bit test print all_bits)
    ∙ ap (map (λ bit. print_word (bit_name bit))) ordered in
    PutsMembers-braces old middle new next (map (λ bit. print_word (bit_name bit)) bits)
    (subst (λ (items : List (List Lexeme)). PutsMembers old middle true next items) same begun) end
