-- As many filters are open as frames stand below the top.
use Rattle.std.proofs.Common.{◌≡◌, ℕ, ◌+◌, Bool, true, false, List, [], ◌∷◌, ◌++◌, length, Option, Some, None, refl, ap, subst, ◌∙◌, arith}
use Rattle.std.specs.Prelude.{◌==◌, cond, IfSome, count_by, if◌then◌else◌, option_and_then}
use Rattle.std.proofs.lemmas.List.Sums.{sum_by-append}
use Rattle.ldap_filter.specs.filter.Filters.{Filter}
use Rattle.filter_text.specs.declared.classes.Class.{Class}
use Rattle.filter_text.specs.declared.classes.Class.TheVariants.{Open, Close}
use Rattle.filter_text.specs.declared.frame.Frame.{Frame}
use Rattle.filter_text.specs.declared.frame.Frame.TheVariants.{Opened}
use Rattle.filter_text.specs.Classes.{class_of}
use Rattle.filter_text.specs.Nesting.{open_in}
use Rattle.filter_text.specs.Reading.{Stack, may_open, closed, with_filter, with_octet, on_top, close_in, step_by, step}
use Rattle.filter_text.proofs.laws.ClassLemmas.{is_open, is_close, open_octet, close_octet}

-- 1 where the test holds
abbrev one_if : Bool → ℕ
one_if b = cond b 1 0

abbrev opened : List ℕ → ℕ
opened text = count_by (λ octet. octet == 40) text

abbrev ended : List ℕ → ℕ
ended text = count_by (λ octet. octet == 41) text

-- the frames below, after the octets
pub record Counted (text : List ℕ) (stack : Stack) : Type 0 where
  pub counted : opened text ≡ ended text + length stack.below

pub counted-open : (text : List ℕ) (stack : Stack) → Counted text stack → open_in text ≡ length stack.below
counted-open text stack c = let e = c.counted in omega (arith, e)

-- the frames after an octet of a class
abbrev Moves : Class → Stack → Stack → Type 0
Moves class stack next = one_if (is_open class) + length stack.below ≡ one_if (is_close class) + length next.below

on_top-moves : (below : List Frame) (found : Option Frame) (next : Stack) → on_top below found ≡ Some next → length below ≡ length next.below
on_top-moves below None next e = absurd cc
on_top-moves below (Some top) next e = subst (λ (s : Option Stack). IfSome s (λ n. length below ≡ length n.below)) e refl

open-moves : (b : Bool) (stack next : Stack) → (if b then Some (record { top = Opened; below = stack.top ∷ stack.below }) else None) ≡ Some next → 1 + length stack.below ≡ 0 + length next.below
open-moves true stack next e = subst (λ (s : Option Stack). IfSome s (λ n. 1 + length stack.below ≡ 0 + length n.below)) e (omega arith)
open-moves false stack next e = absurd cc

close_in-moves : (filter : Filter) (below : List Frame) (next : Stack) → close_in filter below ≡ Some next → 0 + length below ≡ 1 + length next.below
close_in-moves filter [] next e = absurd cc
close_in-moves filter (frame ∷ below) next e = let same = on_top-moves below (with_filter filter frame) next e in omega (arith, same)

close-moves : (found : Option Filter) (below : List Frame) (next : Stack) → option_and_then (λ filter. close_in filter below) found ≡ Some next → 0 + length below ≡ 1 + length next.below
close-moves None below next e = absurd cc
close-moves (Some filter) below next e = close_in-moves filter below next e

octet-moves : (class : Class) (x : ℕ) (stack next : Stack) → on_top stack.below (with_octet class x stack.top) ≡ Some next → 0 + length stack.below ≡ 0 + length next.below
octet-moves class x stack next e = let same = on_top-moves stack.below (with_octet class x stack.top) next e in omega (arith, same)

step_by-moves : (class : Class) (x : ℕ) (stack next : Stack) → step_by class x stack ≡ Some next → Moves class stack next
step_by-moves Open x stack next e = open-moves (may_open stack.top) stack next e
step_by-moves Close x stack next e = close-moves (closed stack.top) stack.below next e
step_by-moves class x stack next e = octet-moves class x stack next e

-- an octet keeps the count
pub step-counted : (x : ℕ) (stack next : Stack) (text : List ℕ) → step x stack ≡ Some next → Counted text stack → Counted (text ++ x ∷ []) next
unfolding step
step-counted x stack next text e c =
    let moves = step_by-moves (class_of x) x stack next e in
    let opens : opened (x ∷ []) ≡ one_if (is_open (class_of x)) = count_one (λ octet. octet == 40) x ∙ ap one_if (open_octet x) in
    let ends : ended (x ∷ []) ≡ one_if (is_close (class_of x)) = count_one (λ octet. octet == 41) x ∙ ap one_if (close_octet x) in
    let before = c.counted in
    let one = sum_by-append (λ (octet : ℕ). cond (octet == 40) 1 0) text (x ∷ []) in
    let two = sum_by-append (λ (octet : ℕ). cond (octet == 41) 1 0) text (x ∷ []) in
    record { counted = omega (arith, one, two, moves, opens, ends, before) }
  where
    count_one : (p : ℕ → Bool) (x : ℕ) → count_by p (x ∷ []) ≡ cond (p x) 1 0
    count_one p x = omega arith
