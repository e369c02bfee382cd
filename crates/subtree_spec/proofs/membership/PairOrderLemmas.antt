-- The order of lists that are compared place by place, at the end of one.
use Rattle.std.proofs.Common.{◌≡◌, ℕ, ◌+◌, ◌≤◌, List, [], ◌∷◌, length, drop, ap, ◌∙◌, arith, length-drop, Ordering}
use Rattle.std.specs.Ordering.{nat_cmp}
use Rattle.std.specs.declared.cmp.Ordering.TheVariants.{Less, Equal}
use Rattle.std.specs.Cmp.{nat_cmp_is}
use Rattle.std.specs.Cmp.Lexicographic.{slice_cmp}
use Rattle.std.proofs.lemmas.List.{drop_all}

first_ended : {A : Type 0} (R : A → A → Ordering) (n : ℕ) (ys rest : List A) → length rest + n ≡ length ys → slice_cmp R [] rest ≡ nat_cmp n (length ys)
first_ended R n ys [] e = nat_cmp_is n (length ys) Equal (omega (arith, e))
first_ended R n ys (y ∷ rest) e = nat_cmp_is n (length ys) Less (omega (arith, e))

-- where the first list has ended, the lengths decide
pub slice_cmp-end : {A : Type 0} (R : A → A → Ordering) (xs ys : List A) (i : ℕ) → length xs ≤ i → i ≤ length xs → i ≤ length ys
    → slice_cmp R (drop i xs) (drop i ys) ≡ nat_cmp (length xs) (length ys)
slice_cmp-end R xs ys i past at within =
    ap (λ t. slice_cmp R t (drop i ys)) (drop_all i xs past)
    ∙ first_ended R (length xs) ys (drop i ys) (omega (arith, length-drop i ys))
