-- A set that is read stands in the order of its members' texts, and no two texts are equal.
use Rattle.std.proofs.Common.{◌≡◌, ℕ, List, [], ◌∷◌, refl, ap, ◌∙◌, subst}
use Rattle.std.specs.Prelude.{Option, Some, None, option_and_then}
use Rattle.std.specs.List.{AllByRecursion}
use Rattle.std.specs.List.Sorted.{IsStrictlySortedBy}
use Rattle.std.specs.Ordering.{match_ordering, ordering_reverse}
use Rattle.std.specs.declared.cmp.Ordering.{Ordering}
use Rattle.std.specs.declared.cmp.Ordering.TheVariants.{Less, Equal, Greater}
use Rattle.std.proofs.lemmas.Cmp.{nat_list_cmp_total}
use Rattle.gser_tree.specs.Lexemes.{Lexeme}
use Rattle.gser_tree.specs.looking.Looking.{members_in}
use Rattle.gser_tree.specs.Reading.{Found, Read, expect, ◌>>=◌}
use Rattle.gser_tree.specs.looking.Shapes.{Shape}
use Rattle.gser_tree.specs.Writing.{text_of}
use Rattle.aci_item.specs.Sets.{by_text, put_member, gather_into}
use Rattle.aci_item.specs.AciText.{sorted_set}

module _ {A : Type 0} (text : A → List ℕ) where
  after : (one other : A) → by_text text one other ≡ Greater → by_text text other one ≡ Less
  after one other h = nat_list_cmp_total.antisymm (text other) (text one) ∙ ap ordering_reverse h

  -- what holds of a member and of others holds of all
  pub put_member-all : (P : A → Type 0) (value : A) (values : List A) → P value → AllByRecursion P values → AllByRecursion P (put_member text value values)
  put_member-all P value [] has all = (has, tt)
  put_member-all P value (first ∷ values) has all = inner (by_text text value first) (put_member-all P value values has all.1)
    where
      inner : (order : Ordering) → AllByRecursion P (put_member text value values)
          → AllByRecursion P (match_ordering order (value ∷ first ∷ values) (first ∷ values) (first ∷ put_member text value values))
      inner Less again = (has, all)
      inner Equal again = all
      inner Greater again = (all.0, again)

  below_all : (value first : A) (values : List A) → by_text text value first ≡ Less → AllByRecursion (λ next. by_text text first next ≡ Less) values
      → AllByRecursion (λ next. by_text text value next ≡ Less) values
  below_all value first [] less all = tt
  below_all value first (next ∷ values) less all =
      (nat_list_cmp_total.trans (text value) (text first) (text next) less all.0, below_all value first values less all.1)

  -- members stay in order
  pub put_member-sorted : (value : A) (values : List A) → IsStrictlySortedBy (by_text text) values → IsStrictlySortedBy (by_text text) (put_member text value values)
  unfolding IsStrictlySortedBy
  put_member-sorted value [] sorted = (tt, tt)
  put_member-sorted value (first ∷ values) sorted = inner (by_text text value first) refl (put_member-sorted value values sorted.1)
    where
      inner : (order : Ordering) → by_text text value first ≡ order → IsStrictlySortedBy (by_text text) (put_member text value values)
          → IsStrictlySortedBy (by_text text) (match_ordering order (value ∷ first ∷ values) (first ∷ values) (first ∷ put_member text value values))
      inner Less is again = ((is, below_all value first values is sorted.0), sorted)
      inner Equal is again = sorted
      inner Greater is again = (put_member-all (λ next. by_text text first next ≡ Less) value values (after value first is) sorted.0, again)

  -- what is gathered is in order
  gathered_sorted : (reader : Shape → Read A) (shapes : List Shape) (seen values : List A) (bad next : Option ℕ) → IsStrictlySortedBy (by_text text) seen
      → gather_into (put_member text) reader seen shapes bad ≡ Some (record { value = values; bad = next }) → IsStrictlySortedBy (by_text text) values
  gathered_sorted reader [] seen values bad next sorted h =
      let Sorted : List A → Type 0 = λ vs. IsStrictlySortedBy (by_text text) vs in
      subst Sorted (same_value (record { value = seen; bad = bad }) (record { value = values; bad = next }) h) sorted
    where
      same_value : (one other : Found (List A)) → Some one ≡ Some other → one.value ≡ other.value
      same_value one other h = let same : one ≡ other = cc in ap (λ (f : Found (List A)). f.value) same
  gathered_sorted reader (shape ∷ shapes) seen values bad next sorted h =
      inner (reader shape bad) (λ found. gathered_sorted reader shapes (put_member text found.value seen) values found.bad next (put_member-sorted found.value seen sorted)) h
    where
      inner : (found : Option (Found A))
          → ((found : Found A) → gather_into (put_member text) reader (put_member text found.value seen) shapes found.bad ≡ Some (record { value = values; bad = next })
          → IsStrictlySortedBy (by_text text) values)
          → option_and_then (λ (f : Found A). gather_into (put_member text) reader (put_member text f.value seen) shapes f.bad) found
          ≡ Some (record { value = values; bad = next }) → IsStrictlySortedBy (by_text text) values
      inner None rest h = cc
      inner (Some found) rest h = rest found h

pub none_sorted : {A : Type 0} (text : A → List ℕ) → IsStrictlySortedBy (by_text text) []
unfolding IsStrictlySortedBy
none_sorted text = tt

-- a set that is read is in order
pub set_is_sorted : {A : Type 0} (print : A → List Lexeme) (reader : Shape → Read A) (shape : Shape) (values : List A) (bad next : Option ℕ)
    → sorted_set print reader shape bad ≡ Some (record { value = values; bad = next })
    → IsStrictlySortedBy (by_text (λ value. text_of (print value))) values
set_is_sorted {A} print reader shape values bad next h = inner (members_in shape) h
  where
    inner : (found : Option (List Shape))
        → (expect found >>= gather_into (put_member (λ value. text_of (print value))) reader []) bad ≡ Some (record { value = values; bad = next })
        → IsStrictlySortedBy (by_text (λ value. text_of (print value))) values
    inner None h = cc
    inner (Some shapes) h = gathered_sorted (λ value. text_of (print value)) reader shapes [] values bad next (none_sorted (λ value. text_of (print value))) h
