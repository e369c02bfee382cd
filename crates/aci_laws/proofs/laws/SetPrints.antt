-- A printed set is read as it was, where it stands in the order of its members' texts.
use Rattle.std.proofs.Common.{◌≡◌, ℕ, suc, List, [], ◌∷◌, ◌++◌, refl, sym, ap, ◌∙◌, subst, append_assoc}
use Rattle.std.proofs.lemmas.Cmp.{nat_list_cmp_total}
use Rattle.std.proofs.lemmas.List.{append-nil}
use Rattle.std.specs.Prelude.{map, Option, Some}
use Rattle.std.specs.List.{AllByRecursion}
use Rattle.std.specs.List.Sorted.{IsStrictlySortedBy}
use Rattle.std.specs.Ordering.{ordering_reverse}
use Rattle.std.specs.declared.cmp.Ordering.TheVariants.{Less, Greater}
use Rattle.gser_tree.specs.Lexemes.{Lexeme}
use Rattle.gser_tree.specs.Reading.{Read}
use Rattle.gser_tree.specs.looking.Shapes.{Shape}
use Rattle.gser_tree.specs.Writing.{text_of, print_braces, print_filled}
use Rattle.gser_tree.proofs.Theorems.{listed_gathered, AreWritten, IsRead, Prints, PrintsOptional, none_are_written, more_are_written, braces_are_written}
use Rattle.aci_item.specs.AciText.{sorted_set}
use Rattle.aci_laws.specs.GoodItems.{IsSetOf}
use Rattle.aci_item.specs.Sets.{by_text, gather_into, put_member}

module _ {A : Type 0} (text : A → List ℕ) where
  before : (one other : A) → by_text text one other ≡ Less → by_text text other one ≡ Greater
  before one other h = nat_list_cmp_total.antisymm (text other) (text one) ∙ ap ordering_reverse h

  -- a member behind all others
  put_member-last : (seen : List A) (value : A) → AllByRecursion (λ other. by_text text other value ≡ Less) seen
      → put_member text value seen ≡ seen ++ value ∷ []
  put_member-last [] value all = refl
  put_member-last (other ∷ seen) value all =
      rw (before other value all.0) (ap (λ values. other ∷ values) (put_member-last seen value all.1))

  -- the last of members in order
  middle : (P : A → Type 0) (seen : List A) (value : A) (rest : List A) → AllByRecursion P (seen ++ value ∷ rest) → P value
  middle P [] value rest all = all.0
  middle P (other ∷ seen) value rest all = middle P seen value rest all.1

  sorted_last : (seen : List A) (value : A) (rest : List A) → IsStrictlySortedBy (by_text text) (seen ++ value ∷ rest)
      → AllByRecursion (λ other. by_text text other value ≡ Less) seen
  unfolding IsStrictlySortedBy
  sorted_last [] value rest sorted = tt
  sorted_last (other ∷ seen) value rest sorted =
      (middle (λ next. by_text text other next ≡ Less) seen value rest sorted.0, sorted_last seen value rest sorted.1)

  -- the next of members in order goes behind those that have come
  put_member-next : (seen : List A) (value : A) (rest : List A) → IsStrictlySortedBy (by_text text) (seen ++ value ∷ rest)
      → put_member text value seen ≡ seen ++ value ∷ []
  put_member-next seen value rest sorted = put_member-last seen value (sorted_last seen value rest sorted)

  -- members in order, read behind others
  AreInOrder : (Shape → Read A) → List A → List Shape → Type 0
  AreInOrder reader values members = (seen : List A) (bad : Option ℕ) → IsStrictlySortedBy (by_text text) (seen ++ values)
      → gather_into (put_member text) reader seen members bad ≡ Some (record { value = seen ++ values; bad = bad })

  more_in_order : (reader : Shape → Read A) (value : A) (values : List A) (shape : Shape) (members : List Shape) → IsRead reader value shape
      → AreInOrder reader values members → AreInOrder reader (value ∷ values) (shape ∷ members)
  unfolding AreInOrder
  more_in_order reader value values shape members here behind seen bad sorted =
      rw (here bad, put_member-next seen value values sorted)
      (behind (seen ++ value ∷ []) bad (subst (λ (n : List A). IsStrictlySortedBy (by_text text) n) (sym (append_assoc seen (value ∷ []) values)) sorted)
      ∙ ap (λ n. Some (record { value = n; bad = bad })) (append_assoc seen (value ∷ []) values))

  set_is_written : (most : ℕ) (reader : Shape → Read A) (print : A → List Lexeme) (P : A → Type 0)
      → ((value : A) → P value → Prints most reader (print value) value) → (values : List A) → AllByRecursion P values
      → AreWritten most (AreInOrder reader values) (map print values)
  unfolding AreInOrder
  set_is_written most reader print P prints [] good =
      none_are_written most (AreInOrder reader []) (λ seen bad sorted. ap (λ v. Some (record { value = v; bad = bad })) (sym (append-nil seen)))
  set_is_written most reader print P prints (value ∷ values) good =
      more_are_written most (IsRead reader value) (AreInOrder reader values) (AreInOrder reader (value ∷ values)) (print value) (map print values)
      (prints value good.0) (set_is_written most reader print P prints values good.1)
      (λ shape members here behind. more_in_order reader value values shape members here behind)

-- a set in braces
pub set_prints : {A : Type 0} (most : ℕ) (reader : Shape → Read A) (print : A → List Lexeme) (P : A → Type 0)
    → ((value : A) → P value → Prints most reader (print value) value) → (values : List A) → IsSetOf print P values
    → Prints (suc most) (sorted_set print reader) (print_braces (map print values)) values
unfolding AreInOrder
set_prints most reader print P prints values good =
    braces_are_written most (AreInOrder (λ value. text_of (print value)) reader values) (IsRead (sorted_set print reader) values) (map print values)
    (set_is_written (λ value. text_of (print value)) most reader print P prints values good.good)
    (λ members has bad. rw (listed_gathered members) (has [] bad good.sorted))

-- the same, left out where it is empty
pub optional_set_prints : {A : Type 0} (most : ℕ) (reader : Shape → Read A) (print : A → List Lexeme) (P : A → Type 0)
    → ((value : A) → P value → Prints most reader (print value) value) → (values : List A) → IsSetOf print P values
    → PrintsOptional (suc most) [] (sorted_set print reader) (print_filled (map print values)) values
optional_set_prints most reader print P prints [] good = refl
optional_set_prints most reader print P prints (value ∷ values) good = set_prints most reader print P prints (value ∷ values) good
