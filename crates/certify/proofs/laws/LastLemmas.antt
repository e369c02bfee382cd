-- Each filter leaves the tuples whose number is at least its own.
use Rattle.std.proofs.Common.{◌≡◌, ℕ, ◌==◌, Bool, true, false, ◌&&◌, List, filter, sym, ap, ◌∙◌}
use Rattle.std.specs.Prelude.{map, nat_le, if◌then◌else◌}
use Rattle.std.specs.List.{list_any, list_all}
use Rattle.dir_tree.proofs.base_laws_proofs.Theorems.{filter-filter}
use Rattle.acdf_filters.specs.Asking.{Asked}
use Rattle.acdf_filters.specs.users.Choices.{greatest, least, is_filled}
use Rattle.acdf_filters.specs.Covering.{covers, is_explicit}
use Rattle.acdf_filters.specs.Filters.{Placed, stays, rank, permits, left_by_users, left_by_item, left_by_permission, left_by_precedence, left_by_class, left_by_explicit, decided}
use Rattle.acdf_filters.proofs.Theorems.{left_by_precedence-greatest, left_by_class-least}
use Rattle.certify.specs.LastFilter.{last_filter_by, last_filter, decisive_tuples}
use Rattle.certify.proofs.ListLemmas.{filter-agree}
use Rattle.certify.proofs.laws.NumberTests.{at_least_1, at_least_2, at_least_3, at_least_4, at_least_5, at_least_6, at_least_all, is_greatest}

-- one test more
one_more : {A : Type 0} (p q test : A → Bool) → ((x : A) → q x ≡ (p x && test x)) → (xs left : List A) → filter p xs ≡ left → filter q xs ≡ filter test left
one_more p q test h xs left e = filter-agree q (λ x. p x && test x) h xs ∙ sym (filter-filter test p xs) ∙ ap (filter test) e

-- what the six tests ask of a tuple
abbrev first : Asked → Placed → Bool
first asked x = stays asked.who.level x.listed.tuple x.ranks

abbrev second : Asked → Placed → Bool
second asked x = covers asked.who.name asked.item x.listed.tuple.items

abbrev third : Asked → Placed → Bool
third asked x = permits asked x.listed.tuple

abbrev fourth : ℕ → Placed → Bool
fourth precedence x = x.listed.tuple.precedence == precedence

abbrev fifth : ℕ → Placed → Bool
fifth class x = rank x.listed.tuple x.ranks == class

abbrev sixth : Asked → Placed → Bool
sixth asked x = is_explicit asked.who.name asked.item x.listed.tuple.items

-- the number of a tuple, whatever the last three filters ask for
abbrev number_of : Asked → ℕ → ℕ → Bool → Placed → ℕ
number_of asked precedence class any x = last_filter_by asked precedence class any x.listed.tuple x.ranks

abbrev at_least : ℕ → Asked → ℕ → ℕ → Bool → List Placed → List Placed
at_least k asked precedence class any xs = filter (λ x. nat_le k (number_of asked precedence class any x)) xs

users-by : (asked : Asked) (precedence class : ℕ) (any : Bool) (xs : List Placed) → at_least 1 asked precedence class any xs ≡ left_by_users asked xs
users-by asked precedence class any xs =
    filter-agree (λ x. nat_le 1 (number_of asked precedence class any x)) (first asked)
    (λ x. at_least_1 (first asked x) (second asked x) (third asked x) (fourth precedence x) (fifth class x) any (sixth asked x)) xs

item-by : (asked : Asked) (precedence class : ℕ) (any : Bool) (xs : List Placed) → at_least 2 asked precedence class any xs ≡ left_by_item asked xs
item-by asked precedence class any xs =
    one_more (λ x. nat_le 1 (number_of asked precedence class any x)) (λ x. nat_le 2 (number_of asked precedence class any x)) (second asked)
    (λ x. at_least_2 (first asked x) (second asked x) (third asked x) (fourth precedence x) (fifth class x) any (sixth asked x)) xs
    (left_by_users asked xs) (users-by asked precedence class any xs)

permission-by : (asked : Asked) (precedence class : ℕ) (any : Bool) (xs : List Placed) → at_least 3 asked precedence class any xs ≡ left_by_permission asked xs
permission-by asked precedence class any xs =
    one_more (λ x. nat_le 2 (number_of asked precedence class any x)) (λ x. nat_le 3 (number_of asked precedence class any x)) (third asked)
    (λ x. at_least_3 (first asked x) (second asked x) (third asked x) (fourth precedence x) (fifth class x) any (sixth asked x)) xs
    (left_by_item asked xs) (item-by asked precedence class any xs)

precedence-by : (asked : Asked) (precedence class : ℕ) (any : Bool) (xs : List Placed)
    → at_least 4 asked precedence class any xs ≡ filter (fourth precedence) (left_by_permission asked xs)
precedence-by asked precedence class any xs =
    one_more (λ x. nat_le 3 (number_of asked precedence class any x)) (λ x. nat_le 4 (number_of asked precedence class any x)) (fourth precedence)
    (λ x. at_least_4 (first asked x) (second asked x) (third asked x) (fourth precedence x) (fifth class x) any (sixth asked x)) xs
    (left_by_permission asked xs) (permission-by asked precedence class any xs)

class-by : (asked : Asked) (precedence class : ℕ) (any : Bool) (xs : List Placed)
    → at_least 5 asked precedence class any xs ≡ filter (fifth class) (filter (fourth precedence) (left_by_permission asked xs))
class-by asked precedence class any xs =
    one_more (λ x. nat_le 4 (number_of asked precedence class any x)) (λ x. nat_le 5 (number_of asked precedence class any x)) (fifth class)
    (λ x. at_least_5 (first asked x) (second asked x) (third asked x) (fourth precedence x) (fifth class x) any (sixth asked x)) xs
    (filter (fourth precedence) (left_by_permission asked xs)) (precedence-by asked precedence class any xs)

explicit-by : (asked : Asked) (precedence class : ℕ) (any : Bool) (xs left : List Placed) → at_least 5 asked precedence class any xs ≡ left
    → at_least 6 asked precedence class any xs ≡ (if any then filter (sixth asked) left else left)
explicit-by asked precedence class true xs left e =
    one_more (λ x. nat_le 5 (number_of asked precedence class true x)) (λ x. nat_le 6 (number_of asked precedence class true x)) (sixth asked)
    (λ x. at_least_6 (first asked x) (second asked x) (third asked x) (fourth precedence x) (fifth class x) (sixth asked x)) xs left e
explicit-by asked precedence class false xs left e =
    filter-agree (λ x. nat_le 6 (number_of asked precedence class false x)) (λ x. nat_le 5 (number_of asked precedence class false x))
    (λ x. at_least_all (first asked x) (second asked x) (third asked x) (fourth precedence x) (fifth class x) (sixth asked x)) xs ∙ e

-- what the last three filters ask for
abbrev top : Asked → List Placed → ℕ
top asked xs = greatest (map (λ y. y.listed.tuple.precedence) (left_by_permission asked xs))

abbrev low : Asked → List Placed → ℕ
low asked xs = least (map (λ y. rank y.listed.tuple y.ranks) (left_by_precedence asked xs))

abbrev any_explicit : Asked → List Placed → Bool
any_explicit asked xs = list_any (sixth asked) (left_by_class asked xs)

-- by these the fourth filter leaves what it leaves, and so does the fifth
left-precedence : (asked : Asked) (xs : List Placed) → at_least 4 asked (top asked xs) (low asked xs) (any_explicit asked xs) xs ≡ left_by_precedence asked xs
left-precedence asked xs =
    precedence-by asked (top asked xs) (low asked xs) (any_explicit asked xs) xs ∙ sym (left_by_precedence-greatest asked xs)

left-class : (asked : Asked) (xs : List Placed) → at_least 5 asked (top asked xs) (low asked xs) (any_explicit asked xs) xs ≡ left_by_class asked xs
left-class asked xs =
    class-by asked (top asked xs) (low asked xs) (any_explicit asked xs) xs
    ∙ ap (filter (fifth (low asked xs))) (sym (left_by_precedence-greatest asked xs))
    ∙ sym (left_by_class-least asked xs)

-- those of each number or more
pub numbered-users : (asked : Asked) (xs : List Placed) → filter (λ x. nat_le 1 (last_filter asked xs x)) xs ≡ left_by_users asked xs
unfolding last_filter
numbered-users asked xs = users-by asked (top asked xs) (low asked xs) (any_explicit asked xs) xs

pub numbered-item : (asked : Asked) (xs : List Placed) → filter (λ x. nat_le 2 (last_filter asked xs x)) xs ≡ left_by_item asked xs
unfolding last_filter
numbered-item asked xs = item-by asked (top asked xs) (low asked xs) (any_explicit asked xs) xs

pub numbered-permission : (asked : Asked) (xs : List Placed) → filter (λ x. nat_le 3 (last_filter asked xs x)) xs ≡ left_by_permission asked xs
unfolding last_filter
numbered-permission asked xs = permission-by asked (top asked xs) (low asked xs) (any_explicit asked xs) xs

pub numbered-precedence : (asked : Asked) (xs : List Placed) → filter (λ x. nat_le 4 (last_filter asked xs x)) xs ≡ left_by_precedence asked xs
unfolding last_filter
numbered-precedence asked xs = left-precedence asked xs

pub numbered-class : (asked : Asked) (xs : List Placed) → filter (λ x. nat_le 5 (last_filter asked xs x)) xs ≡ left_by_class asked xs
unfolding last_filter
numbered-class asked xs = left-class asked xs

pub numbered-explicit : (asked : Asked) (xs : List Placed) → filter (λ x. nat_le 6 (last_filter asked xs x)) xs ≡ left_by_explicit asked xs
unfolding last_filter
numbered-explicit asked xs =
    explicit-by asked (top asked xs) (low asked xs) (any_explicit asked xs) xs (left_by_class asked xs) (left-class asked xs)

-- those of the last number decide
decisive : (asked : Asked) (precedence class : ℕ) (any : Bool) (xs : List Placed)
    → filter (λ x. number_of asked precedence class any x == 6) xs ≡ at_least 6 asked precedence class any xs
decisive asked precedence class any xs =
    filter-agree (λ x. number_of asked precedence class any x == 6) (λ x. nat_le 6 (number_of asked precedence class any x))
    (λ x. is_greatest (first asked x) (second asked x) (third asked x) (fourth precedence x) (fifth class x) any (sixth asked x)) xs

left-decisive : (asked : Asked) (xs : List Placed) → left_by_explicit asked xs ≡ decisive_tuples asked xs
unfolding last_filter
left-decisive asked xs = sym (decisive asked (top asked xs) (low asked xs) (any_explicit asked xs) xs ∙ numbered-explicit asked xs)

pub decided-decisive : (asked : Asked) (xs : List Placed)
    → decided asked xs ≡ (is_filled (decisive_tuples asked xs) && list_all (λ x. x.listed.tuple.grants) (decisive_tuples asked xs))
unfolding decided
decided-decisive asked xs =
    ap (λ (left : List Placed). is_filled left && list_all (λ x. x.listed.tuple.grants) left) (left-decisive asked xs)
