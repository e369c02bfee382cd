-- Weighing tuples one after the other decides as the six filters do.
use Rattle.std.proofs.Common.{◌≡◌, ℕ, ◌≤◌, ◌==◌, Bool, ◌&&◌, List, [], ◌∷◌, refl, sym, ap, ◌∙◌, arith, map, filter}
use Rattle.std.specs.Prelude.{fold, if◌then◌else◌}
use Rattle.dir_tree.proofs.base_laws_proofs.Theorems.{filter-filter, all_true}
use Rattle.dir_tree.specs.tree.Numbered.{entries_of}
use Rattle.acdf_filters.specs.declared.question.Question.{Question}
use Rattle.acdf_filters.specs.declared.standing.Standing.{Standing}
use Rattle.acdf_filters.specs.Asking.{Asked}
use Rattle.acdf_filters.specs.users.Choices.{greatest, least, is_filled}
use Rattle.acdf_filters.specs.Covering.{covers}
use Rattle.acdf_filters.specs.Filters.{Placed, stays, rank, permits, left_by_permission, left_by_precedence, left_by_class, decided}
use Rattle.acdf_filters.specs.Granted.{placed}
use Rattle.acdf_filters.specs.Standing as generic
use Rattle.acdf_filters.specs.Standing.{initial, standing}
use Rattle.acdf_filters.specs.Tuples.{Listed}
use Rattle.acdf_filters.specs.users.Users.{listed_ranks}
use Rattle.acdf_filters.specs.weighing.Weighing.{passes, weighed, keys_of, asked_of, weighed_for, is_granted}
use Rattle.acdf_filters.proofs.laws.KeyLemmas.{highest-greatest, lowest-least}
use Rattle.acdf_filters.proofs.laws.StandingLaw.{fold-weighed}

-- ranks are at most 3
least-within : (ns : List ℕ) → least ns ≤ 3
least-within [] = omega arith
least-within (n ∷ ns) = let later = least-within ns in omega arith

-- the rank of a tuple is at most 3
rank-within : (x : Placed) → rank x.listed.tuple x.ranks ≤ 3
rank-within x = least-within (if is_filled x.ranks then x.ranks else listed_ranks x.listed.tuple.classes)

-- the fourth filter leaves those whose precedence is the greatest of those that the third leaves
pub left_by_precedence-greatest : (asked : Asked) (xs : List Placed)
    → left_by_precedence asked xs
    ≡ filter (λ x. x.listed.tuple.precedence == greatest (map (λ y. y.listed.tuple.precedence) (left_by_permission asked xs))) (left_by_permission asked xs)
left_by_precedence-greatest asked xs = highest-greatest (λ x. x.listed.tuple.precedence) (left_by_permission asked xs)

-- the fifth those whose rank is the least of those that the fourth leaves
pub left_by_class-least : (asked : Asked) (xs : List Placed)
    → left_by_class asked xs
    ≡ filter (λ x. rank x.listed.tuple x.ranks == least (map (λ y. rank y.listed.tuple y.ranks) (left_by_precedence asked xs))) (left_by_precedence asked xs)
left_by_class-least asked xs =
    lowest-least (λ x. rank x.listed.tuple x.ranks) (left_by_precedence asked xs)
    (all_true (λ x. rank x.listed.tuple x.ranks ≤ 3) rank-within (left_by_precedence asked xs))

-- the tuple passes the first three filters
abbrev passes_all : Asked → Placed → Bool
passes_all asked x = passes asked x.listed.tuple x.ranks

-- the first three filters are one test
left_by_permission-passes : (asked : Asked) (xs : List Placed) → filter (passes_all asked) xs ≡ left_by_permission asked xs
left_by_permission-passes asked xs =
    sym (filter-filter (λ x. permits asked x.listed.tuple) (λ x. stays asked.who.level x.listed.tuple x.ranks && covers asked.who.name asked.item x.listed.tuple.items) xs)
    ∙ ap (filter (λ x. permits asked x.listed.tuple))
    (sym (filter-filter (λ x. covers asked.who.name asked.item x.listed.tuple.items) (λ x. stays asked.who.level x.listed.tuple x.ranks) xs))

-- a tuple is weighed as its keys say
by_keys : (asked : Asked) (seen : Standing) (x : Placed) → weighed asked seen x.listed.tuple x.ranks ≡ generic.weighed (keys_of asked) (passes_all asked) seen x
unfolding weighed
by_keys asked seen x = refl

fold-same : {A B : Type 0} (f g : B → A → B) → ((b : B) (x : A) → f b x ≡ g b x) → (b : B) (xs : List A) → fold f b xs ≡ fold g b xs
fold-same f g h b [] = refl
fold-same f g h b (x ∷ xs) = fold-same f g h (f b x) xs ∙ ap (λ c. fold g c xs) (h b x)

granted_state : (asked : Asked) (xs : List Placed) → is_granted (standing (keys_of asked) (left_by_permission asked xs)) ≡ decided asked xs
unfolding decided
granted_state asked xs = refl

standing-placed : (asked : Asked) (xs : List Placed)
    → fold (λ (seen : Standing) (x : Placed). weighed asked seen x.listed.tuple x.ranks) initial xs ≡ standing (keys_of asked) (left_by_permission asked xs)
standing-placed asked xs =
    fold-same (λ (seen : Standing) (x : Placed). weighed asked seen x.listed.tuple x.ranks) (generic.weighed (keys_of asked) (passes_all asked)) (by_keys asked) initial xs
    ∙ fold-weighed (keys_of asked) (passes_all asked) rank-within xs
    ∙ ap (standing (keys_of asked)) (left_by_permission-passes asked xs)

-- the tuples alone, of which the place says the ranks
fold-placed : (question : Question) (seen : Standing) (xs : List Listed)
    → fold (weighed_for question) seen (map (λ x. x.tuple) xs)
    ≡ fold (λ (seen : Standing) (x : Placed). weighed (asked_of question) seen x.listed.tuple x.ranks) seen (placed (entries_of question.tree.now) question.entry.now question.who.now.name xs)
fold-placed question seen [] = refl
fold-placed question seen (x ∷ xs) = fold-placed question (weighed_for question seen x.tuple) xs

-- the state that tuples leave is that of those that the first three filters leave
pub standing-fold : (question : Question) (xs : List Listed)
    → fold (weighed_for question) initial (map (λ x. x.tuple) xs)
    ≡ standing (keys_of (asked_of question)) (left_by_permission (asked_of question) (placed (entries_of question.tree.now) question.entry.now question.who.now.name xs))
standing-fold question xs =
    fold-placed question initial xs
    ∙ standing-placed (asked_of question) (placed (entries_of question.tree.now) question.entry.now question.who.now.name xs)

-- so it decides
pub decided-fold : (question : Question) (xs : List Listed)
    → is_granted (fold (weighed_for question) initial (map (λ x. x.tuple) xs))
    ≡ decided (asked_of question) (placed (entries_of question.tree.now) question.entry.now question.who.now.name xs)
decided-fold question xs =
    ap is_granted (standing-fold question xs)
    ∙ granted_state (asked_of question) (placed (entries_of question.tree.now) question.entry.now question.who.now.name xs)
