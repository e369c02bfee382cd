-- A tuple may be weighed by what costs least first.
use Rattle.std.proofs.Common.{◌≡◌, ℕ, ◌<◌, Bool, true, false, not, ◌&&◌, ◌||◌, List, [], ◌∷◌, refl, ap, ◌∙◌, arith}
use Rattle.std.specs.Prelude.{cond, nat_lt}
use Rattle.std.proofs.lemmas.Bool.{cond-true, cond-false, lt-ltb, le-ltb}
use Rattle.aci_item.specs.AciTuples.{AciTuple}
use Rattle.acdf_filters.specs.Asking.{Asked}
use Rattle.acdf_filters.specs.users.Choices.{least}
use Rattle.acdf_filters.specs.Covering.{covers}
use Rattle.acdf_filters.specs.Limits.{is_barred}
use Rattle.acdf_filters.specs.Filters.{stays, asks_above, has_permission}
use Rattle.acdf_filters.specs.Standing.{with_one, with_class}
use Rattle.acdf_filters.specs.users.Users.{listed_ranks}
use Rattle.acdf_filters.specs.weighing.Weighing.{passes, alone_at, alone, weighed, with_class_of, with_permission_of, least_class, by_class}
use Rattle.acdf_filters.specs.declared.standing.Standing.{Standing}

-- one of a lower precedence changes nothing
below_seen : (one seen : Standing) → one.precedence < seen.precedence → with_one one seen ≡ seen
below_seen one seen h =
    cond-false (nat_lt seen.precedence one.precedence) one (cond (nat_lt one.precedence seen.precedence) seen (with_class one seen)) (le-ltb seen.precedence one.precedence (omega arith))
    ∙ cond-true (nat_lt one.precedence seen.precedence) seen (with_class one seen) (lt-ltb one.precedence seen.precedence h)

-- the four tests in any order
in_order : (s c h b : Bool) (new seen : Standing) → cond ((s && c) && (h && not b)) new seen ≡ cond h (cond c (cond b seen (cond s new seen)) seen) seen
in_order true true true true new seen = refl
in_order true true true false new seen = refl
in_order true true false true new seen = refl
in_order true true false false new seen = refl
in_order true false true true new seen = refl
in_order true false true false new seen = refl
in_order true false false true new seen = refl
in_order true false false false new seen = refl
in_order false true true true new seen = refl
in_order false true true false new seen = refl
in_order false true false true new seen = refl
in_order false true false false new seen = refl
in_order false false true true new seen = refl
in_order false false true false new seen = refl
in_order false false false true new seen = refl
in_order false false false false new seen = refl

same_both : (b : Bool) (seen : Standing) → cond b seen seen ≡ seen
same_both true seen = refl
same_both false seen = refl

pub weighed-below : (asked : Asked) (seen : Standing) (tuple : AciTuple) (ranks : List ℕ) → tuple.precedence < seen.precedence → weighed asked seen tuple ranks ≡ seen
unfolding weighed
weighed-below asked seen tuple ranks h =
    ap (λ (new : Standing). cond (passes asked tuple ranks) new seen) (below_seen (alone asked tuple ranks) seen h)
    ∙ same_both (passes asked tuple ranks) seen

pub weighed-tests : (asked : Asked) (seen : Standing) (tuple : AciTuple) (ranks : List ℕ) → weighed asked seen tuple ranks ≡ with_permission_of asked seen tuple ranks
unfolding weighed
weighed-tests asked seen tuple ranks =
    in_order (stays asked.who.level tuple ranks) (covers asked.who.name asked.item tuple.items) (has_permission asked.permission tuple) (is_barred asked tuple)
    (with_one (alone asked tuple ranks) seen) seen

-- what the class in which the requester is, if there is one, makes of a tuple
in_none : (g a : Bool) (new seen : Standing) → cond (cond g (false && not a) (false || a)) new seen ≡ cond (g || not a) seen new
in_none true true new seen = refl
in_none true false new seen = refl
in_none false true new seen = refl
in_none false false new seen = refl

in_some : (g a : Bool) (new seen : Standing) → cond (cond g (true && not a) (true || a)) new seen ≡ cond (g && a) seen new
in_some true true new seen = refl
in_some true false new seen = refl
in_some false true new seen = refl
in_some false false new seen = refl

pub with_class_of-least : (asked : Asked) (seen : Standing) (tuple : AciTuple) (ranks : List ℕ)
    → with_class_of asked seen tuple ranks ≡ by_class asked seen tuple (least_class ranks)
with_class_of-least asked seen tuple [] =
    in_none tuple.grants (asks_above asked.who.level tuple) (with_one (alone_at asked tuple (least (listed_ranks tuple.classes))) seen) seen
with_class_of-least asked seen tuple (n ∷ ns) =
    in_some tuple.grants (asks_above asked.who.level tuple) (with_one (alone_at asked tuple (least (n ∷ ns))) seen) seen
