-- Calls of a loop, one after another.
use Rattle.std.proofs.Common.{◌≡◌, ◌||◌, ◌≤◌, ◌<◌, ◌⊎◌, inl, inr, ℕ, List, [], ◌∷◌, ◌++◌, Option, Some, Result, Ok, Err, OnErr, refl, ap, ap₂, sym, ◌∙◌, subst, append_assoc, append-nil, arith}
use Rattle.dir_tree.specs.plain_values.Counts.{NeverFalls, Rose, last_count}
use Rattle.session_model.specs.wire_io.declared.journal.Item.{Item}
use Rattle.session_model.specs.wire_io.Journal.{heard, was_stopped}
use Rattle.session_model.specs.wire_io.link.Telling.{noted}
use Rattle.session_model.specs.wire_io.link.Plan.{Plan}
use Rattle.session_model.proofs.wire_io_proofs.Theorems.{heard-append}
use Rattle.session_model.specs.Journaled.{all_taken}
use Rattle.session_model.proofs.Theorems.{all_taken-both}
use Rattle.session_hub.specs.Adding.{AddsItems, IsBlock}

-- what is said of two lists of items in turn
pub was_stopped-both : (j k : List Item) → was_stopped (j ++ k) ≡ (was_stopped j || was_stopped k)
unfolding was_stopped
was_stopped-both [] k = refl
was_stopped-both (i ∷ j) k = grind (arith, was_stopped-both j k)

pub block_none : (plan : Option Plan) → IsBlock plan []
unfolding heard was_stopped all_taken
block_none plan = record { events = refl; stops = refl; taken = λ _ _ _ _. refl }

pub block_both : (plan : Option Plan) (j k : List Item) → IsBlock plan j → IsBlock plan k → IsBlock plan (j ++ k)
block_both plan j k p q =
    record {
      events = heard-append j k ∙ ap₂ (λ x y. x ++ y) p.events q.events;
      stops = was_stopped-both j k ∙ grind (arith, p.stops, q.stops);
      taken = λ known is later gone. all_taken-both j k ∙ grind (arith, p.taken known is later gone, q.taken known is later gone);
    }

-- nothing is added
pub adds_nothing : (plan : Option Plan) (P Q : List Item → Type 0) (before after : Option (List Item)) → after ≡ before → ((added : List Item) → P added → Q added) → AddsItems plan P Q before after
unfolding AddsItems
adds_nothing plan P Q before after same leads begun added is = (
  [],
  same ∙ is ∙ ap (λ x. Some (begun ++ x)) (sym (append-nil added)),
  block_none plan,
  λ holds. subst Q (sym (append-nil added)) (leads added holds),
)

-- one item is added
pub adds_one : (plan : Option Plan) (P Q : List Item → Type 0) (before after : Option (List Item)) (i : Item) → after ≡ noted before i → IsBlock plan (i ∷ []) →
    ((added : List Item) → P added → Q (added ++ i ∷ [])) → AddsItems plan P Q before after
unfolding AddsItems
adds_one plan P Q before after i is_noted block leads begun added is = (
  i ∷ [],
  is_noted ∙ ap (λ x. noted x i) is ∙ ap (λ x. Some x) (append_assoc begun added (i ∷ [])),
  block,
  λ holds. leads added holds,
)

-- one call after another
pub adds_then : (plan : Option Plan) (P Q R : List Item → Type 0) (a b c : Option (List Item)) → AddsItems plan P Q a b → AddsItems plan Q R b c → AddsItems plan P R a c
unfolding AddsItems
adds_then plan P Q R a b c first second begun added is =
    let x = first begun added is in
    let y = second begun (added ++ x.0) x.1 in (
      x.0 ++ y.0,
      y.1 ∙ ap (λ z. Some (begun ++ z)) (append_assoc added x.0 y.0),
      block_both plan x.0 y.0 x.2 y.2,
      λ holds. subst R (append_assoc added x.0 y.0) (y.3 (x.3 holds)),
    )

-- one call after another that left the plan
pub adds_after : (plan now : Option Plan) (P Q R : List Item → Type 0) (a b c : Option (List Item)) → now ≡ plan → AddsItems plan P Q a b → AddsItems now Q R b c → AddsItems plan P R a c
adds_after plan now P Q R a b c same first second = adds_then plan P Q R a b c first (subst (λ p. AddsItems p Q R b c) same second)

-- what holds may be weakened at both ends
pub adds_as : (plan : Option Plan) (P P' Q Q' : List Item → Type 0) (a b : Option (List Item)) → ((added : List Item) → P' added → P added) → ((added : List Item) → Q added → Q' added) →
    AddsItems plan P Q a b → AddsItems plan P' Q' a b
unfolding AddsItems
adds_as plan P P' Q Q' a b first last adds begun added is =
    let x = adds begun added is in (x.0, x.1, x.2, λ holds. last (added ++ x.0) (x.3 (first added holds)))

-- a count that rose last rose over all
pub rose_after : {first before after : ℕ} → NeverFalls first before → Rose before after → Rose first after
rose_after {first = first} {before = before} {after = after} kept rise = record { never_falls = omega (arith, kept.never_falls, rise.never_falls); rose = over kept.never_falls rise.rose }
  where
    over : first ≤ before → (before < after) ⊎ (last_count ≤ after) → (first < after) ⊎ (last_count ≤ after)
    over below (inl above) = inl (omega arith)
    over below (inr last) = inr last

pub wants_after : {X E : Type 0} {first before : ℕ} (after : ℕ) (result : Result X E) → NeverFalls first before → OnErr result (Rose before after) → OnErr result (Rose first after)
wants_after after (Ok value) kept wants = tt
wants_after after (Err fault) kept wants = rose_after kept wants
