-- Messages that are answered alike one by one are answered alike in turn.
use Rattle.std.proofs.Common.{◌≡◌, ℕ, Bool, true, false, cond, List, [], ◌∷◌, ◌++◌, Option, Some, None, refl, ap, sym, ◌∙◌, subst}
use Rattle.std.specs.List.{AllByRecursion}
use Rattle.session_model.specs.Rules.{Rules, Answered, talk, said, ending, up_to, after_octets}
use Rattle.session_model.specs.AnsweredMessages.{AreAlike, IsAnsweredAlike, answered_messages}

-- what holds of two lists in a row holds of each
pub all_append : {A : Type 0} (P : A → Type 0) (xs ys : List A) → AllByRecursion P (xs ++ ys) → AllByRecursion P xs × AllByRecursion P ys
all_append P [] ys all = (tt, all)
all_append P (x ∷ xs) ys all = let rest = all_append P xs ys all.1 in ((all.0, rest.0), rest.1)

-- and what holds of each holds of both
pub all_both : {A : Type 0} (P : A → Type 0) (xs ys : List A) → AllByRecursion P xs → AllByRecursion P ys → AllByRecursion P (xs ++ ys)
all_both P [] ys first later = later
all_both P (x ∷ xs) ys first later = (first.0, all_both P xs ys first.1 later)

-- the same answer over another tree
abbrev pub answer_over : {T W : Type 0} → T → Answered T W → Answered T W
answer_over tree a = record a { tree = tree }

-- both of two answers that are alike are the first over their trees
pub AreAlike-over : {T W : Type 0} (one other : T) (a b : Answered T W) → AreAlike one other a b → (a ≡ answer_over one a) × (b ≡ answer_over other a)
AreAlike-over one other a b alike = (
  ap (λ t. answer_over t a) alike.one_stays,
  ap (λ octets. record b { replies = octets }) (sym alike.replies)
      ∙ ap (λ octets. record { replies = a.replies; changes = octets; tree = b.tree; who = b.who; closes = b.closes }) (sym alike.changes)
      ∙ ap (λ w. record { replies = a.replies; changes = a.changes; tree = b.tree; who = w; closes = b.closes }) (sym alike.who)
      ∙ ap (λ c. record { replies = a.replies; changes = a.changes; tree = b.tree; who = a.who; closes = c }) (sym alike.closes)
      ∙ ap (λ t. record { replies = a.replies; changes = a.changes; tree = t; who = a.who; closes = a.closes }) alike.other_stays,
)

-- so what follows from both is alike, where it is over their trees
both_over : {T W : Type 0} (P : Answered T W → Answered T W → Type 0) (one other : T) (a b : Answered T W) → AreAlike one other a b
    → P (answer_over one a) (answer_over other a) → P a b
both_over P one other a b alike holds =
    let is = AreAlike-over one other a b alike in
    subst (λ x. P x b) (sym is.0) (subst (λ y. P (answer_over one a) y) (sym is.1) holds)

module _ {T W : Type 0} (r : Rules T W) (one other : T) where
  pub talk-alike : (w : W) (ms : List (List ℕ)) → AllByRecursion (IsAnsweredAlike r other) (answered_messages r one w ms)
      → AreAlike one other (talk r one w ms) (talk r other w ms)
  unfolding talk answered_messages
  talk-alike w [] all = record { replies = refl; changes = refl; who = refl; closes = refl; one_stays = refl; other_stays = refl }
  talk-alike w (m ∷ ms) all =
      let a = r.answer one w m in
      let b = r.answer other w m in
      let then : Answered T W → Answered T W = λ x. cond x.closes x (after_octets x.replies x.changes (talk r x.tree x.who ms)) in
      both_over (λ x y. AreAlike one other (then x) (then y)) one other a b all.0
      (by_close a.closes (λ rest. talk-alike a.who ms rest)
      (subst (λ x. AllByRecursion (IsAnsweredAlike r other) (cond x.closes [] (answered_messages r x.tree x.who ms))) (AreAlike-over one other a b all.0).0 all.1))
    where
      by_close : (closes : Bool)
          → (let a = r.answer one w m in AllByRecursion (IsAnsweredAlike r other) (answered_messages r one a.who ms) → AreAlike one other (talk r one a.who ms) (talk r other a.who ms))
          → AllByRecursion (IsAnsweredAlike r other) (cond closes [] (answered_messages r one (r.answer one w m).who ms)) →
          let a = r.answer one w m in
          AreAlike one other
          (cond closes (record { replies = a.replies; changes = a.changes; tree = one; who = a.who; closes = closes }) (after_octets a.replies a.changes (talk r one a.who ms)))
          (cond closes (record { replies = a.replies; changes = a.changes; tree = other; who = a.who; closes = closes }) (after_octets a.replies a.changes (talk r other a.who ms)))
      by_close true later rest = record { replies = refl; changes = refl; who = refl; closes = refl; one_stays = refl; other_stays = refl }
      by_close false talks rest =
          let a = r.answer one w m in
          let later = talks rest in
          record {
            replies = ap (λ octets. a.replies ++ octets) later.replies;
            changes = ap (λ octets. a.changes ++ octets) later.changes;
            who = later.who;
            closes = later.closes;
            one_stays = later.one_stays;
            other_stays = later.other_stays;
          }

  -- and so with what ends them
  ending-alike : (cut : Option ℕ) (broken : Bool) (a b : Answered T W) → AreAlike one other a b → AreAlike one other (ending cut broken a) (ending cut broken b)
  ending-alike cut broken a b alike = both_over (λ x y. AreAlike one other (ending cut broken x) (ending cut broken y)) one other a b alike (by_cut cut)
    where
      by_cut : (cut : Option ℕ) → AreAlike one other
          (ending cut broken (record { replies = a.replies; changes = a.changes; tree = one; who = a.who; closes = a.closes }))
          (ending cut broken (record { replies = a.replies; changes = a.changes; tree = other; who = a.who; closes = a.closes }))
      by_cut None = record { replies = refl; changes = refl; who = refl; closes = refl; one_stays = refl; other_stays = refl }
      by_cut (Some count) = record { replies = refl; changes = refl; who = refl; closes = refl; one_stays = refl; other_stays = refl }

  pub said-alike : (w : W) (cut : Option ℕ) (ms : List (List ℕ)) (broken : Bool) → AllByRecursion (IsAnsweredAlike r other) (answered_messages r one w (up_to cut ms))
      → AreAlike one other (said r cut one w ms broken) (said r cut other w ms broken)
  said-alike w cut ms broken all = ending-alike cut broken (talk r one w (up_to cut ms)) (talk r other w (up_to cut ms)) (talk-alike w (up_to cut ms) all)
