-- Steps in two parts: the sessions behind both are those of the later part over what the early part left.
use Rattle.std.proofs.Common.{◌≡◌, ℕ, List, [], ◌∷◌, ◌++◌, refl, sym, ap, ◌∙◌}
use Rattle.std.specs.List.{AllByRecursion}
use Rattle.std.proofs.lemmas.List.{append_assoc}
use Rattle.session_model.specs.Rules.{Rules, AnswersExtend}
use Rattle.session_model.specs.Run.{Sessions, Step, step, run_from}
use Rattle.session_model.specs.AnsweredMessages.{AnsweredMessage, answered_of_step, answered_of_run}
use Rattle.session_model.proofs.Theorems.{all_append, step_extends}

module _ {T W : Type 0} (r : Rules T W) where
  pub run-both : (u : Sessions T W) (early late : List Step) → run_from r u (early ++ late) ≡ run_from r (run_from r u early) late
  unfolding run_from
  run-both u [] late = refl
  run-both u (next ∷ early) late = run-both (step r u next) early late

  pub answered-both : (u : Sessions T W) (early late : List Step)
      → answered_of_run r u (early ++ late) ≡ answered_of_run r u early ++ answered_of_run r (run_from r u early) late
  unfolding run_from answered_of_run
  answered-both u [] late = refl
  answered-both u (next ∷ early) late =
      let following = step r u next in
      ap (λ asked. answered_of_step r u next ++ asked) (answered-both following early late)
      ∙ sym (append_assoc (answered_of_step r u next) (answered_of_run r following early) (answered_of_run r (run_from r following early) late))

  module _ (Allowed : List ℕ → Type 0) (Claim : T → List ℕ → Type 0) (extends : AnswersExtend r Allowed Claim) where
    -- what each answer keeps true of the tree and of all changes so far stays true from any sessions on
    pub run_from_extends : (u : Sessions T W) (steps : List Step) → AllByRecursion (λ asked. Allowed asked.message) (answered_of_run r u steps)
        → Claim u.tree u.changes → Claim (run_from r u steps).tree (run_from r u steps).changes
    unfolding run_from answered_of_run
    run_from_extends u [] all holds = holds
    run_from_extends u (next ∷ steps) all holds =
        let parts = all_append (λ (asked : AnsweredMessage T W). Allowed asked.message) (answered_of_step r u next) (answered_of_run r (step r u next) steps) all in
        run_from_extends (step r u next) steps parts.1 (step_extends r Allowed Claim extends u next parts.0 holds)
