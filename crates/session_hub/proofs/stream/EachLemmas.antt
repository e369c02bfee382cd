-- What holds of each message that is answered.
use Rattle.std.proofs.Common.{◌≡◌, ℕ, zero, suc, Bool, true, false, cond, List, [], ◌∷◌, take, Option, Some, None, refl}
use Rattle.std.specs.List.{AllByRecursion}
use Rattle.session_model.specs.Rules.{Rules, up_to}
use Rattle.session_model.specs.AnsweredMessages.{AnsweredMessage, answered_messages}
use Rattle.session_model.proofs.Theorems.{one_later}

-- a cut one message later
pub up_to_later : (cut : Option ℕ) (message : List ℕ) (messages : List (List ℕ)) → up_to (one_later cut) (message ∷ messages) ≡ message ∷ up_to cut messages
up_to_later None message messages = refl
up_to_later (Some count) message messages = refl

pub up_to_none : (messages : List (List ℕ)) → up_to (Some 0) messages ≡ []
up_to_none [] = refl
up_to_none (message ∷ messages) = refl

module _ {T W : Type 0} (rules : Rules T W) (P : AnsweredMessage T W → Type 0) where
  -- where it holds of the first message, and of the others where the first doesn't close
  pub all_first : (tree : T) (who : W) (message : List ℕ) (messages : List (List ℕ)) → P (record { tree = tree; who = who; message = message })
      → ((rules.answer tree who message).closes ≡ false → AllByRecursion P (answered_messages rules (rules.answer tree who message).tree (rules.answer tree who message).who messages))
      → AllByRecursion P (answered_messages rules tree who (message ∷ messages))
  unfolding answered_messages
  all_first tree who message messages first others = (first, rest (rules.answer tree who message).closes others)
    where
      rest : (closes : Bool) → (closes ≡ false → AllByRecursion P (answered_messages rules (rules.answer tree who message).tree (rules.answer tree who message).who messages))
          → AllByRecursion P (cond closes [] (answered_messages rules (rules.answer tree who message).tree (rules.answer tree who message).who messages))
      rest true others = tt
      rest false others = others refl

  within : (closes : Bool) (all some : List (AnsweredMessage T W)) → (AllByRecursion P all → AllByRecursion P some) → AllByRecursion P (cond closes [] all) → AllByRecursion P (cond closes [] some)
  within true all some fewer others = tt
  within false all some fewer others = fewer others

  -- where it holds of all it does up to a cut
  pub all_cut : (count : ℕ) (tree : T) (who : W) (messages : List (List ℕ)) → AllByRecursion P (answered_messages rules tree who messages)
      → AllByRecursion P (answered_messages rules tree who (take count messages))
  unfolding answered_messages
  all_cut zero tree who [] all = tt
  all_cut zero tree who (message ∷ messages) all = tt
  all_cut (suc count) tree who [] all = tt
  all_cut (suc count) tree who (message ∷ messages) all =
      (all.0, within (rules.answer tree who message).closes _ _ (all_cut count (rules.answer tree who message).tree (rules.answer tree who message).who messages) all.1)
