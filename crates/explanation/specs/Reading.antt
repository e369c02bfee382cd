-- The question that four words ask.
use Rattle.std.specs.Prelude.{ℕ, List, Option, Some}
use Rattle.dir_tree.specs.plain_values.Options.{◌>>=◌}
use Rattle.explanation.specs.Questions.{Question}
use Rattle.explanation.specs.NameWords.{who_of, target_of}
use Rattle.explanation.specs.ItemWords.{item_of}
use Rattle.explanation.specs.PermissionWords.{permission_of}

-- each word says its part, or there is no question
unfoldable pub question_of : List ℕ → List ℕ → List ℕ → List ℕ → Option Question
question_of who target item permission = do
  requester ← who_of who
  name ← target_of target
  protected ← item_of item
  asked ← permission_of permission
  Some (record { who = requester; target = name; item = protected; permission = asked })
