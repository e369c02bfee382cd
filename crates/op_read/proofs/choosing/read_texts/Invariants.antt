-- The texts so far were read.
use Rattle.std.proofs.Common.{◌≡◌, ℕ, take}
use Rattle.std.specs.List.{list_any}
use Rattle.page_core.specs.read_model.Choosing.{is_chosen_by}
use Rattle.op_read.specs.Choices.{chooses}
use Rattle.op_read.proofs.choosing.read_texts.Given as goal

abbrev pub invariant-loop-text : goal.invariant-loop-text
invariant-loop-text l =
    (kind : ℕ) → list_any (chooses kind) l.choices.items ≡ list_any (is_chosen_by kind) (take l.text-index l.texts)
