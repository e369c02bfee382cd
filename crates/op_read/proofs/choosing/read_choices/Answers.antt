-- The texts are not none.
use Rattle.std.proofs.Common.{◌∙◌, arith}
use Rattle.std.proofs.lemmas.Result.{IfOk-weaker}
use Rattle.op_read.proofs.choosing.ChoosingLemmas.{chosen-filled}
use Rattle.op_read.proofs.choosing.read_choices.Goals as goal

pub returns-in-len1-up : goal.returns-in-len1-up
returns-in-len1-up c = record {
  ok = IfOk-weaker c.read_texts.result _ _ (λ choices is kind. is kind ∙ chosen-filled c.args.texts.now (omega arith) kind) c.read_texts.ensures.ok;
}
