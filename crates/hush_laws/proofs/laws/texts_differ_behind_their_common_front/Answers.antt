-- The law is proved of the definitions.
use Rattle.std.proofs.Common.{ap, sym, ◌∙◌}
use Rattle.hush_laws.specs.Audits.{first_difference}
use Rattle.hush_laws.proofs.laws.DifferenceLemmas.{first_difference-same, same-from_none, front-same, longer-not_same}
use Rattle.hush_laws.proofs.laws.texts_differ_behind_their_common_front.Goals as goal

pub returns : goal.returns
returns c = record {
  same = λ one other. (same-from_none one other, λ same. ap (first_difference one) (sym same) ∙ first_difference-same one);
  front = front-same;
  longest = longer-not_same;
}
