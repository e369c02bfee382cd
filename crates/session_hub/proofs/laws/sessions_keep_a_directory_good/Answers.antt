use Rattle.op_read.specs.aci_item.Rules.{IsGoodTree}
use Rattle.session_model.specs.Rules.{AnswersKeep}
use Rattle.session_model.proofs.Theorems.{run_claim, replayed_claim, places_claim, replay_places_claim, connection_claim, replay_connection_claim}
use Rattle.session_hub.specs.Answering.{rules}
use Rattle.session_hub.specs.Terms.{Terms}
use Rattle.session_hub.proofs.laws.GoodLemmas.{answers_good}
use Rattle.session_hub.proofs.laws.sessions_keep_a_directory_good.Goals as goal

pub returns : goal.returns
returns c =
    let keeps : (terms : Terms) → AnswersKeep (rules terms) IsGoodTree =
    answers_good c.a_good_tree_stays_good.ensures.deleted c.a_good_tree_stays_good_when_changed.ensures.modified
    c.a_good_tree_stays_good_when_changed.ensures.renamed c.a_good_tree_stays_good.ensures.added in
    record {
      answers = λ terms entries who bytes good. keeps terms entries who bytes good;
      good = λ terms entries steps good. run_claim (rules terms) IsGoodTree (keeps terms) entries steps good;
      replay = λ terms entries events good. replayed_claim (rules terms) IsGoodTree (keeps terms) entries events good;
      places = λ terms number entries steps good. places_claim (rules terms) IsGoodTree (keeps terms) number entries steps good;
      replay_places = λ terms number entries events good. replay_places_claim (rules terms) IsGoodTree (keeps terms) number entries events good;
      messages = λ terms number entries steps good. connection_claim (rules terms) IsGoodTree (keeps terms) number entries steps good;
      replay_messages = λ terms number entries events good. replay_connection_claim (rules terms) IsGoodTree (keeps terms) number entries events good;
    }
