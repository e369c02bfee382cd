-- The item is that of the question, and the certificate is accepted.
use Rattle.std.proofs.Common.{◌≡◌, List, ℕ, Ok, subst}
use Rattle.std.specs.Prelude.{IfOk}
use Rattle.std.proofs.lemmas.Result.{IfOk-weaker}
use Rattle.dir_tree.specs.tree.Numbered.{entries_of}
use Rattle.acdf_filters.specs.Granted.{granted}
use Rattle.explanation.specs.Questions.{item_asked, question_view}
use Rattle.certify.specs.Certificate.{text_proved}
use Rattle.certify.specs.Verifying.{verified}
use Rattle.certify.proofs.proving.TextLemmas.{same_item}
use Rattle.certify.proofs.proving.AcceptedLemmas.{proved-accepted}
use Rattle.certify.proofs.proving.prove_text.Goals as goal

pub returns : goal.returns
returns g c =
    let entries = entries_of (g.D.Dir.rows c.args.dir.now) in
    let asked = c.args.question.now in
    let made : IfOk c.target_text.result (λ text. text.items ≡ text_proved entries (question_view asked)) =
    subst (λ (whole : List ℕ). IfOk c.target_text.result (λ text. text.items ≡ whole)) (same_item _ _ _ _ _ _ c.item-item.ensures.exact) c.target_text.ensures.ok in
    record {
      ok = made;
      accepted = λ entry known good said. IfOk-weaker c.target_text.result
          (λ text. text.items ≡ text_proved entries (question_view asked))
          (λ text. verified entries text.items ≡ Ok (granted entries asked.who entry (item_asked asked.item) asked.permission))
          (λ text is. proved-accepted entries (question_view asked) entry text.items known good said is) made;
    }
