-- The replies are the same, and so do not differ.
use Rattle.std.proofs.Common.{◌≡◌, ap, sym, ◌∙◌}
use Rattle.session_hub.specs.session_model.Run.{Session}
use Rattle.session_hub.specs.session_model.Purging.{purged}
use Rattle.session_hub.specs.Parties.{Requester}
use Rattle.hush_laws.specs.Audits.{first_difference, reply_to}
use Rattle.hush_laws.proofs.laws.DifferenceLemmas.{first_difference-same}
use Rattle.hush_laws.proofs.laws.an_audit_finds_no_difference_under_a_hush.Goals as goal

pub returns : goal.returns
returns c = record {
  exact = λ terms entries events number top audited good once is none.
      let same = c.what_is_hushed_does_not_show.ensures.replay terms entries events number top good once (sym is.fault ∙ none) in
      let replies : reply_to terms entries events number ≡ reply_to terms entries (purged number events) number = ap (λ (session : Session Requester). session.reply) same in
      is.differs ∙ ap (λ reply. first_difference (reply_to terms entries events number) reply) (sym replies)
      ∙ first_difference-same (reply_to terms entries events number);
}
