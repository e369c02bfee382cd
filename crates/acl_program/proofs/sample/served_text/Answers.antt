use Rattle.std.proofs.Common.{◌≡◌, ◌∙◌, length, subst, ap}
use Rattle.std.specs.Prelude.{IfOk, string_bytes}
use Rattle.acl_program.proofs.sample.SampleLemmas.{summary_is}
use Rattle.acl_program.proofs.sample.served_text.Goals as goal

-- the connection was served
pub returns : goal.returns
returns c =
    record { sends = λ count fresh. subst (λ words. IfOk c.summary.result (λ text. string_bytes text ≡ words)) (summary_is _ _ c.args.dir count (c.len-entries.ensures.exact ∙ ap length c.tree.ensures.exact) (c.said_of.ensures.exact ∙ c.in_ok-serve_link.ensures.sends _ fresh)) c.summary.ensures }
