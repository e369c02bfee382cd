-- The computed frame is the one that the stream has, and no other is.
use Rattle.std.proofs.Common.{sym, subst, ◌∙◌}
use Rattle.ldap_msg.specs.Streams.{IsFrame}
use Rattle.ldap_msg.proofs.framing.OuterLemmas.{frame_sound, frame_complete}
use Rattle.ldap_msg.proofs.framing.frame.Goals as goal

pub returns-clause-found : goal.returns-clause-found
returns-clause-found c = subst (IsFrame c.args.bytes.now) (sym (c.frame.ensures ∙ c.framing.ensures.frame)) (frame_sound c.args.bytes.now)

pub returns-clause-only : goal.returns-clause-only
returns-clause-only c other h = c.frame.ensures ∙ c.framing.ensures.frame ∙ sym (frame_complete c.args.bytes.now other h)
