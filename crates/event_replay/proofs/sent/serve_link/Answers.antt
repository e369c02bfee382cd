-- Stop was heard.
use Rattle.event_replay.proofs.sent.SentLemmas.{sent-link}
use Rattle.event_replay.proofs.sent.serve_link.Goals as goal

pub returns-in-Stopped : goal.returns-in-Stopped
returns-in-Stopped c = record {
  sends = λ events played fresh. sent-link _ _ events _ c.args.link.now c.serve_loop.new.link played fresh c.in-Stopped.ensures.served c.in-Stopped.ensures.plays;
}
