use Rattle.std.proofs.Common.{◌≡◌, ◌++◌, None, Some, ap₂, sym, ◌∙◌, subst}
use Rattle.std.proofs.lemmas.List.{take-append-drop}
use Rattle.dir_tree.specs.tree.Numbered.{entries_of}
use Rattle.hush_watch.specs.NextMessages.{ShowsNext}
use Rattle.hush_watch.specs.Watching.{ShowsMessage}
use Rattle.hush_watch.proofs.OctetLemmas.{leads-none, leads-on, shows-broken, shows-rest, next-completes, none-completes, less-left}
use Rattle.hush_watch.proofs.watch.Watch.watch_octets.Goals as goal

-- all octets are left
pub loop-next-init : goal.loop-next-init
loop-next-init c = leads-none c.args.self.now.number c.args.self.now.top.now (entries_of c.args.self.now.before.now) c.args.conn c.args.octets.now c.args.watched.now

-- less is left behind a message
pub loop-next-smaller : goal.loop-next-smaller
loop-next-smaller c =
    less-left c.args.self.now.number c.args.self.now.top.now (entries_of c.args.self.now.before.now) c.args.conn c.args.octets.now c.loop-next.rest.now c.split_at.result.1.now c.in-Some.next c.args.watched.now c.loop-next.watched
    c.requires c.loop-next.invariant (subst (ShowsNext c.args.conn c.loop-next.rest.now c.loop-next.watched) c.in-Some.is c.in_ok-next.ensures.ok) c.split_at.ensures.back

-- nothing is broken behind the message
pub loop-next-preserved : goal.loop-next-preserved
loop-next-preserved c =
    let joins : c.loop-next.rest.now ≡ c.split_at.result.0.now ++ c.split_at.result.1.now =
    sym (take-append-drop c.in-Some.next.count c.loop-next.rest.now) ∙ sym (ap₂ (λ front behind. front ++ behind) c.split_at.ensures.front c.split_at.ensures.back) in
    leads-on c.args.self.now.number c.args.self.now.top.now (entries_of c.args.self.now.before.now) c.args.conn c.args.octets.now c.loop-next.rest.now c.split_at.result.0.now c.split_at.result.1.now c.in-Some.next.octets
    c.args.watched.now c.loop-next.watched c.watch_message.new.watched joins c.loop-next.invariant
    (next-completes c.args.self.now.number c.args.self.now.top.now (entries_of c.args.self.now.before.now) c.args.conn c.loop-next.rest.now c.split_at.result.0.now c.in-Some.next c.loop-next.watched
    (subst (ShowsNext c.args.conn c.loop-next.rest.now c.loop-next.watched) c.in-Some.is c.in_ok-next.ensures.ok) c.split_at.ensures.front)
    (subst (λ octets. ShowsMessage c.args.self.now.number c.args.self.now.top.now (entries_of c.args.self.now.before.now) c.args.conn c.split_at.result.0.now octets c.loop-next.watched None c.watch_message.new.watched) c.as_slice.ensures.exact
    (subst (λ part. ShowsMessage c.args.self.now.number c.args.self.now.top.now (entries_of c.args.self.now.before.now) c.args.conn c.split_at.result.0.now c.as_slice.result.now c.loop-next.watched part c.watch_message.new.watched) c.in_default-2.is
    c.in_ok-part.ensures.ok))

-- something is broken behind it
pub returns-in-Some-2 : goal.returns-in-Some-2
returns-in-Some-2 c =
    let joins : c.loop-next.rest.now ≡ c.split_at.result.0.now ++ c.split_at.result.1.now =
    sym (take-append-drop c.in-Some.next.count c.loop-next.rest.now) ∙ sym (ap₂ (λ front behind. front ++ behind) c.split_at.ensures.front c.split_at.ensures.back) in
    record {
      ok =
          shows-broken c.args.self.now.number c.args.self.now.top.now (entries_of c.args.self.now.before.now) c.args.conn c.args.octets.now c.loop-next.rest.now c.split_at.result.0.now c.split_at.result.1.now c.in-Some.next.octets
          c.args.watched.now c.loop-next.watched c.watch_message.new.watched c.in-Some-2.part joins c.loop-next.invariant
          (next-completes c.args.self.now.number c.args.self.now.top.now (entries_of c.args.self.now.before.now) c.args.conn c.loop-next.rest.now c.split_at.result.0.now c.in-Some.next c.loop-next.watched
          (subst (ShowsNext c.args.conn c.loop-next.rest.now c.loop-next.watched) c.in-Some.is c.in_ok-next.ensures.ok) c.split_at.ensures.front)
          (subst (λ octets. ShowsMessage c.args.self.now.number c.args.self.now.top.now (entries_of c.args.self.now.before.now) c.args.conn c.split_at.result.0.now octets c.loop-next.watched (Some c.in-Some-2.part) c.watch_message.new.watched) c.as_slice.ensures.exact
          (subst (λ part. ShowsMessage c.args.self.now.number c.args.self.now.top.now (entries_of c.args.self.now.before.now) c.args.conn c.split_at.result.0.now c.as_slice.result.now c.loop-next.watched part c.watch_message.new.watched) c.in-Some-2.is
          c.in_ok-part.ensures.ok));
    }

-- what is left completes no message
pub returns : goal.returns
returns c = record {
  ok =
      shows-rest c.args.self.now.number c.args.self.now.top.now (entries_of c.args.self.now.before.now) c.args.conn c.args.octets.now c.loop-next.rest.now c.args.watched.now c.loop-next.watched c.hear.new.self c.loop-next.invariant
      (none-completes c.args.self.now.number c.args.self.now.top.now (entries_of c.args.self.now.before.now) c.args.conn c.loop-next.rest.now c.loop-next.watched
      (subst (ShowsNext c.args.conn c.loop-next.rest.now c.loop-next.watched) c.in_default.is c.in_ok-next.ensures.ok))
      c.in_ok-hear.ensures.ok;
}
