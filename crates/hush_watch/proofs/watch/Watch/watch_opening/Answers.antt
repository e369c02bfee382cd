use Rattle.std.proofs.Common.{sym, ◌∙◌}
use Rattle.dir_tree.specs.tree.Numbered.{entries_of}
use Rattle.hush_watch.proofs.HubLemmas.{room-held, if_ok-map}
use Rattle.hush_watch.proofs.WatchLemmas.{shows-opened_other, shows-turned_at, shows-greeted_at}
use Rattle.hush_watch.proofs.watch.Watch.watch_opening.Goals as goal

-- another connection opens
pub returns-then-conn-self : goal.returns-then-conn-self
returns-then-conn-self c = record {
  ok = shows-opened_other c.args.self.now.number c.args.self.now.top.now (entries_of c.args.self.now.before.now) c.args.conn c.args.watched.now c.hear.new.self c.if-conn-self.true c.in_ok-hear.ensures.ok;
}

-- the watched one finds room
pub returns-then-has_room : goal.returns-then-has_room
returns-then-has_room c = record {
  ok =
      if_ok-map _ _ c.look_where.result
      (λ part looked. shows-greeted_at c.args.self.now.number c.args.self.now.top.now (entries_of c.args.self.now.before.now) c.args.conn c.args.watched.now c.hear.new.self part c.if-conn-self.false c.in_ok-hear.ensures.ok
      (λ u holds. room-held u c.args.watched.now holds ∙ sym c.has_room-has_room.ensures.exact ∙ c.if-has_room.true) looked)
      c.look_where.ensures.ok;
}

-- or none
pub returns-else-has_room : goal.returns-else-has_room
returns-else-has_room c = record {
  ok =
      shows-turned_at c.args.self.now.number c.args.self.now.top.now (entries_of c.args.self.now.before.now) c.args.conn c.args.watched.now c.hear.new.self c.if-conn-self.false c.in_ok-hear.ensures.ok
      (λ u holds. room-held u c.args.watched.now holds ∙ sym c.has_room-has_room.ensures.exact ∙ c.if-has_room.false);
}
