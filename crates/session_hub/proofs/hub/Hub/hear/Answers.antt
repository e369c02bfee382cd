use Rattle.std.proofs.Common.{rules, ◌||◌, arith, refl, sym, ap, ◌∙◌, subst, slice_set}
use Rattle.std.proofs.lemmas.Grind.{common_steps}
use Rattle.std.proofs.lemmas.Result.{on_ok_weaker}
use Rattle.dir_tree.specs.tree.Numbered.{entries_of}
use Rattle.session_model.specs.Kept.{Kept, kept_of, is_cut}
use Rattle.session_hub.specs.Parties.{Requester}
use Rattle.session_hub.specs.Rooms.{HearsWithin, room_of, queued_beside}
use Rattle.session_hub.specs.FirstAnswers.{HearsFirst}
use Rattle.session_hub.specs.connection.Connections.{HearsPiece}
use Rattle.session_hub.specs.hub.Hubs.{HubState, Hears, held, IsShut, IsOpenAt}
use Rattle.session_hub.proofs.connection.HearLemmas.{is_some_cut}
use Rattle.session_hub.proofs.hub.HubLemmas.{distinct_set}
use Rattle.session_hub.proofs.hub.PieceLemmas.{IsPiece, hub_shut, hub_open, within_open, firsts_open}
use Rattle.session_hub.proofs.hub.FollowingLemmas.{follows_event}
use Rattle.session_hub.proofs.alike.TwinLemmas.{hears_alike_event}
use Rattle.session_hub.proofs.hub.Hub.hear.Given.{Over}
use Rattle.session_hub.proofs.hub.Hub.hear.Goals as goal

-- a connection that opens, and one whose peer sends no more
pub returns-in-Opened-clause-run : goal.returns-in-Opened-clause-run
returns-in-Opened-clause-run g c = on_ok_weaker c.open.result (follows_event c.args.self.now.bounds.terms c.args.event _ _) (search rules)

pub returns-in-Ended-clause-run : goal.returns-in-Ended-clause-run
returns-in-Ended-clause-run g c = follows_event c.args.self.now.bounds.terms c.args.event _ _ (search rules)

pub returns-in-Opened-clause-twins : goal.returns-in-Opened-clause-twins
returns-in-Opened-clause-twins g c = on_ok_weaker c.open.result (hears_alike_event c.args.self.now.bounds.terms c.args.event _ _) (search rules)

pub returns-in-Ended-clause-twins : goal.returns-in-Ended-clause-twins
returns-in-Ended-clause-twins g c = hears_alike_event c.args.self.now.bounds.terms c.args.event _ _ (search rules)

-- octets of one that isn't held, or is closing
shut : (g : Over) (c : goal.In_default g) → Hears c.args.self.now.bounds.terms c.args.event (held (entries_of (g.D.Dir.rows c.args.dir.now)) c.args.self.now) (held (entries_of (g.D.Dir.rows c.args.dir.now)) c.args.self.now)
shut g c =
    hub_shut c.args.self.now.bounds.terms c.in-Bytes.conn c.in-Bytes.piece.now c.args.event _ c.args.self.now (subst (IsPiece c.in-Bytes.conn c.in-Bytes.piece.now) (sym c.in-Bytes.is) (refl, refl))
    (subst (λ ks. IsShut (kept_of c.in-Bytes.conn ks)) (c.deref.ensures.value ∙ ap (λ (h : HubState). h.kept) c.self.view_is) c.in_default.ensures)

pub returns-in_default-clause-exact : goal.returns-in_default-clause-exact
returns-in_default-clause-exact g c = shut g c

pub returns-in_default-clause-run : goal.returns-in_default-clause-run
returns-in_default-clause-run g c = follows_event c.args.self.now.bounds.terms c.args.event _ _ (shut g c)

pub returns-in_default-clause-twins : goal.returns-in_default-clause-twins
returns-in_default-clause-twins g c = hears_alike_event c.args.self.now.bounds.terms c.args.event _ _ (shut g c)

-- and of one that is open
heard : (g : Over) (c : goal.After-self-in-Bytes-2-1 g) →
    Hears c.args.self.now.bounds.terms c.args.event (held (entries_of (g.D.Dir.rows c.args.dir.now)) c.args.self.now) (held (entries_of (g.D.Dir.rows c.hear.new.dir))
    (record { kept = slice_set c.self.inside.connections.items c.in-Some.at c.hear.new.self; was_cut = c.self.inside.was_cut || c.is_some.result; unstored = c.hear.new.changes.items; bounds = c.self.inside.bounds }))
heard g c =
    hub_open c.args.self.now.bounds.terms c.in-Bytes.conn c.in-Some.at c.in-Bytes.piece.now c.args.event _ _ _ c.args.self.now c.self.inside.bounds c.index_mut-connection.result.now c.hear.new.self c.hear.new.changes.items c.is_some.result
    c.self.view_is (subst (IsPiece c.in-Bytes.conn c.in-Bytes.piece.now) (sym c.in-Bytes.is) (refl, refl)) (subst (IsOpenAt c.in-Bytes.conn c.in-Some.at) c.deref.ensures.value c.in-Some.ensures) c.index_mut-connection.ensures.value
    (subst (λ t. HearsPiece t c.in-Bytes.piece.now (entries_of (g.D.Dir.rows c.args.dir.now)) c.index_mut-connection.result.now c.self.inside.unstored.items (entries_of (g.D.Dir.rows c.hear.new.dir)) c.hear.new.self c.hear.new.changes.items) c.allowance-allowed.ensures.terms c.hear.ensures.exact)
    (c.is_some.ensures ∙ is_some_cut c.cut.result ∙ ap is_cut c.cut.ensures)

pub returns-in-Some-clause-exact : goal.returns-in-Some-clause-exact
returns-in-Some-clause-exact g c = heard g c

pub returns-in-Some-clause-run : goal.returns-in-Some-clause-run
returns-in-Some-clause-run g c = follows_event c.args.self.now.bounds.terms c.args.event _ _ (heard g c)

pub returns-in-Some-clause-twins : goal.returns-in-Some-clause-twins
returns-in-Some-clause-twins g c = hears_alike_event c.args.self.now.bounds.terms c.args.event _ _ (heard g c)

pub returns-in-Some-clause-room : goal.returns-in-Some-clause-room
returns-in-Some-clause-room g c =
    subst (λ (h : HubState). HearsWithin c.args.event c.args.self.now.bounds (entries_of (g.D.Dir.rows c.args.dir.now)) h.kept (slice_set c.self.inside.connections.items c.in-Some.at c.hear.new.self)) c.self.view_is
    (within_open c.allowance-allowed.result.terms c.allowance-allowed.result.room c.in-Bytes.conn c.in-Some.at c.in-Bytes.piece.now c.args.event _ c.self.inside.connections.items c.args.self.now.bounds c.index_mut-connection.result.now c.hear.new.self
    (subst (IsPiece c.in-Bytes.conn c.in-Bytes.piece.now) (sym c.in-Bytes.is) (refl, refl)) (subst (IsOpenAt c.in-Bytes.conn c.in-Some.at) c.deref.ensures.value c.in-Some.ensures) c.index_mut-connection.ensures.value
    (ap (λ (k : Kept Requester). k.number) c.hear.ensures.exact.kept) c.allowance-allowed.ensures.terms
    (c.allowance-allowed.ensures.room ∙ ap (λ (h : HubState). room_of c.args.self.now.bounds.queues (queued_beside c.in-Bytes.conn h.kept)) (sym c.self.view_is)) c.hear.ensures.room)

pub returns-in-Some-clause-first : goal.returns-in-Some-clause-first
returns-in-Some-clause-first g c =
    subst (λ (h : HubState). HearsFirst c.args.event h.kept (slice_set c.self.inside.connections.items c.in-Some.at c.hear.new.self)) c.self.view_is
    (firsts_open c.in-Bytes.conn c.in-Some.at c.in-Bytes.piece.now c.args.event c.self.inside.connections.items c.index_mut-connection.result.now c.hear.new.self
    (subst (IsPiece c.in-Bytes.conn c.in-Bytes.piece.now) (sym c.in-Bytes.is) (refl, refl)) (subst (IsOpenAt c.in-Bytes.conn c.in-Some.at) c.deref.ensures.value c.in-Some.ensures) c.index_mut-connection.ensures.value
    (ap (λ (k : Kept Requester). k.number) c.hear.ensures.exact.kept) c.hear.ensures.first)

-- the connection that heard keeps its number, and few octets of it are unread
pub invariant_of-self : goal.invariant_of-self
invariant_of-self g c = record {
  bounded = grind (arith, common_steps);
  distinct = (let place : IsOpenAt c.in-Bytes.conn c.in-Some.at c.self.inside.connections.items = subst (IsOpenAt c.in-Bytes.conn c.in-Some.at) c.deref.ensures.value c.in-Some.ensures in
      distinct_set c.in-Some.at c.self.inside.connections.items c.index_mut-connection.result.now c.hear.new.self c.self.invariant.distinct place.place.within c.index_mut-connection.ensures.value (ap (λ (k : Kept Requester). k.number) c.hear.ensures.exact.kept));
}
