use Rattle.std.proofs.Common.{◌≡◌, ◌++◌, ◌∷◌, [], length, false, sym, ap, ◌∙◌, subst, arith}
use Rattle.session_model.specs.Kept.{is_kept, kept_of, opened_kept}
use Rattle.session_hub.specs.Answering.{rules}
use Rattle.session_hub.specs.hub.Hubs.{HubState, AreHeld, IsBounded}
use Rattle.session_hub.proofs.hub.HubLemmas.{opens_held, opens_full, opens_new, held_opened, on_err_any}
use Rattle.session_hub.proofs.hub.Hub.open.Goals as goal

-- the number is held already
pub returns-then-is_at-clause-ok : goal.returns-then-is_at-clause-ok
returns-then-is_at-clause-ok c =
    opens_held c.args.conn c.args.self.now
    (ap (λ (h : HubState). is_kept (kept_of c.args.conn h.kept)) (sym c.self.view_is) ∙ ap (λ ks. is_kept (kept_of c.args.conn ks)) (sym c.deref.ensures.value) ∙ sym c.is_at.ensures ∙ c.if-is_at.true)

-- there is no room
pub returns-then-len-ge-MAX_CONNECTIONS-clause-ok : goal.returns-then-len-ge-MAX_CONNECTIONS-clause-ok
returns-then-len-ge-MAX_CONNECTIONS-clause-ok c =
    let same : length c.args.self.now.kept ≡ c.len.result =
    ap (λ (h : HubState). length h.kept) (sym c.self.view_is) ∙ ap length (sym c.deref.ensures.value) ∙ c.deref.ensures.len ∙ sym c.len.ensures in
    opens_full c.args.conn c.args.self.now (omega arith)

-- there is room
pub returns-clause-ok : goal.returns-clause-ok
returns-clause-ok c =
    let same : length c.args.self.now.kept ≡ c.len.result =
    ap (λ (h : HubState). length h.kept) (sym c.self.view_is) ∙ ap length (sym c.deref.ensures.value) ∙ c.deref.ensures.len ∙ sym c.len.ensures in
    let absent = ap (λ (h : HubState). is_kept (kept_of c.args.conn h.kept)) (sym c.self.view_is) ∙ ap (λ ks. is_kept (kept_of c.args.conn ks)) (sym c.deref.ensures.value) ∙ sym c.is_at.ensures ∙ c.if-is_at.false in
    opens_new c.args.conn c.args.self.now _ absent (omega arith)
    (ap (λ ks. let h : HubState = record { kept = ks; was_cut = c.self.inside.was_cut; unstored = c.self.inside.unstored.items; bounds = c.self.inside.bounds } in h) (c.in_ok-push.ensures.items ∙ ap (λ k. c.self.inside.connections.items ++ k ∷ []) (c.in_ok-connection.ensures.ok c.args.self.now.bounds.terms))
    ∙ ap (λ (h : HubState). let now : HubState = record h { kept = h.kept ++ opened_kept (rules c.args.self.now.bounds.terms) c.args.conn ∷ [] } in now) c.self.view_is)

-- there is room, and no memory
pub returns-in_err-push-clause-cause : goal.returns-in_err-push-clause-cause
returns-in_err-push-clause-cause c =
    let same : length c.args.self.now.kept ≡ c.len.result =
    ap (λ (h : HubState). length h.kept) (sym c.self.view_is) ∙ ap length (sym c.deref.ensures.value) ∙ c.deref.ensures.len ∙ sym c.len.ensures in
    let absent = ap (λ (h : HubState). is_kept (kept_of c.args.conn h.kept)) (sym c.self.view_is) ∙ ap (λ ks. is_kept (kept_of c.args.conn ks)) (sym c.deref.ensures.value) ∙ sym c.is_at.ensures ∙ c.if-is_at.false in
    on_err_any c.from_residual-in_err-push.result (absent, omega arith)

pub returns-in_err-connection-clause-cause : goal.returns-in_err-connection-clause-cause
returns-in_err-connection-clause-cause c =
    let same : length c.args.self.now.kept ≡ c.len.result =
    ap (λ (h : HubState). length h.kept) (sym c.self.view_is) ∙ ap length (sym c.deref.ensures.value) ∙ c.deref.ensures.len ∙ sym c.len.ensures in
    let absent = ap (λ (h : HubState). is_kept (kept_of c.args.conn h.kept)) (sym c.self.view_is) ∙ ap (λ ks. is_kept (kept_of c.args.conn ks)) (sym c.deref.ensures.value) ∙ sym c.is_at.ensures ∙ c.if-is_at.false in
    on_err_any c.from_residual.result (absent, omega arith)

-- the new connection's number was held by none
pub invariant_of-self-2 : goal.invariant_of-self-2
invariant_of-self-2 c =
    let absent : is_kept (kept_of c.args.conn c.self.inside.connections.items) ≡ false =
    ap (λ ks. is_kept (kept_of c.args.conn ks)) (sym c.deref.ensures.value) ∙ sym c.is_at.ensures ∙ c.if-is_at.false in
    subst AreHeld (sym (c.in_ok-push.ensures.items ∙ ap (λ k. c.self.inside.connections.items ++ k ∷ []) (c.in_ok-connection.ensures.ok c.args.self.now.bounds.terms)))
    (held_opened c.args.self.now.bounds.terms c.args.conn c.self.inside.connections.items c.self.invariant absent)

-- and nothing of it is unread
pub returns-clause-bounded : goal.returns-clause-bounded
returns-clause-bounded c =
    let absent : is_kept (kept_of c.args.conn c.self.inside.connections.items) ≡ false =
    ap (λ ks. is_kept (kept_of c.args.conn ks)) (sym c.deref.ensures.value) ∙ sym c.is_at.ensures ∙ c.if-is_at.false in
    subst IsBounded (sym (c.in_ok-push.ensures.items ∙ ap (λ k. c.self.inside.connections.items ++ k ∷ []) (c.in_ok-connection.ensures.ok c.args.self.now.bounds.terms)))
    (held_opened c.args.self.now.bounds.terms c.args.conn c.self.inside.connections.items c.self.invariant absent).bounded
