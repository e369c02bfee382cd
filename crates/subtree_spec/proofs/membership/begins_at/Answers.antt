-- A front is begun by its RDNs one by one.
use Rattle.std.proofs.Common.{◌≡◌, ◌∙◌, sym, ap, length, drop, get_or, [], arith, length-drop, ◌<◌, ◌+◌, false, true, true}
use Rattle.std.specs.Ordering.{is_ne}
use Rattle.dn_names.specs.NameOrder.{rdn_cmp}
use Rattle.subtree_spec.specs.membership.Fronts.{begins}
use Rattle.subtree_spec.proofs.membership.FrontLemmas.{begins-prefix, prefix_short, begins_step, step_equal, step_other, begins_all}
use Rattle.subtree_spec.proofs.membership.begins_at.Goals as goal

pub returns-then-len-at : goal.returns-then-len-at
returns-then-len-at c =
    let rest = drop c.args.at c.args.name.now in
    let short : length rest < length c.args.front.now = omega (arith, length-drop c.args.at c.args.name.now) in
    record { exact = sym (prefix_short c.args.front.now rest short) }

pub loop-index-preserved : goal.loop-index-preserved
loop-index-preserved c =
    let front = c.args.front.now in
    let name = c.args.name.now in
    let at = c.args.at in
    let index = c.loop-index.index in
    let order : c.compare_rdn.result ≡ rdn_cmp (get_or name (at + index) []) (get_or front index []) =
    c.compare_rdn.ensures.exact ∙ ap (λ r. rdn_cmp r c.rdn_at-in-loop-index.result.now) c.rdn_at.ensures.exact
    ∙ ap (rdn_cmp (get_or name (at + index) [])) c.rdn_at-in-loop-index.ensures.exact in
    let test : false ≡ is_ne (rdn_cmp (get_or name (at + index) []) (get_or front index [])) = c.if-is_ne.ensures ∙ ap is_ne order in
    sym (step_equal (rdn_cmp (get_or name (at + index) []) (get_or front index [])) (begins (drop (index + 1) front) (drop (at + (index + 1)) name)) test)
    ∙ sym (begins_step front name at index (omega arith) (omega arith)) ∙ c.loop-index.invariant

pub returns-then-is_ne : goal.returns-then-is_ne
returns-then-is_ne c =
    let front = c.args.front.now in
    let name = c.args.name.now in
    let at = c.args.at in
    let index = c.loop-index.index in
    let order : c.compare_rdn.result ≡ rdn_cmp (get_or name (at + index) []) (get_or front index []) =
    c.compare_rdn.ensures.exact ∙ ap (λ r. rdn_cmp r c.rdn_at-in-loop-index.result.now) c.rdn_at.ensures.exact
    ∙ ap (rdn_cmp (get_or name (at + index) [])) c.rdn_at-in-loop-index.ensures.exact in
    let test : true ≡ is_ne (rdn_cmp (get_or name (at + index) []) (get_or front index [])) = c.if-is_ne.ensures ∙ ap is_ne order in
    record {
      exact = sym (step_other (rdn_cmp (get_or name (at + index) []) (get_or front index [])) (begins (drop (index + 1) front) (drop (at + (index + 1)) name)) test)
          ∙ sym (begins_step front name at index (omega arith) (omega arith)) ∙ c.loop-index.invariant ∙ begins-prefix front (drop at name);
    }

pub returns : goal.returns
returns c =
    let front = c.args.front.now in
    let name = c.args.name.now in
    let at = c.args.at in
    let last : c.loop-index.index ≡ length front = omega arith in
    let ended : begins (drop c.loop-index.index front) (drop (at + c.loop-index.index) name) ≡ true =
    ap (λ i. begins (drop i front) (drop (at + c.loop-index.index) name)) last ∙ begins_all front (drop (at + c.loop-index.index) name) in
    record { exact = sym ended ∙ c.loop-index.invariant ∙ begins-prefix front (drop at name) }
