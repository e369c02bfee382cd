-- A value that is there is left where it doesn't go.
use Rattle.std.proofs.Common.{◌≡◌, sym, ◌∙◌, ap, Bool, true, false, not, ◌&&◌}
use Rattle.dir_tree.specs.Entry.{values_of, has_key}
use Rattle.entry_changes.proofs.effects.TakenLemmas.{has_key-staying}
use Rattle.entry_changes.proofs.refusing.is_left.Goals as goal

pub returns-then-has_value : goal.returns-then-has_value
returns-then-has_value c =
    let old = values_of c.args.kind.0 c.args.entry.now.attributes in
    let there : has_key c.args.value.now.key old ≡ true = sym (c.has_value.ensures.exact ∙ ap (λ key. has_key key old) c.key.ensures.exact) ∙ c.if-has_value.true in
    record {
      exact = ap not (c.has_key.ensures.exact ∙ ap (λ key. has_key key c.args.gone.now) c.key-then-has_value.ensures.exact)
          ∙ sym (has_key-staying c.args.value.now.key c.args.gone.now old ∙ ap (λ (there : Bool). there && not (has_key c.args.value.now.key c.args.gone.now)) there);
    }

pub returns-else-has_value : goal.returns-else-has_value
returns-else-has_value c =
    let old = values_of c.args.kind.0 c.args.entry.now.attributes in
    let absent : has_key c.args.value.now.key old ≡ false = sym (c.has_value.ensures.exact ∙ ap (λ key. has_key key old) c.key.ensures.exact) ∙ c.if-has_value.false in
    record {
      exact = c.if-has_value.false
          ∙ sym (has_key-staying c.args.value.now.key c.args.gone.now old ∙ ap (λ (there : Bool). there && not (has_key c.args.value.now.key c.args.gone.now)) absent);
    }
