use Rattle.std.proofs.Common.{◌≡◌, ◌++◌, ◌∙◌, ap, sym, drop, length, arith}
use Rattle.script_text.specs.Recording.{first_octets, without_first}
use Rattle.wire_io.specs.Playing.{front_turn}
use Rattle.wire_io.proofs.script.PlayingLemmas.{front_turn-part, front_turn-whole}
use Rattle.wire_io.proofs.script.Script.advance.Goals as goal

-- some octets of the first event are left
pub returns-then-len-saturating_sub : goal.returns-then-len-saturating_sub
returns-then-len-saturating_sub c =
    let events = drop c.self.inside.place c.self.inside.listed.items ++ c.self.inside.recorded in
    let size : length c.octets_of_first-octets.result.now ≡ length (first_octets events) =
    ap length (c.octets_of_first-octets.ensures.exact ∙ ap (λ listed. first_octets (drop c.self.inside.place listed ++ c.self.inside.recorded)) c.as_slice.ensures.value) in
    record {
      exact = front_turn-part c.args.len c.self.inside.given events (omega (arith, size, c.saturating_sub.ensures, c.if-len-saturating_sub.true))
          ∙ ap (λ left. (front_turn c.args.len left).left) c.self.view_is;
    }

-- none is left
pub returns-else-len-saturating_sub : goal.returns-else-len-saturating_sub
returns-else-len-saturating_sub c =
    let events = drop c.self.inside.place c.self.inside.listed.items ++ c.self.inside.recorded in
    let size : length c.octets_of_first-octets.result.now ≡ length (first_octets events) =
    ap length (c.octets_of_first-octets.ensures.exact ∙ ap (λ listed. first_octets (drop c.self.inside.place listed ++ c.self.inside.recorded)) c.as_slice.ensures.value) in
    record {
      exact = c.pass_first.ensures.exact ∙ ap without_first (sym c.self.view_is)
          ∙ front_turn-whole c.args.len c.self.inside.given events (omega (arith, size, c.saturating_sub.ensures, c.if-len-saturating_sub.false))
          ∙ ap (λ left. (front_turn c.args.len left).left) c.self.view_is;
    }
