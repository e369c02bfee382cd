use Rattle.std.proofs.Common.{◌≡◌, sym, ◌∙◌, arith, nat_eq, true}
use Rattle.std.proofs.lemmas.Bool.Decides.{nat_tests}
use Rattle.session_hub.proofs.places.PlaceLemmas.{found_at, none_before}
use Rattle.session_hub.proofs.places.is_number_at.Goals as goal

-- the connection at the place has the number, and so none before it has
pub returns-then-at-connections : goal.returns-then-at-connections
returns-then-at-connections c = λ (e : nat_eq c.number.result c.args.number ≡ true).
    let equal : c.number.result ≡ c.args.number = grind (arith, nat_tests) in
    let k = c.index-connections-at.result in
    let is = c.index-connections-at.is in
    let same : k.number ≡ c.args.number = sym c.number.ensures ∙ equal in
    found_at c.args.number c.args.at c.args.connections.now k
    (none_before c.args.number c.args.at c.args.connections.now k c.requires c.if-at-connections.true is same) c.if-at-connections.true is same
