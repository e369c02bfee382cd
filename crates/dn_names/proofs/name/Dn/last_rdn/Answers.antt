-- The RDN at the last place.
use Rattle.std.proofs.Common.{[], ◌-◌, ℕ, slice_get, ap, ◌∙◌}
use Rattle.std.specs.Option.{option_map_or}
use Rattle.dn_names.proofs.name.LastLemmas.{last_rdn-slice_get}
use Rattle.dn_names.proofs.name.Dn.last_rdn.Goals as goal

pub returns-in-Some : goal.returns-in-Some
returns-in-Some c =
    let place = c.saturating_sub.ensures ∙ ap (λ (len : ℕ). len - 1) c.len.ensures.exact in
    record {
      exact = ap (λ found. option_map_or (λ rdn. rdn) found []) (c.in-Some.ensures.exact ∙ ap (slice_get c.args.self.now) place)
          ∙ last_rdn-slice_get c.args.self.now;
    }

pub returns-in-None : goal.returns-in-None
returns-in-None c =
    let place = c.saturating_sub.ensures ∙ ap (λ (len : ℕ). len - 1) c.len.ensures.exact in
    record {
      exact = ap (λ found. option_map_or (λ rdn. rdn) found []) (c.in-None.ensures.exact ∙ ap (slice_get c.args.self.now) place)
          ∙ last_rdn-slice_get c.args.self.now;
    }
