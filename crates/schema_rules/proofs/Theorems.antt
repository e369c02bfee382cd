-- What crates above may cite of the rules.
pub use Rattle.schema_rules.proofs.rules.RuleLemmas.{Meets-from_broken_rule, broken_rule-from_Meets}
pub use Rattle.schema_rules.proofs.laws.ListPlaceLemmas.{nothing_found, all_at}
pub use Rattle.schema_rules.proofs.laws.StayLemmas.{MeetsRules-put_in, AreGood-none, AreGood-put_in}
pub use Rattle.schema_rules.proofs.laws.TakenLemmas.{AreGood-taken_out, fewer}
