-- A fault comes outside the grammar alone, at its place.
use Rattle.regular_text.proofs.Theorems.{fault_at-None, fault_at-Some}
use Rattle.regular_text.proofs.laws.machine_is_exact.Goals as goal

pub returns : goal.returns
returns g c = record {
  exact = λ machine grammar_of of text mode. fault_at-None machine grammar_of of text 0 mode;
  found = λ machine grammar_of of text mode place h. fault_at-Some machine grammar_of of text mode place h;
}
