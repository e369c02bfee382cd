-- By the theorems.
use Rattle.crash_laws.proofs.laws.GoingLemmas.{goes_on, goes_in_turn}
use Rattle.crash_laws.proofs.laws.a_server_writes_its_file_on.Goals as goal

pub returns : goal.returns
returns c = record {
  exact = λ terms first digest done file steps given. goes_on terms given.keeps first digest done file steps given.written given.octets;
  front = λ terms first digest done file early late given. goes_in_turn terms given.keeps first digest done file early late given.written given.octets;
}
