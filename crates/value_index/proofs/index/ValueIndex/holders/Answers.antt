-- No holder is missing.
use Rattle.std.proofs.Common.{rules, ◌≡◌, map, true}
use Rattle.value_index.specs.Hashes.{is_indexed}
use Rattle.value_index.specs.Holders.{numbers_for}
use Rattle.value_index.proofs.holders.NumberLemmas.{holders-found}
use Rattle.value_index.proofs.index.ValueIndex.holders.Goals as goal

pub returns-clause-holders : goal.returns-clause-holders
returns-clause-holders c =
    let numbers = c.put_numbers-2.new.numbers.items in
    let indexed : is_indexed c.args.kind.0 ≡ true = search rules in
    let are : map (λ number. number.0) numbers ≡ numbers_for c.args.kind.0 c.args.key.now c.args.self.now = search rules in
    holders-found c.args.kind.0 c.args.key.now c.args.self.now numbers indexed are
