use Rattle.std.proofs.Common.{◌≤◌, sym, ◌∙◌, arith}
use Rattle.command_words.specs.command.Command.{limit_range}
use Rattle.command_words.proofs.number.Numbers.{number_said-within}
use Rattle.command_words.proofs.command.read_limit.Goals as goal

-- a limit is below 2^31
pub overflow_cast-result : goal.overflow_cast-result
overflow_cast-result c =
    let within : c.in_ok-limit.limit ≤ 2147483647 = number_said-within limit_range _ c.in_ok-limit.limit (omega arith) (sym c.read_number.ensures ∙ c.in_ok-limit.was) in
    omega (arith, within)
