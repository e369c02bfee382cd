-- The result codes without a name here (RFC 4511 4.1.9).
use Rattle.std.specs.Prelude.{ℕ, Bool, false, ◌==◌, nat_lt, if◌then◌else◌}

-- the number is below 128, and none of those that have a name
abbrev pub is_other_code : ℕ → Bool
is_other_code number =
    if number == 0 then false
    else if number == 2 then false
    else if number == 4 then false
    else if number == 5 then false
    else if number == 6 then false
    else if number == 7 then false
    else if number == 11 then false
    else if number == 12 then false
    else if number == 16 then false
    else if number == 17 then false
    else if number == 18 then false
    else if number == 19 then false
    else if number == 20 then false
    else if number == 21 then false
    else if number == 32 then false
    else if number == 34 then false
    else if number == 49 then false
    else if number == 50 then false
    else if number == 53 then false
    else if number == 64 then false
    else if number == 65 then false
    else if number == 66 then false
    else if number == 67 then false
    else if number == 68 then false
    else if number == 69 then false
    else nat_lt number 128
