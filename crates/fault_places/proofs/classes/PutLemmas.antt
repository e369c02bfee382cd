-- Four texts that are written one behind the other.
use Rattle.std.proofs.Common.{◌≡◌, ℕ, List, ◌++◌, Result, ap, append_assoc, ◌∙◌}
use Rattle.std.specs.Prelude.{OnOk}
use Rattle.std.specs.declared.alloc.AllocError.{AllocError}

pub four_written : (result : Result (Unit {0}) AllocError) (old one two three new a b c d : List ℕ) → one ≡ old ++ a → two ≡ one ++ b → three ≡ two ++ c
    → OnOk result (new ≡ three ++ d) → OnOk result (new ≡ old ++ (a ++ (b ++ (c ++ d))))
four_written result old one two three new a b c d first second third last =
    let all : three ++ d ≡ old ++ (a ++ (b ++ (c ++ d))) =
    ap (λ n. n ++ d) (third ∙ ap (λ n. n ++ c) (second ∙ ap (λ n. n ++ b) first)) ∙ simp append_assoc in
    rw (← all) last
