-- Lemmas on scripts computed line by line.
use Rattle.std.proofs.Common.{◌≡◌, ℕ, ◌+◌, ◌==◌, ap, refl, arith, true, length, List, [], ◌∷◌, Result, Ok, Err}
use Rattle.std.proofs.lemmas.Bool.{eqb-true}
use Rattle.std.specs.Str.Lines.{lines}
use Rattle.script_text.specs.declared.event.ScriptFault.{ScriptFault}
use Rattle.script_text.specs.declared.event.ScriptFault.TheVariants.{Bad, NoMemory}
use Rattle.script_text.specs.declared.event.ScriptEvent.{ScriptEvent}
use Rattle.script_text.specs.script.ScriptReading.{◌>>=◌, after_line, after_lines, Gives}

-- no line is left
pub after_lines-nil : (before : List ScriptEvent) (number : ℕ) → after_lines before number [] ≡ Ok before
unfolding after_lines
after_lines-nil before number = refl

-- a line that is good
pub after_lines-good : (before events : List ScriptEvent) (number : ℕ) (line : List ℕ) (rest : List (List ℕ)) → after_line before number line ≡ Ok events
    → after_lines before number (line ∷ rest) ≡ after_lines events (number + 1) rest
unfolding after_lines
after_lines-good before events number line rest good = ap (λ read. read >>= λ found. after_lines found (number + 1) rest) good

-- a line that is bad
pub after_lines-bad : (before : List ScriptEvent) (number bad : ℕ) (line : List ℕ) (rest : List (List ℕ)) → after_line before number line ≡ Err bad
    → after_lines before number (line ∷ rest) ≡ Err bad
unfolding after_lines
after_lines-bad before number bad line rest found = ap (λ read. read >>= λ events. after_lines events (number + 1) rest) found

-- a text with no octet has no line
pub lines-done : (before : List ScriptEvent) (number : ℕ) (rest : List ℕ) → (length rest == 0) ≡ true → after_lines before number (lines rest) ≡ Ok before
lines-done before number [] done = after_lines-nil before number
lines-done before number (octet ∷ octets) done = absurd (omega (arith, eqb-true (length (octet ∷ octets)) 0 done))

-- what was answered at a bad line is the answer for the whole
pub Gives-bad : (before : List ScriptEvent) (number : ℕ) (line : List ℕ) (rest : List (List ℕ)) (fault : ScriptFault) → Gives (Err fault) (after_line before number line)
    → Gives (Err fault) (after_lines before number (line ∷ rest))
Gives-bad before number line rest (Bad bad) given = after_lines-bad before number bad line rest given
Gives-bad before number line rest NoMemory given = tt

-- an answer of a fault equal to the one given
pub Gives-same : (result : Result (List ScriptEvent) ScriptFault) (found given : ScriptFault) (read whole : Result (List ScriptEvent) ℕ) → result ≡ Err found → found ≡ given → whole ≡ read
    → Gives (Err given) read → Gives result whole
Gives-same result found given read whole answered same is gives = rw (answered, same, is) gives
