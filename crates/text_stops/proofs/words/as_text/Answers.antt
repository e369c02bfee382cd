-- The library tells whether octets are UTF-8.
use Rattle.std.proofs.Common.{◌≡◌, refl, sym, ap, true, false}
use Rattle.std.specs.Prelude.{Some}
use Rattle.std.specs.Str.{is_utf8}
use Rattle.text_stops.proofs.words.WordLemmas.{is_text, no_text}
use Rattle.text_stops.proofs.words.as_text.Goals as goal

pub returns-in-Ok : goal.returns-in-Ok
returns-in-Ok c =
    let test : is_utf8 c.args.word.now ≡ true = sym (is_text c.args.word.now c.in-Ok.ensures.cases.1) in
    record { exact = rw test (ap Some c.in-Ok.ensures.cases.0) }

pub returns-in-Err : goal.returns-in-Err
returns-in-Err c =
    let test : is_utf8 c.args.word.now ≡ false = sym (no_text c.args.word.now c.in-Err.ensures.cases.0) in
    record { exact = rw test refl }
