-- The lines of a certificate agree with themselves.
use Rattle.std.proofs.Common.{◌≡◌, ℕ, ◌+◌, ◌∙◌, ap, refl, true, false, List, [], ◌∷◌, ◌++◌, map, Option, Some, None, Ok, Err}
use Rattle.std.specs.Prelude.{if◌then◌else◌}
use Rattle.std.specs.Option.{option_map_or}
use Rattle.std.specs.List.{AllByRecursion}
use Rattle.std.proofs.lemmas.List.{append-nil}
use Rattle.std.proofs.lemmas.Slice.Eq.{bytes_eq-Decides}
use Rattle.dir_tree.specs.dn_names.Printing.{print_name}
use Rattle.dir_tree.specs.dn_names.name.Names.{RdnSequence}
use Rattle.dir_tree.specs.dn_names.NameOrder.{is_same}
use Rattle.dir_tree.proofs.TreeTheorems.{same_itself}
use Rattle.line_text.specs.Escapes.{one_line}
use Rattle.certify.specs.Lines.{Line, name_text}
use Rattle.certify.specs.Comparing.{spells, agrees_by, agrees, compared}
use Rattle.certify.specs.declared.fault.CertFault.TheVariants.{False}
use Rattle.certify.proofs.laws.LineLemmas.{HasGoodName, IsPrinted, shown}
use Rattle.certify.proofs.laws.WordLemmas.{after-front}
use Rattle.certify.proofs.laws.WhoLemmas.{name_in-one_line}

-- by whether it has a name
agrees-by : (text : List ℕ) (name : Option RdnSequence) → HasGoodName name → agrees_by (text ++ name_text name) text name ≡ true
agrees-by text None good = (bytes_eq-Decides (text ++ []) text).1 (append-nil text)
agrees-by text (Some name) good =
    ap (λ found. option_map_or (spells name) found false) (after-front text (one_line (print_name name)))
    ∙ ap (λ found. option_map_or (is_same name) found false) (name_in-one_line name good)
    ∙ same_itself name

agrees-shown : (line : Line) → IsPrinted line → agrees (shown line) line ≡ true
unfolding agrees
agrees-shown line printed = agrees-by line.text line.name printed.name

-- so no line differs
pub compared-shown : (number : ℕ) (lines : List Line) → AllByRecursion IsPrinted lines → compared number (map shown lines) lines ≡ Ok tt
compared-shown number [] printed = refl
compared-shown number (line ∷ lines) printed =
    ap (λ is. if is then compared (number + 1) (map shown lines) lines else Err (False number)) (agrees-shown line printed.0)
    ∙ compared-shown (number + 1) lines printed.1
