-- Lemmas on places some lines after others.
use Rattle.std.proofs.Common.{◌≡◌, ℕ, ◌+◌, ◌∙◌, sym, ap, refl, arith, List, [], ◌∷◌, ◌++◌}
use Rattle.std.proofs.lemmas.List.{append_assoc, length-append}
use Rattle.ldif_records.specs.declared.types.Position.{Position}
use Rattle.ldif_records.specs.lines.Places.{physical_from, IsLinesAfter}

-- a place is no line after itself
pub after_none : (text : List ℕ) (at : Position) → IsLinesAfter text at at
after_none text at = record { passed = []; lines = refl; counted = omega arith }

-- the place after one line
pub after_one : (text octets : List ℕ) (at after : Position) → physical_from text at ≡ record { number = at.line; octets = octets } ∷ physical_from text after → after.line ≡ at.line + 1
    → IsLinesAfter text at after
after_one text octets at after first next = record { passed = record { number = at.line; octets = octets } ∷ []; lines = first; counted = next }

-- a place after one that is after another
pub after_both : (text : List ℕ) (from at to : Position) → IsLinesAfter text from at → IsLinesAfter text at to → IsLinesAfter text from to
after_both text from at to one other = record {
  passed = one.passed ++ other.passed;
  lines = one.lines ∙ ap (λ rest. one.passed ++ rest) other.lines ∙ sym (append_assoc one.passed other.passed (physical_from text to));
  counted = omega (arith, one.counted, other.counted, length-append one.passed other.passed);
}
