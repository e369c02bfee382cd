-- The lines of a certificate as octets: they are the lines of its text, and agree with themselves.
use Rattle.std.proofs.Common.{◌≡◌, ℕ, ◌+◌, ◌∙◌, sym, ap, refl, false, List, [], ◌∷◌, ◌++◌, map, Option, Some, None}
use Rattle.std.specs.Prelude.{codes, flat_map}
use Rattle.std.specs.List.{AllByRecursion}
use Rattle.std.proofs.lemmas.List.{append_assoc}
use Rattle.dir_tree.specs.dn_names.Printing.{print_name}
use Rattle.dir_tree.specs.dn_names.name.Names.{RdnSequence}
use Rattle.dir_tree.specs.dn_names.name.GoodNames.{IsGoodName}
use Rattle.line_text.specs.Lines.{lines_of, rest_of, joined_lines}
use Rattle.certify.specs.Lines.{Line, name_text, line_text}
use Rattle.certify.proofs.laws.EndLemmas.{has_end, has_end-append, has_end-one_line, lines_of-joined, rest_of-joined}

-- the octets of a line
abbrev pub shown : Line → List ℕ
shown line = line.text ++ name_text line.name

-- the name, if there is one, is good
abbrev pub HasGoodName : Option RdnSequence → Type 0
HasGoodName None = Unit {0}
HasGoodName (Some name) = IsGoodName name

-- no LF stands before the name, and the name is good
pub record IsPrinted (line : Line) : Type 0 where
  pub kept : has_end line.text ≡ false
  pub name : HasGoodName line.name

has_end-name : (name : Option RdnSequence) → has_end (name_text name) ≡ false
has_end-name None = refl
has_end-name (Some name) = has_end-one_line (print_name name)

has_end-shown : (line : Line) → IsPrinted line → has_end (shown line) ≡ false
has_end-shown line printed = has_end-append line.text (name_text line.name) printed.kept (has_end-name line.name)

all-shown : (lines : List Line) → AllByRecursion IsPrinted lines → AllByRecursion (λ line. has_end line ≡ false) (map shown lines)
all-shown [] printed = tt
all-shown (line ∷ lines) printed = (has_end-shown line printed.0, all-shown lines printed.1)

-- the text is that of the lines, LF behind each
text-shown : (lines : List Line) → flat_map line_text lines ≡ joined_lines (map shown lines)
text-shown [] = refl
text-shown (line ∷ lines) =
    ap (λ front. front ++ flat_map line_text lines) (sym (append_assoc line.text (name_text line.name) (codes "\n")))
    ∙ ap (λ rest. (shown line ++ 10 ∷ []) ++ rest) (text-shown lines)

pub lines_of-text : (lines : List Line) → AllByRecursion IsPrinted lines → lines_of (flat_map line_text lines) ≡ map shown lines
lines_of-text lines printed = ap lines_of (text-shown lines) ∙ lines_of-joined (map shown lines) (all-shown lines printed)

pub rest_of-text : (lines : List Line) → AllByRecursion IsPrinted lines → rest_of (flat_map line_text lines) ≡ []
rest_of-text lines printed = ap rest_of (text-shown lines) ∙ rest_of-joined (map shown lines) (all-shown lines printed)
