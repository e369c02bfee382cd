-- Whether lines that are given are those of a certificate: names may have any spelling (RFC 4514), all else has one.
use Rattle.std.specs.Prelude.{ℕ, ◌+◌, Bool, false, List, [], ◌∷◌, Option, Some, None, Result, Ok, Err, if◌then◌else◌}
use Rattle.std.specs.Option.{option_map_or}
use Rattle.std.specs.Str.{bytes_eq}
use Rattle.dir_tree.specs.dn_names.name.Names.{RdnSequence}
use Rattle.dir_tree.specs.dn_names.NameOrder.{is_same}
use Rattle.explanation.specs.Cutting.{after}
use Rattle.explanation.specs.NameWords.{name_in}
use Rattle.certify.specs.Lines.{Line}
use Rattle.certify.specs.declared.fault.CertFault.{CertFault}
use Rattle.certify.specs.declared.fault.CertFault.TheVariants.{False}

-- the text is a spelling of the name
abbrev pub spells : RdnSequence → List ℕ → Bool
spells name text = option_map_or (is_same name) (name_in text) false

-- the same octets, or the same word and a spelling of the name
abbrev pub agrees_by : List ℕ → List ℕ → Option RdnSequence → Bool
agrees_by given text None = bytes_eq given text
agrees_by given text (Some name) = option_map_or (spells name) (after text given) false

-- the line that is given is the certificate's
unfoldable pub agrees : List ℕ → Line → Bool
agrees given line = agrees_by given line.text line.name

-- those from this number on are: the fault is the first line that isn't, or that one list alone has
abbrev pub compared : ℕ → List (List ℕ) → List Line → Result (Unit {0}) CertFault
compared number [] [] = Ok tt
compared number [] (line ∷ lines) = Err (False number)
compared number (given ∷ rest) [] = Err (False number)
compared number (given ∷ rest) (line ∷ lines) =
    if agrees given line then compared (number + 1) rest lines else Err (False number)
