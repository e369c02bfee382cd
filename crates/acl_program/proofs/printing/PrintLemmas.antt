-- Lemmas on texts put one after another, and on the lines of a journal.
use Rattle.std.proofs.Common.{◌≡◌, ℕ, ◌+◌, ◌<◌, ◌≤◌, Bool, List, [], ◌∷◌, ◌++◌, length, take, drop, get_or, Option, Result, Ok, Err, sym, ap, ◌∙◌, subst, append-nil, append_assoc, add-one}
use Rattle.std.specs.Prelude.{codes, decimal}
use Rattle.std.proofs.Math.Seq.{take-suc}
use Rattle.std.proofs.lemmas.Grind.{flat_map-append}
use Rattle.std.proofs.lemmas.List.{take_all, take-append-drop}
use Rattle.command_files.specs.wire_io.declared.answers.PutFault.{PutFault}
use Rattle.command_files.specs.wire_io.declared.journal.Item.{Item}
use Rattle.command_files.specs.wire_io.Journal.{opened_by, taken_of, is_hung_up}
use Rattle.command_files.specs.wire_io.Rising.{rising}
use Rattle.command_files.specs.wire_io.Putting.{appended, PutsAll}
use Rattle.command_files.proofs.wire_io_proofs.Theorems.{appended-appended, PutsAll-cut, PutsAll-then}
use Rattle.acl_program.specs.Lines.{shown, ending, line_of}
use Rattle.acl_program.specs.program.Playing.{journal_lines, journal_text}

-- the line of a connection, as the journal tells it
abbrev pub line_in : List Item → ℕ → List ℕ
line_in journal conn = line_of conn (taken_of conn journal) (is_hung_up conn journal)

-- one connection more
take_one : (conns : List ℕ) (index conn : ℕ) → index < length conns → conn ≡ get_or conns index 0 → take (index + 1) conns ≡ take index conns ++ conn ∷ []
take_one conns index conn within is =
    ap (λ count. take count conns) (add-one index) ∙ take-suc conns index 0 within ∙ ap (λ last. take index conns ++ last ∷ []) (sym is)

journal_lines-one : (journal : List Item) (front : List ℕ) (conn : ℕ) → journal_lines journal (front ++ conn ∷ []) ≡ journal_lines journal front ++ line_in journal conn
journal_lines-one journal front conn =
    flat_map-append (line_in journal) front (conn ∷ []) ∙ ap (λ line. journal_lines journal front ++ line) (append-nil (line_in journal conn))

-- a line more was put
pub lines_more :
    (old now new : Option (List ℕ)) (journal : List Item) (conns : List ℕ) (index conn : ℕ) (done : Unit {0})
    → index < length conns → conn ≡ get_or conns index 0 → now ≡ appended old (journal_lines journal (take index conns)) → PutsAll now (line_in journal conn) (Ok done) new
    → new ≡ appended old (journal_lines journal (take (index + 1) conns))
unfolding PutsAll
lines_more old now new journal conns index conn done within is before puts =
    puts ∙ ap (λ put. appended put (line_in journal conn)) before ∙ appended-appended old (journal_lines journal (take index conns)) (line_in journal conn)
    ∙ ap (λ put. appended old put) (sym (ap (journal_lines journal) (take_one conns index conn within is) ∙ journal_lines-one journal (take index conns) conn))

-- the lines of all connections are those before one, its own, and those after it
lines_split : (journal : List Item) (conns : List ℕ) (index conn : ℕ) → index < length conns → conn ≡ get_or conns index 0
    → journal_lines journal conns ≡ journal_lines journal (take index conns) ++ (line_in journal conn ++ journal_lines journal (drop (index + 1) conns))
lines_split journal conns index conn within is =
    ap (journal_lines journal) (sym (take-append-drop (index + 1) conns))
    ∙ flat_map-append (line_in journal) (take (index + 1) conns) (drop (index + 1) conns)
    ∙ ap (λ front. front ++ journal_lines journal (drop (index + 1) conns)) (ap (journal_lines journal) (take_one conns index conn within is) ∙ journal_lines-one journal (take index conns) conn)
    ∙ append_assoc (journal_lines journal (take index conns)) (line_in journal conn) (journal_lines journal (drop (index + 1) conns))

-- what was put, in the word of a whole text
put_front : (old now : Option (List ℕ)) (front : List ℕ) → now ≡ appended old front → PutsAll {T = Unit {0}} old front (Ok tt) now
unfolding PutsAll
put_front old now front put = put

-- a line was refused
pub lines_refused :
    (old now new : Option (List ℕ)) (journal : List Item) (conns : List ℕ) (index conn : ℕ) (fault : PutFault)
    → index < length conns → conn ≡ get_or conns index 0 → now ≡ appended old (journal_lines journal (take index conns))
    → PutsAll {T = Unit {0}} now (line_in journal conn) (Err fault) new → PutsAll {T = Unit {0}} old (journal_lines journal conns) (Err fault) new
lines_refused old now new journal conns index conn fault within is before puts =
    let P : List ℕ → Type 0 = λ text. PutsAll {T = Unit {0}} old text (Err fault) new in
    let rest : List ℕ = journal_lines journal (drop (index + 1) conns) in
    subst P (sym (lines_split journal conns index conn within is))
    (PutsAll-then old now new (journal_lines journal (take index conns)) (line_in journal conn ++ rest) tt (Err fault) (put_front old now (journal_lines journal (take index conns)) before)
    (PutsAll-cut (Unit {0}) now new (line_in journal conn) rest fault puts))

-- all lines were put
pub lines_done :
    (old now : Option (List ℕ)) (journal : List Item) (conns : List ℕ) (index : ℕ) (done : Unit {0})
    → length conns ≤ index → now ≡ appended old (journal_lines journal (take index conns)) → PutsAll old (journal_lines journal conns) (Ok done) now
unfolding PutsAll
lines_done old now journal conns index done past before =
    before ∙ ap (λ printed. appended old (journal_lines journal printed)) (take_all index conns past)

-- the connections were all that the journal opened
pub PutsAll-opened :
    (old new : Option (List ℕ)) (journal : List Item) (conns : List ℕ) (result : Result (Unit {0}) PutFault)
    → conns ≡ rising (opened_by journal) → PutsAll old (journal_lines journal conns) result new → PutsAll old (journal_text journal) result new
unfolding journal_text
PutsAll-opened old new journal conns result is puts =
    let P : List ℕ → Type 0 = λ made. PutsAll old (journal_lines journal made) result new in subst P is puts

-- a line is its number and a space, and what follows them
pub line_parts : (conn : ℕ) (sent : List ℕ) (hung_up : Bool) → (decimal conn ++ codes " ") ++ (shown sent ++ (ending hung_up ++ codes "\n")) ≡ line_of conn sent hung_up
unfolding line_of
line_parts conn sent hung_up = append_assoc (decimal conn) (codes " ") (shown sent ++ (ending hung_up ++ codes "\n"))

-- the number was put, and what follows it
pub PutsAll-line :
    (old now new : Option (List ℕ)) (conn : ℕ) (said sent : List ℕ) (closed hung_up : Bool) (done : Unit {0}) (result : Result (Unit {0}) PutFault)
    → said ≡ sent → closed ≡ hung_up → PutsAll old (decimal conn ++ codes " ") (Ok done) now
    → PutsAll now (shown said ++ (ending closed ++ codes "\n")) result new → PutsAll old (line_of conn sent hung_up) result new
PutsAll-line old now new conn said sent closed hung_up done result is_said is_closed number puts =
    let P : List ℕ → Type 0 = λ text. PutsAll old text result new in
    let line : (decimal conn ++ codes " ") ++ (shown said ++ (ending closed ++ codes "\n")) ≡ line_of conn sent hung_up =
    line_parts conn said closed ∙ ap (λ octets. line_of conn octets closed) is_said ∙ ap (λ end. line_of conn sent end) is_closed in
    subst P line (PutsAll-then old now new (decimal conn ++ codes " ") (shown said ++ (ending closed ++ codes "\n")) done result number puts)

-- the number of the line was refused
pub PutsAll-number :
    (old new : Option (List ℕ)) (conn : ℕ) (sent : List ℕ) (hung_up : Bool) (fault : PutFault)
    → PutsAll {T = Unit {0}} old (decimal conn ++ codes " ") (Err fault) new → PutsAll {T = Unit {0}} old (line_of conn sent hung_up) (Err fault) new
PutsAll-number old new conn sent hung_up fault puts =
    let P : List ℕ → Type 0 = λ text. PutsAll {T = Unit {0}} old text (Err fault) new in
    subst P (line_parts conn sent hung_up) (PutsAll-cut (Unit {0}) old new (decimal conn ++ codes " ") (shown sent ++ (ending hung_up ++ codes "\n")) fault puts)
