-- The script of requests, read again.
use Rattle.std.proofs.Common.{◌≡◌, ℕ, ◌+◌, not, true, List, [], ◌∷◌, ◌++◌, map, Ok, refl, sym, ap, ◌∙◌, arith, append_assoc, append-nil}
use Rattle.std.specs.Prelude.{codes}
use Rattle.std.specs.List.{flat_map}
use Rattle.std.specs.Str.Lines.{lines}
use Rattle.std.proofs.lemmas.List.Sums.{AllPass-from_list_all}
use Rattle.hex.specs.Hex.{encode_lower, IsBytes}
use Rattle.ldap_msg.specs.reading.Messages.{request_octets}
use Rattle.script_text.specs.declared.event.ScriptEvent.{ScriptEvent}
use Rattle.script_text.specs.declared.event.ScriptEvent.TheVariants.{Opened}
use Rattle.script_text.specs.LineReading.{event_of, number_of}
use Rattle.script_text.specs.script.Script.{IsScript, may_follow, has}
use Rattle.script_text.specs.script.ScriptReading.{after_line, after_lines, script_of, ◌>>=◌}
use Rattle.script_text.proofs.Theorems.{script_of-ok}
use Rattle.client_core.specs.declared.types.Asked.{Asked}
use Rattle.client_core.specs.Scripts.{sent, send_line, ask_events, ask_script, HaveOctets}
use Rattle.client_core.proofs.scripts.EventLemmas.{request_some, ended_by-sent}
use Rattle.client_core.proofs.scripts.LineLemmas.{is_inside, lines-inside, send_text, send_inside, event_of-sent}

-- the text of a request's line
abbrev line_of : Asked → List ℕ
line_of ask = send_text (request_octets ask.message)

-- ---- the lines

lines-sent : (asked : List Asked) → HaveOctets asked → lines (flat_map send_line asked) ≡ map line_of asked
lines-sent [] all = refl
lines-sent (ask ∷ asked) all =
    let digits = encode_lower (request_octets ask.message) in
    ap (λ text. lines (codes "send 1 " ++ text)) (append_assoc digits (10 ∷ []) (flat_map send_line asked))
    ∙ lines-inside (line_of ask) (flat_map send_line asked) (omega arith) (send_inside (request_octets ask.message) all.0)
    ∙ ap (λ rest. line_of ask ∷ rest) (lines-sent asked all.1)

lines-script : (asked : List Asked) → HaveOctets asked → lines (ask_script asked) ≡ codes "open 1" ∷ map line_of asked
unfolding ask_script
lines-script asked all =
    lines-inside (codes "open 1") (flat_map send_line asked) (omega arith) (AllPass-from_list_all is_inside (codes "open 1") refl)
    ∙ ap (λ rest. codes "open 1" ∷ rest) (lines-sent asked all)

-- ---- the events

-- a message may follow others on the connection
follows : (done : List Asked) (ask : Asked) → may_follow (Opened 1 ∷ map sent done) (sent ask) ≡ true
follows done ask = ap (λ ended. not (has 1 ended)) (ended_by-sent done)

after_line-sent : (before : List ScriptEvent) (number : ℕ) (ask : Asked) → may_follow before (sent ask) ≡ true → IsBytes (request_octets ask.message)
    → after_line before number (line_of ask) ≡ Ok (before ++ sent ask ∷ [])
unfolding after_line
after_line-sent before number ask may bytes = rw (event_of-sent (request_octets ask.message) (request_some ask.message) bytes, may) refl

sent-push : (done : List Asked) (ask : Asked) → map sent done ++ sent ask ∷ [] ≡ map sent (done ++ ask ∷ [])
sent-push [] ask = refl
sent-push (first ∷ done) ask = ap (λ events. sent first ∷ events) (sent-push done ask)

sent-append : (done : List Asked) (ask : Asked) (asked : List Asked) → map sent (done ++ ask ∷ []) ++ map sent asked ≡ map sent done ++ map sent (ask ∷ asked)
sent-append done ask asked = ap (λ events. events ++ map sent asked) (sym (sent-push done ask)) ∙ append_assoc (map sent done) (sent ask ∷ []) (map sent asked)

after_lines-sent : (done asked : List Asked) (number : ℕ) → HaveOctets asked
    → after_lines (Opened 1 ∷ map sent done) number (map line_of asked) ≡ Ok (Opened 1 ∷ (map sent done ++ map sent asked))
unfolding after_lines
after_lines-sent done [] number all = ap (λ events. Ok (Opened 1 ∷ events)) (sym (append-nil (map sent done)))
after_lines-sent done (ask ∷ asked) number all =
    ap (λ events. events >>= λ found. after_lines found (number + 1) (map line_of asked)) (after_line-sent (Opened 1 ∷ map sent done) number ask (follows done ask) all.0)
    ∙ ap (λ events. after_lines (Opened 1 ∷ events) (number + 1) (map line_of asked)) (sent-push done ask)
    ∙ after_lines-sent (done ++ ask ∷ []) asked (number + 1) all.1
    ∙ ap (λ events. Ok (Opened 1 ∷ events)) (sent-append done ask asked)

-- connection 1 is opened
opened : (rest : List (List ℕ)) → after_lines [] 1 (codes "open 1" ∷ rest) ≡ after_lines (Opened 1 ∷ []) 2 rest
unfolding after_lines after_line event_of number_of
opened rest = refl

pub script_read : (asked : List Asked) → HaveOctets asked → IsScript (ask_script asked) (ask_events asked)
unfolding script_of ask_events
script_read asked all =
    script_of-ok (ask_script asked) (ask_events asked)
    (ap (after_lines [] 1) (lines-script asked all) ∙ opened (map line_of asked) ∙ after_lines-sent [] asked 2 all)
