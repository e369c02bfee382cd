-- The definitions on known lines and scripts.
use Rattle.std.proofs.Common.{◌≡◌, refl, [], ◌∷◌, ◌++◌, Some, None, Ok, Err}
use Rattle.std.specs.Prelude.{codes}
use Rattle.hex.proofs.OnLiterals.{hex_on_literals}
use Rattle.script_text.specs.declared.event.ScriptEvent.TheVariants.{Opened, Bytes, Ended}
use Rattle.script_text.specs.LineReading.{number_of, octets_of, sent_by, event_of}
use Rattle.script_text.specs.script.ScriptReading.{after_line, after_lines, script_of}

-- lines of each form
opens_seven : event_of (codes "open 7") ≡ Some (Opened 7)
unfolding event_of number_of
opens_seven = refl

opens_with_zeros : event_of (codes "open 0000000012") ≡ Some (Opened 12)
unfolding event_of number_of
opens_with_zeros = refl

opens_the_last : event_of (codes "open 4294967295") ≡ Some (Opened 4294967295)
unfolding event_of number_of
opens_the_last = refl

sends_either_case : event_of (codes "send 3 0aFf") ≡ Some (Bytes 3 (10 ∷ 255 ∷ []))
unfolding event_of sent_by number_of octets_of hex_on_literals
sends_either_case = refl

ends_five : event_of (codes "end 5") ≡ Some (Ended 5)
unfolding event_of number_of
ends_five = refl

-- lines of none
no_zero : event_of (codes "open 0") ≡ None
unfolding event_of number_of
no_zero = refl

none_past_the_last : event_of (codes "open 4294967296") ≡ None
unfolding event_of number_of
none_past_the_last = refl

no_eleven_digits : event_of (codes "open 00000000001") ≡ None
unfolding event_of number_of
no_eleven_digits = refl

no_sign : event_of (codes "open +1") ≡ None
unfolding event_of number_of
no_sign = refl

no_second_space : event_of (codes "send 1  00") ≡ None
unfolding event_of sent_by number_of octets_of hex_on_literals
no_second_space = refl

no_odd_digits : event_of (codes "send 1 000") ≡ None
unfolding event_of sent_by number_of octets_of hex_on_literals
no_odd_digits = refl

no_empty_octets : event_of (codes "send 1 ") ≡ None
unfolding event_of sent_by number_of octets_of hex_on_literals
no_empty_octets = refl

no_space_after : event_of (codes "end 1 ") ≡ None
unfolding event_of number_of
no_space_after = refl

-- a script whose lines end in LF and CR LF, with an empty line and a comment
whole : script_of (codes "open 1" ++ (13 ∷ 10 ∷ codes "#" ++ (10 ∷ 10 ∷ codes "send 1 00" ++ (10 ∷ codes "end 1")))) ≡ Ok (Opened 1 ∷ Bytes 1 (0 ∷ []) ∷ Ended 1 ∷ [])
unfolding script_of after_lines after_line event_of sent_by number_of octets_of hex_on_literals
whole = refl

-- no line at all
empty : script_of [] ≡ Ok []
unfolding script_of after_lines
empty = refl

-- octets come before the connection is opened
early : script_of (codes "send 1 00" ++ (10 ∷ codes "open 1")) ≡ Err 1
unfolding script_of after_lines after_line event_of sent_by number_of octets_of hex_on_literals
early = refl

-- octets come after the end, and the line after is bad too
late : script_of (codes "open 1" ++ (10 ∷ codes "end 1" ++ (10 ∷ codes "send 1 00" ++ (10 ∷ codes "open 1" ++ (10 ∷ []))))) ≡ Err 3
unfolding script_of after_lines after_line event_of sent_by number_of octets_of hex_on_literals
late = refl

-- a carriage return at the end of a text without LF stays in its line
return_kept : script_of (codes "open 1" ++ (13 ∷ [])) ≡ Err 1
unfolding script_of after_lines after_line event_of number_of
return_kept = refl
