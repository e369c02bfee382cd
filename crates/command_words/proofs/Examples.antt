-- The definitions on known command lines: what clap keeps of the words after a command's name, and what that says.
use Rattle.std.proofs.Common.{◌≡◌, true, false, cond, ℕ, List, [], ◌∷◌, length, Option, Some, None, refl}
use Rattle.std.specs.Prelude.{codes, ◌==◌}
use Rattle.clap.specs.Walk.{all_of}
use Rattle.clap.specs.Simple.{matches_of}
use Rattle.clap.specs.Faults.{fault_of}
use Rattle.clap.proofs.OnLiterals.{clap_on_literals}
use Rattle.command_words.specs.declared.table.CommandName.{CommandName}
use Rattle.command_words.specs.declared.table.CommandName.TheVariants as commands
use Rattle.command_words.specs.Table.{row_of}
use Rattle.command_words.specs.Number.{number_of, number_within}
use Rattle.command_words.specs.Address.{is_address, address_of}
use Rattle.command_words.specs.command.Command.{CommandView, Serve, Replay, Check, Why, Dump, Explain, Sample, Ask, Prove, Verify, Rights, Help, Version}
use Rattle.command_words.specs.parser.Parser.{app_for, id_of}
use Rattle.command_words.specs.parser.Asked.{command_said, said_by}

-- what the words after a command's name ask for, by clap's matches, where it has no fault
abbrev read : CommandName → List (List ℕ) → Option CommandView
read name words = cond (length (fault_of (app_for (row_of name)) words) == 0) (said_by name (λ sought. all_of (id_of sought) (matches_of (app_for (row_of name)) words))) None

-- `replay d s`
two_operands : read commands.Replay (codes "d" ∷ codes "s" ∷ []) ≡ Some (Replay (codes "d") (codes "s") 1000000000000 false)
unfolding clap_on_literals command_said said_by
two_operands = refl

-- `replay --turns 007 d s`
apart : read commands.Replay (codes "--turns" ∷ codes "007" ∷ codes "d" ∷ codes "s" ∷ []) ≡ Some (Replay (codes "d") (codes "s") 7 false)
unfolding clap_on_literals command_said said_by number_of number_within
apart = refl

-- `replay d --turns=0 -- -s`
joined : read commands.Replay (codes "d" ∷ codes "--turns=0" ∷ codes "--" ∷ codes "-s" ∷ []) ≡ Some (Replay (codes "d") (codes "-s") 0 false)
unfolding clap_on_literals command_said said_by number_of number_within
joined = refl

-- `replay - s`, where `-` is an operand
dash : read commands.Replay (codes "-" ∷ codes "s" ∷ []) ≡ Some (Replay (codes "-") (codes "s") 1000000000000 false)
unfolding clap_on_literals command_said said_by
dash = refl

-- `replay d s --turns -`
dash_as_argument : read commands.Replay (codes "d" ∷ codes "s" ∷ codes "--turns" ∷ codes "-" ∷ []) ≡ None
unfolding clap_on_literals command_said said_by number_of number_within
dash_as_argument = refl

-- `replay d s --turns=-1`
below_zero : read commands.Replay (codes "d" ∷ codes "s" ∷ codes "--turns=-1" ∷ []) ≡ None
unfolding clap_on_literals command_said said_by number_of number_within
below_zero = refl

-- `replay d s --turns 1 --turns 1`
given_twice : read commands.Replay (codes "d" ∷ codes "s" ∷ codes "--turns" ∷ codes "1" ∷ codes "--turns" ∷ codes "1" ∷ []) ≡ None
unfolding clap_on_literals command_said said_by
given_twice = refl

-- `replay d s --help`
unknown_option : read commands.Replay (codes "d" ∷ codes "s" ∷ codes "--help" ∷ []) ≡ None
unfolding clap_on_literals command_said said_by
unknown_option = refl

-- `replay --dump d s`
dumped : read commands.Replay (codes "--dump" ∷ codes "d" ∷ codes "s" ∷ []) ≡ Some (Replay (codes "d") (codes "s") 1000000000000 true)
unfolding clap_on_literals command_said said_by
dumped = refl

-- `replay d s --turns 7 --dump`
dumped_last : read commands.Replay (codes "d" ∷ codes "s" ∷ codes "--turns" ∷ codes "7" ∷ codes "--dump" ∷ []) ≡ Some (Replay (codes "d") (codes "s") 7 true)
unfolding clap_on_literals command_said said_by number_of number_within
dumped_last = refl

-- `replay d -- --dump`
dump_as_operand : read commands.Replay (codes "d" ∷ codes "--" ∷ codes "--dump" ∷ []) ≡ Some (Replay (codes "d") (codes "--dump") 1000000000000 false)
unfolding clap_on_literals command_said said_by
dump_as_operand = refl

-- `replay d s --dump=1`
dump_with_value : read commands.Replay (codes "d" ∷ codes "s" ∷ codes "--dump=1" ∷ []) ≡ None
unfolding clap_on_literals command_said said_by
dump_with_value = refl

-- `replay d s --dump=`
dump_with_nothing : read commands.Replay (codes "d" ∷ codes "s" ∷ codes "--dump=" ∷ []) ≡ None
unfolding clap_on_literals command_said said_by
dump_with_nothing = refl

-- `replay --dump d s --dump`
dumped_twice : read commands.Replay (codes "--dump" ∷ codes "d" ∷ codes "s" ∷ codes "--dump" ∷ []) ≡ None
unfolding clap_on_literals command_said said_by
dumped_twice = refl

-- `replay d s --turns --dump`
dump_for_turns : read commands.Replay (codes "d" ∷ codes "s" ∷ codes "--turns" ∷ codes "--dump" ∷ []) ≡ None
unfolding clap_on_literals command_said said_by
dump_for_turns = refl

-- `check d`
checked : read commands.Check (codes "d" ∷ []) ≡ Some (Check (codes "d") None)
unfolding clap_on_literals command_said said_by
checked = refl

-- `check -- -d`
checked_after : read commands.Check (codes "--" ∷ codes "-d" ∷ []) ≡ Some (Check (codes "-d") None)
unfolding clap_on_literals command_said said_by
checked_after = refl

-- `check d s`
check_of_two : read commands.Check (codes "d" ∷ codes "s" ∷ []) ≡ None
unfolding clap_on_literals command_said said_by
check_of_two = refl

-- `check d --dump`, whose option is none of the command
check_dumped : read commands.Check (codes "d" ∷ codes "--dump" ∷ []) ≡ None
unfolding clap_on_literals command_said said_by
check_dumped = refl

-- `check d --changes c`
checked_with_changes : read commands.Check (codes "d" ∷ codes "--changes" ∷ codes "c" ∷ []) ≡ Some (Check (codes "d") (Some (codes "c")))
unfolding clap_on_literals command_said said_by
checked_with_changes = refl

-- `check --changes=-c d`, whose file of changes begins with `-`
checked_before : read commands.Check (codes "--changes=-c" ∷ codes "d" ∷ []) ≡ Some (Check (codes "d") (Some (codes "-c")))
unfolding clap_on_literals command_said said_by
checked_before = refl

-- `check d --changes -`, and `check d --changes --changes`, where no name follows
checked_with_dash : read commands.Check (codes "d" ∷ codes "--changes" ∷ codes "-" ∷ []) ≡ Some (Check (codes "d") (Some (codes "-")))
unfolding clap_on_literals command_said said_by
checked_with_dash = refl

-- an option is no name of a file
check_without_name : read commands.Check (codes "d" ∷ codes "--changes" ∷ codes "--changes" ∷ []) ≡ None
unfolding clap_on_literals command_said said_by
check_without_name = refl

-- `check d --why`, and `check d --why --changes c`, where no words ask for both
checked_why : read commands.Check (codes "d" ∷ codes "--why" ∷ []) ≡ Some (Why (codes "d"))
unfolding clap_on_literals command_said said_by
checked_why = refl

checked_why_changed : read commands.Check (codes "d" ∷ codes "--why" ∷ codes "--changes" ∷ codes "c" ∷ []) ≡ None
unfolding clap_on_literals command_said said_by
checked_why_changed = refl

-- `check d --changes c --changes c`
check_changed_twice : read commands.Check (codes "d" ∷ codes "--changes" ∷ codes "c" ∷ codes "--changes" ∷ codes "c" ∷ []) ≡ None
unfolding clap_on_literals command_said said_by
check_changed_twice = refl

-- `dump d`
dump_command : read commands.Dump (codes "d" ∷ []) ≡ Some (Dump (codes "d") None)
unfolding clap_on_literals command_said said_by
dump_command = refl

-- `dump d --changes=c`
dump_with_changes : read commands.Dump (codes "d" ∷ codes "--changes=c" ∷ []) ≡ Some (Dump (codes "d") (Some (codes "c")))
unfolding clap_on_literals command_said said_by
dump_with_changes = refl

-- `dump d --dump`, whose option is none of the command
dump_dumped : read commands.Dump (codes "d" ∷ codes "--dump" ∷ []) ≡ None
unfolding clap_on_literals command_said said_by
dump_dumped = refl

-- `dump`
dump_of_nothing : read commands.Dump [] ≡ None
unfolding clap_on_literals command_said said_by
dump_of_nothing = refl

-- `dump --turns=1 d`
dump_turned : read commands.Dump (codes "--turns=1" ∷ codes "d" ∷ []) ≡ None
unfolding clap_on_literals command_said said_by
dump_turned = refl

-- `serve d 127.0.0.1:389 --sessions=3`
served : read commands.Serve (codes "d" ∷ codes "127.0.0.1:389" ∷ codes "--sessions=3" ∷ []) ≡ Some (Serve (record { data_file = codes "d"; address = codes "127.0.0.1:389"; sessions = 3; turns = 1000000000000; queues = 256; idle = 0; limit = 0; changes = None }))
unfolding clap_on_literals command_said said_by number_of number_within is_address address_of
served = refl

-- `serve d 127.0.0.1:389 --queues=1 --idle 60 --limit=2`
served_bounded : read commands.Serve (codes "d" ∷ codes "127.0.0.1:389" ∷ codes "--queues=1" ∷ codes "--idle" ∷ codes "60" ∷ codes "--limit=2" ∷ []) ≡ Some (Serve (record { data_file = codes "d"; address = codes "127.0.0.1:389"; sessions = 0; turns = 1000000000000; queues = 1; idle = 60; limit = 2; changes = None }))
unfolding clap_on_literals command_said said_by number_of number_within is_address address_of
served_bounded = refl

-- `serve d 127.0.0.1:389 --changes c`
served_with_changes : read commands.Serve (codes "d" ∷ codes "127.0.0.1:389" ∷ codes "--changes" ∷ codes "c" ∷ []) ≡ Some (Serve (record { data_file = codes "d"; address = codes "127.0.0.1:389"; sessions = 0; turns = 1000000000000; queues = 256; idle = 0; limit = 0; changes = Some (codes "c") }))
unfolding clap_on_literals command_said said_by number_of number_within is_address address_of
served_with_changes = refl

-- `serve d 127.0.0.1:389 --queues=0` and `--limit=2147483648`, out of their ranges
served_without_queues : read commands.Serve (codes "d" ∷ codes "127.0.0.1:389" ∷ codes "--queues=0" ∷ []) ≡ None
unfolding clap_on_literals command_said said_by number_of number_within is_address address_of
served_without_queues = refl

served_past_the_limit : read commands.Serve (codes "d" ∷ codes "127.0.0.1:389" ∷ codes "--limit=2147483648" ∷ []) ≡ None
unfolding clap_on_literals command_said said_by number_of number_within is_address address_of
served_past_the_limit = refl

-- `serve d 127.0.0.1:0`
served_at_zero : read commands.Serve (codes "d" ∷ codes "127.0.0.1:0" ∷ []) ≡ None
unfolding clap_on_literals command_said said_by number_of number_within is_address address_of
served_at_zero = refl

-- `serve d 127.0.0.1:389 --dump`, whose option is none of the command
serve_dumped : read commands.Serve (codes "d" ∷ codes "127.0.0.1:389" ∷ codes "--dump" ∷ []) ≡ None
unfolding clap_on_literals command_said said_by
serve_dumped = refl

-- `explain d anonymous dc=t entry Read`
explained : read commands.Explain (codes "d" ∷ codes "anonymous" ∷ codes "dc=t" ∷ codes "entry" ∷ codes "Read" ∷ []) ≡ Some (Explain (codes "d") (codes "anonymous") (codes "dc=t") (codes "entry") (codes "Read"))
unfolding clap_on_literals command_said said_by
explained = refl

-- `explain d anonymous dc=t entry`
explain_of_four : read commands.Explain (codes "d" ∷ codes "anonymous" ∷ codes "dc=t" ∷ codes "entry" ∷ []) ≡ None
unfolding clap_on_literals command_said said_by
explain_of_four = refl

-- `sample 20000` and `sample 20001`
sampled : read commands.Sample (codes "20000" ∷ []) ≡ Some (Sample 20000)
unfolding clap_on_literals command_said said_by number_of number_within
sampled = refl

sample_too_great : read commands.Sample (codes "20001" ∷ []) ≡ None
unfolding clap_on_literals command_said said_by number_of number_within
sample_too_great = refl

-- `ask d r`, and with its flag
asked : read commands.Ask (codes "d" ∷ codes "r" ∷ []) ≡ Some (Ask (codes "d") (codes "r") false)
unfolding clap_on_literals command_said said_by
asked = refl

asked_as_script : read commands.Ask (codes "d" ∷ codes "--script" ∷ codes "r" ∷ []) ≡ Some (Ask (codes "d") (codes "r") true)
unfolding clap_on_literals command_said said_by
asked_as_script = refl

-- `ask d r --script --script`, `ask d r --script=1` and `ask d r --dump`
asked_twice : read commands.Ask (codes "d" ∷ codes "r" ∷ codes "--script" ∷ codes "--script" ∷ []) ≡ None
unfolding clap_on_literals command_said said_by
asked_twice = refl

asked_with_value : read commands.Ask (codes "d" ∷ codes "r" ∷ codes "--script=1" ∷ []) ≡ None
unfolding clap_on_literals command_said said_by
asked_with_value = refl

ask_dumped : read commands.Ask (codes "d" ∷ codes "r" ∷ codes "--dump" ∷ []) ≡ None
unfolding clap_on_literals command_said said_by
ask_dumped = refl

-- `prove d anonymous dc=t entry Read`
proved : read commands.Prove (codes "d" ∷ codes "anonymous" ∷ codes "dc=t" ∷ codes "entry" ∷ codes "Read" ∷ []) ≡ Some (Prove (codes "d") (codes "anonymous") (codes "dc=t") (codes "entry") (codes "Read"))
unfolding clap_on_literals command_said said_by
proved = refl

-- `verify d c`, and `verify d`
verified : read commands.Verify (codes "d" ∷ codes "c" ∷ []) ≡ Some (Verify (codes "d") (codes "c"))
unfolding clap_on_literals command_said said_by
verified = refl

verify_of_one : read commands.Verify (codes "d" ∷ []) ≡ None
unfolding clap_on_literals command_said said_by
verify_of_one = refl

-- `rights d anonymous dc=t`, and with `--script`, which is none of its options
all_rights : read commands.Rights (codes "d" ∷ codes "anonymous" ∷ codes "dc=t" ∷ []) ≡ Some (Rights (codes "d") (codes "anonymous") (codes "dc=t"))
unfolding clap_on_literals command_said said_by
all_rights = refl

rights_as_script : read commands.Rights (codes "d" ∷ codes "anonymous" ∷ codes "dc=t" ∷ codes "--script" ∷ []) ≡ None
unfolding clap_on_literals command_said said_by
rights_as_script = refl

-- `--help`, `--version`, and `--help d`
helped : read commands.Help [] ≡ Some Help
unfolding clap_on_literals command_said said_by
helped = refl

versioned : read commands.Version [] ≡ Some Version
unfolding clap_on_literals command_said said_by
versioned = refl

help_of_a_file : read commands.Help (codes "d" ∷ []) ≡ None
unfolding clap_on_literals command_said said_by
help_of_a_file = refl

-- the least and the greatest port, and what is none
least_port : is_address (codes "127.0.0.1:00001") ≡ true
unfolding is_address number_within number_of
least_port = refl

greatest_port : is_address (codes "127.0.0.1:65535") ≡ true
unfolding is_address number_within number_of
greatest_port = refl

port_above : is_address (codes "127.0.0.1:65536") ≡ false
unfolding is_address number_within number_of
port_above = refl

six_digits : is_address (codes "127.0.0.1:000389") ≡ false
unfolding is_address number_within number_of
six_digits = refl

without_port : is_address (codes "127.0.0.1") ≡ false
unfolding is_address number_within number_of
without_port = refl

other_host : is_address (codes "127.0.0.2:389") ≡ false
unfolding is_address number_within number_of
other_host = refl

-- the greatest number, and the first above it
greatest : number_of (codes "18446744073709551615") ≡ Some 18446744073709551615
unfolding number_of
greatest = refl

above : number_of (codes "18446744073709551616") ≡ None
unfolding number_of
above = refl
