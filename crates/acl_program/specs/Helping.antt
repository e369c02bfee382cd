-- How the program is called, and which version it is.
use Rattle.std.specs.Prelude.{ℕ, List, codes}

-- a line for each command, with its operands and its options
abbrev pub help_text : List ℕ
help_text = codes "usage: aclserver COMMAND\n\n  serve DATA ADDRESS [--sessions N] [--turns N] [--queues MIB] [--idle SECONDS] [--limit N] [--changes FILE]\n  replay DATA SCRIPT [--dump] [--turns N]\n  check DATA [--changes FILE | --why]\n  dump DATA [--changes FILE]\n  explain DATA WHO TARGET ITEM PERMISSION\n  prove DATA WHO TARGET ITEM PERMISSION\n  verify DATA CERTIFICATE\n  rights DATA WHO TARGET\n  ask DATA REQUESTS [--script]\n  sample N\n  --help\n  --version\n"

abbrev pub version_text : List ℕ
version_text = codes "aclserver 1.0\n"
