-- The operations by the words of `do` (RFC 4511 4.2 to 4.12, RFC 4532).
use Rattle.std.specs.Prelude.{ℕ, Bool, true, false, List, codes, Option, Some, None, if◌then◌else◌}
use Rattle.std.specs.Str.{bytes_eq}
use Rattle.client_core.specs.declared.words.Word.{Word}
use Rattle.client_core.specs.declared.words.Word.TheVariants as word

-- the operation of a word
unfoldable pub word_of : List ℕ → Option Word
word_of text =
    if bytes_eq text (codes "bind") then Some word.Bind
    else if bytes_eq text (codes "search") then Some word.Search
    else if bytes_eq text (codes "compare") then Some word.Compare
    else if bytes_eq text (codes "add") then Some word.Add
    else if bytes_eq text (codes "modify") then Some word.Modify
    else if bytes_eq text (codes "rename") then Some word.Rename
    else if bytes_eq text (codes "delete") then Some word.Delete
    else if bytes_eq text (codes "whoami") then Some word.WhoAmI
    else if bytes_eq text (codes "unbind") then Some word.Unbind
    else None

-- the operation is on the session, and has no target
abbrev pub has_no_name : Word → Bool
has_no_name word.Bind = false
has_no_name word.Search = false
has_no_name word.Compare = false
has_no_name word.Add = false
has_no_name word.Modify = false
has_no_name word.Rename = false
has_no_name word.Delete = false
has_no_name word.WhoAmI = true
has_no_name word.Unbind = true
