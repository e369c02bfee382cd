-- The text in which a value keeps its octets and its key, and its two forms.
use Rattle.std.specs.Prelude.{ℕ, Bool, true, false, List, take}
use Rattle.dn_names.specs.declared.short.Form.{Form}
use Rattle.dn_names.specs.declared.short.Form.TheVariants.{Short, Long}

-- a text, and the place where it is split
pub record SplitText : Type 0 where
  pub octets : List ℕ
  pub split : ℕ

-- the most octets of a short text
abbrev pub room : ℕ
room = 37

-- the text of either form
abbrev pub text_in : Form → SplitText
text_in (Short len split octets) = record { octets = take len octets; split = split }
text_in (Long split octets) = record { octets = octets.items; split = split }

-- whether the form is the one that takes no memory beside its own
abbrev pub is_short : Form → Bool
is_short (Short len split octets) = true
is_short (Long split octets) = false
