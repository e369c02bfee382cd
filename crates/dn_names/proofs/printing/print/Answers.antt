-- What is printed of texts is a text.
use Rattle.dn_names.specs.Printing.{print_name}
use Rattle.dn_names.proofs.printing.PrintTextLemmas.{IsUtf8-print_name}
use Rattle.dn_names.proofs.printing.print.Goals as goal

pub as_text-requires : goal.as_text-requires
unfolding print_name
as_text-requires c = rw (c.deref.ensures.value, c.in_ok-text.ensures.ok) (IsUtf8-print_name c.args.name.now c.in_ok-text.ensures.text)
