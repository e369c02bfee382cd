use Rattle.ldif_records.proofs.laws.KindForms.{IsNext-kinds, is_kind-ascii}
use Rattle.ldif_records.proofs.laws.the_types_of_a_record_have_their_form.Goals as goal

pub returns : goal.returns
returns c = record { form = IsNext-kinds; ascii = is_kind-ascii }
