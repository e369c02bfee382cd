-- The definitions, computed on known cases.
use Rattle.std.proofs.Common.{◌≡◌, codes, refl}
use Rattle.std.specs.Fmt.{digits}
use Rattle.change_replay.specs.aci_item.declared.entry_rule.EntryRule.TheVariants.{Classes}
use Rattle.client_core.specs.ldap_msg.declared.operations.ResultCode.TheVariants as code
use Rattle.data_file.specs.declared.fault.DataCause.TheVariants.{Line, Record}
use Rattle.data_file.specs.ldif_load.declared.fault.LoadCause.TheVariants.{Rule}
use Rattle.data_file.specs.ldif_records.declared.types.LineCause.TheVariants.{Changetype}
use Rattle.command_files.specs.declared.changing.ChangesCause.TheVariants as changes
use Rattle.command_files.specs.declared.loading.SecondFile.TheVariants.{Requests}
use Rattle.command_files.specs.declared.loading.Trouble.TheVariants.{BadChanges, BadData, BadLine}
use Rattle.command_files.specs.Troubles.{trouble_text}

-- a line that isn't in the form of a data file, and a record that breaks a rule
bad_form : trouble_text (BadData 12 (Line Changetype)) ≡ codes "bad data line 12: changetype\n"
unfolding digits
bad_form = refl

bad_record : trouble_text (BadData 7 (Record (Rule Classes))) ≡ codes "bad data line 7: rule 65\n"
unfolding digits
bad_record = refl

-- a bad line of requests
bad_request : trouble_text (BadLine Requests 3) ≡ codes "bad request line 3\n"
unfolding digits
bad_request = refl

-- a line of changes of no form that may stand there, another data file, and a change that can't be applied
bad_change : trouble_text (BadChanges 6 (changes.Line Changetype)) ≡ codes "bad changes line 6: changetype\n"
unfolding digits
bad_change = refl

other_data : trouble_text (BadChanges 2 changes.Digest) ≡ codes "bad changes line 2: digest\n"
unfolding digits
other_data = refl

refused_change : trouble_text (BadChanges 4 (changes.Code code.EntryAlreadyExists)) ≡ codes "bad changes line 4: code 68\n"
unfolding digits
refused_change = refl
