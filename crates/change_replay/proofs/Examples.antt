-- The definitions on small cases.
use Rattle.std.proofs.Common.{◌≡◌, true, [], ◌∷◌, None, Some, Ok, Err, refl}
use Rattle.dir_tree.specs.dn_names.declared.error.BadName.TheVariants.{TooMany}
use Rattle.change_laws.specs.op_modify.ldap_msg.declared.operations.ResultCode.TheVariants as code
use Rattle.change_laws.specs.op_modify.ldap_msg.declared.kinds.Request.TheVariants as request
use Rattle.change_replay.specs.Applied.{named, target_by, taken_refusal, renaming_by}
use Rattle.change_replay.specs.Replayed.{replayed}

-- a name that is none, and the empty one, which no entry has
a_bad_name : named (Err TooMany) ≡ Err code.InvalidDnSyntax
a_bad_name = refl

the_empty_name : named (Ok []) ≡ Err code.UnwillingToPerform
the_empty_name = refl

-- no entry has the name
no_entry : target_by None ≡ Err code.NoSuchObject
no_entry = refl

-- another entry has it
a_taken_name : taken_refusal (Some (record { name = []; attributes = [] })) ≡ Some code.EntryAlreadyExists
a_taken_name = refl

-- what is no rename
no_rename : renaming_by None ≡ Err code.InvalidDnSyntax
no_rename = refl

-- a request that changes nothing is refused, with the line of its record
nothing_to_do : replayed [] (record { line = 4; change = request.Unbind } ∷ []) ≡ Err (record { line = 4; code = code.ProtocolError })
unfolding replayed
nothing_to_do = refl

nothing_recorded : replayed [] [] ≡ Ok []
unfolding replayed
nothing_recorded = refl
