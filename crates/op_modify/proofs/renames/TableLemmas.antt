-- The table of a rename, in its two parts.
use Rattle.std.proofs.Common.{◌≡◌, ◌≢◌, ℕ, ◌==◌, List, [], ◌∷◌, ◌++◌, length, Option, Some, None, refl, ap, ◌∙◌}
use Rattle.std.proofs.lemmas.Bool.{cond-false, ne_eqb}
use Rattle.dir_tree.specs.Entry.{EntryInformation}
use Rattle.dir_tree.specs.tree.Trees.{named_in, put_in, taken_out}
use Rattle.acdf_filters.specs.declared.asking.Requester.{Requester}
use Rattle.ldap_msg.specs.plain_values.Refusals.{first_some}
use Rattle.ldap_msg.specs.declared.operations.ResultCode.TheVariants as code
use Rattle.ldap_msg.specs.declared.kinds.LdapResult.{LdapResult}
use Rattle.read_model.specs.Views.{result_of}
use Rattle.op_add_delete.specs.adding.Updates.{Refused, unless}
use Rattle.op_modify.specs.declared.renaming.Renaming.{Renaming}
use Rattle.op_modify.specs.Renames.{rename_refusal, renamed_as, renamed_target, renamed_by}
use Rattle.op_modify.specs.Steps.{leaving_rows, coming_rows}

-- a table in two parts: a refusal of the first, or the second
first_some-stop : {A : Type 0} (rows more : List (Option A)) (refusal : A) → first_some rows ≡ Some refusal → first_some (rows ++ more) ≡ Some refusal
first_some-stop [] more refusal e = absurd cc
first_some-stop (None ∷ rows) more refusal e = first_some-stop rows more refusal e
first_some-stop (Some other ∷ rows) more refusal e = e

first_some-past : {A : Type 0} (rows more : List (Option A)) → first_some rows ≡ None → first_some (rows ++ more) ≡ first_some more
first_some-past [] more e = refl
first_some-past (None ∷ rows) more e = first_some-past rows more e
first_some-past (Some other ∷ rows) more e = absurd cc

-- what the target and the new superior decide
pub renamed-stop : (entries : List EntryInformation) (who : Requester) (renaming : Renaming) (target entry : EntryInformation) (refusal : LdapResult) → first_some (leaving_rows entries who renaming target) ≡ Some refusal
    → renamed_as entries who renaming target entry ≡ Refused refusal
unfolding rename_refusal
renamed-stop entries who renaming target entry refusal e =
    ap (λ (refusal : Option LdapResult). unless refusal (put_in entry (taken_out target.name entries)))
    (first_some-stop (leaving_rows entries who renaming target) (coming_rows entries who renaming target entry) refusal e)

-- what the renamed entry decides
pub renamed-past : (entries : List EntryInformation) (who : Requester) (renaming : Renaming) (target entry : EntryInformation) (refusal : Option LdapResult) → first_some (leaving_rows entries who renaming target) ≡ None
    → first_some (coming_rows entries who renaming target entry) ≡ refusal → renamed_as entries who renaming target entry ≡ unless refusal (put_in entry (taken_out target.name entries))
unfolding rename_refusal
renamed-past entries who renaming target entry refusal none e =
    ap (λ (refusal : Option LdapResult). unless refusal (put_in entry (taken_out target.name entries)))
    (first_some-past (leaving_rows entries who renaming target) (coming_rows entries who renaming target entry) none ∙ e)

-- a rename of what is not the root
pub renamed_by-named : (entries : List EntryInformation) (who : Requester) (renaming : Renaming) (len : ℕ) → len ≡ length renaming.name → len ≢ 0 → renamed_by entries who (Some renaming) ≡ renamed_target entries who renaming (named_in renaming.name entries)
renamed_by-named entries who renaming len is some =
    cond-false (length renaming.name == 0) (Refused (result_of code.UnwillingToPerform)) (renamed_target entries who renaming (named_in renaming.name entries))
    (ne_eqb (length renaming.name) 0 (λ none. some (is ∙ none)))
