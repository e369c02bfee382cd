use Rattle.std.proofs.Common.{refl, sym, ap}
use Rattle.std.specs.Prelude.{option_copied}
use Rattle.command_words.specs.command.Command.{serving_view}
use Rattle.command_files.proofs.Theorems.{LoadsFile-good}
use Rattle.acl_program.proofs.storing.ReadyLemmas.{Readies-after, Readies-alone, Readies-unread}
use Rattle.acl_program.proofs.storing.make_ready.Goals as goal

-- the tree is good
pub open_store-requires : goal.open_store-requires
open_store-requires g c = record { good = LoadsFile-good _ _ _ _ _ c.in-Ok.ensures.exact }

-- the data file was loaded, and a file of changes is named
pub returns-in-Some-clause-readies : goal.returns-in-Some-clause-readies
returns-in-Some-clause-readies g c = rw (sym c.outside.view_is) (Readies-after (serving_view c.args.asked.now) _ _ _ _ _ _ c.in-Ok.ensures.kept c.in-Ok.ensures.exact
    (λ loads. c.open_store.ensures.readies (serving_view c.args.asked.now) _ (ap option_copied c.in-Some.is) loads))

-- and none is
pub returns-in-None-clause-readies : goal.returns-in-None-clause-readies
returns-in-None-clause-readies g c = rw (sym c.outside.view_is) (Readies-alone (serving_view c.args.asked.now) _ _ _ _ (ap option_copied c.in-None.is) c.in-Ok.ensures.exact c.unchanged.ensures.exact refl)

-- it wasn't loaded
pub returns-in-Err-clause-readies : goal.returns-in-Err-clause-readies
returns-in-Err-clause-readies g c = rw (sym c.outside.view_is) (Readies-unread (serving_view c.args.asked.now) _ _ _ c.in-Err.ensures.exact refl)
