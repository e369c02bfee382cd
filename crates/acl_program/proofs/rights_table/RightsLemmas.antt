-- Lemmas on rights that are told.
use Rattle.std.proofs.Common.{◌≡◌, ◌∙◌, ℕ, List, Some, None, Ok, refl, sym}
use Rattle.command_files.specs.dir_tree.tree.Numbered.{Numbered, entries_of}
use Rattle.command_files.specs.dn_names.name.Names.{RdnSequence}
use Rattle.command_files.specs.loading.Accepting.{HoldsIn}
use Rattle.command_files.specs.loading.Loading.{LoadsData}
use Rattle.command_words.specs.command.Command.{Rights}
use Rattle.certify.specs.RightsTable.{rights_at}
use Rattle.certify.specs.explanation.NameWords.{who_of, target_of}
use Rattle.session_hub.specs.Parties.{Requester}
use Rattle.acl_program.specs.declared.rights_table.Party.{Party}
use Rattle.acl_program.specs.declared.status.Status.{Status}
use Rattle.acl_program.specs.Answering.{TellsRights}
use Rattle.acl_program.specs.Deciding.{SaysParty}
use Rattle.acl_program.specs.Outcomes.{NoCommand, Answered}
use Rattle.acl_program.specs.program.Outside.{Outside}
use Rattle.acl_program.specs.program.Playing.{Ends, Performs}
use Rattle.acl_program.proofs.program.PerformLemmas.{Performs-answered}
use Rattle.acl_program.proofs.program.RunLemmas.{Performs-undone}

-- a word that says nobody, or no name
pub says_nobody : (who target : List ℕ) → None ≡ who_of who → SaysParty who target None
unfolding SaysParty
says_nobody who target none data_file performed = let clash : None ≡ Some performed.0 = none ∙ performed.2 in cc

pub says_no_target : (who target : List ℕ) → None ≡ target_of target → SaysParty who target None
unfolding SaysParty
says_no_target who target none data_file performed = let clash : None ≡ Some performed.1 = none ∙ performed.3 in cc

-- both are said
pub says_both : (who target : List ℕ) (party : Party) → Some party.who ≡ who_of who → Some party.target ≡ target_of target → SaysParty who target (Some party)
unfolding SaysParty
says_both who target party is_who is_target = (sym is_who, sym is_target)

-- what a party says of its words
pub said_who : (who target : List ℕ) (party : Party) → SaysParty who target (Some party) → who_of who ≡ Some party.who
unfolding SaysParty
said_who who target party says = says.0

pub said_target : (who target : List ℕ) (party : Party) → SaysParty who target (Some party) → target_of target ≡ Some party.target
unfolding SaysParty
said_target who target party says = says.1

-- the words say no party
pub Performs-no_party :
    (name who target : List ℕ) (before after : Outside) (status : Status)
    → SaysParty who target None → Ends NoCommand before.out status after.out
    → after.shelf.faults ≡ before.shelf.faults → after.link ≡ before.link → Performs (Rights name who target) before status after
unfolding SaysParty
Performs-no_party name who target before after status none ends stays same = Performs-undone (Rights name who target) before after status (none name) ends stays same

-- a data file was loaded, and the table was to be put
pub Performs-rights :
    (name who target : List ℕ) (requester : Requester) (entry : RdnSequence) (before after : Outside) (status : Status) (rows : List Numbered)
    → who_of who ≡ Some requester → target_of target ≡ Some entry → LoadsData before.shelf.files name before.shelf.faults after.shelf.faults (Ok rows)
    → Ends (Answered (rights_at (entries_of rows) requester entry)) before.out status after.out → after.link ≡ before.link
    → Performs (Rights name who target) before status after
unfolding LoadsData
Performs-rights name who target requester entry before after status rows is_who is_target loads ends same =
    let tells : TellsRights name who target (HoldsIn before.shelf.files) (rights_at (entries_of rows) requester entry) =
    record { requester = requester; name = entry; entries = entries_of rows; says_who = is_who; says_target = is_target; good = loads.0; is = refl } in
    Performs-answered (Rights name who target) (rights_at (entries_of rows) requester entry) before after status tells loads.2 ends same
