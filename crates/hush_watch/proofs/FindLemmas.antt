-- What breaks a hush first is what the events show first, where the name is below the suffix.
use Rattle.std.proofs.Common.{◌≡◌, ℕ, true, false, if◌then◌else◌, List, Some, refl, ap, sym}
use Rattle.dir_tree.specs.dn_names.name.Names.{RdnSequence}
use Rattle.hush_laws.specs.op_read.twin_laws.Twins.{is_below_suffix}
use Rattle.session_hub.specs.session_model.Run.{Step, start}
use Rattle.session_hub.specs.session_model.Places.{places_of_replay}
use Rattle.session_hub.specs.Parties.{DirectoryEntries}
use Rattle.session_hub.specs.Terms.{no_terms}
use Rattle.session_hub.specs.Answering.{rules}
use Rattle.hush_laws.specs.declared.part.Part.TheVariants.{Suffix}
use Rattle.hush_laws.specs.Hush.{fault_at, first_fault, hush_of_replay}
use Rattle.hush_watch.specs.Served.{ServedHeld, Holds}
use Rattle.hush_watch.specs.Watching.{IsWatched, first_shown}

module _ (number : ℕ) (top : RdnSequence) (before : DirectoryEntries) where
  -- nobody asks at the beginning
  pub watched-start : (held : ServedHeld) → Holds (start (rules no_terms) before) held → IsWatched number top before (start (rules no_terms) before) held
  unfolding start
  watched-start held holds = record { holds = holds; passes = refl }

  pub hush-below : (steps : List Step) → is_below_suffix top before ≡ true → first_shown number top before steps ≡ hush_of_replay no_terms before steps number top
  unfolding hush_of_replay start
  hush-below steps below =
      sym (ap (λ b. if b then first_fault (fault_at top before) (places_of_replay (rules no_terms) number before steps) else Some (record { heard = 0; part = Suffix })) below)

  -- the name is not below the suffix
  pub hush-above : (steps : List Step) → is_below_suffix top before ≡ false → Some (record { heard = 0; part = Suffix }) ≡ hush_of_replay no_terms before steps number top
  unfolding hush_of_replay
  hush-above steps above =
      sym (ap (λ b. if b then first_fault (fault_at top before) (places_of_replay (rules no_terms) number before steps) else Some (record { heard = 0; part = Suffix })) above)
