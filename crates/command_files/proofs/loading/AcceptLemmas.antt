-- Lemmas on files that are told and accepted: they were read, aren't refused, and say one thing.
use Rattle.std.proofs.Common.{◌≡◌, ℕ, List, Option, Some, None, subst, arith, inl, inr}
use Rattle.wire_io.specs.plain_values.Counts.{Rose}
use Rattle.wire_io.specs.script_text.declared.event.ScriptEvent.{ScriptEvent}
use Rattle.wire_io.proofs.script_text_proofs.Theorems.{IsScript-read, IsFirstBadLine-read}
use Rattle.wire_io.specs.Files.{Files, file_of, Lacks}
use Rattle.client_core.specs.declared.types.Asked.{Asked}
use Rattle.dir_tree.specs.Entry.{EntryInformation}
use Rattle.data_file.specs.ldif_load.load.DataFile.{FileCause}
use Rattle.command_files.specs.loading.Accepting.{IsUnread, IsGoodData, IsBadData, IsGoodScript, IsBadScript, IsGoodRequests, IsBadRequests, HoldsOf, HoldsIn, FailsIn, IsTold}

-- a file that is known isn't lacking
known_there : (files : Option Files) (name : List ℕ) (P : List ℕ → Type 0) → IsTold files name P → Lacks files name → ⊥
unfolding IsTold Lacks
known_there None name P known lacks = known
known_there (Some files) name P known lacks = let Q : Option (List ℕ) → Type 0 = λ file. HoldsOf P file in subst Q lacks known

-- so it was read, where the shelf is not at fault
pub known_read : (files : Option Files) (name : List ℕ) (P : List ℕ → Type 0) (before after : ℕ) → IsTold files name P → (Rose before after → ⊥) → IsUnread files name before after → ⊥
unfolding IsUnread
known_read files name P before after known still (inl rose) = still rose
known_read files name P before after known still (inr lacks) = known_there files name P known lacks.0

-- what is known and what holds are of one content
both_of : (file : Option (List ℕ)) (P Q : List ℕ → Type 0) → HoldsOf P file → HoldsOf Q file → (content : List ℕ) × P content × Q content
both_of None P Q first second = absurd first
both_of (Some content) P Q first second = (content, first, second)

pub both_in : (files : Option Files) (name : List ℕ) (P Q : List ℕ → Type 0) → IsTold files name P → HoldsIn files name Q → (content : List ℕ) × P content × Q content
unfolding IsTold HoldsIn
both_in None name P Q known holds = absurd known
both_in (Some files) name P Q known holds = both_of (file_of name files) P Q known holds

-- so are what is known and why a file is refused
pub both_fail : (files : Option Files) (name : List ℕ) (P Q : List ℕ → Type 0) → IsTold files name P → FailsIn files name Q → (content : List ℕ) × P content × Q content
unfolding IsTold FailsIn
both_fail None name P Q known fails = absurd known
both_fail (Some files) name P Q known fails = both_of (file_of name files) P Q known fails

-- a data file that is accepted isn't refused, and has one list of entries
pub good_not_refused : (entries : List EntryInformation) (line : ℕ) (cause : FileCause) (content : List ℕ) → IsGoodData entries content → IsBadData line cause content → ⊥
unfolding IsBadData
good_not_refused entries line cause content good (inl bad) = cc (good.loaded, bad.1)
good_not_refused entries line cause content good (inr long) = omega (arith, good.short, long.0.0)

pub one_entries : (entries other : List EntryInformation) (content : List ℕ) → IsGoodData entries content → IsGoodData other content → entries ≡ other
one_entries entries other content good good_other = cc (good.loaded, good_other.loaded)

-- nor is a script
pub good_not_bad : (events : List ScriptEvent) (line : ℕ) (content : List ℕ) → IsGoodScript events content → IsBadScript line content → ⊥
unfolding IsBadScript
good_not_bad events line content good (inl bad) = cc (IsScript-read content events good.script, IsFirstBadLine-read content line bad.1)
good_not_bad events line content good (inr long) = omega (arith, good.short, long.0)

pub one_events : (events other : List ScriptEvent) (content : List ℕ) → IsGoodScript events content → IsGoodScript other content → events ≡ other
one_events events other content good good_other = cc (IsScript-read content events good.script, IsScript-read content other good_other.script)

-- nor requests
pub requests_not_bad : (asks : List Asked) (line : ℕ) (content : List ℕ) → IsGoodRequests asks content → IsBadRequests line content → ⊥
unfolding IsBadRequests
requests_not_bad asks line content good (inl bad) = cc (good.read, bad.1)
requests_not_bad asks line content good (inr long) = omega (arith, good.short, long.0)

pub one_asks : (asks other : List Asked) (content : List ℕ) → IsGoodRequests asks content → IsGoodRequests other content → asks ≡ other
one_asks asks other content good good_other = cc (good.read, good_other.read)

-- what is known of a file's content is known of less
of_weaker : (file : Option (List ℕ)) (P Q : List ℕ → Type 0) → ((content : List ℕ) → P content → Q content) → HoldsOf P file → HoldsOf Q file
of_weaker None P Q weaker holds = holds
of_weaker (Some content) P Q weaker holds = weaker content holds

pub HoldsIn-weaker : (files : Option Files) (name : List ℕ) (P Q : List ℕ → Type 0) → ((content : List ℕ) → P content → Q content) → HoldsIn files name P → HoldsIn files name Q
unfolding HoldsIn
HoldsIn-weaker None name P Q weaker holds = (holds.0, weaker holds.0 holds.1)
HoldsIn-weaker (Some files) name P Q weaker holds = of_weaker (file_of name files) P Q weaker holds

pub IsTold-weaker : (files : Option Files) (name : List ℕ) (P Q : List ℕ → Type 0) → ((content : List ℕ) → P content → Q content) → IsTold files name P → IsTold files name Q
unfolding IsTold
IsTold-weaker None name P Q weaker known = absurd known
IsTold-weaker (Some files) name P Q weaker known = of_weaker (file_of name files) P Q weaker known

-- why a file is refused, of less too
pub FailsIn-weaker : (files : Option Files) (name : List ℕ) (P Q : List ℕ → Type 0) → ((content : List ℕ) → P content → Q content) → FailsIn files name P → FailsIn files name Q
unfolding FailsIn
FailsIn-weaker None name P Q weaker fails = tt
FailsIn-weaker (Some files) name P Q weaker fails = of_weaker (file_of name files) P Q weaker fails

-- what holds of a file that was read may refuse it
pub HoldsIn-fails : (files : Option Files) (name : List ℕ) (P : List ℕ → Type 0) → HoldsIn files name P → FailsIn files name P
unfolding HoldsIn FailsIn
HoldsIn-fails None name P holds = tt
HoldsIn-fails (Some files) name P holds = holds
