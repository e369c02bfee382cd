-- How much an answer of a link gives or takes, and when each of its faults and want of memory may come.
use Rattle.std.specs.Prelude.{◌≡◌, ◌≢◌, ℕ, ◌<◌, ◌≤◌, List, [], Option, Some, None, Result, Ok, Err}
use Rattle.plain_values.specs.Counts.{Rose, NeverFalls}
use Rattle.wire_io.specs.declared.answers.Heard.{Heard}
use Rattle.wire_io.specs.declared.answers.Heard.TheVariants as heard
use Rattle.wire_io.specs.declared.answers.Took.{Took}
use Rattle.wire_io.specs.declared.answers.Took.TheVariants as took
use Rattle.wire_io.specs.declared.answers.NextFault.{NextFault}
use Rattle.wire_io.specs.declared.answers.NextFault.TheVariants.{Failed, NoMemory}
use Rattle.wire_io.specs.link.Plan.{Plan}

-- octets given are at least one and fit the buffer
abbrev pub HeardFits : ℕ → Heard → Type 0
HeardFits len (heard.Bytes conn count) = (0 < count) × (count ≤ len)
HeardFits len (heard.Opened conn) = Unit {0}
HeardFits len (heard.Ended conn) = Unit {0}
HeardFits len (heard.Ready conn) = Unit {0}
HeardFits len heard.Idle = Unit {0}
HeardFits len heard.Stop = Unit {0}

-- octets taken are at least one and at most those offered
abbrev pub TookFits : ℕ → Took → Type 0
TookFits len (took.Took count) = (0 < count) × (count ≤ len)
TookFits len took.Later = Unit {0}
TookFits len took.Gone = Unit {0}
TookFits len took.NoMemory = Unit {0}

-- where the link tells its plan, the plan lists a call of the kind
unfoldable pub IsPlanned : (Plan → List ℕ) → Option Plan → Type 0
IsPlanned calls None = Unit {0}
IsPlanned calls (Some plan) = calls plan ≢ []

-- when each answer of `open` and `next` may come, by the count of their faults, and of the calls of the store, by the count
-- of those: it rises with a fault and is otherwise as it was
unfoldable pub LinkCause : {T : Type 0} → Option Plan → ℕ → ℕ → Result T NextFault → Type 0
LinkCause plan before after (Ok answer) = after ≡ before
LinkCause plan before after (Err Failed) = Rose before after × IsPlanned (λ plan. plan.failing) plan
LinkCause plan before after (Err NoMemory) = after ≡ before

-- when each answer of `write` may come
unfoldable pub WriteCause : Option Plan → ℕ → ℕ → Took → Type 0
WriteCause plan before after (took.Took count) = NeverFalls before after
WriteCause plan before after took.Later = NeverFalls before after × IsPlanned (λ plan. plan.later) plan
WriteCause plan before after took.Gone = Rose before after × IsPlanned (λ plan. plan.gone) plan
WriteCause plan before after took.NoMemory = NeverFalls before after

-- with want of memory the count of refusals rises, and with each other answer of `open`, `next` and the calls of the
-- store it never falls
unfoldable pub RefusalCause : {T : Type 0} → ℕ → ℕ → Result T NextFault → Type 0
RefusalCause before after (Ok answer) = NeverFalls before after
RefusalCause before after (Err Failed) = NeverFalls before after
RefusalCause before after (Err NoMemory) = Rose before after

-- the same of the answers of `write`
unfoldable pub WriteRefusal : ℕ → ℕ → Took → Type 0
WriteRefusal before after (took.Took count) = NeverFalls before after
WriteRefusal before after took.Later = NeverFalls before after
WriteRefusal before after took.Gone = NeverFalls before after
WriteRefusal before after took.NoMemory = Rose before after

-- and of those of `hold`, `release` and `hang_up`, whose one error is want of memory
unfoldable pub NoteRefusal : {T E : Type 0} → ℕ → ℕ → Result T E → Type 0
NoteRefusal before after (Ok answer) = NeverFalls before after
NoteRefusal before after (Err want) = Rose before after
