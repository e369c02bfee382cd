-- Why a loop ended, by the link's counts of faults.
use Rattle.std.proofs.Common.{◌≡◌, ℕ, Bool, true, false, Option, Some, None, Err, sym, ◌∙◌, subst, arith}
use Rattle.dir_tree.specs.plain_values.Counts.{Rose, NeverFalls}
use Rattle.session_model.specs.wire_io.declared.answers.Heard.{Heard as Answer}
use Rattle.session_model.specs.wire_io.declared.answers.NextFault.TheVariants as fault
use Rattle.session_model.specs.wire_io.Answers.{LinkCause, IsPlanned}
use Rattle.session_model.specs.wire_io.link.Plan.{Plan}
use Rattle.session_hub.specs.declared.ended.Ended.{Ended}
use Rattle.session_hub.specs.declared.ended.Ended.TheVariants as ended
use Rattle.session_hub.specs.serve.Loops.{EndsFor, MayFail, ends_with}
use Rattle.session_hub.specs.serve.Turns.{failing_of}

-- what a plan with no failing calls says of a fault
may_fail : (plan : Option Plan) → IsPlanned (λ plan. plan.failing) plan → MayFail plan
unfolding IsPlanned
may_fail None planned = tt
may_fail (Some plan) planned = planned

never_falls : (before after : ℕ) → after ≡ before → NeverFalls before after
never_falls before after same = record { never_falls = omega arith }

-- the cause of each end, where a connection was cut or not
pub ends_failed : (keeps : Bool) (plan : Option Plan) (before after store_before store_after : ℕ) (was_cut : Bool) → LinkCause {T = Answer} plan before after (Err fault.Failed) → store_after ≡ store_before →
    EndsFor keeps plan before after store_before store_after (ends_with was_cut ended.LinkFault)
unfolding EndsFor LinkCause
ends_failed keeps plan before after store_before store_after true cause store_kept = (record { never_falls = cause.0.never_falls }, store_kept)
ends_failed keeps plan before after store_before store_after false cause store_kept = (cause.0, store_kept, may_fail plan cause.1)

pub ends_stopped : (keeps : Bool) (plan : Option Plan) (before after store_before store_after : ℕ) (was_cut : Bool) → after ≡ before → store_after ≡ store_before →
    EndsFor keeps plan before after store_before store_after (ends_with was_cut ended.Stopped)
unfolding EndsFor
ends_stopped keeps plan before after store_before store_after true kept store_kept = (never_falls _ _ kept, store_kept)
ends_stopped keeps plan before after store_before store_after false kept store_kept = (kept, store_kept)

pub ends_spent : (keeps : Bool) (plan : Option Plan) (before after store_before store_after : ℕ) (was_cut : Bool) → after ≡ before → store_after ≡ store_before →
    EndsFor keeps plan before after store_before store_after (ends_with was_cut ended.TurnsSpent)
unfolding EndsFor
ends_spent keeps plan before after store_before store_after true kept store_kept = (never_falls _ _ kept, store_kept)
ends_spent keeps plan before after store_before store_after false kept store_kept = (kept, store_kept)

pub ends_starved : (keeps : Bool) (plan : Option Plan) (before after store_before store_after : ℕ) → after ≡ before → store_after ≡ store_before → EndsFor keeps plan before after store_before store_after ended.NoMemory
unfolding EndsFor
ends_starved keeps plan before after store_before store_after kept store_kept = (never_falls _ _ kept, store_kept)

-- the store failed
pub ends_unstored : (keeps : Bool) (plan : Option Plan) (before after store_before store_after : ℕ) → Rose store_before store_after × IsPlanned (λ plan. plan.failing) plan × (keeps ≡ true) → after ≡ before →
    EndsFor keeps plan before after store_before store_after ended.StoreFault
unfolding EndsFor
ends_unstored keeps plan before after store_before store_after cause kept = (cause.0, kept, may_fail plan cause.1, cause.2)

-- what a plan with no failing calls says of a loop says the same of the plan that it came to
MayFail-came : (plan now : Option Plan) → failing_of now ≡ failing_of plan → MayFail now → MayFail plan
MayFail-came None now same fails = tt
MayFail-came (Some plan) None same fails = cc
MayFail-came (Some plan) (Some now) same fails = λ none. fails (let is : now.failing ≡ plan.failing = cc in is ∙ none)

-- the cause of a loop's end is that of its last turn
pub EndsFor-came : (keeps : Bool) (plan now : Option Plan) (first before after store_first store_before store_after : ℕ) (end : Ended) → failing_of now ≡ failing_of plan → before ≡ first → store_before ≡ store_first →
    EndsFor keeps now before after store_before store_after end → EndsFor keeps plan first after store_first store_after end
unfolding EndsFor
EndsFor-came keeps plan now first before after store_first store_before store_after ended.LinkFault same kept store_kept cause = (subst (λ count. Rose count after) kept cause.0, cause.1 ∙ store_kept, MayFail-came plan now same cause.2)
EndsFor-came keeps plan now first before after store_first store_before store_after ended.StoreFault same kept store_kept cause = (subst (λ count. Rose count store_after) store_kept cause.0, cause.1 ∙ kept, MayFail-came plan now same cause.2, cause.3)
EndsFor-came keeps plan now first before after store_first store_before store_after ended.Stopped same kept store_kept cause = (cause.0 ∙ kept, cause.1 ∙ store_kept)
EndsFor-came keeps plan now first before after store_first store_before store_after ended.TurnsSpent same kept store_kept cause = (cause.0 ∙ kept, cause.1 ∙ store_kept)
EndsFor-came keeps plan now first before after store_first store_before store_after ended.NoMemory same kept store_kept cause = (subst (λ count. NeverFalls count after) kept cause.0, cause.1 ∙ store_kept)

-- an end given by another name
pub ends_as : (keeps : Bool) (plan : Option Plan) (before after store_before store_after : ℕ) (end other : Ended) → end ≡ other → EndsFor keeps plan before after store_before store_after other →
    EndsFor keeps plan before after store_before store_after end
ends_as keeps plan before after store_before store_after end other is cause = subst (EndsFor keeps plan before after store_before store_after) (sym is) cause

-- changes that are kept or not, told by another name
pub ends_at : (keeps same : Bool) (plan : Option Plan) (before after store_before store_after : ℕ) (end : Ended) → keeps ≡ same → EndsFor keeps plan before after store_before store_after end →
    EndsFor same plan before after store_before store_after end
ends_at keeps same plan before after store_before store_after end is cause = subst (λ b. EndsFor b plan before after store_before store_after end) is cause
