-- What a call answers that may want memory: the expected value, or the expected fault. An error type tells its cause,
-- or that it is want of memory, which has none and may come in place of anything.
use Rattle.std.specs.Prelude.{◌≡◌, Bool, true, false, Option, Some, None, Result, Ok, Err}

-- the fault has the expected cause, or is want of memory
abbrev pub IsFaultOf : {A F : Type 0} → Option F → Result A F → Type 0
IsFaultOf None expected = Unit {0}
IsFaultOf (Some cause) expected = expected ≡ Err cause

-- the answer is what is expected, or want of memory
abbrev pub Answers : {V A E F : Type 0} → (V → A) → (E → Option F) → Result V E → Result A F → Type 0
Answers view cause (Ok value) expected = expected ≡ Ok (view value)
Answers view cause (Err fault) expected = IsFaultOf (cause fault) expected

-- the refusal has the expected cause, or is want of memory
abbrev pub IsRefusalOf : {F : Type 0} → Option F → Option F → Type 0
IsRefusalOf None expected = Unit {0}
IsRefusalOf (Some cause) expected = expected ≡ Some cause

-- nothing is expected, where the fault says so, and not that memory was wanted
abbrev pub IsNothing : {A : Type 0} → Bool → Option A → Type 0
IsNothing true expected = expected ≡ None
IsNothing false expected = Unit {0}

-- what is expected, if anything, or want of memory: one fault says that nothing is
abbrev pub AnswersAny : {V A E : Type 0} → (V → A) → (E → Bool) → Result V E → Option A → Type 0
AnswersAny view says_nothing (Ok value) expected = expected ≡ Some (view value)
AnswersAny view says_nothing (Err fault) expected = IsNothing (says_nothing fault) expected
