-- What a line of each command says: the function against the relation.
use Rattle.std.proofs.Common.{◌≡◌, ℕ, ◌≤◌, Bool, true, eqb, List, [], ◌∷◌, length, Option, Some, None, is_some, sym, refl, ap, subst, ◌∙◌, arith}
use Rattle.std.specs.Prelude.{slice_get}
use Rattle.std.specs.List.{AllByRecursion}
use Rattle.std.proofs.lemmas.Option.{same_Some}
use Rattle.command_words.specs.declared.table.CommandName.{CommandName}
use Rattle.command_words.specs.declared.table.CommandName.TheVariants as commands
use Rattle.command_words.specs.declared.table.OptionName.TheVariants as options
use Rattle.command_words.specs.declared.table.Sought.TheVariants.{Operands, Arguments}
use Rattle.command_words.specs.Table.{Row, row_of}
use Rattle.command_words.specs.command.Line.{Line, texts_of}
use Rattle.command_words.specs.Number.{number_said, number_within}
use Rattle.command_words.specs.Address.{address_of}
use Rattle.command_words.specs.command.Command.{CommandView, ServingView, Serve, Replay, Check, Why, Dump, Explain, Sample, Ask, Prove, Verify, Rights, Help, Version, Says, SaysText, sessions_range, turns_range, queues_range, idle_range, limit_range}
use Rattle.command_words.specs.parser.Asked.{command_said, check_of, ◌>>=◌}
use Rattle.command_words.proofs.number.Numbers.{and_then-some, number_said-sound, number_said-complete, number_within-sound, number_within-complete}
use Rattle.command_words.proofs.address.Addresses.{address_of-sound, address_of-complete}

-- a line has as many operands as the row wants, and each of its options once at most
pub record Taken (row : Row) (line : Line) : Type 0 where
  pub operands : length (texts_of Operands line) ≡ row.operands
  pub once : AllByRecursion (λ name. length (texts_of (Arguments name) line) ≤ 1) row.options

-- what the texts of a line say
abbrev pub line_said : CommandName → Line → Option CommandView
line_said name line = command_said name (λ sought index. slice_get (texts_of sought line) index) (λ option. is_some (slice_get (texts_of (Arguments option) line) 0))

-- as many texts as are counted
alone : (operands : List (List ℕ)) → length operands ≡ 1 → (text : List ℕ) × (operands ≡ text ∷ [])
alone [] one = absurd (omega (arith, one))
alone (text ∷ []) one = (text, refl)
alone (text ∷ other ∷ more) one = absurd (omega (arith, one))

pair : (operands : List (List ℕ)) → length operands ≡ 2 → (first : List ℕ) × (second : List ℕ) × (operands ≡ first ∷ second ∷ [])
pair [] two = absurd (omega (arith, two))
pair (first ∷ []) two = absurd (omega (arith, two))
pair (first ∷ second ∷ []) two = (first, second, refl)
pair (first ∷ second ∷ third ∷ more) two = absurd (omega (arith, two))

triple : (operands : List (List ℕ)) → length operands ≡ 3 → (first : List ℕ) × (second : List ℕ) × (third : List ℕ) × (operands ≡ first ∷ second ∷ third ∷ [])
triple [] three = absurd (omega (arith, three))
triple (first ∷ []) three = absurd (omega (arith, three))
triple (first ∷ second ∷ []) three = absurd (omega (arith, three))
triple (first ∷ second ∷ third ∷ []) three = (first, second, third, refl)
triple (first ∷ second ∷ third ∷ fourth ∷ more) three = absurd (omega (arith, three))

record Five (operands : List (List ℕ)) : Type 0 where
  first : List ℕ
  second : List ℕ
  third : List ℕ
  fourth : List ℕ
  fifth : List ℕ
  are : operands ≡ first ∷ second ∷ third ∷ fourth ∷ fifth ∷ []

five : (operands : List (List ℕ)) → length operands ≡ 5 → Five operands
five (first ∷ second ∷ third ∷ fourth ∷ fifth ∷ []) count =
    record { first = first; second = second; third = third; fourth = fourth; fifth = fifth; are = refl }
five [] count = absurd (omega (arith, count))
five (first ∷ []) count = absurd (omega (arith, count))
five (first ∷ second ∷ []) count = absurd (omega (arith, count))
five (first ∷ second ∷ third ∷ []) count = absurd (omega (arith, count))
five (first ∷ second ∷ third ∷ fourth ∷ []) count = absurd (omega (arith, count))
five (first ∷ second ∷ third ∷ fourth ∷ fifth ∷ sixth ∷ more) count = absurd (omega (arith, count))

-- an option that stands at most once is there where it gives a text
once-is_some : (texts : List (List ℕ)) → length texts ≤ 1 → is_some (slice_get texts 0) ≡ eqb (length texts) 1
once-is_some [] once = refl
once-is_some (text ∷ []) once = refl
once-is_some (text ∷ again ∷ more) once = absurd (omega (arith, once))

-- what the commands with more than one step say, by their operands and arguments
abbrev serve_said : Line → Option CommandView
serve_said line = do
  data_file ← slice_get (texts_of Operands line) 0
  said ← slice_get (texts_of Operands line) 1
  address ← address_of said
  sessions ← number_said sessions_range (slice_get (texts_of (Arguments options.Sessions) line) 0)
  turns ← number_said turns_range (slice_get (texts_of (Arguments options.Turns) line) 0)
  queues ← number_said queues_range (slice_get (texts_of (Arguments options.Queues) line) 0)
  idle ← number_said idle_range (slice_get (texts_of (Arguments options.Idle) line) 0)
  limit ← number_said limit_range (slice_get (texts_of (Arguments options.Limit) line) 0)
  Some (Serve (record {
    data_file = data_file;
    address = address;
    sessions = sessions;
    turns = turns;
    queues = queues;
    idle = idle;
    limit = limit;
    changes = slice_get (texts_of (Arguments options.Changes) line) 0;
  }))

abbrev replay_said : List (List ℕ) → List (List ℕ) → Bool → Option CommandView
replay_said operands turns dump = do
  data_file ← slice_get operands 0
  script ← slice_get operands 1
  events ← number_said turns_range (slice_get turns 0)
  Some (Replay data_file script events dump)

abbrev check_said : List (List ℕ) → Option (List ℕ) → Bool → Option CommandView
check_said operands changes why = do
  data_file ← slice_get operands 0
  check_of data_file changes why

abbrev dump_said : List (List ℕ) → Option (List ℕ) → Option CommandView
dump_said operands changes = do
  data_file ← slice_get operands 0
  Some (Dump data_file changes)

abbrev explain_said : List (List ℕ) → Option CommandView
explain_said operands = do
  data_file ← slice_get operands 0
  who ← slice_get operands 1
  target ← slice_get operands 2
  item ← slice_get operands 3
  permission ← slice_get operands 4
  Some (Explain data_file who target item permission)

abbrev ask_said : List (List ℕ) → Bool → Option CommandView
ask_said operands script = do
  data_file ← slice_get operands 0
  requests ← slice_get operands 1
  Some (Ask data_file requests script)

abbrev prove_said : List (List ℕ) → Option CommandView
prove_said operands = do
  data_file ← slice_get operands 0
  who ← slice_get operands 1
  target ← slice_get operands 2
  item ← slice_get operands 3
  permission ← slice_get operands 4
  Some (Prove data_file who target item permission)

abbrev verify_said : List (List ℕ) → Option CommandView
verify_said operands = do
  data_file ← slice_get operands 0
  certificate ← slice_get operands 1
  Some (Verify data_file certificate)

abbrev rights_said : List (List ℕ) → Option CommandView
rights_said operands = do
  data_file ← slice_get operands 0
  who ← slice_get operands 1
  target ← slice_get operands 2
  Some (Rights data_file who target)

abbrev sample_said : List (List ℕ) → Option CommandView
sample_said operands = do
  said ← slice_get operands 0
  count ← number_within 20 1 20000 said
  Some (Sample count)

-- a file of changes at most: where it is given once, it is the first argument
text-sound : (texts : List (List ℕ)) → length texts ≤ 1 → SaysText texts (slice_get texts 0)
text-sound [] once = refl
text-sound (text ∷ []) once = refl
text-sound (text ∷ again ∷ more) once = absurd (omega (arith, once))

text-complete : (texts : List (List ℕ)) (said : Option (List ℕ)) → SaysText texts said → slice_get texts 0 ≡ said
text-complete [] said says = sym says
text-complete (text ∷ []) said says = sym says
text-complete (text ∷ again ∷ more) said says = absurd says

serve-sound : (line : Line) (asked : CommandView) → Taken (row_of commands.Serve) line → serve_said line ≡ Some asked → Says commands.Serve line asked
serve-sound line asked is given =
    let own = pair (texts_of Operands line) is.operands in
    let first = and_then-some _ (slice_get (texts_of Operands line) 0) asked given in
    let second = and_then-some _ (slice_get (texts_of Operands line) 1) asked first.2 in
    let address = and_then-some _ (address_of second.0) asked second.2 in
    let sessions = and_then-some _ (number_said sessions_range (slice_get (texts_of (Arguments options.Sessions) line) 0)) asked address.2 in
    let turns = and_then-some _ (number_said turns_range (slice_get (texts_of (Arguments options.Turns) line) 0)) asked sessions.2 in
    let queues = and_then-some _ (number_said queues_range (slice_get (texts_of (Arguments options.Queues) line) 0)) asked turns.2 in
    let idle = and_then-some _ (number_said idle_range (slice_get (texts_of (Arguments options.Idle) line) 0)) asked queues.2 in
    let limit = and_then-some _ (number_said limit_range (slice_get (texts_of (Arguments options.Limit) line) 0)) asked idle.2 in
    let addressed = address_of-sound second.0 address.0 address.1 in
    subst (Says commands.Serve line) (same_Some _ asked limit.2) (record {
      operands = own.2 ∙ ap (λ found. found ∷ own.1 ∷ []) (same_Some own.0 first.0 (sym (ap (λ texts. slice_get texts 0) own.2) ∙ first.1)) ∙ ap (λ found. first.0 ∷ found ∷ []) (same_Some own.1 second.0 (sym (ap (λ texts. slice_get texts 1) own.2) ∙ second.1) ∙ addressed.1);
      address = addressed.0;
      sessions = number_said-sound sessions_range _ sessions.0 is.once.0 sessions.1;
      turns = number_said-sound turns_range _ turns.0 is.once.1.0 turns.1;
      queues = number_said-sound queues_range _ queues.0 is.once.1.1.0 queues.1;
      idle = number_said-sound idle_range _ idle.0 is.once.1.1.1.0 idle.1;
      limit = number_said-sound limit_range _ limit.0 is.once.1.1.1.1.0 limit.1;
      changes = text-sound (texts_of (Arguments options.Changes) line) is.once.1.1.1.1.1.0;
    })

serve-complete : (line : Line) (serving : ServingView) → Says commands.Serve line (Serve serving) → serve_said line ≡ Some (Serve serving)
serve-complete line serving says =
    rw (
      says.operands,
      address_of-complete serving.address says.address,
      number_said-complete sessions_range _ serving.sessions says.sessions,
      number_said-complete turns_range _ serving.turns says.turns,
      number_said-complete queues_range _ serving.queues says.queues,
      number_said-complete idle_range _ serving.idle says.idle,
      number_said-complete limit_range _ serving.limit says.limit,
      text-complete (texts_of (Arguments options.Changes) line) serving.changes says.changes,
    ) refl

replay-sound : (line : Line) (asked : CommandView) → Taken (row_of commands.Replay) line → replay_said (texts_of Operands line) (texts_of (Arguments options.Turns) line) (is_some (slice_get (texts_of (Arguments options.Dump) line) 0)) ≡ Some asked → Says commands.Replay line asked
replay-sound line asked is given =
    let turns = texts_of (Arguments options.Turns) line in
    let dumps = texts_of (Arguments options.Dump) line in
    let dump = is_some (slice_get dumps 0) in
    let own = pair (texts_of Operands line) is.operands in
    let heard = and_then-some (λ (events : ℕ). Some (Replay own.0 own.1 events dump)) (number_said turns_range (slice_get turns 0)) asked (sym (ap (λ (operands : List (List ℕ)). replay_said operands turns dump) own.2) ∙ given) in
    subst (Says commands.Replay line) (same_Some (Replay own.0 own.1 heard.0 dump) asked heard.2) (
      own.2,
      number_said-sound turns_range turns heard.0 is.once.1.0 heard.1,
      once-is_some dumps is.once.0,
    )

replay-complete : (line : Line) (data_file script : List ℕ) (events : ℕ) (dump : Bool) → Taken (row_of commands.Replay) line → Says commands.Replay line (Replay data_file script events dump) → replay_said (texts_of Operands line) (texts_of (Arguments options.Turns) line) (is_some (slice_get (texts_of (Arguments options.Dump) line) 0)) ≡ Some (Replay data_file script events dump)
replay-complete line data_file script events dump is says =
    let turns = texts_of (Arguments options.Turns) line in
    let dumps = texts_of (Arguments options.Dump) line in
    ap (λ (operands : List (List ℕ)). replay_said operands turns (is_some (slice_get dumps 0))) says.0
    ∙ ap (λ (found : Option ℕ). found >>= (λ (own : ℕ). Some (Replay data_file script own (is_some (slice_get dumps 0))))) (number_said-complete turns_range turns events says.1)
    ∙ ap (λ (own : Bool). Some (Replay data_file script events own)) (once-is_some dumps is.once.0 ∙ sym says.2)

explain-sound : (line : Line) (asked : CommandView) → Taken (row_of commands.Explain) line → explain_said (texts_of Operands line) ≡ Some asked → Says commands.Explain line asked
explain-sound line asked is given =
    let own = five (texts_of Operands line) is.operands in
    subst (Says commands.Explain line) (same_Some (Explain own.first own.second own.third own.fourth own.fifth) asked (sym (ap explain_said own.are) ∙ given)) own.are

ask-sound : (line : Line) (asked : CommandView) → Taken (row_of commands.Ask) line → ask_said (texts_of Operands line) (is_some (slice_get (texts_of (Arguments options.Script) line) 0)) ≡ Some asked → Says commands.Ask line asked
ask-sound line asked is given =
    let scripts = texts_of (Arguments options.Script) line in
    let script = is_some (slice_get scripts 0) in
    let own = pair (texts_of Operands line) is.operands in
    subst (Says commands.Ask line) (same_Some (Ask own.0 own.1 script) asked (sym (ap (λ (operands : List (List ℕ)). ask_said operands script) own.2) ∙ given)) (own.2, once-is_some scripts is.once.0)

ask-complete : (line : Line) (data_file requests : List ℕ) (script : Bool) → Taken (row_of commands.Ask) line → Says commands.Ask line (Ask data_file requests script) → ask_said (texts_of Operands line) (is_some (slice_get (texts_of (Arguments options.Script) line) 0)) ≡ Some (Ask data_file requests script)
ask-complete line data_file requests script is says =
    let scripts = texts_of (Arguments options.Script) line in
    ap (λ (operands : List (List ℕ)). ask_said operands (is_some (slice_get scripts 0))) says.0
    ∙ ap (λ (own : Bool). Some (Ask data_file requests own)) (once-is_some scripts is.once.0 ∙ sym says.1)

prove-sound : (line : Line) (asked : CommandView) → Taken (row_of commands.Prove) line → prove_said (texts_of Operands line) ≡ Some asked → Says commands.Prove line asked
prove-sound line asked is given =
    let own = five (texts_of Operands line) is.operands in
    subst (Says commands.Prove line) (same_Some (Prove own.first own.second own.third own.fourth own.fifth) asked (sym (ap prove_said own.are) ∙ given)) own.are

verify-sound : (line : Line) (asked : CommandView) → Taken (row_of commands.Verify) line → verify_said (texts_of Operands line) ≡ Some asked → Says commands.Verify line asked
verify-sound line asked is given =
    let own = pair (texts_of Operands line) is.operands in
    subst (Says commands.Verify line) (same_Some (Verify own.0 own.1) asked (sym (ap verify_said own.2) ∙ given)) own.2

rights-sound : (line : Line) (asked : CommandView) → Taken (row_of commands.Rights) line → rights_said (texts_of Operands line) ≡ Some asked → Says commands.Rights line asked
rights-sound line asked is given =
    let own = triple (texts_of Operands line) is.operands in
    subst (Says commands.Rights line) (same_Some (Rights own.0 own.1 own.2) asked (sym (ap rights_said own.3) ∙ given)) own.3

sample-sound : (line : Line) (asked : CommandView) → Taken (row_of commands.Sample) line → sample_said (texts_of Operands line) ≡ Some asked → Says commands.Sample line asked
sample-sound line asked is given =
    let own = alone (texts_of Operands line) is.operands in
    let counted = and_then-some (λ (count : ℕ). Some (Sample count)) (number_within 20 1 20000 own.0) asked (sym (ap sample_said own.1) ∙ given) in
    subst (Says commands.Sample line) (same_Some (Sample counted.0) asked counted.2) (own.0, own.1, number_within-sound 20 1 20000 own.0 counted.0 counted.1)

sample-complete : (line : Line) (count : ℕ) → Says commands.Sample line (Sample count) → sample_said (texts_of Operands line) ≡ Some (Sample count)
sample-complete line count says =
    ap sample_said says.1 ∙ ap (λ (found : Option ℕ). found >>= (λ (own : ℕ). Some (Sample own))) (number_within-complete 20 1 20000 says.0 count says.2)

-- a check by its file of changes, and by the flag, each of which stands once at most
check_of-sound : (line : Line) (data_file : List ℕ) (asked : CommandView) (changes why : List (List ℕ)) → texts_of Operands line ≡ data_file ∷ [] → changes ≡ texts_of (Arguments options.Changes) line
    → why ≡ texts_of (Arguments options.Why) line → length changes ≤ 1 → length why ≤ 1 → check_of data_file (slice_get changes 0) (is_some (slice_get why 0)) ≡ Some asked → Says commands.Check line asked
check_of-sound line data_file asked changes [] own changes_is why_is once once_why given =
    subst (Says commands.Check line) (same_Some (Check data_file (slice_get changes 0)) asked given)
    (own, subst (λ (texts : List (List ℕ)). SaysText texts (slice_get changes 0)) changes_is (text-sound changes once), sym why_is)
check_of-sound line data_file asked [] (text ∷ more) own changes_is why_is once once_why given =
    subst (Says commands.Check line) (same_Some (Why data_file) asked given) (own, sym changes_is, omega (arith, ap length why_is, once_why))
check_of-sound line data_file asked (name ∷ names) (text ∷ more) own changes_is why_is once once_why given = absurd (cc (given))

check-sound : (line : Line) (asked : CommandView) → Taken (row_of commands.Check) line → check_said (texts_of Operands line) (slice_get (texts_of (Arguments options.Changes) line) 0) (is_some (slice_get (texts_of (Arguments options.Why) line) 0)) ≡ Some asked → Says commands.Check line asked
check-sound line asked is given =
    let changes = texts_of (Arguments options.Changes) line in
    let why = texts_of (Arguments options.Why) line in
    let own = alone (texts_of Operands line) is.operands in
    check_of-sound line own.0 asked changes why own.1 refl refl is.once.0 is.once.1.0 (sym (ap (λ (operands : List (List ℕ)). check_said operands (slice_get changes 0) (is_some (slice_get why 0))) own.1) ∙ given)

check-complete : (line : Line) (data_file : List ℕ) (changes : Option (List ℕ)) → Says commands.Check line (Check data_file changes) → check_said (texts_of Operands line) (slice_get (texts_of (Arguments options.Changes) line) 0) (is_some (slice_get (texts_of (Arguments options.Why) line) 0)) ≡ Some (Check data_file changes)
check-complete line data_file changes says =
    let given = texts_of (Arguments options.Changes) line in
    let why = texts_of (Arguments options.Why) line in
    ap (λ (operands : List (List ℕ)). check_said operands (slice_get given 0) (is_some (slice_get why 0))) says.0
    ∙ ap (λ (texts : List (List ℕ)). check_of data_file (slice_get given 0) (is_some (slice_get texts 0))) says.2
    ∙ ap (λ (own : Option (List ℕ)). Some (Check data_file own)) (text-complete given changes says.1)

-- what stands once has a first
one-first : (texts : List (List ℕ)) → length texts ≡ 1 → is_some (slice_get texts 0) ≡ true
one-first [] one = absurd (omega (arith, one))
one-first (text ∷ texts) one = refl

why-complete : (line : Line) (data_file : List ℕ) → Says commands.Check line (Why data_file) → check_said (texts_of Operands line) (slice_get (texts_of (Arguments options.Changes) line) 0) (is_some (slice_get (texts_of (Arguments options.Why) line) 0)) ≡ Some (Why data_file)
why-complete line data_file says =
    let given = texts_of (Arguments options.Changes) line in
    let why = texts_of (Arguments options.Why) line in
    ap (λ (operands : List (List ℕ)). check_said operands (slice_get given 0) (is_some (slice_get why 0))) says.0
    ∙ ap (λ (texts : List (List ℕ)). check_of data_file (slice_get texts 0) (is_some (slice_get why 0))) says.1
    ∙ ap (λ (flag : Bool). check_of data_file None flag) (one-first why says.2)

dump-sound : (line : Line) (asked : CommandView) → Taken (row_of commands.Dump) line → dump_said (texts_of Operands line) (slice_get (texts_of (Arguments options.Changes) line) 0) ≡ Some asked → Says commands.Dump line asked
dump-sound line asked is given =
    let changes = texts_of (Arguments options.Changes) line in
    let own = alone (texts_of Operands line) is.operands in
    subst (Says commands.Dump line) (same_Some (Dump own.0 (slice_get changes 0)) asked (sym (ap (λ (operands : List (List ℕ)). dump_said operands (slice_get changes 0)) own.1) ∙ given)) (own.1, text-sound changes is.once.0)

dump-complete : (line : Line) (data_file : List ℕ) (changes : Option (List ℕ)) → Says commands.Dump line (Dump data_file changes) → dump_said (texts_of Operands line) (slice_get (texts_of (Arguments options.Changes) line) 0) ≡ Some (Dump data_file changes)
dump-complete line data_file changes says =
    let given = texts_of (Arguments options.Changes) line in
    ap (λ (operands : List (List ℕ)). dump_said operands (slice_get given 0)) says.0
    ∙ ap (λ (own : Option (List ℕ)). Some (Dump data_file own)) (text-complete given changes says.1)

-- a command without operands
nothing : (texts : List (List ℕ)) → length texts ≡ 0 → texts ≡ []
nothing [] none = refl
nothing (text ∷ texts) none = absurd (omega (arith, none))

bare-sound : (name : CommandName) (made : CommandView) (line : Line) (asked : CommandView) → Says name line made → Some made ≡ Some asked → Says name line asked
bare-sound name made line asked says given = subst (Says name line) (same_Some made asked given) says

-- what a line of a command says: one case a command
pub command_said-sound : (name : CommandName) (line : Line) (asked : CommandView) → Taken (row_of name) line → line_said name line ≡ Some asked → Says name line asked
unfolding command_said
command_said-sound commands.Serve line asked is given = serve-sound line asked is given
command_said-sound commands.Replay line asked is given = replay-sound line asked is given
command_said-sound commands.Check line asked is given = check-sound line asked is given
command_said-sound commands.Dump line asked is given = dump-sound line asked is given
command_said-sound commands.Explain line asked is given = explain-sound line asked is given
command_said-sound commands.Sample line asked is given = sample-sound line asked is given
command_said-sound commands.Ask line asked is given = ask-sound line asked is given
command_said-sound commands.Prove line asked is given = prove-sound line asked is given
command_said-sound commands.Verify line asked is given = verify-sound line asked is given
command_said-sound commands.Rights line asked is given = rights-sound line asked is given
command_said-sound commands.Help line asked is given = bare-sound commands.Help Help line asked (nothing (texts_of Operands line) is.operands) given
command_said-sound commands.Version line asked is given = bare-sound commands.Version Version line asked (nothing (texts_of Operands line) is.operands) given

pub command_said-complete : (name : CommandName) (line : Line) (asked : CommandView) → Taken (row_of name) line → Says name line asked → line_said name line ≡ Some asked
unfolding command_said
command_said-complete commands.Serve line (Serve serving) is says = serve-complete line serving says
command_said-complete commands.Replay line (Replay data_file script events dump) is says = replay-complete line data_file script events dump is says
command_said-complete commands.Check line (Check data_file changes) is says = check-complete line data_file changes says
command_said-complete commands.Check line (Why data_file) is says = why-complete line data_file says
command_said-complete commands.Dump line (Dump data_file changes) is says = dump-complete line data_file changes says
command_said-complete commands.Explain line (Explain data_file who target item permission) is says = ap explain_said says
command_said-complete commands.Sample line (Sample count) is says = sample-complete line count says
command_said-complete commands.Ask line (Ask data_file requests script) is says = ask-complete line data_file requests script is says
command_said-complete commands.Prove line (Prove data_file who target item permission) is says = ap prove_said says
command_said-complete commands.Verify line (Verify data_file certificate) is says = ap verify_said says
command_said-complete commands.Rights line (Rights data_file who target) is says = ap rights_said says
command_said-complete commands.Help line Help is says = refl
command_said-complete commands.Version line Version is says = refl
command_said-complete name line asked is says = absurd says
