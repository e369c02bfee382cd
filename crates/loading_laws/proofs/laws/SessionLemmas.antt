-- What answers, and so sessions over octets, leave of a loadable tree.
use Rattle.std.proofs.Common.{◌≡◌, ℕ, ◌<◌, Bool, true, false, cond, List, [], ◌∷◌, Option, Some, None, if◌then◌else◌, refl, ap, sym, ◌∙◌, subst}
use Rattle.std.specs.List.{AllByRecursion}
use Rattle.session_hub.specs.session_model.ldap_msg.declared.kinds.Control.{Control}
use Rattle.session_hub.specs.session_model.ldap_msg.declared.kinds.Message.{Message}
use Rattle.session_hub.specs.session_model.ldap_msg.declared.kinds.Request.{Request}
use Rattle.session_hub.specs.session_model.ldap_msg.declared.kinds.Request.TheVariants as request
use Rattle.session_hub.specs.session_model.ldap_msg.declared.kinds.Update.TheVariants as update
use Rattle.session_hub.specs.session_model.ldap_msg.reading.Messages.{message_of}
use Rattle.change_laws.specs.op_add_delete.adding.Updates.{left_by}
use Rattle.change_replay.specs.Accepted.{outcome}
use Rattle.change_replay.specs.Laws.{IsOfOctets}
use Rattle.session_hub.specs.session_model.Rules.{Rules, AnswersExtend}
use Rattle.session_hub.specs.session_model.Run.{Sessions, Step, HungUp, step, start, run, run_from}
use Rattle.session_hub.specs.session_model.Hearing.{octets_of, BringOnly}
use Rattle.session_hub.specs.session_model.Replaying.{number_of, is_leaving, step_and_hang_up, replayed, replayed_from}
use Rattle.session_hub.proofs.session_model_proofs.Theorems.{run_extends, run_brings}
use Rattle.session_hub.specs.Parties.{DirectoryEntries, Requester}
use Rattle.session_hub.specs.declared.bounds.Terms.{Terms}
use Rattle.session_hub.specs.Controls.{is_refused}
use Rattle.session_hub.specs.Limiting.{limited_request, limited_read}
use Rattle.session_hub.specs.Answering.{Operated, asking, refused, operated, answered, answer_read, rules}
use Rattle.loading_laws.specs.LoadableTrees.{AreOctets, IsLoadableTree}
use Rattle.loading_laws.proofs.laws.LayoutLemmas.{message-octets}

-- what is true of octets is true of a request of octets that is limited
limited-octets : (limit : ℕ) (asked : Request) → IsOfOctets asked → IsOfOctets (limited_request limit asked)
limited-octets limit (request.Update change) bytes = bytes
limited-octets limit other bytes = tt

-- of two operations one is done
one_loadable : (first : Bool) (one other : Operated) → IsLoadableTree one.entries → IsLoadableTree other.entries → IsLoadableTree (if first then one else other).entries
one_loadable true one other here there = here
one_loadable false one other here there = there

-- events replayed are a run in which some connections are hung up besides
module _ {T W : Type 0} (r : Rules T W) (Q : ℕ → Type 0) where
  record IsRunAs (u : Sessions T W) (events : List Step) : Type 0 where
    pub steps : List Step
    pub same : replayed_from r u events ≡ run_from r u steps
    pub brings : BringOnly Q steps

  hung_up_or_not : (leaves : Bool) (u : Sessions T W) (next : Step) (rest : List Step) → AllByRecursion Q (octets_of next)
      → (later : IsRunAs (cond leaves (step r (step r u next) (HungUp (number_of next))) (step r u next)) rest)
      → (steps : List Step) × (run_from r u steps ≡ run_from r (cond leaves (step r (step r u next) (HungUp (number_of next))) (step r u next)) later.steps) × BringOnly Q steps
  unfolding run_from
  hung_up_or_not true u next rest new later = (next ∷ HungUp (number_of next) ∷ later.steps, refl, (new, (tt, later.brings)))
  hung_up_or_not false u next rest new later = (next ∷ later.steps, refl, (new, later.brings))

  replayed_as_run : (u : Sessions T W) (events : List Step) → BringOnly Q events → IsRunAs u events
  unfolding replayed_from run_from
  replayed_as_run u [] brings = record { steps = []; same = refl; brings = tt }
  replayed_as_run u (next ∷ rest) brings =
      let later = replayed_as_run (step_and_hang_up r u next) rest brings.1 in
      let found = hung_up_or_not (is_leaving ((step r u next).of (number_of next)).state) u next rest brings.0 later in
      record { steps = found.0; same = later.same ∙ sym found.1; brings = found.2 }

module _
    (stays : (entries : DirectoryEntries) (who : Requester) (asked : Request) → IsOfOctets asked → IsLoadableTree entries → IsLoadableTree (left_by entries (outcome entries who asked)))
  where
    operated-loadable : (entries : DirectoryEntries) (who : Requester) (controls : List Control) (asked : Request) → IsOfOctets asked → IsLoadableTree entries
        → IsLoadableTree (operated entries who controls asked).entries
    operated-loadable entries who controls (request.Update (update.Modify modify)) bytes is = stays entries who (request.Update (update.Modify modify)) bytes is
    operated-loadable entries who controls (request.Update (update.Add add)) bytes is = stays entries who (request.Update (update.Add add)) bytes is
    operated-loadable entries who controls (request.Update (update.Delete delete)) bytes is = stays entries who (request.Update (update.Delete delete)) bytes is
    operated-loadable entries who controls (request.Update (update.Rename rename)) bytes is = stays entries who (request.Update (update.Rename rename)) bytes is
    operated-loadable entries who controls other bytes is = is

    answered-loadable : (entries : DirectoryEntries) (who : Requester) (controls : List Control) (asked : Request) → IsOfOctets asked → IsLoadableTree entries
        → IsLoadableTree (answered entries who controls asked).entries
    answered-loadable entries who controls asked bytes is =
        let asks = asking who asked in
        one_loadable (is_refused asked controls) (refused entries asks asked) (operated entries asks controls asked) is (operated-loadable entries asks controls asked bytes is)

    read-loadable : (terms : Terms) (entries : DirectoryEntries) (who : Requester) (found : Option Message) → ((message : Message) → found ≡ Some message → IsOfOctets message.request)
        → IsLoadableTree entries → IsLoadableTree (answer_read terms.keeps entries who (limited_read terms.limit found)).tree
    read-loadable terms entries who None bytes is = is
    read-loadable terms entries who (Some message) bytes is =
        answered-loadable entries who message.controls (limited_request terms.limit message.request)
        (limited-octets terms.limit message.request (bytes message refl)) is

    pub answer-loadable : (terms : Terms) (entries : DirectoryEntries) (who : Requester) (bytes : List ℕ) → AreOctets bytes → IsLoadableTree entries
        → IsLoadableTree ((rules terms).answer entries who bytes).tree
    unfolding rules
    answer-loadable terms entries who bytes octets is =
        read-loadable terms entries who (message_of bytes) (λ message read. message-octets bytes message octets read) is

    extends : (terms : Terms) → AnswersExtend (rules terms) AreOctets (λ entries changes. IsLoadableTree entries)
    extends terms entries who message changes octets is = answer-loadable terms entries who message octets is

    pub run-loadable : (terms : Terms) (entries : DirectoryEntries) (steps : List Step) → BringOnly (λ octet. octet < 256) steps → IsLoadableTree entries
        → IsLoadableTree (run (rules terms) entries steps).tree
    run-loadable terms entries steps brings is =
        run_extends (rules terms) AreOctets (λ entries changes. IsLoadableTree entries) (extends terms) entries steps
        (run_brings (λ octet. octet < 256) (rules terms) entries steps brings) is

    pub replayed-loadable : (terms : Terms) (entries : DirectoryEntries) (events : List Step) → BringOnly (λ octet. octet < 256) events → IsLoadableTree entries
        → IsLoadableTree (replayed (rules terms) entries events).tree
    replayed-loadable terms entries events brings is =
        let found = replayed_as_run (rules terms) (λ octet. octet < 256) (start (rules terms) entries) events brings in
        subst IsLoadableTree (ap (λ (left : Sessions DirectoryEntries Requester). left.tree) (sym found.same)) (run-loadable terms entries found.steps found.brings is)
