-- What reads over twins is answered alike, and so heard alike.
use Rattle.std.proofs.Common.{◌≡◌, ◌≤◌, ℕ, Bool, true, false, not, List, [], ◌∷◌, Option, Some, None, Result, Ok, Err, IfOk, inl, inr, refl, ap, sym, ◌∙◌}
use Rattle.std.specs.List.{AllByRecursion}
use Rattle.std.specs.Option.{option_map_or}
use Rattle.std.proofs.lemmas.Bool.{cases_Bool, not-true}
use Rattle.dir_tree.proofs.base_laws_proofs.Theorems.{all_map}
use Rattle.dir_tree.specs.dn_names.name.Names.{RdnSequence}
use Rattle.dir_tree.specs.dn_names.NameOrder.{is_prefix_of}
use Rattle.dir_tree.specs.dn_names.parsing.NameText.{read_name}
use Rattle.dir_tree.specs.dn_names.declared.error.BadName.{BadName}
use Rattle.session_model.specs.ldap_msg.declared.kinds.BindRequest.{BindRequest}
use Rattle.session_model.specs.ldap_msg.declared.kinds.SearchRequest.{SearchRequest}
use Rattle.session_model.specs.ldap_msg.declared.kinds.Control.{Control}
use Rattle.session_model.specs.ldap_msg.declared.kinds.Message.{Message}
use Rattle.session_model.specs.ldap_msg.declared.kinds.Request.{Request}
use Rattle.session_model.specs.ldap_msg.declared.kinds.Request.TheVariants as request
use Rattle.session_model.specs.ldap_msg.declared.kinds.LdapResult.{LdapResult}
use Rattle.session_model.specs.ldap_msg.declared.kinds.Reply.TheVariants as reply
use Rattle.session_model.specs.ldap_msg.declared.operations.Ending.TheVariants as ending
use Rattle.session_model.specs.ldap_msg.reading.Messages.{message_of}
use Rattle.op_read.specs.read_model.Views.{view_of, result_of}
use Rattle.op_read.specs.read_model.SearchReplies.{replies_octets}
use Rattle.op_bind.specs.declared.binds.Bound.{Bound}
use Rattle.op_bind.specs.Binds.{bind_answer}
use Rattle.op_bind.proofs.Theorems.{bind_answer-without}
use Rattle.op_read.specs.twin_laws.Twins.{AreTwins}
use Rattle.op_read.proofs.twin_laws_proofs.Theorems.{search_replies-twins, compare_result-twins}
use Rattle.op_read.specs.page_core.declared.page.Page.{Page}
use Rattle.op_read.specs.page_core.Pages.{Paged, unpaged}
use Rattle.op_read.proofs.Theorems.{page_replies-twins}
use Rattle.session_model.specs.Run.{Step, start, run}
use Rattle.session_model.specs.Kept.{Held, heard}
use Rattle.session_model.specs.Replaying.{replayed}
use Rattle.session_model.specs.AnsweredMessages.{AnsweredMessage, AreAlike, AreOver, IsAnsweredAlike, held_over, answered_of_held, answered_of_run, answered_of_replay}
use Rattle.session_model.specs.wire_io.declared.journal.Item.{Item}
use Rattle.session_model.specs.Serving.{Sound, Served, IsFront}
use Rattle.session_model.specs.Purging.{purged, openings, finds_room, answered_of_connection, finds_room_in_replay, answered_in_replay}
use Rattle.session_model.proofs.Theorems.{heard-alike, run-alike, replayed-alike, run-purged, replayed-purged, taken-purged, served-alike, sound-alike}
use Rattle.session_hub.specs.Parties.{DirectoryEntries, Requester}
use Rattle.session_hub.specs.Terms.{Terms}
use Rattle.session_hub.specs.Controls.{is_refused, subentries_asked, page_asked}
use Rattle.session_hub.specs.Limiting.{limited_request, limited_read}
use Rattle.session_hub.specs.Answering.{rules, searched, answer_octets, answer_read}
use Rattle.session_hub.specs.declared.event.Event.{Event}
use Rattle.session_hub.specs.Event.{step_by}
use Rattle.session_hub.specs.hub.Hubs.{Hears}
use Rattle.session_hub.specs.Twins.{is_read_within, reads_outside, IsOverTwins, HearsAlike}
use Rattle.session_hub.proofs.hub.FollowingLemmas.{follows_step}

-- a name that isn't at or below another, if there is one
outside_of : (top : RdnSequence) (name : Result RdnSequence BadName) → not (is_read_within top name) ≡ true → IfOk name (λ n. is_prefix_of top n ≡ false)
outside_of top (Err bad) h = tt
outside_of top (Ok name) h = not-true (is_prefix_of top name) h

-- the answers to a message over two directories
abbrev AnswersAlike : Bool → (one other : DirectoryEntries) (who : Requester) (message : Message) → Type 0
AnswersAlike keeps one other who message = AreAlike one other (answer_read keeps one who (Some message)) (answer_read keeps other who (Some message))

module _ (keeps : Bool) (who : Requester) (one other : DirectoryEntries) (top : RdnSequence) (twins : AreTwins who one other top) where
  -- a bind with another name reads an entry that is the same in both
  bind-twins : (bind : BindRequest) → not (is_read_within top (read_name bind.name)) ≡ true → bind_answer one bind ≡ bind_answer other bind
  bind-twins bind h =
      let outside = outside_of top (read_name bind.name) h in
      sym (bind_answer-without top one bind outside) ∙ ap (λ entries. bind_answer entries bind) twins.same ∙ bind_answer-without top other bind outside

  searched-twins : (search : SearchRequest) (asked : Option (Option Bool)) (page : Option (Option Page))
      → searched (view_of one who) search asked page ≡ searched (view_of other who) search asked page
  searched-twins search None page = refl
  searched-twins search (Some subentries) None = refl
  searched-twins search (Some subentries) (Some None) = ap unpaged (search_replies-twins who one other top twins search subentries)
  searched-twins search (Some subentries) (Some (Some page)) = page_replies-twins who one other top twins search subentries page

  -- by the request, and by whether a control refuses it
  request-alike : (id : ℕ) (controls : List Control) (asked : Request) → reads_outside top asked ≡ true
      → AnswersAlike keeps one other who (record { id = id; request = asked; controls = controls })
  request-alike id controls (request.Bind bind) h = elim (cases_Bool (is_refused (request.Bind bind) controls)) [
    | inl e ↦ rw e (record { replies = refl; changes = refl; who = refl; closes = refl; one_stays = refl; other_stays = refl })
    | inr e ↦ rw e (let same = bind-twins bind h in record {
      replies = ap (λ (bound : Bound). replies_octets id (reply.Ended ending.Bind (result_of bound.code) ∷ [])) same;
      changes = refl;
      who = ap (λ (bound : Bound). bound.who) same;
      closes = refl;
      one_stays = refl;
      other_stays = refl;
    })
  ]
  request-alike id controls request.Unbind h = elim (cases_Bool (is_refused request.Unbind controls)) [
    | inl e ↦ rw e (record { replies = refl; changes = refl; who = refl; closes = refl; one_stays = refl; other_stays = refl })
    | inr e ↦ rw e (record { replies = refl; changes = refl; who = refl; closes = refl; one_stays = refl; other_stays = refl })
  ]
  request-alike id controls (request.Search search) h = elim (cases_Bool (is_refused (request.Search search) controls)) [
    | inl e ↦ rw e (record { replies = refl; changes = refl; who = refl; closes = refl; one_stays = refl; other_stays = refl })
    | inr e ↦ rw e (record {
      replies = ap (λ (paged : Paged). answer_octets id paged) (searched-twins search (subentries_asked controls) (page_asked controls));
      changes = refl;
      who = refl;
      closes = refl;
      one_stays = refl;
      other_stays = refl;
    })
  ]
  request-alike id controls (request.Update update) h = absurd cc
  request-alike id controls (request.Compare compare) h = elim (cases_Bool (is_refused (request.Compare compare) controls)) [
    | inl e ↦ rw e (record { replies = refl; changes = refl; who = refl; closes = refl; one_stays = refl; other_stays = refl })
    | inr e ↦ rw e (record {
      replies = ap (λ (result : LdapResult). replies_octets id (reply.Ended ending.Compare result ∷ [])) (compare_result-twins who one other top twins compare);
      changes = refl;
      who = refl;
      closes = refl;
      one_stays = refl;
      other_stays = refl;
    })
  ]
  request-alike id controls (request.Abandon number) h = elim (cases_Bool (is_refused (request.Abandon number) controls)) [
    | inl e ↦ rw e (record { replies = refl; changes = refl; who = refl; closes = refl; one_stays = refl; other_stays = refl })
    | inr e ↦ rw e (record { replies = refl; changes = refl; who = refl; closes = refl; one_stays = refl; other_stays = refl })
  ]
  request-alike id controls (request.Extended name value) h = elim (cases_Bool (is_refused (request.Extended name value) controls)) [
    | inl e ↦ rw e (record { replies = refl; changes = refl; who = refl; closes = refl; one_stays = refl; other_stays = refl })
    | inr e ↦ rw e (record { replies = refl; changes = refl; who = refl; closes = refl; one_stays = refl; other_stays = refl })
  ]

  -- octets that are no message get the notice over both
  read-alike : (read : Option Message) → option_map_or (λ message. reads_outside top message.request) read true ≡ true
      → AreAlike one other (answer_read keeps one who read) (answer_read keeps other who read)
  read-alike None h = record { replies = refl; changes = refl; who = refl; closes = refl; one_stays = refl; other_stays = refl }
  read-alike (Some message) h = request-alike message.id message.controls message.request h

-- what the limit leaves of a request asks for what the request does
limited-outside : (limit : ℕ) (top : RdnSequence) (asked : Request) → reads_outside top (limited_request limit asked) ≡ reads_outside top asked
limited-outside limit top (request.Bind bind) = refl
limited-outside limit top request.Unbind = refl
limited-outside limit top (request.Search search) = refl
limited-outside limit top (request.Update update) = refl
limited-outside limit top (request.Compare compare) = refl
limited-outside limit top (request.Abandon id) = refl
limited-outside limit top (request.Extended name value) = refl

still_outside : (limit : ℕ) (top : RdnSequence) (read : Option Message) → option_map_or (λ message. reads_outside top message.request) read true ≡ true →
    option_map_or (λ message. reads_outside top message.request) (limited_read limit read) true ≡ true
still_outside limit top None outside = refl
still_outside limit top (Some message) outside = limited-outside limit top message.request ∙ outside

-- a message over twins is answered alike
pub answer-twins : (terms : Terms) (other : DirectoryEntries) (top : RdnSequence) (asked : AnsweredMessage DirectoryEntries Requester) → IsOverTwins other top asked
    → IsAnsweredAlike (rules terms) other asked
unfolding rules
answer-twins terms other top asked over =
    read-alike terms.keeps asked.who asked.tree other top over.twins (limited_read terms.limit (message_of asked.message)) (still_outside terms.limit top (message_of asked.message) over.outside)

-- so are all of them
pub all_answered : (terms : Terms) (other : DirectoryEntries) (top : RdnSequence) (xs : List (AnsweredMessage DirectoryEntries Requester)) → AllByRecursion (IsOverTwins other top) xs
    → AllByRecursion (IsAnsweredAlike (rules terms) other) xs
all_answered terms other top xs all = all_map (IsOverTwins other top) (IsAnsweredAlike (rules terms) other) (answer-twins terms other top) xs all

-- a step that was heard is heard alike over twins
pub hears_alike : (terms : Terms) (s : Step) (old new : Held DirectoryEntries Requester) → new ≡ heard (rules terms) s old → HearsAlike terms s old new
unfolding HearsAlike
hears_alike terms s old new is other top all =
    let alike = heard-alike (rules terms) other old s (all_answered terms other top (answered_of_held (rules terms) old s) all) in
    let same : held_over other new ≡ heard (rules terms) s (held_over other old) = ap (held_over other) is ∙ sym alike.same in
    record {
      same = same;
      entries = ap (λ (h : Held DirectoryEntries Requester). h.tree) is ∙ alike.one_stays;
      run = follows_step terms s (held_over other old) (held_over other new) same;
    }

pub hears_alike_event : (terms : Terms) (e : Event) (old new : Held DirectoryEntries Requester) → Hears terms e old new → HearsAlike terms (step_by e old.kept new.kept) old new
hears_alike_event terms e old new hears = hears_alike terms (step_by e old.kept new.kept) old new hears.same

-- whole runs, from their beginning
pub run-twins : (terms : Terms) (one other : DirectoryEntries) (top : RdnSequence) (ss : List Step) → AllByRecursion (IsOverTwins other top) (answered_of_run (rules terms) (start (rules terms) one) ss)
    → AreOver one other (run (rules terms) one ss) (run (rules terms) other ss)
run-twins terms one other top ss all = run-alike (rules terms) other one ss (all_answered terms other top (answered_of_run (rules terms) (start (rules terms) one) ss) all)

pub replayed-twins : (terms : Terms) (one other : DirectoryEntries) (top : RdnSequence) (ss : List Step) → AllByRecursion (IsOverTwins other top) (answered_of_replay (rules terms) (start (rules terms) one) ss)
    → AreOver one other (replayed (rules terms) one ss) (replayed (rules terms) other ss)
replayed-twins terms one other top ss all = replayed-alike (rules terms) other one ss (all_answered terms other top (answered_of_replay (rules terms) (start (rules terms) one) ss) all)

-- one connection, among all and alone
pub run-purged-twins : (terms : Terms) (entries : DirectoryEntries) (top : RdnSequence) (c : ℕ) (ss : List Step) → openings c ss ≤ 1
    → finds_room (rules terms) c (start (rules terms) entries) ss ≡ true → AllByRecursion (IsOverTwins entries top) (answered_of_connection (rules terms) c (start (rules terms) entries) ss)
    → (run (rules terms) entries ss).of c ≡ (run (rules terms) entries (purged c ss)).of c
run-purged-twins terms entries top c ss once room all =
    run-purged (rules terms) entries c ss once room (all_answered terms entries top (answered_of_connection (rules terms) c (start (rules terms) entries) ss) all)

pub replayed-purged-twins : (terms : Terms) (entries : DirectoryEntries) (top : RdnSequence) (c : ℕ) (ss : List Step) → openings c ss ≤ 1
    → finds_room_in_replay (rules terms) c (start (rules terms) entries) ss ≡ true → AllByRecursion (IsOverTwins entries top) (answered_in_replay (rules terms) c (start (rules terms) entries) ss)
    → (replayed (rules terms) entries ss).of c ≡ (replayed (rules terms) entries (purged c ss)).of c
replayed-purged-twins terms entries top c ss once room all =
    replayed-purged (rules terms) entries c ss once room (all_answered terms entries top (answered_in_replay (rules terms) c (start (rules terms) entries) ss) all)

pub taken-purged-twins : (terms : Terms) (entries : DirectoryEntries) (top : RdnSequence) (c : ℕ) (ss : List Step) (journal : List Item) → Sound (rules terms) entries ss journal → openings c ss ≤ 1
    → finds_room (rules terms) c (start (rules terms) entries) ss ≡ true → AllByRecursion (IsOverTwins entries top) (answered_of_connection (rules terms) c (start (rules terms) entries) ss)
    → IsFront journal c ((run (rules terms) entries (purged c ss)).of c)
taken-purged-twins terms entries top c ss journal sound once room all =
    taken-purged (rules terms) entries c ss journal sound once room (all_answered terms entries top (answered_of_connection (rules terms) c (start (rules terms) entries) ss) all)

-- a journal that serves
pub served-twins : (terms : Terms) (one other : DirectoryEntries) (top : RdnSequence) (ss : List Step) (journal : List Item)
    → AllByRecursion (IsOverTwins other top) (answered_of_run (rules terms) (start (rules terms) one) ss) → Served (rules terms) one ss journal → Served (rules terms) other ss journal
served-twins terms one other top ss journal all served =
    served-alike (rules terms) one other ss journal (all_answered terms other top (answered_of_run (rules terms) (start (rules terms) one) ss) all) served

pub sound-twins : (terms : Terms) (one other : DirectoryEntries) (top : RdnSequence) (ss : List Step) (journal : List Item)
    → AllByRecursion (IsOverTwins other top) (answered_of_run (rules terms) (start (rules terms) one) ss) → Sound (rules terms) one ss journal → Sound (rules terms) other ss journal
sound-twins terms one other top ss journal all sound =
    sound-alike (rules terms) one other ss journal (all_answered terms other top (answered_of_run (rules terms) (start (rules terms) one) ss) all) sound
