-- What is answered to octets, by the message that they are read as.
use Rattle.std.proofs.Common.{◌≡◌, ◌⊎◌, ℕ, Bool, true, List, [], ◌++◌, Option, None, Result, Ok, Err, IfOk, OnOk, Some, inl, inr, refl, true≢false, sym, ap, ◌∙◌, subst}
use Rattle.std.proofs.lemmas.List.{append-nil}
use Rattle.std.proofs.lemmas.Result.{IfOk-weaker, on_ok_weaker}
use Rattle.std.proofs.lemmas.Bool.{cases_Bool}
use Rattle.session_model.specs.ldap_msg.declared.kinds.Control.{Control}
use Rattle.session_model.specs.ldap_msg.declared.kinds.Request.{Request}
use Rattle.session_model.specs.ldap_msg.declared.kinds.Request.TheVariants as request
use Rattle.session_model.specs.ldap_msg.declared.kinds.Message.{Message}
use Rattle.session_model.specs.ldap_msg.Replies.{notice_octets}
use Rattle.op_read.specs.read_model.SearchReplies.{replies_octets}
use Rattle.op_read.specs.page_core.declared.page.Page.{Page}
use Rattle.op_read.specs.page_core.Pages.{Paged, paged_octets, end_octets, page_replies}
use Rattle.op_read.specs.read_model.Views.{View}
use Rattle.session_model.specs.ldap_msg.declared.kinds.SearchRequest.{SearchRequest}
use Rattle.session_model.specs.ldap_msg.declared.kinds.Reply.{Reply}
use Rattle.session_hub.specs.Controls.{is_refused}
use Rattle.session_model.specs.ldap_msg.reading.Messages.{message_in, message_of}
use Rattle.session_hub.specs.Parties.{DirectoryEntries, Requester}
use Rattle.session_hub.specs.Terms.{Terms}
use Rattle.session_hub.specs.Outgoing.{Put}
use Rattle.session_hub.specs.Answers.{Gives}
use Rattle.session_hub.specs.Limiting.{limited_read}
use Rattle.session_hub.specs.ShortAnswers.{IsShortAnswer, IsAnsweredShort}
use Rattle.session_hub.specs.Answering.{searched, sent_octets, answer_octets, answered, is_unbind, answer_read, answer_to, rules}

-- a message, or a content that says none, answered
pub answered_as : {E : Type 0} (terms : Terms) (r : Result Bool E) (o now : Option Message) (entries left : DirectoryEntries) (who after : Requester) (content : List ℕ) (old new : Put) → message_in content ≡ o → now ≡ limited_read terms.limit o →
    IfOk r (λ closes. Gives (answer_read terms.keeps entries who now) old new left after closes) →
    IfOk r (λ closes. Gives (answer_to terms entries who content) old new left after closes)
answered_as terms r o now entries left who after content old new is is_now h =
    IfOk-weaker r (λ closes. Gives (answer_read terms.keeps entries who now) old new left after closes) (λ closes. Gives (answer_to terms entries who content) old new left after closes)
    (λ closes gives. subst (λ m. Gives (answer_read terms.keeps entries who m) old new left after closes) (is_now ∙ ap (limited_read terms.limit) (sym is)) gives) h

-- what is appended to replies alone, whatever changes there are
pub alone_as : {E : Type 0} (keeps : Bool) (changes : List ℕ) (r : Result Bool E) (read : Option Message) (entries left : DirectoryEntries) (who after : Requester) (old new : List ℕ) →
    IfOk r (λ closes. (k : Bool) (before : List ℕ) → Gives (answer_read k entries who read) (record { replies = old; changes = before }) (record { replies = new; changes = before }) left after closes) →
    IfOk r (λ closes. Gives (answer_read keeps entries who read) (record { replies = old; changes = changes }) (record { replies = new; changes = changes }) left after closes)
alone_as keeps changes r read entries left who after old new h =
    IfOk-weaker r (λ closes. (k : Bool) (before : List ℕ) → Gives (answer_read k entries who read) (record { replies = old; changes = before }) (record { replies = new; changes = before }) left after closes)
    (λ closes. Gives (answer_read keeps entries who read) (record { replies = old; changes = changes }) (record { replies = new; changes = changes }) left after closes)
    (λ closes gives. gives keeps changes) h

pub refused_as : {E : Type 0} (terms : Terms) (r : Result Bool E) (entries : DirectoryEntries) (who : Requester) (content old new changes : List ℕ) → message_in content ≡ None →
    IfOk r (λ closes. (keeps : Bool) (before : List ℕ) (others : DirectoryEntries) (asks : Requester) →
    Gives (answer_read keeps others asks None) (record { replies = old; changes = before }) (record { replies = new; changes = before }) others asks closes) →
    IfOk r (λ closes. Gives (answer_to terms entries who content) (record { replies = old; changes = changes }) (record { replies = new; changes = changes }) entries who closes)
refused_as terms r entries who content old new changes is h =
    IfOk-weaker r
    (λ closes. (keeps : Bool) (before : List ℕ) (others : DirectoryEntries) (asks : Requester) →
    Gives (answer_read keeps others asks None) (record { replies = old; changes = before }) (record { replies = new; changes = before }) others asks closes)
    (λ closes. Gives (answer_to terms entries who content) (record { replies = old; changes = changes }) (record { replies = new; changes = changes }) entries who closes)
    (λ closes gives. subst (λ m. Gives (answer_read terms.keeps entries who m) (record { replies = old; changes = changes }) (record { replies = new; changes = changes }) entries who closes)
    (ap (limited_read terms.limit) (sym is)) (gives terms.keeps changes entries who)) h

-- the replies to a content are short where those to what it is read as are
pub short_as : {E : Type 0} (terms : Terms) (r : Result Bool E) (o now : Option Message) (entries : DirectoryEntries) (who : Requester) (content : List ℕ) → message_in content ≡ o → now ≡ limited_read terms.limit o →
    OnOk r (IsShortAnswer entries who now) → OnOk r (IsShortAnswer entries who (limited_read terms.limit (message_in content)))
short_as terms r o now entries who content is is_now h =
    on_ok_weaker r (λ short. subst (λ (read : Option Message). IsShortAnswer entries who read) (is_now ∙ ap (limited_read terms.limit) (sym is)) short) h

pub short_notice : {E : Type 0} (terms : Terms) (r : Result Bool E) (entries : DirectoryEntries) (who : Requester) (content : List ℕ) → message_in content ≡ None → OnOk r (IsShortAnswer entries who (limited_read terms.limit (message_in content)))
short_notice terms (Ok closes) entries who content is = subst (λ (read : Option Message). IsShortAnswer entries who (limited_read terms.limit read)) (sym is) tt
short_notice terms (Err fault) entries who content is = tt

-- what answers the content of a message answers its octets
pub gives_content : (terms : Terms) (entries : DirectoryEntries) (who : Requester) (bytes content : List ℕ) {old new : Put} {left : DirectoryEntries} {after : Requester} {closes : Bool} → message_of bytes ≡ message_in content →
    Gives (answer_to terms entries who content) old new left after closes → Gives ((rules terms).answer entries who bytes) old new left after closes
unfolding rules
gives_content terms entries who bytes content {old} {new} {left} {after} {closes} says gives =
    subst (λ m. Gives (answer_read terms.keeps entries who (limited_read terms.limit m)) old new left after closes) (sym says) gives

-- and its replies are as short
pub short_content : (terms : Terms) (entries : DirectoryEntries) (who : Requester) (bytes content : List ℕ) → message_of bytes ≡ message_in content → IsShortAnswer entries who (limited_read terms.limit (message_in content)) →
    IsAnsweredShort terms (record { tree = entries; who = who; message = bytes })
unfolding IsAnsweredShort
short_content terms entries who bytes content says short = subst (λ m. IsShortAnswer entries who (limited_read terms.limit m)) (sym says) short

-- a request that closes is an unbind, to which nothing is said
unbind_says : (id : ℕ) (controls : List Control) (entries : DirectoryEntries) (who : Requester) (asked : Request) → is_unbind asked ≡ true →
    sent_octets id (answered entries who controls asked).replies (answered entries who controls asked).cookie ≡ []
unbind_says id controls entries who (request.Bind bind) h = absurd (true≢false (sym h))
unbind_says id controls entries who request.Unbind h = elim (cases_Bool (is_refused request.Unbind controls)) [ inl e ↦ rw e refl | inr e ↦ rw e refl ]
unbind_says id controls entries who (request.Search search) h = absurd (true≢false (sym h))
unbind_says id controls entries who (request.Update update) h = absurd (true≢false (sym h))
unbind_says id controls entries who (request.Compare compare) h = absurd (true≢false (sym h))
unbind_says id controls entries who (request.Abandon number) h = absurd (true≢false (sym h))
unbind_says id controls entries who (request.Extended name value) h = absurd (true≢false (sym h))

closing_says : (keeps : Bool) (entries : DirectoryEntries) (who : Requester) (read : Option Message) → (answer_read keeps entries who read).closes ≡ true →
    ((answer_read keeps entries who read).replies ≡ []) ⊎ ((answer_read keeps entries who read).replies ≡ notice_octets)
closing_says keeps entries who None h = inr refl
closing_says keeps entries who (Some message) h = inl (unbind_says message.id message.controls entries who message.request h)

-- what closes a connection says nothing, or gives the notice
pub closes_says : (terms : Terms) (entries : DirectoryEntries) (who : Requester) (bytes : List ℕ) → ((rules terms).answer entries who bytes).closes ≡ true →
    (((rules terms).answer entries who bytes).replies ≡ []) ⊎ (((rules terms).answer entries who bytes).replies ≡ notice_octets)
unfolding rules
closes_says terms entries who bytes h = closing_says terms.keeps entries who (limited_read terms.limit (message_of bytes)) h

-- the octets of a page are those of what is answered, with its end or without
octets_by : (id : ℕ) (replies : List Reply) (cookie : Option (List ℕ)) → replies_octets id replies ++ end_octets id cookie ≡ sent_octets id replies cookie
octets_by id replies None = append-nil (replies_octets id replies)
octets_by id replies (Some cookie) = refl

pub octets-paged : (id : ℕ) (paged : Paged) → paged_octets id paged ≡ answer_octets id paged
unfolding paged_octets
octets-paged id paged = octets_by id paged.replies paged.cookie

-- a page that was sent is what its control asks for
pub page_sent : {A E : Type 0} (r : Result A E) (old new : List ℕ) (id : ℕ) (view : View) (request : SearchRequest) (subentries : Option Bool) (page : Page) (asked : Option (Option Page))
    → asked ≡ Some (Some page) → OnOk r (new ≡ old ++ paged_octets id (page_replies view request subentries page)) → OnOk r (new ≡ old ++ answer_octets id (searched view request (Some subentries) asked))
page_sent (Ok value) old new id view request subentries page asked is h = rw is (h ∙ ap (λ octets. old ++ octets) (octets-paged id (page_replies view request subentries page)))
page_sent (Err fault) old new id view request subentries page asked is h = tt
