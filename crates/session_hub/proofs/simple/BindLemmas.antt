-- The simple bind that a message is, by its operation.
use Rattle.std.proofs.Common.{◌≡◌, ℕ, Bool, true, false, ◌==◌, List, [], ◌∷◌, Option, Some, None, refl, ap, ◌∙◌, arith}
use Rattle.std.proofs.lemmas.Bool.Decides.{nat_tests}
use Rattle.session_model.specs.ber_layout.element.Pieces.{◌>>=◌, are_pieces, other_than}
use Rattle.session_model.specs.ber_layout.components.Components.{Component, optional_of}
use Rattle.session_model.specs.ber_layout.Layouts.{Value, reads_into, reads}
use Rattle.session_model.specs.ber_layout.Layouts.Layout.{AnyOctets, End}
use Rattle.session_model.specs.ldap_msg.declared.kinds.Auth.{Auth}
use Rattle.session_model.specs.ldap_msg.declared.kinds.Auth.TheVariants.{Simple, Other}
use Rattle.session_model.specs.ldap_msg.declared.kinds.BindRequest.{BindRequest}
use Rattle.session_model.specs.ldap_msg.declared.kinds.Control.{Control}
use Rattle.session_model.specs.ldap_msg.declared.kinds.Message.{Message}
use Rattle.session_model.specs.ldap_msg.declared.kinds.Request.{Request}
use Rattle.session_model.specs.ldap_msg.declared.kinds.Request.TheVariants as request
use Rattle.session_model.specs.ldap_msg.declared.kinds.Update.TheVariants as update
use Rattle.session_model.specs.ldap_msg.declared.operations.Operation.{Operation}
use Rattle.session_model.specs.ldap_msg.declared.operations.Operation.TheVariants as operation
use Rattle.session_model.specs.ldap_msg.operations.Operations.{operation_of}
use Rattle.session_model.specs.ldap_msg.Binds.{bind_of}
use Rattle.session_model.specs.ldap_msg.Search.{search_of}
use Rattle.session_model.specs.ldap_msg.Kinds.{modify_layout, modify_from, add_layout, add_from, rename_layout, rename_from, compare_layout, compare_from, extended_layout, abandon_layout}
use Rattle.session_model.specs.ldap_msg.Controls.{controls_layout, controls_from}
use Rattle.session_model.specs.ldap_msg.reading.Contents.{request_of}
use Rattle.op_bind.specs.Binds.{with_password}
use Rattle.session_hub.specs.SimpleBinds.{Credentials, simple_message, credentials_of, credentials_in, simple_in, says_no_controls}
use Rattle.session_hub.proofs.simple.ControlLemmas.{with_controls, message_before, no_controls}

-- credentials with the number of their message
abbrev pub numbered : ℕ → Option Credentials → Option (ℕ × Credentials)
numbered id found = found >>= λ credentials. Some (id, credentials)

-- a bind without controls has its credentials
pub simple_of_bind : (id : ℕ) (bind : Option BindRequest) → simple_in (with_controls id [] (bind >>= λ bind. Some (request.Bind bind))) ≡ numbered id (credentials_of bind)
simple_of_bind id None = refl
simple_of_bind id (Some bind) = refl

-- so has the message of one that no controls follow
pub simple_before : (id tag : ℕ) (body octets : List ℕ) → tag ≡ 0x60 → says_no_controls octets ≡ true → simple_in (message_before id (tag, body) octets) ≡ numbered id (credentials_of (bind_of body))
simple_before id tag body octets is none = ap simple_in (no_controls id (tag, body) octets none) ∙ ap (λ t. simple_in (with_controls id [] (request_of (t, body)))) is ∙ simple_of_bind id (bind_of body)

-- another request has none
other_made : {A : Type 0} (id : ℕ) (controls : List Control) (found : Option A) (make : A → Request) → ((value : A) → credentials_in (make value) ≡ None) →
    simple_in (with_controls id controls (found >>= λ value. Some (make value))) ≡ None
other_made id controls None make none = refl
other_made id [] (Some value) make none = rw (none value) refl
other_made id (control ∷ controls) (Some value) make none = refl

-- only the tag of a bind is that of one
not_bind : (tag : ℕ) → tag == 0x60 ≡ false → operation_of tag ≡ Some operation.Bind → ⊥
not_bind tag other is = grind (arith, nat_tests)

pub other_request : (id : ℕ) (controls : List Control) (tag : ℕ) (body : List ℕ) → tag == 0x60 ≡ false → simple_in (with_controls id controls (request_of (tag, body))) ≡ None
other_request id controls tag body other = by_operation (operation_of tag) refl
  where
    by_operation : (found : Option Operation) → operation_of tag ≡ found → simple_in (with_controls id controls (request_of (tag, body))) ≡ None
    by_operation None is = rw is refl
    by_operation (Some operation.Bind) is = absurd (not_bind tag other is)
    by_operation (Some operation.Unbind) is = rw is (other_made id controls (reads End body) (λ parts. request.Unbind) (λ parts. refl))
    by_operation (Some operation.Search) is = rw is (other_made id controls (search_of body) request.Search (λ search. refl))
    by_operation (Some operation.Modify) is = rw is (other_made id controls (reads modify_layout body) (λ parts. request.Update (update.Modify (modify_from parts))) (λ parts. refl))
    by_operation (Some operation.Add) is = rw is (other_made id controls (reads add_layout body) (λ parts. request.Update (update.Add (add_from parts))) (λ parts. refl))
    by_operation (Some operation.Delete) is = rw is (other_made id controls (reads AnyOctets body) (λ name. request.Update (update.Delete (record { name = name }))) (λ name. refl))
    by_operation (Some operation.Rename) is = rw is (other_made id controls (reads rename_layout body) (λ parts. request.Update (update.Rename (rename_from parts))) (λ parts. refl))
    by_operation (Some operation.Compare) is = rw is (other_made id controls (reads compare_layout body) (λ parts. request.Compare (compare_from parts)) (λ parts. refl))
    by_operation (Some operation.Abandon) is = rw is (other_made id controls (reads abandon_layout body) request.Abandon (λ number. refl))
    by_operation (Some operation.Extended) is = rw is (other_made id controls (reads extended_layout body) (λ parts. request.Extended parts.0 parts.1.0) (λ parts. refl))

-- whatever controls follow another request
pub none_before : (id : ℕ) (tag : ℕ) (body octets : List ℕ) → tag == 0x60 ≡ false → simple_in (message_before id (tag, body) octets) ≡ None
unfolding reads_into
none_before id tag body octets other = by_list (optional_of 0xa0 (reads controls_layout) octets) refl
  where
    by_rest : (found : Component (Option (Value controls_layout))) (b : Bool) → optional_of 0xa0 (reads controls_layout) octets ≡ Some found → are_pieces (other_than 0xa0) found.rest ≡ b →
        simple_in (message_before id (tag, body) octets) ≡ None
    by_rest found true list after = rw (list, after) (other_request id (controls_from found.value) tag body other)
    by_rest found false list after = rw (list, after) refl

    by_list : (found : Option (Component (Option (Value controls_layout)))) → optional_of 0xa0 (reads controls_layout) octets ≡ found → simple_in (message_before id (tag, body) octets) ≡ None
    by_list None list = rw list refl
    by_list (Some found) list = by_rest found (are_pieces (other_than 0xa0) found.rest) list refl

-- a path in each of three places
ap₃ : {A B C D : Type 0} (f : A → B → C → D) {a a′ : A} {b b′ : B} {c c′ : C} → a ≡ a′ → b ≡ b′ → c ≡ c′ → f a b c ≡ f a′ b′ c′
ap₃ f p q r = rw (p, q, r) refl

bind_is : (bind : BindRequest) (name password : List ℕ) → bind.version ≡ 3 → bind.name ≡ name → bind.auth ≡ Simple password → bind ≡ with_password name password
bind_is bind name password third named by = ap₃ (λ v n a. record { version = v; name = n; auth = a }) third named by

-- credentials that were found are those of a simple bind of version 3
bind_simple : (bind : BindRequest) (name password : List ℕ) → credentials_of (Some bind) ≡ Some (name, password) → bind ≡ with_password name password
bind_simple bind name password is = by_version (bind.version == 3) bind.auth refl refl
  where
    by_version : (b : Bool) (auth : Auth) → bind.version == 3 ≡ b → bind.auth ≡ auth → bind ≡ with_password name password
    by_version false auth other by = absurd (let none : None ≡ Some (name, password) = rw other at is in cc)
    by_version true (Other tag) three by = absurd (let none : None ≡ Some (name, password) = rw (three, by) at is in cc)
    by_version true (Simple given) three by =
        let same : ◌≡◌ {A = Option Credentials} (Some (bind.name, given)) (Some (name, password)) = rw (three, by) at is in
        let third : bind.version ≡ 3 = grind (arith, nat_tests) in
        let all : ◌≡◌ {A = Credentials} (bind.name, given) (name, password) = cc in
        bind_is bind bind.name given third refl by ∙ ap (λ (x : Credentials). with_password x.0 x.1) all

-- a message that is such a bind
pub message_simple : (message : Option Message) (id : ℕ) (name password : List ℕ) → simple_in message ≡ Some (id, (name, password)) → message ≡ Some (simple_message id name password)
message_simple None id name password is = absurd (let none : None ≡ Some (id, (name, password)) = is in cc)
message_simple (Some message) id name password is = by_controls message.controls refl
  where
    by_found : (bind : BindRequest) (found : Option Credentials) → credentials_of (Some bind) ≡ found → message.controls ≡ [] → message.request ≡ request.Bind bind →
        numbered message.id found ≡ Some (id, (name, password)) → message ≡ simple_message id name password
    by_found bind None has empty asked same = absurd (let none : None ≡ Some (id, (name, password)) = same in cc)
    by_found bind (Some credentials) has empty asked same =
        let all : (message.id, credentials) ≡ (id, (name, password)) = cc in
        let is_bind : bind ≡ with_password name password = bind_simple bind name password (has ∙ ap (λ (x : ℕ × Credentials). Some x.1) all) in
        ap₃ (λ n r cs. record { id = n; request = r; controls = cs }) (ap (λ (x : ℕ × Credentials). x.0) all) (asked ∙ ap (λ b. request.Bind b) is_bind) empty

    by_request : (asked : Request) → message.request ≡ asked → message.controls ≡ [] → numbered message.id (credentials_in asked) ≡ Some (id, (name, password)) →
        message ≡ simple_message id name password
    by_request (request.Bind bind) asked empty same = by_found bind (credentials_of (Some bind)) refl empty asked same
    by_request request.Unbind asked empty same = absurd (let none : None ≡ Some (id, (name, password)) = same in cc)
    by_request (request.Search searched) asked empty same = absurd (let none : None ≡ Some (id, (name, password)) = same in cc)
    by_request (request.Update update) asked empty same = absurd (let none : None ≡ Some (id, (name, password)) = same in cc)
    by_request (request.Compare compare) asked empty same = absurd (let none : None ≡ Some (id, (name, password)) = same in cc)
    by_request (request.Abandon number) asked empty same = absurd (let none : None ≡ Some (id, (name, password)) = same in cc)
    by_request (request.Extended kind value) asked empty same = absurd (let none : None ≡ Some (id, (name, password)) = same in cc)

    by_controls : (controls : List Control) → message.controls ≡ controls → Some message ≡ Some (simple_message id name password)
    by_controls [] empty = ap Some (by_request message.request refl empty (rw empty at is))
    by_controls (control ∷ controls) some = absurd (let none : None ≡ Some (id, (name, password)) = rw some at is in cc)
