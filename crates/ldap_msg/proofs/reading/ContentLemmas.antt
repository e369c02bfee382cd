-- A request that is read of a content is the one that the content says, and the one that it says is read.
use Rattle.std.proofs.Common.{◌≡◌, ℕ, Bool, true, false, cond, eqb, List, Option, Some, refl, ap, subst, ◌∙◌}
use Rattle.std.proofs.lemmas.Bool.{eqb-true}
use Rattle.std.proofs.lemmas.Option.{same_Some}
use Rattle.ber_layout.specs.element.Pieces.{◌>>=◌}
use Rattle.ber_layout.specs.Layouts.{Layout, Value, Says as SaysLayout, reads, is_clear}
use Rattle.ber_layout.specs.Layouts.Layout.{AnyOctets, End}
use Rattle.ber_layout.proofs.Theorems.{bind_some, reads_sound, reads_complete}
use Rattle.ldap_msg.specs.declared.kinds.BindRequest.{BindRequest}
use Rattle.ldap_msg.specs.declared.kinds.Request.{Request}
use Rattle.ldap_msg.specs.declared.kinds.Request.TheVariants as request
use Rattle.ldap_msg.specs.declared.kinds.Update.{Update}
use Rattle.ldap_msg.specs.declared.kinds.Update.TheVariants as update
use Rattle.ldap_msg.specs.declared.operations.Operation.{Operation}
use Rattle.ldap_msg.specs.declared.operations.Operation.TheVariants as operation
use Rattle.ldap_msg.specs.operations.Operations.{request_tag, operation_of}
use Rattle.ldap_msg.specs.Binds.{bind_layout, bind_from, bind_of}
use Rattle.ldap_msg.specs.Kinds.{modify_layout, modify_from, add_layout, add_from, rename_layout, rename_parts, rename_from, compare_layout, compare_parts, compare_from, extended_layout, abandon_layout}
use Rattle.ldap_msg.specs.declared.kinds.SearchRequest.{SearchRequest}
use Rattle.ldap_msg.specs.Search.{search_of}
use Rattle.ldap_msg.proofs.search.SearchLemmas.{search_sound, search_again}
use Rattle.ldap_msg.specs.reading.Contents.{update_operation, operation_for, SaysUpdate, SaysContent, extended_from, request_in}

-- the content says the request, which is of the operation
pub record Sounds (is : Request) (asked : Operation) (content : List ℕ) : Type 0 where
  pub operation : operation_for is ≡ asked
  pub says : SaysContent is content

-- what was made of parts that were read
by_reads : (l : Layout) (make : Value l → Request) (asked : Operation) (content : List ℕ) (is : Request)
    → (reads l content >>= λ (parts : Value l). Some (make parts)) ≡ Some is
    → ((parts : Value l) → SaysLayout l parts content → Sounds (make parts) asked content) → Sounds is asked content
by_reads l make asked content is e sounds =
    let a = bind_some (reads l content) (λ (parts : Value l). Some (make parts)) is e in
    subst (λ (r : Request). Sounds r asked content) (same_Some (make a.0) is a.2) (sounds a.0 (reads_sound l a.0 content a.1))

pub request_sound : (asked : Operation) (content : List ℕ) (is : Request) → request_in asked content ≡ Some is → Sounds is asked content
request_sound operation.Bind content is e =
    let a = bind_some (bind_of content) (λ (bind : BindRequest). Some (request.Bind bind)) is e in
    let b = bind_some (reads bind_layout content) (λ (parts : Value bind_layout). Some (bind_from parts)) a.0 a.1 in
    let made : Sounds (request.Bind a.0) operation.Bind content =
    record { operation = refl; says = record { parts = b.0; says = reads_sound bind_layout b.0 content b.1; is = same_Some (bind_from b.0) a.0 b.2 } } in
    subst (λ (r : Request). Sounds r operation.Bind content) (same_Some (request.Bind a.0) is a.2) made
request_sound operation.Unbind content is e = by_reads End (λ parts. request.Unbind) operation.Unbind content is e (λ parts says. record { operation = refl; says = says })
request_sound operation.Search content is e =
    let a = bind_some (search_of content) (λ (search : SearchRequest). Some (request.Search search)) is e in
    subst (λ (r : Request). Sounds r operation.Search content) (same_Some (request.Search a.0) is a.2) (record { operation = refl; says = search_sound content a.0 a.1 })
request_sound operation.Modify content is e =
    by_reads modify_layout (λ parts. request.Update (update.Modify (modify_from parts))) operation.Modify content is e
    (λ parts says. record { operation = refl; says = record { parts = parts; says = says; is = refl } })
request_sound operation.Add content is e =
    by_reads add_layout (λ parts. request.Update (update.Add (add_from parts))) operation.Add content is e
    (λ parts says. record { operation = refl; says = record { parts = parts; says = says; is = refl } })
request_sound operation.Delete content is e =
    by_reads AnyOctets (λ name. request.Update (update.Delete (record { name = name }))) operation.Delete content is e
    (λ parts says. record { operation = refl; says = says })
request_sound operation.Rename content is e =
    by_reads rename_layout (λ parts. request.Update (update.Rename (rename_from parts))) operation.Rename content is e
    (λ parts says. record { operation = refl; says = says })
request_sound operation.Compare content is e =
    by_reads compare_layout (λ parts. request.Compare (compare_from parts)) operation.Compare content is e (λ parts says. record { operation = refl; says = says })
request_sound operation.Abandon content is e =
    by_reads abandon_layout (λ id. request.Abandon id) operation.Abandon content is e (λ parts says. record { operation = refl; says = says })
request_sound operation.Extended content is e =
    by_reads extended_layout extended_from operation.Extended content is e (λ parts says. record { operation = refl; says = says })

-- what is made of parts that stand there
again : {A : Type 0} (l : Layout) → is_clear l ≡ true → (make : Value l → A) (parts : Value l) (content : List ℕ) → SaysLayout l parts content
    → (reads l content >>= λ (parts : Value l). Some (make parts)) ≡ Some (make parts)
again {A} l clear make parts content says = ap (λ (o : Option (Value l)). o >>= λ (p : Value l). Some (make p)) (reads_complete l parts content clear says)

update_again : (is : Update) (content : List ℕ) → SaysUpdate is content → request_in (update_operation is) content ≡ Some (request.Update is)
update_again (update.Modify modify) content says =
    again modify_layout refl (λ parts. request.Update (update.Modify (modify_from parts))) says.parts content says.says ∙ ap (λ m. Some (request.Update (update.Modify m))) says.is
update_again (update.Add add) content says =
    again add_layout refl (λ parts. request.Update (update.Add (add_from parts))) says.parts content says.says ∙ ap (λ a. Some (request.Update (update.Add a))) says.is
update_again (update.Delete delete) content says = again AnyOctets refl (λ name. request.Update (update.Delete (record { name = name }))) delete.name content says
update_again (update.Rename rename) content says = again rename_layout refl (λ parts. request.Update (update.Rename (rename_from parts))) (rename_parts rename) content says

pub request_again : (is : Request) (content : List ℕ) → SaysContent is content → request_in (operation_for is) content ≡ Some is
request_again (request.Bind bind) content says =
    ap (λ (o : Option BindRequest). o >>= λ (b : BindRequest). Some (request.Bind b)) (again bind_layout refl bind_from says.parts content says.says)
    ∙ ap (λ (b : BindRequest). Some (request.Bind b)) says.is
request_again request.Unbind content says = again End refl (λ parts. request.Unbind) tt content says
request_again (request.Search search) content says = ap (λ (o : Option SearchRequest). o >>= λ (s : SearchRequest). Some (request.Search s)) (search_again search content says)
request_again (request.Update update) content says = update_again update content says
request_again (request.Compare compare) content says = again compare_layout refl (λ parts. request.Compare (compare_from parts)) (compare_parts compare) content says
request_again (request.Abandon id) content says = again abandon_layout refl (λ number. request.Abandon number) id content says
request_again (request.Extended name value) content says = again extended_layout refl extended_from (name, (value, tt)) content says

-- ---- tags

-- the operation of a tag has that tag
test_by : (test : Bool) (tag : ℕ) (first found : Operation) (others : Option Operation) → eqb tag (request_tag first) ≡ test
    → cond test (Some first) others ≡ Some found → (others ≡ Some found → tag ≡ request_tag found) → tag ≡ request_tag found
test_by true tag first found others test e next = eqb-true tag (request_tag first) test ∙ ap request_tag (same_Some first found e)
test_by false tag first found others test e next = next e

tag_by : (tag : ℕ) (first found : Operation) (others : Option Operation) → cond (eqb tag (request_tag first)) (Some first) others ≡ Some found
    → (others ≡ Some found → tag ≡ request_tag found) → tag ≡ request_tag found
tag_by tag first found others e next = test_by (eqb tag (request_tag first)) tag first found others refl e next

pub operation_tag : (tag : ℕ) (found : Operation) → operation_of tag ≡ Some found → tag ≡ request_tag found
operation_tag tag found e =
    tag_by tag operation.Bind found _ e (λ e. tag_by tag operation.Unbind found _ e (λ e. tag_by tag operation.Search found _ e
    (λ e. tag_by tag operation.Modify found _ e (λ e. tag_by tag operation.Add found _ e (λ e. tag_by tag operation.Delete found _ e
    (λ e. tag_by tag operation.Rename found _ e (λ e. tag_by tag operation.Compare found _ e (λ e. tag_by tag operation.Abandon found _ e
    (λ e. tag_by tag operation.Extended found _ e (λ e. absurd cc))))))))))

-- the tag of an operation is that of no other
pub operation_again : (asked : Operation) → operation_of (request_tag asked) ≡ Some asked
operation_again operation.Bind = refl
operation_again operation.Unbind = refl
operation_again operation.Search = refl
operation_again operation.Modify = refl
operation_again operation.Add = refl
operation_again operation.Delete = refl
operation_again operation.Rename = refl
operation_again operation.Compare = refl
operation_again operation.Abandon = refl
operation_again operation.Extended = refl
