-- A reply that is read is the one that the octets say, and the one that they say is read.
use Rattle.std.proofs.Common.{◌≡◌, ℕ, Bool, true, false, cond, eqb, List, Option, Some, refl, sym, ap, subst, ◌∙◌, arith}
use Rattle.std.proofs.lemmas.Bool.{eqb-true}
use Rattle.std.proofs.lemmas.Option.{same_Some}
use Rattle.ber_layout.specs.element.Pieces.{◌>>=◌}
use Rattle.ber_layout.specs.Layouts.{Layout, Value, Says as SaysLayout, reads, is_clear}
use Rattle.ber_layout.specs.Layouts.Layout.{AnyOctets, Ignored, Number, End, Then}
use Rattle.ber_layout.proofs.Theorems.{bind_some, reads_sound, reads_complete}
use Rattle.ldap_msg.specs.declared.kinds.Reply.{Reply}
use Rattle.ldap_msg.specs.declared.kinds.Reply.TheVariants as reply
use Rattle.ldap_msg.specs.declared.kinds.LdapResult.{LdapResult}
use Rattle.ldap_msg.specs.declared.operations.ResultCode.{ResultCode}
use Rattle.ldap_msg.specs.declared.operations.Ending.{Ending}
use Rattle.ldap_msg.specs.declared.operations.Ending.TheVariants as ending
use Rattle.ldap_msg.specs.declared.operations.Response.{Response}
use Rattle.ldap_msg.specs.declared.operations.Response.TheVariants as response
use Rattle.ldap_msg.specs.operations.Operations.{ending_tag, ending_of, response_tag, response_of}
use Rattle.ldap_msg.specs.operations.ResultCodes.{code_number, code_from}
use Rattle.ldap_msg.specs.Results.{result_layout, result_parts, result_from, entry_layout, names_layout, answered_layout, answered_parts}
use Rattle.ldap_msg.specs.Replies.{response_for, entry_from, answered_from, SaysReply, reply_in}
use Rattle.ldap_msg.proofs.operations.CodeLemmas.{code_back, number_back}

-- the content says the reply, which is of the response
pub record Sounds (is : Reply) (kind : Response) (content : List ℕ) : Type 0 where
  pub response : response_for is ≡ kind
  pub says : SaysReply is content

-- what was made of parts that were read
by_reads : (l : Layout) (make : Value l → Reply) (kind : Response) (content : List ℕ) (is : Reply)
    → (reads l content >>= λ (parts : Value l). Some (make parts)) ≡ Some is
    → ((parts : Value l) → SaysLayout l parts content → Sounds (make parts) kind content) → Sounds is kind content
by_reads l make kind content is e sounds =
    let a = bind_some (reads l content) (λ (parts : Value l). Some (make parts)) is e in
    subst (λ (r : Reply). Sounds r kind content) (same_Some (make a.0) is a.2) (sounds a.0 (reads_sound l a.0 content a.1))

-- the number of a code that was read is the number that stands there
number_stands : (next : Layout) (parts : Value (Then 0x0a (Number 0 127) next)) (content : List ℕ) → SaysLayout (Then 0x0a (Number 0 127) next) parts content
    → code_number (code_from parts.0) ≡ parts.0
number_stands next parts content says = number_back parts.0 (omega (arith, says.inner.to_high))

-- so the content says the parts of the result that was read
result_says : (parts : Value result_layout) (content : List ℕ) → SaysLayout result_layout parts content → SaysLayout result_layout (result_parts (result_from parts)) content
result_says parts content says =
    subst (λ (number : ℕ). SaysLayout result_layout (number, parts.1) content) (sym (number_stands (Then 0x04 AnyOctets (Then 0x04 Ignored End)) parts content says)) says

answered_says : (parts : Value answered_layout) (content : List ℕ) → SaysLayout answered_layout parts content → SaysReply (answered_from parts) content
answered_says parts content says =
    subst (λ (number : ℕ). SaysLayout answered_layout (number, parts.1) content) (sym (number_stands (Then 0x04 AnyOctets (Then 0x04 Ignored names_layout)) parts content says)) says

pub reply_sound : (kind : Response) (content : List ℕ) (is : Reply) → reply_in kind content ≡ Some is → Sounds is kind content
reply_sound response.Entry content is e =
    by_reads entry_layout entry_from response.Entry content is e
    (λ parts says. record { response = refl; says = record { parts = parts; says = says; is = refl } })
reply_sound (response.Ended ending) content is e =
    by_reads result_layout (λ parts. reply.Ended ending (result_from parts)) (response.Ended ending) content is e
    (λ parts says. record { response = refl; says = result_says parts content says })
reply_sound response.Extended content is e =
    by_reads answered_layout answered_from response.Extended content is e (λ parts says. record { response = refl; says = answered_says parts content says })

-- what is made of parts that stand there
again : (l : Layout) → is_clear l ≡ true → (make : Value l → Reply) (parts : Value l) (content : List ℕ) → SaysLayout l parts content
    → (reads l content >>= λ (parts : Value l). Some (make parts)) ≡ Some (make parts)
again l clear make parts content says = ap (λ (o : Option (Value l)). o >>= λ (p : Value l). Some (make p)) (reads_complete l parts content clear says)

-- a result with the code of its code's number
pub with_code : (result : LdapResult) → result_from (result_parts result) ≡ result
with_code result = ap (λ (code : ResultCode). record { code = code; matched = result.matched }) (code_back result.code)

pub reply_again : (is : Reply) (content : List ℕ) → SaysReply is content → reply_in (response_for is) content ≡ Some is
reply_again (reply.Entry name attributes) content says =
    again entry_layout refl entry_from says.parts content says.says ∙ ap (λ (r : Reply). Some r) says.is
reply_again (reply.Ended ending result) content says =
    again result_layout refl (λ parts. reply.Ended ending (result_from parts)) (result_parts result) content says
    ∙ ap (λ (r : LdapResult). Some (reply.Ended ending r)) (with_code result)
reply_again (reply.Extended result name value) content says =
    again answered_layout refl answered_from (answered_parts result name value) content says
    ∙ ap (λ (r : LdapResult). Some (reply.Extended r name value)) (with_code result)

-- ---- tags

test_by : {R : Type 0} (tag_of : R → ℕ) (test : Bool) (tag : ℕ) (first found : R) (others : Option R) → eqb tag (tag_of first) ≡ test
    → cond test (Some first) others ≡ Some found → (others ≡ Some found → tag ≡ tag_of found) → tag ≡ tag_of found
test_by tag_of true tag first found others test e next = eqb-true tag (tag_of first) test ∙ ap tag_of (same_Some first found e)
test_by tag_of false tag first found others test e next = next e

tag_by : {R : Type 0} (tag_of : R → ℕ) (tag : ℕ) (first found : R) (others : Option R) → cond (eqb tag (tag_of first)) (Some first) others ≡ Some found
    → (others ≡ Some found → tag ≡ tag_of found) → tag ≡ tag_of found
tag_by tag_of tag first found others e next = test_by tag_of (eqb tag (tag_of first)) tag first found others refl e next

ending_sound : (tag : ℕ) (found : Ending) → ending_of tag ≡ Some found → tag ≡ ending_tag found
ending_sound tag found e =
    tag_by ending_tag tag ending.Bind found _ e
    (λ e. tag_by ending_tag tag ending.Done found _ e
    (λ e. tag_by ending_tag tag ending.Modify found _ e
    (λ e. tag_by ending_tag tag ending.Add found _ e
    (λ e. tag_by ending_tag tag ending.Delete found _ e
    (λ e. tag_by ending_tag tag ending.Rename found _ e
    (λ e. tag_by ending_tag tag ending.Compare found _ e
    (λ e. absurd cc)))))))

ended_sound : (tag : ℕ) (found : Response) → (ending_of tag >>= λ (ending : Ending). Some (response.Ended ending)) ≡ Some found → tag ≡ response_tag found
ended_sound tag found e =
    let a = bind_some (ending_of tag) (λ (ending : Ending). Some (response.Ended ending)) found e in
    ending_sound tag a.0 a.1 ∙ ap response_tag (same_Some (response.Ended a.0) found a.2)

pub tag_sound : (tag : ℕ) (found : Response) → response_of tag ≡ Some found → tag ≡ response_tag found
tag_sound tag found e =
    tag_by response_tag tag response.Entry found _ e (λ e. tag_by response_tag tag response.Extended found _ e (λ e. ended_sound tag found e))

-- the tag of a response is that of no other
ending_again : (kind : Ending) → response_of (ending_tag kind) ≡ Some (response.Ended kind)
ending_again ending.Bind = refl
ending_again ending.Done = refl
ending_again ending.Modify = refl
ending_again ending.Add = refl
ending_again ending.Delete = refl
ending_again ending.Rename = refl
ending_again ending.Compare = refl

pub tag_again : (kind : Response) → response_of (response_tag kind) ≡ Some kind
tag_again response.Entry = refl
tag_again (response.Ended ending) = ending_again ending
tag_again response.Extended = refl
