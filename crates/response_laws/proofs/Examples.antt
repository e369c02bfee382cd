-- The definitions, computed on small answers.
use Rattle.std.proofs.Common.{◌≡◌, List, [], ◌∷◌, ◌++◌, None, refl}
use Rattle.ldap_msg.specs.declared.operations.ResultCode.TheVariants as code
use Rattle.ldap_msg.specs.declared.operations.Response.TheVariants as response
use Rattle.ldap_msg.specs.declared.kinds.Request.TheVariants as request
use Rattle.ldap_msg.specs.declared.kinds.Reply.TheVariants as reply
use Rattle.ldap_msg.specs.declared.operations.Ending.TheVariants as ending
use Rattle.read_model.specs.Views.{result_of}
use Rattle.response_laws.specs.Responses.{Sent, Plain, PageEnd, kind_of, response_kind, EndsWithOne}

-- an unbind has no response, and an end of a page is that of a search
unbind : response_kind request.Unbind ≡ None
unbind = refl

page : kind_of (PageEnd []) ≡ response.Ended ending.Done
page = refl

-- an entry, and a search done
listed : EndsWithOne (response.Ended ending.Done) (Plain (reply.Entry [] []) ∷ Plain (reply.Ended ending.Done (result_of code.Success)) ∷ [])
listed = record {
  entries = Plain (reply.Entry [] []) ∷ [];
  last = Plain (reply.Ended ending.Done (result_of code.Success));
  are = refl;
  each = (refl, tt);
  ends = refl;
  others_none = λ other. absurd (other refl);
}

-- two responses are not one, nor is none
done : Sent
done = Plain (reply.Ended ending.Delete (result_of code.Success))

two : EndsWithOne (response.Ended ending.Delete) (done ∷ done ∷ []) → ⊥
two ends = more ends.entries ends.last (ends.others_none (λ same. cc)) ends.are
  where
    more : (entries : List Sent) (last : Sent) → entries ≡ [] → done ∷ done ∷ [] ≡ entries ++ last ∷ [] → ⊥
    more [] last none are = cc
    more (first ∷ rest) last none are = cc

none : EndsWithOne (response.Ended ending.Delete) [] → ⊥
none ends = nothing ends.entries ends.last ends.are
  where
    nothing : (entries : List Sent) (last : Sent) → [] ≡ entries ++ last ∷ [] → ⊥
    nothing [] last are = cc
    nothing (first ∷ rest) last are = cc
