-- Compares and searches, by the cases of their requests.
use Rattle.std.proofs.Common.{◌≡◌, ◌≢◌, ℕ, Bool, true, false, List, [], ◌∷◌, ◌++◌, length, Option, Some, None, refl, ap, arith}
use Rattle.std.specs.Prelude.{Result, Ok, Err, if◌then◌else◌}
use Rattle.std.specs.Result.{result_ok}
use Rattle.dir_tree.specs.dn_names.name.Names.{RdnSequence}
use Rattle.dir_tree.specs.dn_names.declared.error.BadName.{BadName}
use Rattle.dir_tree.specs.dn_names.parsing.NameText.{read_name}
use Rattle.ldap_msg.specs.declared.operations.ResultCode.TheVariants as code
use Rattle.ldap_msg.specs.declared.kinds.SearchRequest.{SearchRequest}
use Rattle.ldap_msg.specs.Search.{is_base}
use Rattle.ldap_msg.specs.declared.kinds.Reply.{Reply}
use Rattle.ldap_msg.specs.declared.kinds.Reply.TheVariants as reply
use Rattle.ldap_msg.specs.declared.operations.Ending.TheVariants as ending
use Rattle.page_core.specs.read_model.Views.{View, result_of}
use Rattle.page_core.specs.read_model.SearchReplies.{replies_at, replies_by, search_replies}
use Rattle.page_core.specs.read_model.RootEntry.{root_replies, finds_root, root_entry}
use Rattle.op_read.specs.Short.{Puts}
use Rattle.op_read.proofs.sending.PutsLemmas.{puts-append, puts-same}

-- ---- searches

pub root-elsewhere : (view : View) (request : SearchRequest) (subentries : Option Bool) → is_base request.scope ≡ false → reply.Ended ending.Done (result_of code.NoSuchObject) ∷ [] ≡ root_replies view request subentries
unfolding root_replies
root-elsewhere view request subentries h = rw h refl

pub root-here : (view : View) (request : SearchRequest) (subentries : Option Bool) → is_base request.scope ≡ true → (if finds_root request subentries then root_entry view request ∷ [] else []) ++ reply.Ended ending.Done (result_of code.Success) ∷ [] ≡ root_replies view request subentries
unfolding root_replies
root-here view request subentries e = rw e refl

-- replies behind replies
pub replies-behind : (id : ℕ) (before middle after : List ℕ) (one other all : List Reply) → Puts id one before middle → one ++ other ≡ all → Puts id other middle after → Puts id all before after
replies-behind id before middle after one other all first same last = puts-same id (one ++ other) all before after same (puts-append id one other before middle after first last)

-- the root DSE, where the search finds it
pub root-found : (view : View) (request : SearchRequest) (subentries : Option Bool) (found : Reply) → finds_root request subentries ≡ true → found ≡ root_entry view request
    → found ∷ [] ≡ (if finds_root request subentries then root_entry view request ∷ [] else [])
root-found view request subentries found finds is = rw (finds, is) refl

pub root-lost : (view : View) (request : SearchRequest) (subentries : Option Bool) → finds_root request subentries ≡ false → [] ≡ (if finds_root request subentries then root_entry view request ∷ [] else [])
root-lost view request subentries finds = rw finds refl

-- ---- the base

pub by-root : (view : View) (request : SearchRequest) (subentries : Option Bool) (base : RdnSequence) → length base ≡ 0 → root_replies view request subentries ≡ replies_by view request subentries (Ok base)
by-root view request subentries [] e = refl
by-root view request subentries (rdn ∷ rdns) e = absurd (omega arith)

pub by-filled : (view : View) (request : SearchRequest) (subentries : Option Bool) (base : RdnSequence) → length base ≢ 0 → replies_at view request subentries base ≡ replies_by view request subentries (Ok base)
by-filled view request subentries [] some = absurd (some refl)
by-filled view request subentries (rdn ∷ rdns) some = refl

-- what the base is read as
read-some : (view : View) (request : SearchRequest) (subentries : Option Bool) (read : Result RdnSequence BadName) (name : RdnSequence) → Some name ≡ result_ok read
    → replies_by view request subentries (Ok name) ≡ replies_by view request subentries read
read-some view request subentries (Err bad) name is = absurd cc
read-some view request subentries (Ok other) name is = ap (λ (base : RdnSequence). replies_by view request subentries (Ok base)) (same is)
  where
    same : Some name ≡ Some other → name ≡ other
    same e = cc

read-none : (view : View) (request : SearchRequest) (subentries : Option Bool) (read : Result RdnSequence BadName) → None ≡ result_ok read
    → reply.Ended ending.Done (result_of code.InvalidDnSyntax) ∷ [] ≡ replies_by view request subentries read
read-none view request subentries (Err bad) is = refl
read-none view request subentries (Ok other) is = absurd cc

pub known-some : (view : View) (request : SearchRequest) (subentries : Option Bool) (name : RdnSequence) → Some name ≡ result_ok (read_name request.base)
    → replies_by view request subentries (Ok name) ≡ search_replies view request subentries
unfolding search_replies
known-some view request subentries name is = read-some view request subentries (read_name request.base) name is

pub known-none : (view : View) (request : SearchRequest) (subentries : Option Bool) → None ≡ result_ok (read_name request.base)
    → reply.Ended ending.Done (result_of code.InvalidDnSyntax) ∷ [] ≡ search_replies view request subentries
unfolding search_replies
known-none view request subentries is = read-none view request subentries (read_name request.base) is
