-- What is appended one behind the other is appended as a whole, and each message of it has a content whose length can be written.
use Rattle.std.proofs.Common.{◌≡◌, ℕ, List, [], ◌∷◌, ◌++◌, Option, None, Result, Ok, Err, OnOk, refl, sym, ap, ◌∙◌, subst, append_assoc}
use Rattle.std.specs.Prelude.{Some}
use Rattle.std.proofs.lemmas.List.{append-nil}
use Rattle.std.proofs.lemmas.Grind.{flat_map-append}
use Rattle.dir_tree.proofs.base_laws_proofs.Theorems.{all_append}
use Rattle.ldap_msg.specs.declared.kinds.Reply.{Reply}
use Rattle.ldap_msg.specs.Replies.{reply_octets, IsShortReply}
use Rattle.page_core.specs.read_model.SearchReplies.{replies_octets}
use Rattle.page_core.specs.Endings.{page_end, IsShortEnd}
use Rattle.page_core.specs.Pages.{Paged, paged_octets, unpaged}
use Rattle.op_read.specs.Paging.{ending_page}
use Rattle.op_read.specs.Short.{Puts, PutsPage}

-- ---- replies

-- of two facts of a call that succeeds a third
pub on_ok_both : {A E P Q R : Type 0} (r : Result A E) → (P → Q → R) → OnOk r P → OnOk r Q → OnOk r R
on_ok_both (Ok value) make one other = make one other
on_ok_both (Err fault) make one other = tt

-- none
pub puts-none : (id : ℕ) (old new : List ℕ) → new ≡ old → Puts id [] old new
puts-none id old new same = record { said = same ∙ sym (append-nil old); short = tt }

-- one
pub puts-one : (id : ℕ) (reply : Reply) (old new : List ℕ) → new ≡ old ++ reply_octets id reply → IsShortReply id reply → Puts id (reply ∷ []) old new
puts-one id reply old new said short = record {
  said = said ∙ ap (λ octets. old ++ octets) (sym (append-nil (reply_octets id reply)));
  short = (short, tt);
}

-- some, and then others
pub puts-append : (id : ℕ) (one other : List Reply) (old middle new : List ℕ) → Puts id one old middle → Puts id other middle new → Puts id (one ++ other) old new
puts-append id one other old middle new first second = record {
  said = second.said
      ∙ ap (λ out. out ++ replies_octets id other) first.said
      ∙ append_assoc old (replies_octets id one) (replies_octets id other)
      ∙ ap (λ octets. old ++ octets) (sym (flat_map-append (reply_octets id) one other));
  short = all_append (IsShortReply id) one other first.short second.short;
}

-- the same replies
pub puts-same : (id : ℕ) (one other : List Reply) (old new : List ℕ) → one ≡ other → Puts id one old new → Puts id other old new
puts-same id one other old new same puts = subst (λ (replies : List Reply). Puts id replies old new) same puts

-- ---- pages

-- the same page
pub page-sent : (id : ℕ) (old new : List ℕ) (one other : Paged) → PutsPage id one old new → one ≡ other → PutsPage id other old new
page-sent id old new one other puts same = subst (λ (paged : Paged). PutsPage id paged old new) same puts

-- replies alone
puts-unpaged : (id : ℕ) (old new : List ℕ) (replies : List Reply) → Puts id replies old new → PutsPage id (unpaged replies) old new
unfolding paged_octets
puts-unpaged id old new replies puts = record {
  said = puts.said ∙ ap (λ octets. old ++ octets) (sym (append-nil (replies_octets id replies)));
  short = record { replies = puts.short; ending = tt };
}

-- replies alone, which are the page
pub unpaged-sent : (id : ℕ) (old new : List ℕ) (replies : List Reply) (paged : Paged) → Puts id replies old new → unpaged replies ≡ paged → PutsPage id paged old new
unpaged-sent id old new replies paged puts same = page-sent id old new (unpaged replies) paged (puts-unpaged id old new replies puts) same

-- the end of a page alone
pub puts-end : (id : ℕ) (cookie old new : List ℕ) → new ≡ old ++ page_end id cookie → IsShortEnd id cookie → PutsPage id (ending_page cookie) old new
unfolding paged_octets
puts-end id cookie old new said short = record { said = said; short = record { replies = tt; ending = short } }

-- replies, and then the end of a page
pub puts-page : (id : ℕ) (replies : List Reply) (cookie old middle new : List ℕ) → Puts id replies old middle → PutsPage id (ending_page cookie) middle new
    → PutsPage id (record { replies = replies; cookie = Some cookie }) old new
unfolding paged_octets
puts-page id replies cookie old middle new first end = record {
  said = end.said ∙ ap (λ out. out ++ page_end id cookie) first.said ∙ append_assoc old (replies_octets id replies) (page_end id cookie);
  short = record { replies = first.short; ending = end.short.ending };
}
