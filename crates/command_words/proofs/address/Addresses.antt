-- Addresses: the function against the relation, and what std's `strip_prefix` gives.
use Rattle.std.proofs.Common.{◌≡◌, ℕ, Bool, true, false, cond, eqb, List, ◌++◌, length, drop, Option, Some, None, option_copied, option_and_then, is_some, MatchOption, ⊎_elim, sym, refl, ap, subst, ◌∙◌, Bor}
use Rattle.std.proofs.lemmas.Bool.{cases_Bool}
use Rattle.std.proofs.lemmas.Bool.Decides.{Decides-eqb}
use Rattle.std.proofs.lemmas.Option.{cond_some}
use Rattle.std.proofs.lemmas.Slice.Eq.{starts_is}
use Rattle.std.specs.List.{starts_with}
use Rattle.std.specs.Str.Pattern.{FindsTextPrefix, StripsPrefix}
use Rattle.command_words.specs.Number.{number_within}
use Rattle.command_words.specs.Address.{IsAddress, loopback, after_loopback, is_address, address_of}
use Rattle.command_words.proofs.number.Numbers.{number_within-sound, number_within-complete}

-- a text that begins with the loopback address, and what follows it
begun : (address : List ℕ) → starts_with eqb address loopback ≡ true → address ≡ loopback ++ drop (length loopback) address
begun address starts = (starts_is Decides-eqb address loopback _ refl).0 starts

pub after_loopback-append : (rest : List ℕ) → after_loopback (loopback ++ rest) ≡ Some rest
after_loopback-append rest = refl

-- what `strip_prefix` gives
pub after_loopback-stripped : (xs : List ℕ) (r : Option (Bor (List ℕ))) → MatchOption r (FindsTextPrefix loopback xs None) (λ x. StripsPrefix (FindsTextPrefix loopback) xs x.now) → option_copied r ≡ after_loopback xs
after_loopback-stripped xs None stripped =
    ⊎_elim (λ starts. absurd (stripped (drop (length loopback) xs) (begun xs starts))) (λ lacks. rw lacks refl) (cases_Bool (starts_with eqb xs loopback))
after_loopback-stripped xs (Some body) stripped =
    let cut : xs ≡ loopback ++ drop stripped.0 xs = stripped.1.1 in
    sym (ap after_loopback cut ∙ after_loopback-append (drop stripped.0 xs) ∙ ap Some (sym stripped.2))

-- the function tells the relation
pub is_address-sound : (address : List ℕ) → is_address address ≡ true → IsAddress address
unfolding is_address
is_address-sound address passed =
    elim (starts_with eqb address loopback) as (λ (b : Bool). starts_with eqb address loopback ≡ b → is_some (option_and_then (number_within 5 1 65535) (cond b (Some (drop (length loopback) address)) None)) ≡ true → IsAddress address) [
      | true ↦ λ starts found. with_port (drop (length loopback) address) (begun address starts) (number_within 5 1 65535 (drop (length loopback) address)) refl found
      | false ↦ λ lacks found. absurd (cc)
    ] refl passed
  where
    with_port : (text : List ℕ) → address ≡ loopback ++ text → (port : Option ℕ) → number_within 5 1 65535 text ≡ port → is_some port ≡ true → IsAddress address
    with_port text is None read found = absurd (cc)
    with_port text is (Some port) read found = record { port_text = text; port = port; address_is = is; port_is = number_within-sound 5 1 65535 text port read }

pub is_address-complete : (address : List ℕ) → IsAddress address → is_address address ≡ true
unfolding is_address
is_address-complete address is =
    ap (λ (text : List ℕ). is_some (option_and_then (number_within 5 1 65535) (after_loopback text))) is.address_is
    ∙ ap (λ (found : Option (List ℕ)). is_some (option_and_then (number_within 5 1 65535) found)) (after_loopback-append is.port_text)
    ∙ ap (λ (found : Option ℕ). is_some found) (number_within-complete 5 1 65535 is.port_text is.port is.port_is)

pub address_of-sound : (text address : List ℕ) → address_of text ≡ Some address → IsAddress address × (text ≡ address)
unfolding address_of
address_of-sound text address given =
    let tests = cond_some (is_address text) text address given in
    (subst IsAddress tests.1 (is_address-sound text tests.0), tests.1)

pub address_of-complete : (address : List ℕ) → IsAddress address → address_of address ≡ Some address
unfolding address_of
address_of-complete address is = rw (is_address-complete address is) refl
