-- What a stored value accepts, by whether it begins with the scheme of digests.
use Rattle.std.proofs.Common.{◌≡◌, ◌≢◌, ℕ, Bool, not, ◌&&◌, ◌||◌, List, ◌++◌, ap}
use Rattle.std.specs.Str.{bytes_eq}
use Rattle.std.proofs.Math.Bool.{or-false}
use Rattle.std.proofs.lemmas.Bool.{false_from_ne_true}
use Rattle.std.proofs.lemmas.Slice.Eq.{bytes_eq-Decides}
use Rattle.op_bind.specs.Passwords.{scheme, digest_text, is_schemed, accepts}

-- a value of the scheme accepts the password of its digest
pub accepts-digest : (text password : List ℕ) → accepts (scheme ++ text) password ≡ bytes_eq text (digest_text password)
unfolding accepts
accepts-digest text password = or-false (bytes_eq text (digest_text password))

-- any other one accepts its own octets, where it is of no scheme
pub accepts-other : (value password : List ℕ) → ((rest : List ℕ) → value ≢ scheme ++ rest)
    → accepts value password ≡ (not (is_schemed value) && bytes_eq value password)
unfolding accepts
accepts-other value password other =
    ap (λ (digest : Bool). digest || (not (is_schemed value) && bytes_eq value password))
    (false_from_ne_true (bytes_eq value (scheme ++ digest_text password)) (λ e. other (digest_text password) ((bytes_eq-Decides value (scheme ++ digest_text password)).0 e)))
