-- Which stored values of userPassword (RFC 4519 2.41) accept a password. That standard knows the password itself alone; a
-- value that begins with a brace is one of a scheme here, and the one scheme that accepts a password is {SHA256}.
use Rattle.std.specs.Prelude.{ℕ, ◌==◌, Bool, false, not, ◌&&◌, ◌||◌, List, [], ◌∷◌, ◌++◌, codes}
use Rattle.std.specs.Str.{bytes_eq}
use Rattle.sha2.specs.Sha256.{sha256}
use Rattle.base64.specs.Engines.{standard}
use Rattle.base64.specs.GeneralPurpose.{encode_of}

-- what stands before a digest
abbrev pub scheme : List ℕ
scheme = codes "{SHA256}"

-- the padded base64 (RFC 4648 4) of the password's SHA-256 (FIPS 180-4 6.2), of 44 octets
abbrev pub digest_text : List ℕ → List ℕ
digest_text password = encode_of standard (sha256 password)

-- the value begins with {
abbrev pub is_schemed : List ℕ → Bool
is_schemed [] = false
is_schemed (first ∷ rest) = first == 123

-- the value is the digest of the password, or the password itself and of no scheme
unfoldable pub accepts : List ℕ → List ℕ → Bool
accepts value password =
    bytes_eq value (scheme ++ digest_text password) || (not (is_schemed value) && bytes_eq value password)
