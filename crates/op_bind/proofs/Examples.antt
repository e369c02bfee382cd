-- The definitions on small cases.
use Rattle.std.proofs.Common.{◌≡◌, ℕ, true, false, [], ◌∷◌, List, Err, refl}
use Rattle.std.specs.Prelude.{codes}
use Rattle.sha2.specs.Sha256.{sha256, digest_bytes}
use Rattle.sha2.proofs.Facts256.{digest_of_abc_256}
use Rattle.base64.specs.Rfc4648.{encode_symbols}
use Rattle.dir_tree.specs.dn_names.name.Names.{RdnSequence}
use Rattle.dir_tree.specs.dn_names.declared.error.BadName.TheVariants.{TooMany}
use Rattle.dir_tree.specs.dn_names.NameOrder.{name_cmp, is_same}
use Rattle.dir_tree.specs.Entry.{EntryInformation}
use Rattle.ldap_msg.specs.declared.operations.ResultCode.TheVariants.{Success, ProtocolError, AuthMethodNotSupported, InvalidDnSyntax, InvalidCredentials, UnwillingToPerform}
use Rattle.ldap_msg.specs.declared.kinds.Auth.TheVariants.{Other}
use Rattle.op_bind.specs.Passwords.{accepts, digest_text}
use Rattle.op_bind.specs.Binds.{ended, bound_name, bound_named, bound_text, bind_answer}

-- the digest of FIPS 180-4's first example, in base64
the_digest_of_abc : digest_text (codes "abc") ≡ codes "ungWv48Bz+pBQUDeXa4iI7ADYaOWF3qctBD/YfIAFa0="
unfolding encode_symbols
the_digest_of_abc = rw digest_of_abc_256 refl

a_digest : accepts (codes "{SHA256}ungWv48Bz+pBQUDeXa4iI7ADYaOWF3qctBD/YfIAFa0=") (codes "abc") ≡ true
unfolding accepts
a_digest = rw the_digest_of_abc refl

without_padding : accepts (codes "{SHA256}ungWv48Bz+pBQUDeXa4iI7ADYaOWF3qctBD/YfIAFa0") (codes "abc") ≡ false
unfolding accepts
without_padding = rw the_digest_of_abc refl

-- the last digit has a bit behind the last octet
bits_left_over : accepts (codes "{SHA256}ungWv48Bz+pBQUDeXa4iI7ADYaOWF3qctBD/YfIAFa1=") (codes "abc") ≡ false
unfolding accepts
bits_left_over = rw the_digest_of_abc refl

of_no_scheme : accepts (codes "ungWv48Bz+pBQUDeXa4iI7ADYaOWF3qctBD/YfIAFa0=") (codes "abc") ≡ false
unfolding accepts
of_no_scheme = refl

-- no digest, another scheme and an open brace accept nothing, the equal octets included
no_digest : (password : List ℕ) → accepts (codes "{SHA256}") password ≡ false
unfolding accepts encode_symbols sha256 digest_bytes
no_digest password = refl

another_scheme : (password : List ℕ) → accepts (codes "{MD5}x") password ≡ false
unfolding accepts
another_scheme password = refl

another_case : (password : List ℕ) → accepts (codes "{sha256}x") password ≡ false
unfolding accepts
another_case password = refl

a_brace : (password : List ℕ) → accepts (codes "{") password ≡ false
unfolding accepts
a_brace password = refl

-- octets accept themselves
in_clear : accepts (codes "bob2") (codes "bob2") ≡ true
unfolding accepts
in_clear = refl

in_another_case : accepts (codes "bob2") (codes "Bob2") ≡ false
unfolding accepts
in_another_case = refl

a_brace_within : accepts (codes "a{") (codes "a{") ≡ true
unfolding accepts
a_brace_within = refl

-- the entry dc=A, of two passwords, and dc=a and dc=b as a client may write them
root : RdnSequence
root = (record { kind = 25; value = record { octets = codes "A"; key = codes "a" } } ∷ []) ∷ []

asked : RdnSequence
asked = (record { kind = 25; value = record { octets = codes "a"; key = codes "a" } } ∷ []) ∷ []

absent : RdnSequence
absent = (record { kind = 25; value = record { octets = codes "b"; key = codes "b" } } ∷ []) ∷ []

entries : List EntryInformation
entries = record {
  name = root;
  attributes = record {
    kind = 18;
    values = record { octets = codes "{MD5}x"; key = codes "{MD5}x" } ∷ record { octets = codes "x"; key = codes "x" } ∷ [];
  } ∷ [];
} ∷ []

-- the requester has the name of the entry
a_second_password : bound_named entries asked (codes "x") ≡ bound_name root
unfolding entries root asked name_cmp is_same accepts
a_second_password = refl

a_wrong_password : bound_named entries asked (codes "y") ≡ ended InvalidCredentials
unfolding entries root asked name_cmp is_same accepts
a_wrong_password = refl

an_absent_name : bound_named entries absent (codes "x") ≡ ended InvalidCredentials
unfolding entries root absent name_cmp is_same
an_absent_name = refl

a_name_alone : bound_named entries asked [] ≡ ended UnwillingToPerform
unfolding asked
a_name_alone = refl

a_password_alone : bound_named entries [] (codes "x") ≡ ended InvalidCredentials
a_password_alone = refl

neither : bound_named entries [] [] ≡ ended Success
neither = refl

-- what isn't looked at where an earlier row applies
no_name : bound_text entries (Err TooMany) [] ≡ ended InvalidDnSyntax
no_name = refl

another_method : bind_answer entries (record { version = 3; name = codes "?"; auth = Other 163 }) ≡ ended AuthMethodNotSupported
unfolding bind_answer
another_method = refl

another_version : bind_answer entries (record { version = 2; name = codes "?"; auth = Other 163 }) ≡ ended ProtocolError
unfolding bind_answer
another_version = refl
