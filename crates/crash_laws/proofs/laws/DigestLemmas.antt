-- A digest of SHA-256 is 32 octets.
use Rattle.std.proofs.Common.{◌<◌, ℕ, zero, suc, List, arith}
use Rattle.std.specs.Prelude.{slice_index}
use Rattle.std.specs.Int.{w32, byte_at, bytes_high_first, to_be_bytes}
use Rattle.sha2.specs.Sha256.{digest_bytes, sha256}
use Rattle.sha2.proofs.Facts256.{length-sha256}
use Rattle.session_model.specs.ber_elements.Laws.{AreOctets}
use Rattle.session_model.proofs.Theorems.{all_both}
use Rattle.change_replay.specs.change_records.Writable.{IsDigest}
use Rattle.crash_laws.proofs.laws.PartLemmas.{bytes-octets}

-- a byte of a number, and the lowest of them
byte_within : (place number : ℕ) → byte_at place number < 256
byte_within zero number = omega arith
byte_within (suc place) number = omega arith

octets-number : (count number : ℕ) → AreOctets (bytes_high_first count number)
octets-number zero number = tt
octets-number (suc count) number = (byte_within count number, octets-number count number)

-- those of words
octets-words : (words : List ℕ) (count : ℕ) → AreOctets (digest_bytes words count)
unfolding digest_bytes
octets-words words zero = tt
octets-words words (suc count) =
    all_both (λ octet. octet < 256) (digest_bytes words count) (to_be_bytes w32 (slice_index words count))
    (octets-words words count) (octets-number 4 (slice_index words count))

octets-sha256 : (content : List ℕ) → AreOctets (sha256 content)
unfolding sha256
octets-sha256 content = octets-words _ 8

pub sha256_digest : (content : List ℕ) → IsDigest (sha256 content)
sha256_digest content = record { size = length-sha256 content; octets = bytes-octets (sha256 content) (octets-sha256 content) }
