-- The laws over the definitions that this crate's functions of laws state.
use Rattle.std.specs.Prelude.{◌≡◌, ℕ, ◌≤◌, Bool, false, List, [], ◌∷◌, ◌++◌, length, take, drop}
use Rattle.ldap_msg.specs.Streams.{whole, rest_of, is_broken}

-- a stream that goes on has its messages, and then those of its rest with what came
pub record GoesOn (stream piece : List ℕ) : Type 0 where
  pub messages : whole (stream ++ piece) ≡ whole stream ++ whole (rest_of stream ++ piece)
  pub rest : rest_of (stream ++ piece) ≡ rest_of (rest_of stream ++ piece)

-- nothing is whole in a rest, and it is its own rest; a rest that isn't broken is at most a header and the most
-- content, less one octet
pub record IsDone (stream : List ℕ) : Type 0 where
  pub messages : whole (rest_of stream) ≡ []
  pub rest : rest_of (rest_of stream) ≡ rest_of stream
  pub broken : is_broken stream ≡ is_broken (rest_of stream)
  pub bound : is_broken stream ≡ false → length (rest_of stream) ≤ 1048581

-- a whole message at the front is the first, and the others are those behind it
pub record StepsOver (stream : List ℕ) (count : ℕ) : Type 0 where
  pub messages : whole stream ≡ take count stream ∷ whole (drop count stream)
  pub rest : rest_of stream ≡ rest_of (drop count stream)
  pub broken : is_broken stream ≡ is_broken (drop count stream)

-- without one there is no message, and all is rest
pub record StopsAt (stream : List ℕ) (broken : Bool) : Type 0 where
  pub messages : whole stream ≡ []
  pub rest : rest_of stream ≡ stream
  pub is : is_broken stream ≡ broken

-- one list of messages and one rest are those of a stream
pub record OnlyWhole (stream : List ℕ) (messages : List (List ℕ)) (rest : List ℕ) : Type 0 where
  pub messages_are : messages ≡ whole stream
  pub rest_is : rest ≡ rest_of stream
