-- What a server keeps of its sessions: for each connection held, what is left unread and what is left to send.
use Rattle.std.specs.Prelude.{ℕ, ◌==◌, nat_lt, Bool, false, true, cond, not, ◌||◌, List, [], ◌∷◌, ◌++◌, length, drop, Option, Some, None}
use Rattle.ldap_msg.specs.Streams.{whole, rest_of, is_broken}
use Rattle.session_model.specs.Rules.{Rules, Answered, said}
use Rattle.session_model.specs.Run.{Step, Opened, Bytes, Ended, Gone, HungUp, most_held}

-- one connection held: its number, its unread octets, its requester, its octets still to be sent, whether it is closing,
-- and where it was cut
pub record Kept (W : Type 0) : Type 0 where
  pub number : ℕ
  pub rest : List ℕ
  pub who : W
  pub queue : List ℕ
  pub closing : Bool
  pub cut : Option ℕ

-- the connection of a number, if it is held
abbrev pub kept_of : {W : Type 0} → ℕ → List (Kept W) → Option (Kept W)
kept_of number [] = None
kept_of number (connection ∷ connections) = cond (connection.number == number) (Some connection) (kept_of number connections)

-- whether a connection is held
abbrev pub is_kept : {W : Type 0} → Option (Kept W) → Bool
is_kept None = false
is_kept (Some connection) = true

-- the octets still to be sent to a connection
abbrev pub queue_of : {W : Type 0} → ℕ → List (Kept W) → List ℕ
queue_of number [] = []
queue_of number (connection ∷ connections) = cond (connection.number == number) connection.queue (queue_of number connections)

-- whether a connection is closing
abbrev pub closing_of : {W : Type 0} → ℕ → List (Kept W) → Bool
closing_of number [] = false
closing_of number (connection ∷ connections) = cond (connection.number == number) connection.closing (closing_of number connections)

-- where a connection was cut
abbrev pub cut_of : {W : Type 0} → ℕ → List (Kept W) → Option ℕ
cut_of number [] = None
cut_of number (connection ∷ connections) = cond (connection.number == number) connection.cut (cut_of number connections)

-- the connections held, with the first of this number changed
abbrev pub changed : {W : Type 0} → ℕ → (Kept W → Kept W) → List (Kept W) → List (Kept W)
changed number change [] = []
changed number change (connection ∷ connections) = cond (connection.number == number) (change connection ∷ connections) (connection ∷ changed number change connections)

-- a connection without the first octets of its queue
abbrev pub without_front : {W : Type 0} → ℕ → Kept W → Kept W
without_front count connection = record connection { queue = drop count connection.queue }

-- so many octets were taken of a connection's queue
abbrev pub taken_off : {W : Type 0} → ℕ → ℕ → List (Kept W) → List (Kept W)
taken_off number count = changed number (without_front count)

-- a connection is forgotten
abbrev pub forgotten : {W : Type 0} → ℕ → List (Kept W) → List (Kept W)
forgotten number [] = []
forgotten number (connection ∷ connections) = cond (connection.number == number) (forgotten number connections) (connection ∷ forgotten number connections)

-- the tree, the connections held, whether any connection was cut so far, and the octets of changes that aren't stored yet
pub record Held (T W : Type 0) : Type 0 where
  pub tree : T
  pub kept : List (Kept W)
  pub was_cut : Bool
  pub unstored : List ℕ

-- whether there is a cut
abbrev pub is_cut : Option ℕ → Bool
is_cut None = false
is_cut (Some count) = true

-- a connection that hears no more: nothing of it is left to read
abbrev pub closed : {W : Type 0} → Kept W → Kept W
closed connection = record connection { rest = []; closing = true }

module _ {T W : Type 0} (rules : Rules T W) where
  -- a connection that has just opened
  abbrev pub opened_kept : ℕ → Kept W
  opened_kept number = record { number = number; rest = []; who = rules.nobody; queue = []; closing = false; cut = None }

  -- what is said to a stream, up to a cut
  unfoldable pub speech : Option ℕ → T → W → List ℕ → Answered T W
  speech cut tree who stream = said rules cut tree who (whole stream) (is_broken stream)

  -- an open connection after a piece, by what is said to its unread octets and the piece
  abbrev pub heard_piece : List ℕ → Option ℕ → Kept W → Answered T W → Kept W
  heard_piece piece cut connection answered =
      record {
        number = connection.number;
        rest = cond answered.closes [] (rest_of (connection.rest ++ piece));
        who = answered.who;
        queue = connection.queue ++ answered.replies;
        closing = answered.closes;
        cut = cut;
      }

  -- a piece for a connection that may be held, and may be closing
  abbrev pub hears_kept : Option (Kept W) → ℕ → List ℕ → Option ℕ → Held T W → Held T W
  hears_kept None number piece cut held = held
  hears_kept (Some connection) number piece cut held =
      let answered = speech cut held.tree connection.who (connection.rest ++ piece) in
      cond connection.closing held
      (record {
        tree = answered.tree;
        kept = changed number (λ _. heard_piece piece cut connection answered) held.kept;
        was_cut = held.was_cut || is_cut cut;
        unstored = held.unstored ++ answered.changes;
      })

  -- what a step leaves of the connections held, of the tree, and of what isn't stored
  unfoldable pub heard : Step → Held T W → Held T W
  heard (Opened number) held =
      record held { kept = cond (is_kept (kept_of number held.kept) || not (nat_lt (length held.kept) most_held)) held.kept (held.kept ++ opened_kept number ∷ []) }
  heard (Bytes number piece cut) held = hears_kept (kept_of number held.kept) number piece cut held
  heard (Ended number) held = record held { kept = changed number closed held.kept }
  heard (Gone number) held = record held { kept = forgotten number held.kept }
  heard (HungUp number) held = record held { kept = forgotten number held.kept }
