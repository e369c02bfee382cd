-- What octets leave however they are cut into pieces (RFC 4511 5), and messages however they are told apart.
use Rattle.std.specs.Prelude.{◌≡◌, ◌≢◌, ℕ, cond}
use Rattle.session_model.specs.Rules.{Answered, after_octets}
use Rattle.session_model.specs.Run.{Sessions, Open}

-- what was said, and then, where it doesn't close, what is said next
abbrev pub and_then : {T W : Type 0} → Answered T W → Answered T W → Answered T W
and_then first next = cond first.closes first (after_octets first.replies first.changes next)

-- two runs leave the same but for the octets heard from one connection that isn't open any more: a piece behind the end of
-- all answers isn't heard
pub record LeavesAlike {T W : Type 0} (number : ℕ) (sessions others : Sessions T W) : Type 0 where
  pub tree : sessions.tree ≡ others.tree
  pub changes : sessions.changes ≡ others.changes
  pub opened : sessions.opened ≡ others.opened
  pub who : (sessions.of number).who ≡ (others.of number).who
  pub reply : (sessions.of number).reply ≡ (others.of number).reply
  pub state : (sessions.of number).state ≡ (others.of number).state
  pub cut : (sessions.of number).cut ≡ (others.of number).cut
  pub stream : (sessions.of number).state ≡ Open → (sessions.of number).stream ≡ (others.of number).stream
  pub rest : (other : ℕ) → other ≢ number → sessions.of other ≡ others.of other
