use Rattle.std.proofs.Common.{◌≡◌, ◌≤◌, ◌-◌, ◌+◌, ◌++◌, min, length, take, arith, ap, ap₂, ◌∙◌, vec_len, vec_capacity}
use Rattle.std.proofs.lemmas.List.{length-take}
use Rattle.session_hub.specs.FirstAnswers.{kept_room}
use Rattle.session_hub.proofs.stream.FrameLemmas.{take-joined}
use Rattle.session_hub.proofs.connection.join.Goals as goal

-- there is room for as many of the first octets
pub returns-in-Err-clause-front : goal.returns-in-Err-clause-front
returns-in-Err-clause-front c = λ front.
    let before : c.truncate.new.self.items ≡ take kept_room c.args.unread.now.items = c.truncate.ensures.items ∙ ap (take kept_room) c.in-Err.ensures.items in
    let left : vec_len c.truncate.new.self ≡ length (take kept_room c.args.unread.now.items) = c.truncate.new.self.ok.0 ∙ ap length before in
    let room : kept_room ≤ vec_capacity c.truncate.new.self = omega arith in
    let some : c.min-more.result ≡ min (length c.args.piece.now) (kept_room - length (take kept_room c.args.unread.now.items)) = omega arith in
    let fits : vec_len c.truncate.new.self + length c.split_at.result.0.now ≤ vec_capacity c.truncate.new.self = omega (arith, length-take kept_room c.args.unread.now.items) in
    let ok = c.extend_from_slice-joined.ensures.succeeds fits in
    let all = rw ok at c.extend_from_slice-joined.ensures.items in
    all ∙ ap₂ (λ xs ys. xs ++ ys) before c.split_at.ensures.front ∙ take-joined kept_room c.min-more.result c.args.unread.now.items c.args.piece.now some
