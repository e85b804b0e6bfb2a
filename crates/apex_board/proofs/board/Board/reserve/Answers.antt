use Rattle.apex_board.proofs.Common.{◌≡◌, ◌≤◌, ◌-◌, false, ap, sym, subst, arith, is_ok, vec_len, vec_capacity, BoardView, room_of}
use Rattle.apex_board.proofs.LeastRoom.{room_from, room_means, room_kept}
use Rattle.apex_board.proofs.board.Board.reserve.Goals as goal

pub returns-in_err-reserve-clause-succeeds : goal.returns-in_err-reserve-clause-succeeds
returns-in_err-reserve-clause-succeeds g c room =
    let enough = subst (λ (v : BoardView). c.args.calls ≤ v.room) (sym c.self.view_is) room in
    let has = room_means c.self.inside.records c.args.calls enough in
    let ok = c.reserve.ensures.succeeds has.0 has.1 in
    let refused : is_ok c.reserve.result ≡ false = ap is_ok c.in_err-reserve.was in
    absurd (cc)

pub returns-in_err-reserve-clause-grows : goal.returns-in_err-reserve-clause-grows
returns-in_err-reserve-clause-grows g c =
    let len = c.reserve.ensures.len in
    let capacity = c.reserve.ensures.capacity in
    let more : vec_capacity c.self.inside.records.log - vec_len c.self.inside.records.log ≤ vec_capacity c.reserve.new.self.log - vec_len c.reserve.new.self.log = omega (arith, len, capacity) in
    subst (λ (v : BoardView). v.room ≤ room_of c.reserve.new.self) c.self.view_is (room_kept c.self.inside.records c.reserve.new.self more c.reserve.ensures.grows)

pub returns-clause-room : goal.returns-clause-room
returns-clause-room g c = room_from c.reserve.new.self _ c.in_ok-reserve.ensures.entries c.in_ok-reserve.ensures.room

pub returns-clause-grows : goal.returns-clause-grows
returns-clause-grows g c =
    let len = c.reserve.ensures.len in
    let capacity = c.reserve.ensures.capacity in
    let more : vec_capacity c.self.inside.records.log - vec_len c.self.inside.records.log ≤ vec_capacity c.reserve.new.self.log - vec_len c.reserve.new.self.log = omega (arith, len, capacity) in
    subst (λ (v : BoardView). v.room ≤ room_of c.reserve.new.self) c.self.view_is (room_kept c.self.inside.records c.reserve.new.self more c.reserve.ensures.grows)
