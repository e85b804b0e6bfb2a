use Rattle.apex_board.proofs.Common.{◌≤◌, ◌-◌, sym, subst, ◌∙◌, arith, vec_len, vec_capacity, History, IsLawful, BoardView, room_of}
use Rattle.apex_board.proofs.LeastRoom.{room_kept}
use Rattle.apex_board.proofs.RoomSteps.{same_room}
use Rattle.apex_board.proofs.board.Board.reserve_log.Goals as goal

pub returns-in_err-reserve-clause-lawful : goal.returns-in_err-reserve-clause-lawful
returns-in_err-reserve-clause-lawful g c =
    subst (λ (h : History). IsLawful c.self.inside.ports.config h) (sym (c.reserve.ensures.items ∙ c.self.invariant.same)) c.self.invariant.sound.lawful

pub returns-clause-grows : goal.returns-clause-grows
returns-clause-grows g c =
    let len = c.reserve.ensures.len in
    let capacity = c.reserve.ensures.capacity in
    let more : vec_capacity c.self.inside.records.log - vec_len c.self.inside.records.log ≤ vec_capacity c.reserve.new.self - vec_len c.reserve.new.self = omega (arith, len, capacity) in
    subst (λ (v : BoardView). v.room ≤ room_of (record { log = c.reserve.new.self; journals = c.self.inside.records.journals })) c.self.view_is
    (room_kept c.self.inside.records (record { log = c.reserve.new.self; journals = c.self.inside.records.journals }) more (same_room c.self.inside.records.journals.items))

pub returns-clause-lawful : goal.returns-clause-lawful
returns-clause-lawful g c =
    subst (λ (h : History). IsLawful c.self.inside.ports.config h) (sym (c.reserve.ensures.items ∙ c.self.invariant.same)) c.self.invariant.sound.lawful
