use Rattle.apex_board.proofs.Common.{Result, Ok, Err, ◌≡◌, ◌≤◌, ◌<◌, ◌-◌, ◌+◌, ◌++◌, ◌∷◌, [], false, ap, sym, subst, ◌∙◌, arith, is_ok, OnErr, vec_len, vec_capacity, History, entry_of, IsLawful, BoardView, KeepsRoom, room_of}
use Rattle.apex_ports.specs.Idle.{StaysIdle}
use Rattle.apex_ports.specs.OneChannel.{ChangesOneChannel}
use Rattle.apex_ports.specs.Refused.{SameChannels}
use Rattle.apex_ports.specs.ReplyTable.{reply_to}
use Rattle.apex_ports.proofs.Idle.{idle_stays}
use Rattle.apex_ports.proofs.OneChannel.{one_channel}
use Rattle.apex_ports.proofs.Refused.{refused_send_is_silent}
use Rattle.apex_board.specs.declared.records.Records.{Records}
use Rattle.apex_board.proofs.LeastRoom.{room_means, room_kept, room_used}
use Rattle.apex_board.proofs.board.Board.call.Goals as goal

-- the room is not less than the room that was made
still_room : {A T E : Type 0} (r : Result T E) (old new : Records A) → vec_len new.log ≡ vec_len old.log → vec_capacity old.log ≤ vec_capacity new.log → KeepsRoom old.journals.items new.journals.items → OnErr r (room_of old ≤ room_of new)
still_room (Ok x) old new len capacity keeps = tt
still_room (Err e) old new len capacity keeps = room_kept old new (omega (arith, len, capacity)) keeps

pub returns-in_err-make_room-clause-refused_room : goal.returns-in_err-make_room-clause-refused_room
returns-in_err-make_room-clause-refused_room g c =
    subst (λ (v : BoardView). OnErr c.from_residual.result (v.room ≤ room_of c.make_room.new.self)) c.self.view_is
    (still_room c.from_residual.result c.self.inside.records c.make_room.new.self c.make_room.ensures.len c.make_room.ensures.capacity c.make_room.ensures.room)

pub returns-in_err-make_room-clause-succeeds : goal.returns-in_err-make_room-clause-succeeds
returns-in_err-make_room-clause-succeeds g c nothing room =
    let enough = subst (λ (v : BoardView). 1 ≤ v.room) (sym c.self.view_is) room in
    let has = room_means c.self.inside.records 1 enough in
    let entries = has.0 in
    let spare : vec_len c.self.inside.records.log < vec_capacity c.self.inside.records.log = omega (arith, entries) in
    let ok = c.make_room.ensures.succeeds spare (λ _. has.1) in
    let refused : is_ok c.make_room.result ≡ false = ap is_ok c.in_err-make_room.was in
    absurd (cc)

pub returns-in_err-make_room-clause-lawful : goal.returns-in_err-make_room-clause-lawful
returns-in_err-make_room-clause-lawful g c =
    subst (λ (h : History). IsLawful c.self.inside.ports.config h) (sym (c.make_room.ensures.log ∙ c.self.invariant.same)) c.self.invariant.sound.lawful

pub returns-clause-room : goal.returns-clause-room
returns-clause-room g c =
    let len = c.make_room.ensures.len in
    let capacity = c.make_room.ensures.capacity in
    let pushed = c.push.ensures.len in
    let held = c.push.ensures.capacity in
    let less : vec_capacity c.self.inside.records.log - vec_len c.self.inside.records.log ≤ vec_capacity c.push.new.self.log - vec_len c.push.new.self.log + 1 = omega (arith, len, capacity, pushed, held) in
    subst (λ (v : BoardView). v.room ≤ room_of c.push.new.self + 1) c.self.view_is
    (room_used c.self.inside.records c.push.new.self less (λ n k room. c.push.ensures.room n k (c.make_room.ensures.room (n + 1) k room)))

pub returns-clause-lawful : goal.returns-clause-lawful
returns-clause-lawful g c =
    let grown : c.push.new.self.log.items ≡ c.self.inside.records.log.items ++ entry_of c.args.partition c.args.at c.args.call.now c.call-reply.result ∷ [] =
    c.push.ensures.log ∙ (λ i. c.make_room.ensures.log i ++ entry_of c.args.partition c.args.at (c.copy.ensures i) (c.copy-2.ensures i) ∷ []) in
    let same : c.push.new.self.log.items ≡ c.call-reply.new.self.history =
    grown ∙ ((λ i. c.self.invariant.same i ++ entry_of c.args.partition c.args.at c.args.call.now c.call-reply.result ∷ []) ∙ sym c.call-reply.ensures.entry) in
    subst (λ (h : History). IsLawful c.call-reply.new.self.config h) (sym same) c.call-reply.ensures.sound.lawful

pub returns-clause-one_channel : goal.returns-clause-one_channel
returns-clause-one_channel g c =
    let grown : c.push.new.self.log.items ≡ c.self.inside.records.log.items ++ entry_of c.args.partition c.args.at c.args.call.now c.call-reply.result ∷ [] =
    c.push.ensures.log ∙ (λ i. c.make_room.ensures.log i ++ entry_of c.args.partition c.args.at (c.copy.ensures i) (c.copy-2.ensures i) ∷ []) in
    let one = one_channel c.self.inside.ports.config c.self.inside.records.log.items c.args.partition c.args.at c.args.call.now c.call-reply.result in
    subst (λ (v : BoardView). ChangesOneChannel v.config v.log c.push.new.self.log.items) c.self.view_is
    (subst (λ (h : History). ChangesOneChannel c.self.inside.ports.config c.self.inside.records.log.items h) (sym grown) one)

pub returns-clause-refused_send : goal.returns-clause-refused_send
returns-clause-refused_send g c sends refused =
    let grown : c.push.new.self.log.items ≡ c.self.inside.records.log.items ++ entry_of c.args.partition c.args.at c.args.call.now c.call-reply.result ∷ [] =
    c.push.ensures.log ∙ (λ i. c.make_room.ensures.log i ++ entry_of c.args.partition c.args.at (c.copy.ensures i) (c.copy-2.ensures i) ∷ []) in
    let silent = refused_send_is_silent c.self.inside.ports.config c.self.inside.records.log.items (entry_of c.args.partition c.args.at c.args.call.now c.call-reply.result) sends refused in
    subst (λ (v : BoardView). SameChannels v.config v.log c.push.new.self.log.items) c.self.view_is
    (subst (λ (h : History). SameChannels c.self.inside.ports.config c.self.inside.records.log.items h) (sym grown) silent)

pub returns-clause-idle : goal.returns-clause-idle
returns-clause-idle g c =
    let grown : c.push.new.self.log.items ≡ c.self.inside.records.log.items ++ entry_of c.args.partition c.args.at c.args.call.now c.call-reply.result ∷ [] =
    c.push.ensures.log ∙ (λ i. c.make_room.ensures.log i ++ entry_of c.args.partition c.args.at (c.copy.ensures i) (c.copy-2.ensures i) ∷ []) in
    let is : c.call-reply.result ≡ reply_to c.self.inside.ports.config c.self.inside.records.log.items c.args.partition c.args.at c.args.call.now =
    c.call-reply.ensures.reply ∙ (λ i. reply_to c.self.inside.ports.config (sym c.self.invariant.same i) c.args.partition c.args.at c.args.call.now) in
    let stays = idle_stays c.self.inside.ports.config c.self.inside.records.log.items c.args.partition c.args.at c.args.call.now c.call-reply.result c.self.invariant.sound.valid is in
    subst (λ (v : BoardView). StaysIdle v.config v.log c.push.new.self.log.items) c.self.view_is
    (subst (λ (h : History). StaysIdle c.self.inside.ports.config c.self.inside.records.log.items h) (sym grown) stays)

pub returns-in_err-publish-clause-refused_room : goal.returns-in_err-publish-clause-refused_room
returns-in_err-publish-clause-refused_room g c =
    subst (λ (v : BoardView). OnErr c.from_residual-in_err-publish.result (v.room ≤ room_of c.make_room.new.self)) c.self.view_is
    (still_room c.from_residual-in_err-publish.result c.self.inside.records c.make_room.new.self c.make_room.ensures.len c.make_room.ensures.capacity c.make_room.ensures.room)

pub returns-in_err-publish-clause-lawful : goal.returns-in_err-publish-clause-lawful
returns-in_err-publish-clause-lawful g c =
    subst (λ (h : History). IsLawful c.self.inside.ports.config h) (sym (c.make_room.ensures.log ∙ c.self.invariant.same)) c.self.invariant.sound.lawful
