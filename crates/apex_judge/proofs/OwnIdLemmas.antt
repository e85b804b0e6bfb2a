-- What was replaced in an entry, put back, is the entry.
use Rattle.apex_judge.proofs.Common.{◌≡◌, ℕ, Bool, true, false, Some, None, refl, Call, Reply, Configuration, Entry}
use Rattle.std.specs.Prelude.{if◌then◌else◌}
use Rattle.apex_types.specs.declared.call.Call.TheVariants as calls
use Rattle.apex_types.specs.declared.reply.Reply.TheVariants as replies
use Rattle.apex_judge.specs.declared.own_ids.Replaced.{Replaced}
use Rattle.apex_judge.specs.OwnIds.{Own, id_asked, asked_of, id_replied, replied_of, ours_of, given_of, port_asked, in_ours, entry_in_ours, replaced_by, replaced_in, restored, known_in}

call_back : (id : ℕ) (call : Call) → asked_of (id_asked call) (asked_of id call) ≡ call
call_back id (calls.CreateSampling name size direction refresh) = refl
call_back id (calls.WriteSampling old message) = refl
call_back id (calls.ReadSampling old) = refl
call_back id (calls.SamplingId name) = refl
call_back id (calls.SamplingStatus old) = refl
call_back id (calls.CreateQueuing name size depth direction discipline) = refl
call_back id (calls.SendQueuing old message) = refl
call_back id (calls.ReceiveQueuing old) = refl
call_back id (calls.QueuingId name) = refl
call_back id (calls.QueuingStatus old) = refl
call_back id (calls.ClearQueuing old) = refl
call_back id (calls.SetMode mode) = refl

reply_back : (id : ℕ) (reply : Reply) → replied_of (id_replied reply) (replied_of id reply) ≡ reply
reply_back id replies.NotMade = refl
reply_back id (replies.Code code) = refl
reply_back id (replies.Id old) = refl
reply_back id (replies.Received message) = refl
reply_back id (replies.Read message validity) = refl
reply_back id (replies.QueuingStatus waiting depth size direction) = refl
reply_back id (replies.SamplingStatus refresh size direction last) = refl

by_choice : (on : Bool) (replaced : Replaced) (entry ours : Entry) → restored (Some replaced) ours ≡ entry
    → restored (if on then Some replaced else None) (if on then ours else entry) ≡ entry
by_choice true replaced entry ours back = back
by_choice false replaced entry ours back = refl

pub put_back : (config : Configuration) (own : Own) (entry : Entry) → restored (replaced_in config own entry) (entry_in_ours config own entry) ≡ entry
put_back config own entry =
    let ids = known_in own entry.partition in
    let ours = ours_of ids (id_asked entry.call) in
    let given = given_of ids (port_asked config entry.partition entry.call) (id_replied entry.reply) in
    by_choice own.on (replaced_by config ids entry) entry (in_ours config ids entry) (rw (call_back ours entry.call, reply_back given entry.reply) refl)
