-- A refused send changes no channel.
use Rattle.apex_ports.proofs.Common.{◌≡◌, ℕ, true, false, ◌&&◌, if◌then◌else◌, [], ◌∷◌, ◌++◌, None, refl, Call, SendQueuing, Configuration, Entry, History, is_code_no_error, message_sent, message_in, message_written, sample_at, is_receive, is_clear}
use Rattle.apex_ports.specs.OneChannel.{SameChannel}
use Rattle.apex_ports.specs.Refused.{SameChannels, is_send}
use Rattle.apex_ports.proofs.Stays.{LeavesChannel, accepted_stays, taken_stays, sample_stays, waiting_stays}

send_is_no_receive : (config : Configuration) (c p : ℕ) (call : Call) → is_send call ≡ true → is_receive config c p call ≡ false
send_is_no_receive config c p (SendQueuing id message) is = refl
send_is_no_receive config c p _ is = absurd (cc)

-- a channel that an entry leaves alone is as it was
pub same_channel : (config : Configuration) (h : History) (e : Entry) (c : ℕ) → LeavesChannel config c e → SameChannel config h (h ++ e ∷ []) c
same_channel config h e c left = record {
  accepted = accepted_stays config c h e left.accepted;
  taken = taken_stays config c h e left.received left.cleared;
  waiting = waiting_stays config c h e left.accepted left.received left.cleared;
  sample = sample_stays config h e c left.written;
}

pub refused_send_is_silent : (config : Configuration) (h : History) (e : Entry) → is_send e.call ≡ true → is_code_no_error e.reply ≡ false → SameChannels config h (h ++ e ∷ [])
refused_send_is_silent config h e sends refused c =
    same_channel config h e c (record {
      accepted = λ i. if refused i then message_sent config c e.partition e.call else None;
      received = λ i. if send_is_no_receive config c e.partition e.call sends i then message_in e.reply else None;
      cleared = λ i. refused i && is_clear config c e.partition e.call;
      written = λ i. if refused i then sample_at e.at (message_written config c e.partition e.call) else None;
    })
