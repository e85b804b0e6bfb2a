-- A call that isn't made or is refused leaves what every partition sees.
use Rattle.std.proofs.Common.{◌≡◌, ℕ, true, false, ◌&&◌, ◌||◌, not, if◌then◌else◌, [], ◌∷◌, ◌++◌, Option, None, Some, refl, ap, ◌∙◌}
use Rattle.std.specs.Option.{unwrap_or}
use Rattle.apex_types.specs.declared.call.Call.{Call}
use Rattle.apex_types.specs.declared.moment.Moment.{Moment}
use Rattle.apex_types.specs.declared.reply.Reply.{Reply}
use Rattle.apex_types.specs.declared.validity.Validity.TheVariants.{Invalid}
use Rattle.apex_module.specs.Configuration.{Configuration, port_of}
use Rattle.apex_module.specs.declared.port.Port.{Port}
use Rattle.apex_ports.specs.declared.history.Entry.{Entry}
use Rattle.apex_ports.specs.declared.rows.Row.{Row}
use Rattle.apex_ports.specs.declared.rows.Row.TheVariants as row
use Rattle.apex_ports.specs.Channels.{last_validity_of}
use Rattle.apex_ports.specs.History.{History, entry_of}
use Rattle.apex_ports.specs.Modes.{is_restart, mode_of}
use Rattle.apex_ports.specs.Ports.{is_created}
use Rattle.apex_ports.specs.ReplyTable.{reply_of, reply_to, row_of}
use Rattle.apex_ports.specs.Rows.{code_of}
use Rattle.apex_ports.specs.Seen.{Seen, seen, sample_of, waiting_of}
use Rattle.apex_ports.proofs.RowCalls.{is_an_error}
use Rattle.apex_ports.proofs.Appends.{is_created-append, last_validity_of-append, mode_of-append}
use Rattle.apex_ports.proofs.Stays.{IsQuiet, LeavesPartition, not_made_is_quiet, or_not, quiet_leaves_channel, quiet_leaves_partition, refused_is_quiet, sample_stays, waiting_stays}
use Rattle.apex_c.specs.Law.{is_refusal, RefusedLeavesSeen}

quiet_row : (config : Configuration) (s : Seen) (p : ℕ) (call : Call) (r : Row) → is_refusal r ≡ true → IsQuiet call (reply_of config s p r)
quiet_row config s p call row.Idle has = not_made_is_quiet call
quiet_row config s p call (row.Refused r) has = refused_is_quiet call (code_of r) (is_an_error r)
quiet_row config s p call _ has = absurd (cc)

module _ (config : Configuration) (h : History) (p : ℕ) (at : Moment) (call : Call) (reply : Reply) (quiet : IsQuiet call reply) (q : ℕ) where
  abbrev e : Entry
  e = entry_of p at call reply

  left : LeavesPartition q e
  left = quiet_leaves_partition config p at call reply quiet q

  waiting_same : (o : Option Port) → waiting_of config (h ++ e ∷ []) o ≡ waiting_of config h o
  waiting_same None = refl
  waiting_same (Some port) =
      let channel = quiet_leaves_channel config p at call reply quiet port.channel in
      waiting_stays config port.channel h e channel.accepted channel.received channel.cleared

  sample_same : (o : Option Port) → sample_of config (h ++ e ∷ []) o ≡ sample_of config h o
  sample_same None = refl
  sample_same (Some port) = sample_stays config h e port.channel (quiet_leaves_channel config p at call reply quiet port.channel).written

  mode_same : mode_of q (h ++ e ∷ []) ≡ mode_of q h
  mode_same = mode_of-append q h e ∙ ap (λ o. unwrap_or o (mode_of q h)) left.mode

  created_same : (id : ℕ) → is_created q id (h ++ e ∷ []) ≡ is_created q id h
  created_same id =
      is_created-append q id h e
      ∙ ((λ i. left.created id i || (is_created q id h && not (is_restart (left.mode i)))) ∙ or_not (is_created q id h))

  last_same : (id : ℕ) → last_validity_of q id (h ++ e ∷ []) ≡ last_validity_of q id h
  last_same id =
      last_validity_of-append q id h e
      ∙ (λ i. if left.created id i then Invalid else unwrap_or (left.read id i) (last_validity_of q id h))

  seen_same : seen config (h ++ e ∷ []) q ≡ seen config h q
  seen_same = λ i. record {
    mode = mode_same i;
    created = λ id. created_same id i;
    last = λ id. last_same id i;
    waiting = λ id. waiting_same (port_of config q id) i;
    sample = λ id. sample_same (port_of config q id) i;
  }

pub refused_leaves_seen : RefusedLeavesSeen
refused_leaves_seen config h p at call has q =
    seen_same config h p at call (reply_to config h p at call)
    (quiet_row config (seen config h p) p call (row_of config (seen config h p) p at call) has) q
