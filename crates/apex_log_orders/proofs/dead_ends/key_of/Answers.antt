use Rattle.apex_log_orders.proofs.Common.{◌≡◌, ◌+◌, ℕ, List, length, ap, ◌∙◌, slice_get, Configuration, waiting_on, waiting_shown}
use Rattle.apex_judge.proofs.PictureLaws.{shows_what_waits}
use Rattle.apex_log_orders.proofs.Keys.{count_push, made_stays, waiting_push}
use Rattle.apex_log_orders.proofs.dead_ends.key_of.Goals as goal

pub loop-channel-preserved : goal.loop-channel-preserved
loop-channel-preserved c =
    let config = c.args.config.now in
    let h = c.args.walk.now.judge.log in
    let key = c.loop-channel.key.items in
    let channel = c.loop-channel.channel in
    let waits = c.waiting_count.result in
    let before = c.loop-channel.invariant in
    let items = c.in_ok-push.ensures.items in
    let shown : waits ≡ length (waiting_on config channel h) =
    c.waiting_count.ensures
    ∙ (ap (λ (k : Configuration). length (waiting_shown k channel h)) c.requires.judged
    ∙ ap (λ (ms : List (List ℕ)). length ms) (shows_what_waits config h channel (record { valid = c.requires.valid; lawful = c.requires.begins.lawful }))) in
    record {
      count = ap (λ (ns : List ℕ). length ns) items ∙ count_push config h key channel waits before.count;
      made = λ p within. ap (λ (ns : List ℕ). slice_get ns p) items ∙ made_stays config h key channel waits before.count before.made p within;
      waiting = λ d below. ap (λ (ns : List ℕ). slice_get ns (length config.partitions + d)) items ∙ waiting_push config h key channel waits before.count before.waiting shown d below;
    }
