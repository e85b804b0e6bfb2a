-- How far the first entries of a log advance the ends of a channel.
use Rattle.apex_log_orders.proofs.Common.{◌≡◌, ℕ, suc, ◌+◌, true, if◌then◌else◌, length, take, Some, None, List, ap, ◌∙◌, arith, length-append, slice_get, option_to_list, SendQueuing, ReceiveQueuing, Received, Configuration, port_of, Entry, History, accepted_on, received_on, message_accepted, message_received, message_sent, message_in, is_receive, is_code_no_error, is_source_of, is_destination_of, accepted_on-append}
use Rattle.apex_log_orders.proofs.Common.{received_on-append, take_one_more}

module _ (config : Configuration) (c : ℕ) (log : History) (i : ℕ) (e : Entry) (here : slice_get log i ≡ Some e) where
  longer : take (i + 1) log ≡ take (suc i) log
  longer = let is : i + 1 ≡ suc i = omega arith in ap (λ (n : ℕ). take n log) is

  pub accepted_more : length (accepted_on config c (take (i + 1) log)) ≡ length (accepted_on config c (take i log)) + length (option_to_list (message_accepted config c e))
  accepted_more = ap (λ (ms : List (List ℕ)). length ms) (ap (λ (es : History). accepted_on config c es) (longer ∙ take_one_more log i e here) ∙ accepted_on-append config c (take i log) e)
      ∙ length-append (accepted_on config c (take i log)) (option_to_list (message_accepted config c e))

  pub received_more : length (received_on config c (take (i + 1) log)) ≡ length (received_on config c (take i log)) + length (option_to_list (message_received config c e))
  received_more = ap (λ (ms : List (List ℕ)). length ms) (ap (λ (es : History). received_on config c es) (longer ∙ take_one_more log i e here) ∙ received_on-append config c (take i log) e)
      ∙ length-append (received_on config c (take i log)) (option_to_list (message_received config c e))

-- the message of an accepted send, and that of a receive
pub sent_on : (config : Configuration) (c : ℕ) (e : Entry) (id : ℕ) (m : List ℕ) → e.call ≡ SendQueuing id m → is_code_no_error e.reply ≡ true
    → is_source_of c (port_of config e.partition id) ≡ true → message_accepted config c e ≡ Some m
sent_on config c e id m call ok source =
    (λ i. if ok i then message_sent config c e.partition (call i) else None) ∙ (λ i. if source i then Some m else None)

pub received_from : (config : Configuration) (c : ℕ) (e : Entry) (id : ℕ) (m : List ℕ) → e.call ≡ ReceiveQueuing id → e.reply ≡ Received m
    → is_destination_of c (port_of config e.partition id) ≡ true → message_received config c e ≡ Some m
received_from config c e id m call reply destination =
    (λ i. if is_receive config c e.partition (call i) then message_in (reply i) else None) ∙ (λ i. if destination i then Some m else None)
