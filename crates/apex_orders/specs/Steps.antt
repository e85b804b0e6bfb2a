-- One call of a script.
use Rattle.std.specs.Prelude.{ℕ, ◌≡◌, ◌≤◌, [], ◌∷◌, length}
use Rattle.apex_orders.specs.Prelude.{Call, Moment, Configuration, History, entry_of, entries_of}
use Rattle.apex_types.specs.declared.message.TheConstants.{MESSAGE_LIMIT}
use Rattle.apex_ports.specs.Noted.{reply_by}
use Rattle.apex_ports.specs.Services.{message_length}
use Rattle.apex_orders.specs.declared.replies.PossibleReply.{PossibleReply}
use Rattle.apex_orders.specs.declared.step.MadeCall.{MadeCall}
use Rattle.apex_orders.specs.Orders.{Scripts, next_entries}

-- the partition has made all calls of its script
abbrev pub MakesNothing : Configuration → Scripts → History → ℕ → Type 0
MakesNothing config scripts history p = next_entries config scripts history p ≡ []

-- the partition's next call is at this index, and gets this reply
pub record Makes (config : Configuration) (scripts : Scripts) (history : History) (p : ℕ) (one : PossibleReply) : Type 0 where
  pub partition : one.partition ≡ p
  pub index : one.index ≡ length (entries_of p history)
  pub at : Moment
  pub call : Call
  pub entry : next_entries config scripts history p ≡ entry_of p at call one.reply ∷ []

-- the call and its reply, which is by reference
abbrev pub possible : MadeCall → PossibleReply
possible made = record { partition = made.partition; index = made.index; reply = reply_by made.reply }

-- the reply's message is no longer than any may be
abbrev pub IsShort : MadeCall → Type 0
IsShort made = message_length (reply_by made.reply) ≤ MESSAGE_LIMIT
