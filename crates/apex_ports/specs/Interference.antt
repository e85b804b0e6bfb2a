-- Freedom from interference: partitions that share no channel with the others get the replies that they would get if the
-- others made no call.
use Rattle.std.specs.Prelude.{ℕ, Bool, true, ◌≡◌, List, filter, Some}
use Rattle.apex_types.specs.declared.call.Call.{Call}
use Rattle.apex_types.specs.declared.moment.Moment.{Moment}
use Rattle.apex_module.specs.Configuration.{Configuration, port_of}
use Rattle.apex_module.specs.declared.port.Port.{Port}
use Rattle.apex_ports.specs.declared.history.Request.{Request}
use Rattle.apex_ports.specs.History.{History, requests_of}
use Rattle.apex_ports.specs.Lawful.{IsLawful}
use Rattle.apex_ports.specs.ReplyTable.{reply_to}

-- a set of partitions is closed under channels: two ports of one channel have owners that are both inside or both outside
abbrev pub IsClosed : Configuration → (ℕ → Bool) → Type 0
IsClosed config inside =
    (p id q jd : ℕ) (port other : Port) → port_of config p id ≡ Some port → port_of config q jd ≡ Some other
    → port.channel ≡ other.channel → inside p ≡ inside q

-- the entries of the partitions inside
abbrev pub entries_inside : (ℕ → Bool) → History → History
entries_inside inside history = filter (λ entry. inside entry.partition) history

-- the calls of the partitions inside, each with its partition and its moment
abbrev pub requests_inside : (ℕ → Bool) → History → List Request
requests_inside inside history = requests_of (entries_inside inside history)

-- what happens inside depends only on the calls made inside
pub record IsIndependent (config : Configuration) (inside : ℕ → Bool) (history : History) : Type 0 where
  -- the history is lawful without the entries of the partitions outside, too
  pub alone : IsLawful config (entries_inside inside history)
  -- a lawful history with the same calls inside has the same entries inside, whatever was called outside
  pub same : (other : History) → IsLawful config other → requests_inside inside other ≡ requests_inside inside history
      → entries_inside inside other ≡ entries_inside inside history
  -- the next call inside gets the reply that it gets after only the entries inside
  pub reply : (p : ℕ) (now : Moment) (call : Call) → inside p ≡ true
      → reply_to config history p now call ≡ reply_to config (entries_inside inside history) p now call

-- no set of partitions that is closed under channels depends on the others
abbrev pub IsFreeFromInterference : Configuration → History → Type 0
IsFreeFromInterference config history = (inside : ℕ → Bool) → IsClosed config inside → IsIndependent config inside history

-- whatever was called
abbrev pub AlwaysFreeFromInterference : Type 0
AlwaysFreeFromInterference = (config : Configuration) (history : History) → IsLawful config history → IsFreeFromInterference config history
