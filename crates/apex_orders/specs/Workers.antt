-- What the parts of a search find that can run in threads of their own.
use Rattle.std.specs.Prelude.{ℕ, suc, Bool, false, ◌≡◌, ◌⊎◌, ◌<◌, ◌≤◌, ◌+◌, ◌^◌, List, [], ◌∷◌, ◌++◌, length, map, slice_get, Some, OnOk}
use Rattle.apex_orders.specs.Prelude.{Configuration, History, PortsView}
use Rattle.apex_orders.specs.declared.asked.Asked.{Asked}
use Rattle.apex_orders.specs.declared.rounds.Rounds.{Rounds}
use Rattle.apex_orders.specs.declared.replies.PossibleReply.{PossibleReply}
use Rattle.apex_orders.specs.declared.shared.Shared.{Shared}
use Rattle.apex_orders.specs.declared.found_point.FoundPoint.{FoundPoint}
use Rattle.apex_orders.specs.declared.marks.Marks.{Marks}
use Rattle.apex_orders.specs.declared.worker.Worker.{Worker}
use Rattle.apex_orders.specs.declared.workers.Workers.{Workers}
use Rattle.apex_orders.specs.Hashes.{hash_of}
use Rattle.apex_orders.specs.Known.{IsAfter, IsReadyAfter, IsTrialOf}
use Rattle.apex_orders.specs.LastUses.{AreOfScripts}
use Rattle.apex_orders.specs.Lists.{Has}
use Rattle.apex_orders.specs.Orders.{Scripts, history_of, order_at}
use Rattle.apex_orders.specs.Points.{IsSamePoint, calls_made}
use Rattle.apex_orders.specs.Searching.{AreAllAnswered, AreAnswersBy, AreOrders, AreClocked, AreFound, HasLevel, HasTried, HasTriedEnough, Includes, IsSearch, IsTried, Keeps, Knows}
use Rattle.apex_orders.specs.Steps.{Makes}
use Rattle.apex_orders.specs.declared.search.Search.{Search}

-- ---- orders

-- the order to the worker's point at the index
abbrev pub order_given : Worker → ℕ → List ℕ
order_given worker j = order_at worker.base.value (worker.first + j)

-- the order to a point that the worker found
abbrev pub order_found : Worker → FoundPoint → List ℕ
order_found worker one = order_given worker one.before ++ one.partition ∷ []

-- the orders that the search had found, and those to the points that the worker found
abbrev pub orders_known : Worker → List (List ℕ)
orders_known worker = worker.base.value ++ map (order_found worker) worker.found.items

-- ---- points

-- each point has its hash, and all are of one configuration
pub record AreHashed (config : Configuration) (found : List FoundPoint) (hashes : List ℕ) : Type 0 where
  pub count : length hashes ≡ length found
  pub each : (k : ℕ) (one : FoundPoint) → slice_get found k ≡ Some one → slice_get hashes k ≡ Some (hash_of config one.saved.history)
  pub configured : (k : ℕ) (one : FoundPoint) → slice_get found k ≡ Some one → one.saved.config ≡ config

-- one of the points is that of the ports
pub record HasPoint (found : List FoundPoint) (ports : PortsView) : Type 0 where
  pub one : FoundPoint
  pub here : Has found one
  pub same : IsSamePoint ports.config ports.history one.saved.history

-- none of the points is found twice
abbrev pub AreAllApart : Configuration → List FoundPoint → Type 0
AreAllApart config found =
    (j k : ℕ) (one other : FoundPoint) → j < k → slice_get found j ≡ Some one → slice_get found k ≡ Some other → ¬ IsSamePoint config other.saved.history one.saved.history

-- the worker's points are those of the orders from its first index on
pub record AreGiven (config : Configuration) (scripts : Scripts) (worker : Worker) : Type 0 where
  pub within : worker.first + length worker.given.value.items ≤ length worker.base.value
  pub room : length worker.base.value < 2 ^ 64
  pub each : (j : ℕ) (ports : PortsView) → slice_get worker.given.value.items j ≡ Some ports → IsAfter config scripts (order_given worker j) ports

-- it has tried so many of its points, others are left, and the last ones may have been given away
pub record HasLeft (worker : Worker) : Type 0 where
  pub done : List PortsView
  pub away : List PortsView
  pub count : length done ≡ worker.tried
  pub all : worker.given.value.items ≡ done ++ (worker.points.items ++ away)

-- how many of them are its own: those that it has tried, and those that are left
abbrev pub reach : Worker → ℕ
reach worker = worker.tried + length worker.points.items

-- none is left
abbrev pub HasTriedAll : Worker → Type 0
HasTriedAll worker = worker.points.items ≡ []

-- what the worker found is one call behind one of its points
pub record IsFoundBy (config : Configuration) (scripts : Scripts) (worker : Worker) (one : FoundPoint) : Type 0 where
  pub before : one.before < length worker.given.value.items
  pub partition : one.partition < length config.partitions
  pub hash : one.hash ≡ hash_of config one.saved.history
  pub after : IsAfter config scripts (order_found worker one) one.saved
  pub made : calls_made config one.saved.history ≡ suc (calls_made config (history_of config scripts (order_given worker one.before)))

-- the invariant of a worker
pub record IsWorker (clock : Bool) (config : Configuration) (scripts : Scripts) (worker : Worker) : Type 0 where
  pub all : length scripts ≡ length config.partitions
  pub trial : IsTrialOf config worker.trial
  pub given : AreGiven config scripts worker
  pub found : (one : FoundPoint) → Has worker.found.items one → IsFoundBy config scripts worker one
  pub hashed : AreHashed config worker.found.items worker.hashes
  pub apart : AreAllApart config worker.found.items
  pub orders : AreOrders config (orders_known worker)
  pub clocked : AreClocked clock config scripts (orders_known worker)
  pub replies : AreFound clock config scripts worker.replies

-- nothing that was found is lost, and the points are the same
pub record IsLaterWorker (old new : Worker) : Type 0 where
  pub base : new.base.value ≡ old.base.value
  pub first : new.first ≡ old.first
  pub given : new.given.value.items ≡ old.given.value.items
  pub orders : Keeps (orders_known old) (orders_known new)
  pub replies : Includes old.replies new.replies

-- enough was tried after each of the points that it has tried: the replies were known before, or found by the worker
abbrev pub HasContinued : Bool → Configuration → Scripts → List PossibleReply → Worker → Type 0
HasContinued clock config scripts known worker =
    (j : ℕ) → j < worker.tried
    → HasTriedEnough clock config scripts (orders_known worker) (known ++ worker.replies) (order_given worker j)

-- its points are those of the orders from one index up to another
pub record IsRange (from to : ℕ) (worker : Worker) : Type 0 where
  pub first : worker.first ≡ from
  pub last : worker.first + reach worker ≡ to

-- so many calls were made before each of its points
abbrev pub HasMade : Configuration → Scripts → ℕ → Worker → Type 0
HasMade config scripts calls worker =
    (j : ℕ) → j < length worker.given.value.items → calls_made config (history_of config scripts (order_given worker j)) ≡ calls

-- each of the workers can try calls of the configuration
abbrev pub CanAllTry : Configuration → List Worker → Type 0
CanAllTry config workers = (k : ℕ) (worker : Worker) → slice_get workers k ≡ Some worker → IsTrialOf config worker.trial

-- each of them can compare points of the configuration
abbrev pub CanAllMark : Configuration → List Marks → Type 0
CanAllMark config marks = (k : ℕ) (one : Marks) → slice_get marks k ≡ Some one → IsTrialOf config one.trial

-- so can those that were made, with marks for each
pub record AreWorkers (config : Configuration) (workers : Workers) : Type 0 where
  pub each : CanAllTry config workers.all.items
  pub count : length workers.marks.items ≡ length workers.all.items
  pub marks : CanAllMark config workers.marks.items

-- one worker after the other, their points are those of the orders from one index up to another
abbrev pub HaveInOrder : ℕ → ℕ → List Worker → Type 0
HaveInOrder from to [] = from ≡ to
HaveInOrder from to (worker ∷ workers) = (worker.first ≡ from) × HaveInOrder (worker.first + reach worker) to workers

-- all points of the level are given out, and nothing else is different
pub record HasGivenAll (old new : Search) : Type 0 where
  pub orders : new.orders ≡ old.orders
  pub replies : new.replies ≡ old.replies
  pub next : new.points.next ≡ old.points.next
  pub calls : new.points.calls ≡ old.points.calls
  pub first : new.points.first ≡ new.points.next

-- the worker is trying points of the search's level
pub record IsUnderTrial (clock : Bool) (config : Configuration) (scripts : Scripts) (current : Search) (worker : Worker) : Type 0 where
  pub valid : IsWorker clock config scripts worker
  pub base : worker.base.value ≡ current.orders
  pub made : HasMade config scripts current.points.calls worker
  pub left : HasLeft worker
  pub tried : HasContinued clock config scripts current.replies worker

-- this holds for each of the workers
abbrev pub AreUnderTrial : Bool → Configuration → Scripts → Search → List Worker → Type 0
AreUnderTrial clock config scripts current workers =
    (k : ℕ) (worker : Worker) → slice_get workers k ≡ Some worker → IsUnderTrial clock config scripts current worker

-- each of the workers has tried all of its points
abbrev pub HaveTriedAll : List Worker → Type 0
HaveTriedAll workers = (k : ℕ) (worker : Worker) → slice_get workers k ≡ Some worker → HasTriedAll worker

-- all points of the level are given to workers
pub record IsLevelUnderTrial (clock : Bool) (config : Configuration) (scripts : Scripts) (rounds : Rounds) : Type 0 where
  pub whole : rounds.current.points.first ≡ rounds.current.points.next
  pub each : AreUnderTrial clock config scripts rounds.current rounds.workers.all.items
  pub points : HaveInOrder rounds.first rounds.current.points.first rounds.workers.all.items

-- all points of the levels before are tried, the workers try those that are given out, and all of these give the answers
pub record IsUnderWay (clock : Bool) (config : Configuration) (scripts : Scripts) (asked : List Asked) (rounds : Rounds) : Type 0 where
  pub first : Has rounds.current.orders []
  pub valid : IsSearch clock config scripts rounds.current
  pub level : HasLevel rounds.current
  pub workers : AreWorkers config rounds.workers
  pub ports : rounds.ports.config ≡ config
  pub answers : AreAnswersBy clock config scripts asked rounds.current.orders rounds.current.points.first rounds.answers.items
  pub begun : rounds.first ≤ rounds.current.points.first
  pub trial : rounds.first < rounds.current.points.first → IsLevelUnderTrial clock config scripts rounds
  pub tried : (k : ℕ) → k < rounds.first → HasTried clock config scripts rounds.current.orders rounds.current.replies k

-- all points that are found give the answers
abbrev pub HasLooked : Bool → Configuration → Scripts → List Asked → Rounds → Type 0
HasLooked clock config scripts asked rounds =
    AreAnswersBy clock config scripts asked rounds.current.orders (length rounds.current.orders) rounds.answers.items

-- no point is left to continue from, or each of some questions has its order
abbrev pub HasNothingLeft : Rounds → Type 0
HasNothingLeft rounds = (length rounds.current.orders ≤ rounds.first) ⊎ AreAllAnswered rounds.answers.items

-- ---- by what all workers read

-- the invariant of a worker
abbrev pub IsWorkerOf : Shared → Worker → Type 0
IsWorkerOf shared worker = IsWorker shared.clock shared.config.now shared.scripts.now worker

-- the last uses of channels are those by the scripts
pub record IsShared (shared : Shared) : Type 0 where
  pub uses : AreOfScripts shared.config.now shared.scripts.now shared.uses.now

-- the calls before the worker's point at the index
abbrev pub history_given : Shared → Worker → ℕ → History
history_given shared worker j = history_of shared.config.now shared.scripts.now (order_given worker j)

-- the ports have answered the calls in this order, and the next call can be made on them
abbrev pub IsReady : Shared → List ℕ → PortsView → Type 0
IsReady shared order ports = IsReadyAfter shared.config.now shared.scripts.now order ports

-- the history's point is known
abbrev pub KnowsPoint : Shared → Worker → History → Type 0
KnowsPoint shared worker history = Knows shared.config.now shared.scripts.now (orders_known worker) history

-- the partition's next call was made, and its reply was known before, or is the only new one
pub record IsAnswered (shared : Shared) (ports : PortsView) (p : ℕ) (old new : List PossibleReply) : Type 0 where
  pub one : PossibleReply
  pub makes : Makes ports.config shared.scripts.now ports.history p one
  pub added : Has (shared.known.now ++ new) one
  pub only : (other : PossibleReply) → Has new other → Has old other ⊎ (other ≡ one)

-- the partition's next call after the order was tried
abbrev pub HasTriedCall : Shared → Worker → List ℕ → ℕ → Type 0
HasTriedCall shared worker order p = IsTried shared.config.now shared.scripts.now (orders_known worker) (shared.known.now ++ worker.replies) order p

-- enough was tried after the order
abbrev pub IsContinued : Shared → Worker → List ℕ → Type 0
IsContinued shared worker order =
    HasTriedEnough shared.clock shared.config.now shared.scripts.now (orders_known worker) (shared.known.now ++ worker.replies) order

-- enough was tried after each of the points that it has tried
abbrev pub AreContinued : Shared → Worker → Type 0
AreContinued shared worker = HasContinued shared.clock shared.config.now shared.scripts.now shared.known.now worker

-- the worker can run
pub record CanRun (shared : Shared) (worker : Worker) : Type 0 where
  pub valid : IsWorkerOf shared worker
  pub left : HasLeft worker
  pub tried : AreContinued shared worker

-- the worker has tried more of its points, and all that were left if they were one part and it was not to stop
pub record HasRunOn (shared : Shared) (parts : ℕ) (old new : Worker) : Type 0 where
  pub valid : IsWorkerOf shared new
  pub later : IsLaterWorker old new
  pub left : HasLeft new
  pub tried : AreContinued shared new
  pub reach : reach new ≡ reach old
  pub all : shared.stops ≡ false → parts ≤ 1 → new.points.items ≡ []

-- this holds unless memory ran out
abbrev pub HasRun : Shared → ℕ → Worker → Worker → Type 0
HasRun shared parts old new = OnOk new.result (HasRunOn shared parts old new)
