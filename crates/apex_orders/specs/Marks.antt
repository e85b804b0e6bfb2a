-- Which of the points that a worker found were found by a worker before it, too.
use Rattle.std.specs.Prelude.{ℕ, Bool, true, false, ◌≡◌, ◌<◌, List, length, slice_get, Some}
use Rattle.apex_orders.specs.Prelude.{Configuration}
use Rattle.apex_orders.specs.Hashes.{hash_of}
use Rattle.apex_orders.specs.Known.{KnowsFrom}
use Rattle.apex_orders.specs.Lists.{Has}
use Rattle.apex_orders.specs.Orders.{Scripts}
use Rattle.apex_orders.specs.Searching.{Knows}
use Rattle.apex_orders.specs.Workers.{AreHashed, HasPoint, order_found}
use Rattle.apex_orders.specs.declared.marks.Marks.{Marks}
use Rattle.apex_orders.specs.declared.search.Search.{Search}
use Rattle.apex_orders.specs.declared.found_point.FoundPoint.{FoundPoint}
use Rattle.apex_orders.specs.declared.worker.Worker.{Worker}

-- what the worker found has its hash
pub record HasHashes (config : Configuration) (worker : Worker) : Type 0 where
  pub hashed : AreHashed config worker.found.items worker.hashes
  pub each : (j : ℕ) (one : FoundPoint) → slice_get worker.found.items j ≡ Some one → one.hash ≡ hash_of config one.saved.history

-- so it is for each of the workers
abbrev pub AreAllHashed : Configuration → List Worker → Type 0
AreAllHashed config workers = (k : ℕ) (worker : Worker) → slice_get workers k ≡ Some worker → HasHashes config worker

-- one of the workers before the index found the point
pub record IsFoundBefore (workers : List Worker) (k : ℕ) (one : FoundPoint) : Type 0 where
  pub index : ℕ
  pub before : index < k
  pub worker : Worker
  pub here : slice_get workers index ≡ Some worker
  pub has : HasPoint worker.found.items one.saved

-- each point that the worker at the index found is marked if one of those before it found it
pub record AreMarks (workers : List Worker) (k : ℕ) (marks : List Bool) : Type 0 where
  pub count : (worker : Worker) → slice_get workers k ≡ Some worker → length marks ≡ length worker.found.items
  pub found : (worker : Worker) (j : ℕ) (one : FoundPoint) → slice_get workers k ≡ Some worker → slice_get worker.found.items j ≡ Some one
      → slice_get marks j ≡ Some true → IsFoundBefore workers k one
  pub new : (worker : Worker) (j : ℕ) (one : FoundPoint) → slice_get workers k ≡ Some worker → slice_get worker.found.items j ≡ Some one
      → slice_get marks j ≡ Some false → ¬ IsFoundBefore workers k one

-- ---- marks and what the search knows

-- the order is that to a point that the worker found
pub record IsFoundOrder (worker : Worker) (order : List ℕ) : Type 0 where
  pub one : FoundPoint
  pub here : Has worker.found.items one
  pub is : order ≡ order_found worker one

-- what is marked is known to the search, and what is not marked is no point of the next level
pub record FitMarks (config : Configuration) (scripts : Scripts) (current : Search) (worker : Worker) (marks : List Bool) : Type 0 where
  pub count : length marks ≡ length worker.found.items
  pub known : (j : ℕ) (one : FoundPoint) → slice_get worker.found.items j ≡ Some one → slice_get marks j ≡ Some true
      → Knows config scripts current.orders one.saved.history
  pub new : (j : ℕ) (one : FoundPoint) → slice_get worker.found.items j ≡ Some one → slice_get marks j ≡ Some false
      → ¬ KnowsFrom config scripts current.orders current.points.next one.saved.history

-- each of the workers' finds are marked
abbrev pub AreAllMarked : List Worker → List Marks → Type 0
AreAllMarked workers marks = (k : ℕ) (one : Marks) → slice_get marks k ≡ Some one → AreMarks workers k one.known.items

-- the order is that to a point that one of the workers before the index found
pub record IsFoundOrderBefore (workers : List Worker) (k : ℕ) (order : List ℕ) : Type 0 where
  pub index : ℕ
  pub before : index < k
  pub worker : Worker
  pub here : slice_get workers index ≡ Some worker
  pub found : IsFoundOrder worker order
