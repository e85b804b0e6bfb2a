-- Orders that continue each other by one call.
use Rattle.std.specs.Prelude.{ℕ, ◌≡◌, ◌≤◌, List, [], ◌∷◌, ◌++◌, slice_get, Some}
use Rattle.apex_orders.specs.declared.orders.LastCall.{LastCall}
use Rattle.apex_orders.specs.Orders.{order_at}

-- the known orders, and those that end with these calls
abbrev pub grown : List (List ℕ) → List LastCall → List (List ℕ)
grown known [] = known
grown known (last ∷ rest) = grown (known ++ (order_at known last.before ++ last.partition ∷ []) ∷ []) rest

-- the order without calls, and those that end with these calls
abbrev pub orders_of : List LastCall → List (List ℕ)
orders_of last_calls = grown ([] ∷ []) last_calls

-- each continues an order with a smaller index
abbrev pub ContinueEarlier : List LastCall → Type 0
ContinueEarlier last_calls = (k : ℕ) (last : LastCall) → slice_get last_calls k ≡ Some last → last.before ≤ k
