-- What a delivery comes to, up to the next wait.
use Rattle.std.specs.Prelude.{◌≡◌, ℕ, ◌<◌, List, [], ◌∷◌, ◌++◌, false, Option, Some, None}
use Rattle.js_tree.specs.declared.node.Node.{Node}
use Rattle.world_log.specs.declared.entry.Entry.TheVariants as entry
use Rattle.world_log.specs.declared.entry.Product.{Product}
use Rattle.js_semantics.specs.Run.{Arrival, Then}
use Rattle.js_machine.specs.declared.state.State.{State}
use Rattle.js_machine.specs.Does.{Follows, Stays, after, is_running, to_come, work}

-- From old, these products are made, and then comes what comes from new.
pub record Makes (nodes : List Node) (old : State) (products : List Product) (new : State) : Type 0 where
  pub law : (supply : ℕ → ℕ) (ds : List Arrival) → Follows supply 0 new.heap.cells → to_come nodes supply old ds ≡ after products (to_come nodes supply new ds)
  pub keeps : (supply : ℕ → ℕ) → Follows supply 0 new.heap.cells → Follows supply 0 old.heap.cells
  pub stays : Stays old.heap new.heap

-- From old, the next product is made and less work is left; or nothing is made, and new waits or has stopped.
abbrev pub MakesNext : List Node → State → Option Product → State → Type 0
MakesNext nodes old (Some product) new = Makes nodes old (product ∷ []) new × (work new < work old)
MakesNext nodes old None new = Makes nodes old [] new × (is_running new.control ≡ false)

-- what stood in a list, and behind it the products that are made from old up to new
abbrev pub MakesBehind : List Node → State → List Product → List Product → State → Type 0
MakesBehind nodes old before now new = (products : List Product) × (now ≡ before ++ products) × Makes nodes old products new

-- From old, a delivery is taken, these products are made, and then comes what comes from new.
pub record Begins (nodes : List Node) (d : Arrival) (old : State) (products : List Product) (new : State) : Type 0 where
  pub law : (supply : ℕ → ℕ) (ds : List Arrival) → Follows supply 0 new.heap.cells → to_come nodes supply old (d ∷ ds) ≡ Then (entry.Delivery d.fresh d.what) (after products (to_come nodes supply new ds))
  pub keeps : (supply : ℕ → ℕ) → Follows supply 0 new.heap.cells → Follows supply 0 old.heap.cells
  pub stays : Stays old.heap new.heap

-- From old, a delivery is taken and the first product is made; or nothing is made, and new waits or has stopped.
abbrev pub BeginsWith : List Node → Arrival → State → Option Product → State → Type 0
BeginsWith nodes d old (Some product) new = Begins nodes d old (product ∷ []) new
BeginsWith nodes d old None new = Begins nodes d old [] new × (is_running new.control ≡ false)

-- From old, a delivery is taken, these products are made, and then the world waits or has stopped as new is.
pub record Resumes (nodes : List Node) (d : Arrival) (old : State) (products : List Product) (new : State) : Type 0 where
  pub law : (supply : ℕ → ℕ) (ds : List Arrival) → Follows supply 0 new.heap.cells → to_come nodes supply old (d ∷ ds) ≡ Then (entry.Delivery d.fresh d.what) (after products (to_come nodes supply new ds))
  pub ends : is_running new.control ≡ false
  pub keeps : (supply : ℕ → ℕ) → Follows supply 0 new.heap.cells → Follows supply 0 old.heap.cells
  pub stays : Stays old.heap new.heap

-- what stood in a list, and behind it what a delivery has made
abbrev pub ResumesBehind : List Node → Arrival → State → List Product → List Product → State → Type 0
ResumesBehind nodes d old before now new = (products : List Product) × (now ≡ before ++ products) × Resumes nodes d old products new
