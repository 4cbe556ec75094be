-- Environments and the names that scopes declare (ECMA-262, 9.1: environment records; 8.2: names of declarations).
use Rattle.std.specs.Prelude.{ℕ, zero, suc, List, [], ◌∷◌, length, map, Option, Some, None, Bool, true, false, if◌then◌else◌, slice_get}
use Rattle.std.specs.List.{flat_map}
use Rattle.std.specs.Option.{option_and_then}
use Rattle.world_heap.specs.declared.value.Value.{Value}
use Rattle.world_heap.specs.declared.cell.Binding.{Binding}
use Rattle.world_heap.specs.declared.cell.Cell.{Cell}
use Rattle.world_heap.specs.declared.cell.Cell.TheVariants.{Env}
use Rattle.js_tree.specs.declared.node.NodeId.{NodeId}
use Rattle.js_tree.specs.declared.node.Node.{Node}
use Rattle.js_tree.specs.declared.node.Node.TheVariants as kinds
use Rattle.js_semantics.specs.World.{World, cell_at, with_cell}
use Rattle.js_semantics.specs.Properties.{same_text}

-- the names that a pattern binds, where those of the patterns in it are known
abbrev pub names_in : (NodeId → List (List ℕ)) → Option Node → List (List ℕ)
names_in below (Some (kinds.BindName name)) = name ∷ []
names_in below (Some (kinds.BindObject parts)) = flat_map (λ part. below part.bind) parts
names_in below (Some (kinds.BindArray parts)) = flat_map (λ part. below part.bind) parts
names_in below other = []

-- patterns stand in patterns at most so deep
abbrev pub names_within : ℕ → List Node → NodeId → List (List ℕ)
names_within zero tree node = []
names_within (suc n) tree node = names_in (names_within n tree) (slice_get tree node.0)

-- the names that a pattern binds
unfoldable pub names_of : List Node → NodeId → List (List ℕ)
names_of tree node = names_within (length tree) tree node

module _ {L : Type 0} where
  -- a binding that isn't ready
  abbrev pub unready : Bool → List ℕ → Binding L
  unready fixed name = record { name = name; value = None; fixed = fixed }

  -- the bindings of an item
  abbrev pub declared_by : List Node → Option Node → List (Binding L)
  declared_by tree (Some (kinds.Let pairs)) = flat_map (λ pair. map (unready false) (names_of tree pair.bind)) pairs
  declared_by tree (Some (kinds.Const pairs)) = flat_map (λ pair. map (unready true) (names_of tree pair.bind)) pairs
  declared_by tree (Some (kinds.FunDecl name function)) = unready false name ∷ []
  declared_by tree other = []

  -- the bindings that a list of items declares, in the order of the text
  unfoldable pub declared_in : List Node → List NodeId → List (Binding L)
  declared_in tree items = flat_map (λ item. declared_by tree (slice_get tree item.0)) items

  -- the bindings of a parameter list
  unfoldable pub parameters_of : List Node → List NodeId → List (Binding L)
  parameters_of tree patterns = flat_map (λ pattern. map (unready false) (names_of tree pattern)) patterns

  -- an environment around another
  abbrev pub env_cell : Option L → List (Binding L) → Cell L
  env_cell outer bindings = Env outer bindings

  abbrev pub binding_in : List (Binding L) → List ℕ → Option (Binding L)
  binding_in [] name = None
  binding_in (b ∷ bs) name = if same_text b.name name then Some b else binding_in bs name

  -- goes on in the environment around
  abbrev pub outside : Option (Cell L) → L → List ℕ → (L → Option (L × Binding L)) → Option (L × Binding L)
  outside (Some (Env outer bindings)) env name on =
      elim (binding_in bindings name) [ Some b ↦ Some (env, b) | None ↦ option_and_then on outer ]
  outside other env name on = None

  abbrev pub binding_within : ℕ → L → List ℕ → World L → Option (L × Binding L)
  binding_within zero env name w = None
  binding_within (suc n) env name w = outside (cell_at env w) env name (λ outer. binding_within n outer name w)

  -- the innermost binding of a name, with its environment
  unfoldable pub binding_of : L → List ℕ → World L → Option (L × Binding L)
  binding_of env name w = binding_within (length w.heap) env name w

  abbrev pub rebound : List (Binding L) → List ℕ → Value L → List (Binding L)
  rebound [] name v = []
  rebound (b ∷ bs) name v = if same_text b.name name then record b { value = Some v } ∷ bs else b ∷ rebound bs name v

  abbrev pub bound_in : Option (Cell L) → L → List ℕ → Value L → World L → World L
  bound_in (Some (Env outer bindings)) env name v w = with_cell env (Env outer (rebound bindings name v)) w
  bound_in other env name v w = w

  -- the world in which a name of an environment has a value
  abbrev pub bind_in : L → List ℕ → Value L → World L → World L
  bind_in env name v w = bound_in (cell_at env w) env name v w

  -- fills the innermost binding of a name
  unfoldable pub fill_name : L → List ℕ → Value L → World L → World L
  fill_name env name v w = elim (binding_of env name w) [ Some found ↦ bind_in found.0 name v w | None ↦ w ]

  -- the bindings of an environment
  abbrev pub bindings_at : Option (Cell L) → Option (Option L × List (Binding L))
  bindings_at (Some (Env outer bindings)) = Some (outer, bindings)
  bindings_at other = None
