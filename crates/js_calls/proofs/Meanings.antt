-- What names stand for, and what makes objects, fits a heap.
use Rattle.std.proofs.Common.{◌≡◌, ℕ, zero, suc, List, [], ◌∷◌, Option, Some, None, Bool, true, false, nat_eq, codes, if◌then◌else◌, refl, sym, subst, slice_get, length}
use Rattle.std.specs.Option.{option_and_then, option_map_or, option_or}
use Rattle.world_heap.specs.declared.value.Value.{Value}
use Rattle.world_heap.specs.declared.value.Value.TheVariants.{Undefined, Null, Bool as Boolean, Num, Str, Ref}
use Rattle.world_heap.specs.declared.value.Property.{Property}
use Rattle.world_heap.specs.declared.value.Property.TheVariants.{Data, Access}
use Rattle.world_heap.specs.declared.builtin.BuiltIn.TheVariants.{ObjectPrototype}
use Rattle.world_heap.specs.declared.cell.Binding.{Binding}
use Rattle.world_heap.specs.declared.cell.Cell.{Cell}
use Rattle.world_heap.specs.declared.cell.Cell.TheVariants.{Closure, Native, Env}
use Rattle.world_heap.specs.Maps.{find}
use Rattle.world_heap.specs.Table.{found_under}
use Rattle.world_heap.specs.Over.{ListOver, OptionOver, PropertyOver}
use Rattle.world_heap.specs.Heaps.{IsNoEnv, Fits}
use Rattle.world_heap.proofs.Wells.{fits_found}
use Rattle.js_tree.specs.declared.node.Node.{Node}
use Rattle.js_semantics.specs.World.{World, built_in, cell_at, cell_of}
use Rattle.js_semantics.specs.Natives.{is_error_function}
use Rattle.js_semantics.specs.Objects.{constructed, is_constructor, prototype_in}
use Rattle.js_semantics.specs.Properties.{is_symbol, object_of, same_text}
use Rattle.js_semantics.specs.Environments.{binding_in, binding_of, binding_within, outside}
use Rattle.js_machine.specs.declared.state.State.{State}
use Rattle.js_machine.specs.Closed.{IsClosed, ValueFits}
use Rattle.js_machine.specs.Does.{world_of}
use Rattle.js_machine.proofs.Closing.{built_in_fits}
use Rattle.js_calls.specs.Assigning.{binding_target}
use Rattle.js_calls.specs.Closed.{ConstructorFits, NamedFits, TargetFits}
use Rattle.js_calls.specs.Constructing.{closure_maker, constructor_in, made_prototype, native_maker}
use Rattle.js_calls.specs.Naming.{value_named}
use Rattle.proto_props.proofs.Fitting.{over_found}

-- what a cell makes
pub constructor_fits : (nodes : List Node) (cells : List (ℕ × Cell ℕ)) (c : Cell ℕ) → Fits nat_eq cells c → ConstructorFits cells (constructor_in nodes (Some c))
unfolding constructor_in closure_maker native_maker
constructor_fits nodes cells (Closure body node env kept) h = elim (is_constructor (slice_get nodes node)) as (λ b. ConstructorFits cells (closure_maker b node env)) [ true ↦ h.1 | false ↦ tt ]
constructor_fits nodes cells (Native body id kept) h = elim (is_error_function id) as (λ b. ConstructorFits cells (native_maker b id)) [ true ↦ tt | false ↦ tt ]
constructor_fits nodes cells other h = tt

module _ (cells : List (ℕ × Cell ℕ)) (w : World ℕ) where
  -- an object
  object_fits : (v : Value ℕ) → ValueFits cells v → OptionOver (IsNoEnv nat_eq cells) (object_of v w)
  object_fits Undefined h = tt
  object_fits Null h = tt
  object_fits (Boolean b) h = tt
  object_fits (Num n) h = tt
  object_fits (Str t) h = tt
  object_fits (Ref l) h = elim (is_symbol (cell_at l w)) as (λ b. OptionOver (IsNoEnv nat_eq cells) (if b then None else Some l)) [ true ↦ tt | false ↦ h ]

  or_fits : (o p : Option ℕ) → OptionOver (IsNoEnv nat_eq cells) o → OptionOver (IsNoEnv nat_eq cells) p → OptionOver (IsNoEnv nat_eq cells) (option_or o p)
  or_fits None p h k = k
  or_fits (Some l) p h k = h

  prototype_fits : (o : Option (Property ℕ)) → OptionOver (PropertyOver (IsNoEnv nat_eq cells)) o → OptionOver (IsNoEnv nat_eq cells) (built_in ObjectPrototype w) → OptionOver (IsNoEnv nat_eq cells) (prototype_in o w)
  prototype_fits None h k = k
  prototype_fits (Some (Data v a e c)) h k = or_fits (object_of v w) (built_in ObjectPrototype w) (object_fits v h) k
  prototype_fits (Some (Access g s e c)) h k = k

  -- what `new` gives
  pub constructed_fits : (object : ℕ) (v : Value ℕ) → IsNoEnv nat_eq cells object → ValueFits cells v → ValueFits cells (constructed object v w)
  constructed_fits object v made fit = by (object_of v w) (object_fits v fit)
    where
      by : (o : Option ℕ) → OptionOver (IsNoEnv nat_eq cells) o → ValueFits cells (option_map_or (λ returned. Ref returned) o (Ref object))
      by None h = made
      by (Some l) h = h

-- what a binding holds
pub named_fits : (cells : List (ℕ × Cell ℕ)) (o : Option (Value ℕ)) → OptionOver (ValueFits cells) o → NamedFits cells (value_named o)
unfolding value_named
named_fits cells None h = tt
named_fits cells (Some v) h = h

pub target_fits : (cells : List (ℕ × Cell ℕ)) (env : ℕ) (o : Option (Value ℕ)) (fixed : Bool) → TargetFits cells (binding_target env o fixed)
unfolding binding_target
target_fits cells env None fixed = tt
target_fits cells env (Some v) true = tt
target_fits cells env (Some v) false = tt

module _ (nodes : List Node) (s : State) (closed : IsClosed nodes s) where
  -- the prototype of the objects that a closure makes
  pub made_fits : (callee : Value ℕ) → OptionOver (IsNoEnv nat_eq s.heap.cells) (made_prototype (cell_of callee (world_of nodes (λ n. n) s)) (world_of nodes (λ n. n) s))
  unfolding made_prototype
  made_fits Undefined = tt
  made_fits Null = tt
  made_fits (Boolean b) = tt
  made_fits (Num n) = tt
  made_fits (Str t) = tt
  made_fits (Ref l) = by (find nat_eq s.heap.cells l) refl
    where
      by : (o : Option (Cell ℕ)) → find nat_eq s.heap.cells l ≡ o → OptionOver (IsNoEnv nat_eq s.heap.cells) (made_prototype o (world_of nodes (λ n. n) s))
      by None e = tt
      by (Some (Closure body node env kept)) e =
          let fit : Fits nat_eq s.heap.cells (Closure body node env kept) = fits_found (Fits nat_eq s.heap.cells) s.heap.cells l (Closure body node env kept) closed.well.fits e in
          prototype_fits s.heap.cells (world_of nodes (λ n. n) s) (found_under body.properties (codes "prototype")) (over_found (PropertyOver (IsNoEnv nat_eq s.heap.cells)) body.properties (codes "prototype") fit.0.1) (built_in_fits nodes (λ n. n) s ObjectPrototype closed)
      by (Some other) e = tt

  -- the innermost binding of a name
  abbrev BindingFits : Option (ℕ × Binding ℕ) → Type 0
  BindingFits o = OptionOver (λ (f : ℕ × Binding ℕ). OptionOver (ValueFits s.heap.cells) f.1.value) o

  one_fits : (bs : List (Binding ℕ)) (name : List ℕ) → ListOver (λ (b : Binding ℕ). OptionOver (ValueFits s.heap.cells) b.value) bs → OptionOver (λ (b : Binding ℕ). OptionOver (ValueFits s.heap.cells) b.value) (binding_in bs name)
  one_fits [] name h = tt
  one_fits (b ∷ bs) name h =
      elim (same_text b.name name) as (λ t. OptionOver (λ (b : Binding ℕ). OptionOver (ValueFits s.heap.cells) b.value) (if t then Some b else binding_in bs name)) [ true ↦ h.0 | false ↦ one_fits bs name h.1 ]

  module _ (on : ℕ → Option (ℕ × Binding ℕ)) (fit : (outer : ℕ) → BindingFits (on outer)) where
    outer_fits : (o : Option ℕ) → BindingFits (option_and_then on o)
    outer_fits None = tt
    outer_fits (Some outer) = fit outer

    here_fits : (env : ℕ) (o : Option (Binding ℕ)) (outer : Option ℕ) → OptionOver (λ (b : Binding ℕ). OptionOver (ValueFits s.heap.cells) b.value) o
        → BindingFits (elim o as (λ _. Option (ℕ × Binding ℕ)) [ Some b ↦ Some (env, b) | None ↦ option_and_then on outer ])
    here_fits env None outer h = outer_fits outer
    here_fits env (Some b) outer h = h

    outside_fits : (env : ℕ) (name : List ℕ) (o : Option (Cell ℕ)) → find nat_eq s.heap.cells env ≡ o → BindingFits (outside o env name on)
    outside_fits env name None e = tt
    outside_fits env name (Some (Env outer bs)) e =
        let around : Fits nat_eq s.heap.cells (Env outer bs) = fits_found (Fits nat_eq s.heap.cells) s.heap.cells env (Env outer bs) closed.well.fits e in
        here_fits env (binding_in bs name) outer (one_fits bs name around.1)
    outside_fits env name (Some other) e = tt

  within_fits : (n env : ℕ) (name : List ℕ) → BindingFits (binding_within n env name (world_of nodes (λ n. n) s))
  within_fits zero env name = tt
  within_fits (suc n) env name = outside_fits (λ outer. binding_within n outer name (world_of nodes (λ n. n) s)) (λ outer. within_fits n outer name) env name (find nat_eq s.heap.cells env) refl

  pub binding_fits : (env : ℕ) (name : List ℕ) (found : ℕ × Binding ℕ) → Some found ≡ binding_of env name (world_of nodes (λ n. n) s) → OptionOver (ValueFits s.heap.cells) found.1.value
  unfolding binding_of
  binding_fits env name found is = subst BindingFits (sym is) (within_fits (length s.heap.cells) env name)
