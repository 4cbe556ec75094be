-- What a built-in function gives in a closed state fits its heap.
use Rattle.std.proofs.Common.{◌≡◌, ℕ, ◌<◌, true, List, Option, Some, None, IsSomeAnd, nat_eq, slice_get, subst, arith}
use Rattle.js_tree.specs.declared.node.Node.{Node}
use Rattle.world_kind.specs.declared.WorldKind.{WorldKind}
use Rattle.world_kind.specs.declared.WorldKind.TheVariants.{Main, Preload, Page}
use Rattle.world_heap.specs.Maps.{keys}
use Rattle.world_heap.specs.Over.{OptionOver}
use Rattle.world_heap.specs.Heaps.{IsNoEnv}
use Rattle.js_semantics.specs.Natives.{is_module}
use Rattle.js_semantics.specs.Realm.{module_place, realm_length}
use Rattle.js_machine.specs.declared.state.State.{State}
use Rattle.js_machine.specs.Closed.{IsClosed}
use Rattle.js_machine.proofs.Testing.{keys_at}
use Rattle.js_natives.specs.Arguments.{module_in}

-- a module that has a name is built in
has_module : (kind : WorldKind) (name : List ℕ) → is_module kind name ≡ true → module_place < realm_length kind
has_module Main name h = omega arith
has_module Preload name h = omega arith
has_module Page name h = absurd (cc)

option_over : (P : ℕ → Type 0) (o : Option ℕ) → IsSomeAnd o P → OptionOver P o
option_over P None h = absurd h
option_over P (Some l) h = h

-- so it is no environment
pub module_fits : (nodes : List Node) (name : List ℕ) (s : State) → IsClosed nodes s → is_module s.kind name ≡ true → OptionOver (IsNoEnv nat_eq s.heap.cells) (module_in s.heap)
module_fits nodes name s closed named =
    subst (λ o. OptionOver (IsNoEnv nat_eq s.heap.cells) o) (keys_at s.heap.cells module_place)
    (option_over (IsNoEnv nat_eq s.heap.cells) (slice_get (keys s.heap.cells) module_place) (closed.realm module_place (has_module s.kind name named)))
