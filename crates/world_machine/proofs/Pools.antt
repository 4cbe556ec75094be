-- Worlds of a pool, beside one that moves.
use Rattle.std.proofs.Common.{◌≡◌, ◌≢◌, ℕ, ◌≤◌, List, [], ◌∷◌, length, true, false, Some, None, option_map, unwrap_or, nat_eq, if◌then◌else◌, refl, sym, ap, ◌∙◌, subst, arith}
use Rattle.std.proofs.lemmas.Bool.Decides.{nat_tests}
use Rattle.std.specs.Prelude.{IsSomeAnd, IfSome}
use Rattle.std.specs.Option.{option_map_or}
use Rattle.js_tree.specs.declared.node.Node.{Node}
use Rattle.world_heap.specs.Maps.{keys, find, without, stands, Stands}
use Rattle.world_heap.specs.Shelf.{values_of}
use Rattle.world_heap.specs.Stored.{IsDistinct}
use Rattle.world_heap.specs.Views.{PoolView}
use Rattle.world_log.specs.declared.entry.Entry.{Entry}
use Rattle.js_names.specs.Patterns.{nodes_of}
use Rattle.js_semantics.specs.Run.{Arrival}
use Rattle.js_machine.specs.Does.{Follows}
use Rattle.js_machine.specs.Closed.{AllFit, IsClosed}
use Rattle.js_machine.specs.declared.state.State.{State}
use Rattle.alone_laws.specs.Turns.{Turns}
use Rattle.world_machine.specs.declared.machine.Machine.{Machine}
use Rattle.world_machine.specs.declared.world.World.{World}
use Rattle.world_machine.specs.World.{Counts, IsComing, IsFilling, IsIn, IsRunning, Promises, Sits, Spares, Turning, coming_from, heap_in, owner_of, size_in, state_over}

module _ {C : Type 0} where
  pub find-without : (maps : List (ℕ × C)) (o k : ℕ) → k ≢ o → find nat_eq (without nat_eq maps o) k ≡ find nat_eq maps k
  find-without [] o k h = refl
  find-without (m ∷ maps) o k h =
      elim (nat_eq m.0 o) as (λ b. nat_eq m.0 o ≡ b → find nat_eq (if b then maps else m ∷ without nat_eq maps o) k ≡ find nat_eq (m ∷ maps) k) [
        | true ↦ λ e. let other : nat_eq m.0 k ≡ false = grind (arith, nat_tests) in sym (ap (λ b. if b then Some m.1 else find nat_eq maps k) other)
        | false ↦ λ e. ap (λ x. if nat_eq m.0 k then Some m.1 else x) (find-without maps o k h)
      ] refl

  pub stands-without : (maps : List (ℕ × C)) (o k : ℕ) → k ≢ o → stands nat_eq (keys (without nat_eq maps o)) k ≡ stands nat_eq (keys maps) k
  stands-without [] o k h = refl
  stands-without (m ∷ maps) o k h =
      elim (nat_eq m.0 o) as (λ b. nat_eq m.0 o ≡ b → stands nat_eq (keys (if b then maps else m ∷ without nat_eq maps o)) k ≡ stands nat_eq (keys (m ∷ maps)) k) [
        | true ↦ λ e. let other : nat_eq m.0 k ≡ false = grind (arith, nat_tests) in sym (ap (λ b. if b then true else stands nat_eq (keys maps) k) other)
        | false ↦ λ e. ap (λ x. if nat_eq m.0 k then true else x) (stands-without maps o k h)
      ] refl

-- a machine whose cells stay
sits_still : (script : List Node) (m : Machine) (old new : PoolView) → Sits script m old → values_of old.maps m.seat.owner ≡ values_of new.maps m.seat.owner → Stands (keys new.maps) m.seat.owner → old.given ≤ new.given → Sits script m new
sits_still script m old new h cells s more = record {
  owned = record { stands = s; counted = sym (ap length cells) ∙ h.owned.counted };
  below = omega (arith, h.below, more);
  distinct = subst (λ cs. IsDistinct (keys cs)) cells h.distinct;
  closed = subst (λ cs. AllFit script m.kind cs m.frames.items m.control) cells h.closed;
  waits = h.waits;
  turns = λ supply ds f. subst (λ cs. Turns false (coming_from script supply m cs ds)) cells (h.turns supply ds (subst (λ cs. Follows supply 0 cs) (sym cells) f));
}

-- ---- a world with its machine

pub machine_in : (w : World) (pool : PoolView) → IsIn w pool → (m : Machine) × (w.machine ≡ Some m) × Sits (nodes_of w.script) m pool
unfolding IsIn
machine_in w pool h = elim w.machine as (λ x. IsSomeAnd x (λ m. Sits (nodes_of w.script) m pool) → (m : Machine) × (x ≡ Some m) × Sits (nodes_of w.script) m pool) [
  | None ↦ λ q. absurd q
  | Some m ↦ λ q. (m, refl, q)
] h

pub sits_at : (w : World) (pool : PoolView) (m : Machine) → w.machine ≡ Some m → IsIn w pool → Sits (nodes_of w.script) m pool
sits_at w pool m e h =
    let at = machine_in w pool h in
    let one : Some at.0 ≡ Some m = sym at.1 ∙ e in
    let same : at.0 ≡ m = cc in
    subst (λ x. Sits (nodes_of w.script) x pool) same at.2

pub in_by : (w : World) (pool : PoolView) (m : Machine) → w.machine ≡ Some m → Sits (nodes_of w.script) m pool → IsIn w pool
unfolding IsIn
in_by w pool m e h = subst (λ x. IsSomeAnd x (λ m. Sits (nodes_of w.script) m pool)) (sym e) h

-- the same where it may be running
pub running_in : (w : World) (pool : PoolView) → IsRunning w pool → (m : Machine) × (w.machine ≡ Some m) × Turning (nodes_of w.script) m pool
unfolding IsRunning
running_in w pool h = elim w.machine as (λ x. IsSomeAnd x (λ m. Turning (nodes_of w.script) m pool) → (m : Machine) × (x ≡ Some m) × Turning (nodes_of w.script) m pool) [
  | None ↦ λ q. absurd q
  | Some m ↦ λ q. (m, refl, q)
] h

pub running_at : (w : World) (pool : PoolView) (m : Machine) → w.machine ≡ Some m → IsRunning w pool → Turning (nodes_of w.script) m pool
running_at w pool m e h =
    let at = running_in w pool h in
    let one : Some at.0 ≡ Some m = sym at.1 ∙ e in
    let same : at.0 ≡ m = cc in
    subst (λ x. Turning (nodes_of w.script) x pool) same at.2

pub running_by : (w : World) (pool : PoolView) (m : Machine) → w.machine ≡ Some m → Turning (nodes_of w.script) m pool → IsRunning w pool
unfolding IsRunning
running_by w pool m e h = subst (λ x. IsSomeAnd x (λ m. Turning (nodes_of w.script) m pool)) (sym e) h

-- its state over its heap is closed
pub taken_closed : (w : World) (script : List (Node × ℕ)) (o : Machine) (pool : PoolView) (s : State) → w.machine ≡ Some o → w.script ≡ script → IsRunning w pool → s ≡ state_over o (heap_in o.seat pool) → IsClosed (nodes_of script) s
taken_closed w script o pool s wo ws runs s_is =
    let at : Turning (nodes_of script) o pool = subst (λ x. Turning (nodes_of x) o pool) ws (running_at w pool o wo runs) in
    subst (IsClosed (nodes_of script)) (sym s_is) at.closed

-- what stands between two deliveries may go on
pub runs_in : (w : World) (pool : PoolView) → IsIn w pool → IsRunning w pool
runs_in w pool h =
    let at = machine_in w pool h in
    running_by w pool at.0 at.1 (record { owned = at.2.owned; below = at.2.below; distinct = at.2.distinct; closed = at.2.closed; inside = false; turns = at.2.turns })

pub coming_by : (w : World) (pool : PoolView) (m : Machine) (coming : List Arrival → List Entry) → w.machine ≡ Some m → Promises (nodes_of w.script) m (values_of pool.maps m.seat.owner) coming → IsComing w pool coming
unfolding IsComing
coming_by w pool m coming e h = subst (λ x. IfSome x (λ m. Promises (nodes_of w.script) m (values_of pool.maps m.seat.owner) coming)) (sym e) h

pub promises_by : (w : World) (pool : PoolView) (m : Machine) (coming : List Arrival → List Entry) → w.machine ≡ Some m → IsComing w pool coming → Promises (nodes_of w.script) m (values_of pool.maps m.seat.owner) coming
unfolding IsComing
promises_by w pool m coming e h = subst (λ x. IfSome x (λ m. Promises (nodes_of w.script) m (values_of pool.maps m.seat.owner) coming)) e h

pub owner_by : (w : World) (m : Machine) → w.machine ≡ Some m → owner_of w ≡ Some m.seat.owner
unfolding owner_of
owner_by w m e = ap (option_map (λ (m : Machine). m.seat.owner)) e

pub filling_by : (w : World) (pool : PoolView) (m : Machine) (count : List Arrival → ℕ) → w.machine ≡ Some m → Counts (nodes_of w.script) m (values_of pool.maps m.seat.owner) count → IsFilling w pool count
unfolding IsFilling
filling_by w pool m count e h = subst (λ x. IfSome x (λ m. Counts (nodes_of w.script) m (values_of pool.maps m.seat.owner) count)) (sym e) h

pub counts_by : (w : World) (pool : PoolView) (m : Machine) (count : List Arrival → ℕ) → w.machine ≡ Some m → IsFilling w pool count → Counts (nodes_of w.script) m (values_of pool.maps m.seat.owner) count
unfolding IsFilling
counts_by w pool m count e h = subst (λ x. IfSome x (λ m. Counts (nodes_of w.script) m (values_of pool.maps m.seat.owner) count)) e h

pub size_by : (w : World) (pool : PoolView) (m : Machine) → w.machine ≡ Some m → size_in w pool ≡ length (values_of pool.maps m.seat.owner)
unfolding size_in
size_by w pool m e = ap (λ x. option_map_or (λ (m : Machine). length (values_of pool.maps m.seat.owner)) x 0) e

-- where a pool differs at one owner alone, the other worlds stay as they were
pub spares_by : (world : World) (o : ℕ) (old new : PoolView) → owner_of world ≡ Some o → ((k : ℕ) → k ≢ o → find nat_eq new.maps k ≡ find nat_eq old.maps k) → ((k : ℕ) → k ≢ o → stands nat_eq (keys new.maps) k ≡ stands nat_eq (keys old.maps) k) → old.given ≤ new.given → Spares world old new
spares_by world o old new own finds stand more w apart h =
    let at = machine_in w old h in
    let m = at.0 in
    let other : m.seat.owner ≢ o = λ e. apart (owner_by w m at.1 ∙ ap Some e ∙ sym own) in
    let cells : values_of old.maps m.seat.owner ≡ values_of new.maps m.seat.owner = sym (ap (λ x. unwrap_or x []) (finds m.seat.owner other)) in
    record {
      stands = in_by w new m at.1 (sits_still (nodes_of w.script) m old new at.2 cells (stand m.seat.owner other ∙ at.2.owned.stands) more);
      fills = λ count c. filling_by w new m count at.1 (subst (λ cs. Counts (nodes_of w.script) m cs count) cells (counts_by w old m count at.1 c));
      size = size_by w new m at.1 ∙ sym (ap length cells) ∙ sym (size_by w old m at.1);
      comes = λ coming c. coming_by w new m coming at.1 (subst (λ cs. Promises (nodes_of w.script) m cs coming) cells (promises_by w old m coming at.1 c));
    }

-- the same, where nothing differs without that owner
pub spares_without : (world : World) (o : ℕ) (old new : PoolView) → owner_of world ≡ Some o → without nat_eq new.maps o ≡ without nat_eq old.maps o → old.given ≤ new.given → Spares world old new
spares_without world o old new own same more =
    spares_by world o old new own
    (λ k h. sym (find-without new.maps o k h) ∙ ap (λ ms. find nat_eq ms k) same ∙ find-without old.maps o k h)
    (λ k h. sym (stands-without new.maps o k h) ∙ ap (λ ms. stands nat_eq (keys ms) k) same ∙ stands-without old.maps o k h)
    more
