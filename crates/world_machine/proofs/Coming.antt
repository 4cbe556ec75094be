-- What is still to come from a state, and the entries of its turns.
use Rattle.std.proofs.Common.{◌≡◌, ℕ, suc, List, [], ◌∷◌, ◌++◌, length, map, Bool, true, false, not, Some, refl, sym, ap, ◌∙◌, subst, slice_get, ◌-◌, arith}
use Rattle.std.specs.Prelude.{if◌then◌else◌}
use Rattle.js_tree.specs.declared.node.Node.{Node}
use Rattle.world_log.specs.declared.entry.Delivery.{Delivery}
use Rattle.world_log.specs.declared.entry.Delivery.TheVariants.{Load}
use Rattle.world_log.specs.declared.entry.Entry.{Entry}
use Rattle.world_log.specs.declared.entry.Entry.TheVariants as entry
use Rattle.world_log.specs.declared.entry.Product.{Product}
use Rattle.world_log.specs.declared.entry.Product.TheVariants as made
use Rattle.js_semantics.specs.declared.mode.Mode.TheVariants.{Idle, Crossing}
use Rattle.js_semantics.specs.Prog.{Cont}
use Rattle.js_semantics.specs.World.{World}
use Rattle.js_semantics.specs.Run.{Arrival, Budget, Trace, Then, Cut, entries, run}
use Rattle.js_machine.specs.declared.state.State.{State}
use Rattle.js_machine.specs.declared.state.Control.{Control}
use Rattle.js_machine.specs.declared.state.Control.TheVariants as controls
use Rattle.js_machine.specs.Does.{after, awaits_in, budget_of, control_prog, is_running, stack_rest, to_come, world_of}
use Rattle.alone_laws.specs.Sizes.{cells_at_end}
use Rattle.alone_laws.specs.Turns.{Turns}
use Rattle.world_machine.specs.declared.yielding.Yield.{Yield}
use Rattle.world_machine.specs.declared.yielding.Yield.TheVariants.{Rest, Stopped}
use Rattle.world_machine.specs.Yields.{EndsBy, product_of}
use Rattle.world_machine.specs.World.{Takes}

-- the entries behind products
pub entries-after : (ps : List Product) (t : Trace ℕ) → entries (after ps t) ≡ map entry.Product ps ++ entries t
entries-after [] t = refl
entries-after (p ∷ ps) t = ap (λ es. entry.Product p ∷ es) (entries-after ps t)

-- the cells behind products
pub cells-after : (ps : List Product) (t : Trace ℕ) → cells_at_end (after ps t) ≡ cells_at_end t
cells-after [] t = refl
cells-after (p ∷ ps) t = cells-after ps t

-- where nothing runs, the cells stay
still_run : (c : Control ℕ) (b : Budget) (w : World ℕ) (k : Cont ℕ) → is_running c ≡ false → cells_at_end (run [] b w (control_prog c k)) ≡ length w.heap
unfolding run
still_run (controls.Wait m) b w k h = refl
still_run controls.Stop b w k h = refl
still_run (controls.Script node) b w k h = absurd (cc)
still_run (controls.Node node scope) b w k h = absurd (cc)
still_run (controls.Bind node value scope) b w k h = absurd (cc)
still_run (controls.Member node object scope) b w k h = absurd (cc)
still_run (controls.Native id receiver arguments) b w k h = absurd (cc)
still_run (controls.Give o) b w k h = absurd (cc)
still_run (controls.AtRest m) b w k h = absurd (cc)

pub still : (nodes : List Node) (supply : ℕ → ℕ) (s : State) → is_running s.control ≡ false → cells_at_end (to_come nodes supply s []) ≡ length s.heap.cells
still nodes supply s h = still_run s.control (budget_of s) (world_of nodes supply s) (stack_rest nodes s) h

-- where nothing runs, nothing comes without a delivery
quiet_run : (c : Control ℕ) (b : Budget) (w : World ℕ) (k : Cont ℕ) → is_running c ≡ false → entries (run [] b w (control_prog c k)) ≡ []
unfolding run
quiet_run (controls.Wait m) b w k h = refl
quiet_run controls.Stop b w k h = refl
quiet_run (controls.Script node) b w k h = absurd (cc)
quiet_run (controls.Node node scope) b w k h = absurd (cc)
quiet_run (controls.Bind node value scope) b w k h = absurd (cc)
quiet_run (controls.Member node object scope) b w k h = absurd (cc)
quiet_run (controls.Native id receiver arguments) b w k h = absurd (cc)
quiet_run (controls.Give o) b w k h = absurd (cc)
quiet_run (controls.AtRest m) b w k h = absurd (cc)

pub quiet : (nodes : List Node) (supply : ℕ → ℕ) (s : State) → is_running s.control ≡ false → entries (to_come nodes supply s []) ≡ []
quiet nodes supply s h = quiet_run s.control (budget_of s) (world_of nodes supply s) (stack_rest nodes s) h

-- a delivery is taken exactly where it is awaited
chosen : (b l : Bool) (e : Entry) (w : World ℕ) (t : Trace ℕ) → not l ≡ b → Takes b e (entries (if not l then Then e t else Cut w))
chosen true true e w t h = absurd (cc)
chosen true false e w t h = (entries t, refl)
chosen false true e w t h = refl
chosen false false e w t h = absurd (cc)

none_taken : (b : Bool) (e : Entry) → false ≡ b → Takes b e []
none_taken true e h = absurd (cc)
none_taken false e h = refl

takes_run : (c : Control ℕ) (fresh : Bool) (what : Delivery) (ds : List Arrival) (b : Budget) (w : World ℕ) (k : Cont ℕ) (t : Bool) → is_running c ≡ false → awaits_in c w.loaded what ≡ t → Takes t (entry.Delivery fresh what) (entries (run (record { fresh = fresh; what = what } ∷ ds) b w (control_prog c k)))
unfolding run
takes_run (controls.Wait Idle) fresh Load ds b w k t h e = chosen t w.loaded (entry.Delivery fresh Load) w _ e
takes_run (controls.Wait Crossing) fresh Load ds b w k t h e = none_taken t (entry.Delivery fresh Load) e
takes_run controls.Stop fresh what ds b w k t h e = none_taken t (entry.Delivery fresh what) e
takes_run (controls.Script node) fresh what ds b w k t h e = absurd (cc)
takes_run (controls.Node node scope) fresh what ds b w k t h e = absurd (cc)
takes_run (controls.Bind node value scope) fresh what ds b w k t h e = absurd (cc)
takes_run (controls.Member node object scope) fresh what ds b w k t h e = absurd (cc)
takes_run (controls.Native id receiver arguments) fresh what ds b w k t h e = absurd (cc)
takes_run (controls.Give o) fresh what ds b w k t h e = absurd (cc)
takes_run (controls.AtRest m) fresh what ds b w k t h e = absurd (cc)

pub takes : (nodes : List Node) (supply : ℕ → ℕ) (s : State) (fresh : Bool) (what : Delivery) (ds : List Arrival) (t : Bool) → is_running s.control ≡ false → awaits_in s.control s.loaded what ≡ t → Takes t (entry.Delivery fresh what) (entries (to_come nodes supply s (record { fresh = fresh; what = what } ∷ ds)))
takes nodes supply s fresh what ds t h e = takes_run s.control fresh what ds (budget_of s) (world_of nodes supply s) (stack_rest nodes s) t h e

-- ---- turns

-- products that are a whole turn end by a yield
pub ends_by : (ps : List Product) → Turns true (map entry.Product ps ++ []) → (y : Yield) × EndsBy y ps
ends_by [] h = absurd (cc)
ends_by (made.Console level text ∷ ps) h = ends_by ps h
ends_by (made.Uncaught text ∷ ps) h = ends_by ps h
ends_by (made.Rest jobs ∷ ps) h = (Rest jobs, (refl, none ps h))
  where
    none : (ps : List Product) → Turns false (map entry.Product ps ++ []) → ps ≡ []
    none [] h = refl
    none (p ∷ ps) h = absurd h
ends_by (made.Stopped stop ∷ ps) h = (Stopped stop, (refl, none ps h))
  where
    none : (ps : List Product) → map entry.Product ps ++ [] ≡ [] → ps ≡ []
    none [] h = refl
    none (p ∷ ps) h = absurd (cc)

-- behind a turn come turns
pub turns_behind : (y : Yield) (ps : List Product) (es : List Entry) → EndsBy y ps → Turns true (map entry.Product ps ++ es) → Turns false es
turns_behind y [] es e h = absurd e
turns_behind y (made.Console level text ∷ ps) es e h = turns_behind y ps es e h
turns_behind y (made.Uncaught text ∷ ps) es e h = turns_behind y ps es e h
turns_behind y (made.Rest jobs ∷ ps) es e h = subst (λ qs. Turns false (map entry.Product qs ++ es)) e.1 h
turns_behind y (made.Stopped stop ∷ ps) es e h =
    let none : es ≡ [] = subst (λ qs. map entry.Product qs ++ es ≡ []) e.1 h in subst (Turns false) (sym none) refl

-- and behind a stop nothing
pub none_behind : (y : Yield) (stop : _) (ps : List Product) (es : List Entry) → EndsBy y ps → y ≡ Stopped stop → Turns true (map entry.Product ps ++ es) → es ≡ []
none_behind y stop [] es e q h = absurd e
none_behind y stop (made.Console level text ∷ ps) es e q h = none_behind y stop ps es e q h
none_behind y stop (made.Uncaught text ∷ ps) es e q h = none_behind y stop ps es e q h
none_behind y stop (made.Rest jobs ∷ ps) es e q h = let no : Rest jobs ≡ Stopped stop = sym e.0 ∙ q in absurd (cc)
none_behind y stop (made.Stopped other ∷ ps) es e q h = subst (λ qs. map entry.Product qs ++ es ≡ []) e.1 h

-- the last product is the yield
last_is : (y : Yield) (p : Product) (ps : List Product) → EndsBy y (p ∷ ps) → slice_get (p ∷ ps) (length ps) ≡ Some (product_of y)
last_is y (made.Console level text) [] e = absurd e
last_is y (made.Console level text) (q ∷ qs) e = last_is y q qs e
last_is y (made.Uncaught text) [] e = absurd e
last_is y (made.Uncaught text) (q ∷ qs) e = last_is y q qs e
last_is y (made.Rest jobs) ps e = ap (λ qs. slice_get (made.Rest jobs ∷ qs) (length qs)) e.1 ∙ ap (λ z. Some (product_of z)) (sym e.0)
last_is y (made.Stopped stop) ps e = ap (λ qs. slice_get (made.Stopped stop ∷ qs) (length qs)) e.1 ∙ ap (λ z. Some (product_of z)) (sym e.0)

get_behind : (before : List Product) (p : Product) (ps : List Product) → slice_get (before ++ p ∷ ps) (length (before ++ p ∷ ps) - 1) ≡ slice_get (p ∷ ps) (length ps)
get_behind [] p ps = ap (slice_get (p ∷ ps)) (less (length ps))
  where
    less : (n : ℕ) → suc n - 1 ≡ n
    less n = omega arith
get_behind (q ∷ before) p ps = ap (slice_get (q ∷ before ++ p ∷ ps)) (longer before) ∙ get_behind before p ps
  where
    longer : (before : List Product) → suc (length (before ++ p ∷ ps)) - 1 ≡ suc (length (before ++ p ∷ ps) - 1)
    longer [] = omega arith
    longer (r ∷ rs) = omega arith

pub last_behind : (y : Yield) (before ps now : List Product) → now ≡ before ++ ps → EndsBy y ps → slice_get now (length now - 1) ≡ Some (product_of y)
last_behind y before [] now e h = absurd h
last_behind y before (p ∷ ps) now e h = ap (λ qs. slice_get qs (length qs - 1)) e ∙ get_behind before p ps ∙ last_is y p ps h

-- a yield is told by its product
pub product_of-injective : (y z : Yield) → Some (product_of y) ≡ Some (product_of z) → y ≡ z
product_of-injective (Rest a) (Rest b) e = cc
product_of-injective (Rest a) (Stopped b) e = absurd (cc)
product_of-injective (Stopped a) (Rest b) e = absurd (cc)
product_of-injective (Stopped a) (Stopped b) e = cc
