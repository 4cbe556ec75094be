-- What changing a property comes to, and what a call answers that carries it out.
use Rattle.std.specs.Prelude.{◌≡◌, ℕ, Option, Some, None, Result, Ok, Err, nat_eq}
use Rattle.world_heap.specs.declared.cell.Cell.{Cell}
use Rattle.world_heap.specs.declared.limits.Full.{Full}
use Rattle.world_heap.specs.declared.limits.Full.TheVariants.{Places as FullPlaces, Units as FullUnits}
use Rattle.world_heap.specs.declared.limits.HeapFault.{HeapFault}
use Rattle.world_heap.specs.declared.limits.HeapFault.TheVariants.{Cells, Places, Units, Memory}
use Rattle.world_heap.specs.Maps.{put}
use Rattle.world_heap.specs.Views.{HeapView}
use Rattle.world_heap.specs.Growth.{grown, first_passed}
use Rattle.proto_props.specs.declared.outcome.Refusal.{Refusal}
use Rattle.proto_props.specs.declared.outcome.SetDone.{SetDone}
use Rattle.proto_props.specs.declared.outcome.SetDone.TheVariants.{Done, CallSetter, Refused}

-- What changing a property comes to: another cell at a location, or one that takes a place more; nothing; a function to
-- be called; or a refusal.
pub data Change (L : Type 0) : Type 0 where
  Rewrites : L → Cell L → Change L
  Extends : L → Cell L → Change L
  Stays : Change L
  CallsSetter : L → Change L
  Refuses : Refusal → Change L

-- What a call answers that puts another cell at a location. Where memory runs out the heap is as it was.
abbrev pub Rewriting : HeapView → ℕ → Cell ℕ → Result (SetDone ℕ) HeapFault → HeapView → Type 0
Rewriting old loc cell (Ok done) new = (done ≡ Done) × (new ≡ record old { cells = put nat_eq old.cells loc cell })
Rewriting old loc cell (Err fault) new = (fault ≡ Memory) × (new ≡ old)

-- why a heap has no place more: the first count that would pass its limit, or else memory
abbrev pub Faults : Option Full → HeapFault → Type 0
Faults full Cells = ⊥
Faults full Places = full ≡ Some FullPlaces
Faults full Units = full ≡ Some FullUnits
Faults full Memory = full ≡ None

-- What a call answers that puts a cell at a location which takes a place more. Where a count would pass its limit or
-- memory runs out the heap is as it was.
abbrev pub Extending : HeapView → ℕ → Cell ℕ → Result (SetDone ℕ) HeapFault → HeapView → Type 0
Extending old loc cell (Ok done) new = (first_passed old.limits (grown old.counts 0 1 0) ≡ None) × (done ≡ Done)
    × (new ≡ record old { cells = put nat_eq old.cells loc cell; counts = grown old.counts 0 1 0 })
Extending old loc cell (Err fault) new = Faults (first_passed old.limits (grown old.counts 0 1 0)) fault × (new ≡ old)

-- What a call answers that carries out a change. A function is only named, and not called.
abbrev pub Carries : Change ℕ → HeapView → Result (SetDone ℕ) HeapFault → HeapView → Type 0
Carries (Rewrites loc cell) old result new = Rewriting old loc cell result new
Carries (Extends loc cell) old result new = Extending old loc cell result new
Carries Stays old result new = (result ≡ Ok Done) × (new ≡ old)
Carries (CallsSetter set) old result new = (result ≡ Ok (CallSetter set)) × (new ≡ old)
Carries (Refuses refusal) old result new = (result ≡ Ok (Refused refusal)) × (new ≡ old)
