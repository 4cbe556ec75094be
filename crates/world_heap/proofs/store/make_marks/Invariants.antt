use Rattle.std.proofs.Common.{◌≡◌, ◌≤◌, ◌-◌, ℕ, None, length, get_or}
use Rattle.world_heap.proofs.store.make_marks.Given as goal

abbrev pub invariant-marks : goal.invariant-marks
invariant-marks l = (length l.initial.marks.items ≤ length l.marks.items) × ((k : ℕ) → get_or l.marks.items k None ≡ get_or l.initial.marks.items k None)

abbrev pub decreases-marks : goal.decreases-marks
decreases-marks l = l.count - length l.marks.items
