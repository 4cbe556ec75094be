use Rattle.std.proofs.Common.{◌≡◌, ◌∙◌, ◌+◌, ◌∷◌, [], ◌++◌, None, refl, ap, arith, length, ℕ, List}
use Rattle.world_heap.specs.declared.cell.Cell.{Cell}
use Rattle.world_heap.specs.Views.{HeapView}
use Rattle.world_heap.specs.BuiltIns.{plain_object, objects}
use Rattle.world_heap.specs.Bounded.{bounds_of}
use Rattle.world_heap.specs.Starting.{with_built_in, empty_heap}
use Rattle.world_heap.proofs.Begun.{length-objects, with_built_in-twice}
use Rattle.world_heap.proofs.heap.Heap.new.Goals as goal

-- four lists of cells, one after another
in_row : (empty h : HeapView) (a b d e : List (ℕ × Cell ℕ)) (h1 h2 h3 h4 : HeapView) → h ≡ empty → h1 ≡ with_built_in h a → h2 ≡ with_built_in h1 b → h3 ≡ with_built_in h2 d → h4 ≡ with_built_in h3 e
    → h4 ≡ with_built_in empty (a ++ b ++ d ++ e)
in_row empty h a b d e h1 h2 h3 h4 p q r s t =
    t ∙ ap (λ v. with_built_in v e) (s ∙ ap (λ v. with_built_in v d) (r ∙ ap (λ v. with_built_in v b) (q ∙ ap (λ v. with_built_in v a) p) ∙ with_built_in-twice empty a b) ∙ with_built_in-twice empty (a ++ b) d)
    ∙ with_built_in-twice empty (a ++ b ++ d) e

pub add_objects-requires-2-clause-room : goal.add_objects-requires-2-clause-room
add_objects-requires-2-clause-room c =
    let kinds = c.in_ok-add_objects.ensures.added in
    let none : c.in_ok-heap.heap.base ≡ 0 = ap (λ (v : HeapView). v.base) c.in_ok-heap.ensures in
    let one : c.add_object.new.self.base ≡ c.in_ok-heap.heap.base + 1 = ap (λ (v : HeapView). v.base) c.in_ok-root.ensures.added in
    let two : c.add_object-2.new.self.base ≡ c.add_object.new.self.base + 1 = ap (λ (v : HeapView). v.base) c.in_ok-error.ensures.added in
    let all : c.add_objects.new.self.base ≡ c.add_object-2.new.self.base + length (objects c.in_ok-error.error kinds.0) = ap (λ (v : HeapView). v.base) kinds.2 in
    omega (arith, none, one, two, all, length-objects c.in_ok-error.error kinds.0, kinds.1)

pub returns : goal.returns
returns c =
    let kinds = c.in_ok-add_objects.ensures.added in
    let rest = c.in_ok-add_objects-2.ensures.added in
    let root = c.in_ok-root.root in
    let error = c.in_ok-error.error in
    let first : List (ℕ × Cell ℕ) = (root, plain_object None) ∷ [] in
    let second : List (ℕ × Cell ℕ) = objects root (error ∷ []) in (
      first ++ second ++ objects error kinds.0 ++ objects root rest.0,
      record { root = root; error = error; kinds = kinds.0; rest = rest.0; six = kinds.1; nine = rest.1; are = refl },
      in_row (empty_heap (bounds_of c.args.limits) c.args.pool) c.in_ok-heap.heap first second (objects error kinds.0) (objects root rest.0) c.add_object.new.self c.add_object-2.new.self c.add_objects.new.self c.add_objects-2.new.self
          c.in_ok-heap.ensures c.in_ok-root.ensures.added c.in_ok-error.ensures.added kinds.2 rest.2,
    )
