use Rattle.std.proofs.Common.{◌≡◌, ◌+◌, ◌∙◌, ◌∷◌, [], ◌++◌, Some, sym, ap, arith, length, length-append}
use Rattle.world_heap.specs.Views.{HeapView}
use Rattle.world_heap.specs.BuiltIns.{plain_object, objects}
use Rattle.world_heap.specs.Starting.{with_built_in}
use Rattle.world_heap.proofs.Begun.{objects-push, length-objects, with_built_in-twice}
use Rattle.world_heap.proofs.heap.Heap.add_objects.Goals as goal

pub add_object-requires-clause-room : goal.add_object-requires-clause-room
add_object-requires-clause-room c =
    let added = c.objects.invariant.added in
    let base : c.objects.self.base ≡ c.args.self.now.base + length (objects c.args.proto added.0) = ap (λ (v : HeapView). v.base) added.2 in
    omega (arith, base, length-objects c.args.proto added.0, added.1, c.requires.room, c.objects-test.true)

pub objects-preserved : goal.objects-preserved
objects-preserved c =
    let added = c.objects.invariant.added in
    let loc = c.in_ok-add_object.field-0 in
    record {
      added = (
        added.0 ++ loc ∷ [],
        omega (arith, length-append added.0 (loc ∷ []), added.1),
        c.in_ok-add_object.ensures.added ∙ ap (λ v. with_built_in v ((loc, plain_object (Some c.args.proto)) ∷ [])) added.2
            ∙ with_built_in-twice c.args.self.now (objects c.args.proto added.0) ((loc, plain_object (Some c.args.proto)) ∷ [])
            ∙ ap (with_built_in c.args.self.now) (sym (objects-push c.args.proto added.0 loc)),
      );
      kept = λ l h. c.add_object.ensures.kept l (c.objects.invariant.kept l h);
    }
