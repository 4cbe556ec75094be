use Rattle.std.proofs.Common.{◌∷◌, [], ◌++◌, Some, ℕ, get_or, subst}
use Rattle.world_heap.specs.BuiltIns.{plain_object}
use Rattle.world_heap.specs.Maps.{keys}
use Rattle.js_realm.specs.Building.{Adds, bare_function, later_cells, module_length, numbered}
use Rattle.js_realm.proofs.Adding.{adds_then}
use Rattle.js_realm.proofs.Listing.{objects_no_env}
use Rattle.js_realm.proofs.bare.add_later.Goals as goal

pub add_object-requires-clause-proto : goal.add_object-requires-clause-proto
add_object-requires-clause-proto c = objects_no_env c.args.heap.now.cells c.built_in_at-root.result c.requires.objects c.built_in_at-root.ensures.stands

pub add_functions-requires-clause-proto : goal.add_functions-requires-clause-proto
add_functions-requires-clause-proto c =
    c.in_ok-add_object.ensures.kept c.built_in_at-function.result
    (objects_no_env c.args.heap.now.cells c.built_in_at-function.result c.requires.objects c.built_in_at-function.ensures.stands)

pub add_objects-requires-clause-proto : goal.add_objects-requires-clause-proto
add_objects-requires-clause-proto c =
    c.in_ok-add_functions.ensures.kept c.built_in_at-root.result (c.in_ok-add_object.ensures.kept c.built_in_at-root.result
    (objects_no_env c.args.heap.now.cells c.built_in_at-root.result c.requires.objects c.built_in_at-root.ensures.stands))

pub returns : goal.returns
returns c =
    let root = c.built_in_at-root.result in
    let function = c.built_in_at-function.result in
    let kind = c.args.kind in
    let old = c.args.heap.now in
    let new = c.add_objects.new.heap in
    let objects = λ (n : ℕ). plain_object (Some root) in
    let last : Adds (numbered objects (module_length kind)) c.add_functions.new.heap new = rw c.module_length.ensures.is at c.in_ok-add_objects.ensures in
    let first = adds_then (plain_object (Some root) ∷ []) (numbered (bare_function function) 12) old c.add_object.new.heap c.add_functions.new.heap c.in_ok-add_object.ensures c.in_ok-add_functions.ensures in
    let whole = adds_then ((plain_object (Some root) ∷ []) ++ numbered (bare_function function) 12) (numbered objects (module_length kind)) old c.add_functions.new.heap new first last in
    subst (λ r. Adds (later_cells r (get_or (keys old.cells) 8 0) kind) old new) c.built_in_at-root.ensures.is
    (subst (λ f. Adds (later_cells root f kind) old new) c.built_in_at-function.ensures.is whole)
