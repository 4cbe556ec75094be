use Rattle.std.proofs.Common.{◌<◌, ◌++◌, List, ℕ, map, take, length, sym, ap, ◌∙◌, arith}
use Rattle.std.specs.List.{flat_map}
use Rattle.std.proofs.lemmas.Option.{get_or_from_slice_get, slice_get_within}
use Rattle.world_heap.specs.declared.cell.Binding.{Binding}
use Rattle.js_tree.specs.declared.node.NodeId.{NodeId}
use Rattle.js_semantics.specs.Environments.{unready, names_of}
use Rattle.js_names.specs.Patterns.{nodes_of, parts_of}
use Rattle.js_names.proofs.Naming.{declared_none, over_at, parts_below, added_more, pattern_done}
use Rattle.js_names.proofs.declare.+declare_pattern.Goals as goal

pub returns-then-node-len : goal.returns-then-node-len
returns-then-node-len t c = declared_none c.args.tree.now c.args.node c.args.fixed c.args.bindings.now (omega (arith, c.if-node-len.true, c.len.ensures))

pub declare_pattern-requires : goal.declare_pattern-requires
declare_pattern-requires t c =
    let below : c.part_at-part.result.0 < c.args.node.0 = over_at (λ (p : NodeId). p.0 < c.args.node.0) (parts_of c.node-here.result.now) c.parts.at c.part_at-part.result (parts_below c.args.node.0 c.node-here.result.now c.node-here.ensures.children) c.part_at-part.ensures in
    (omega (arith, below, c.decreases), tt)

pub parts-preserved : goal.parts-preserved
parts-preserved t c =
    let part = c.part_at-part.result in
    let f : NodeId → List (Binding ℕ) = λ p. map (unready c.args.fixed) (names_of (nodes_of c.args.tree.now) p) in
    let parts = parts_of c.node-here.result.now in
    added_more f c.declare_own.new.bindings c.parts.bindings c.declare_pattern.new.bindings parts c.parts.at part (slice_get_within parts c.parts.at part c.part_at-part.ensures) c.parts.invariant
    (c.in_ok-declare_pattern.ensures ∙ ap (λ p. c.parts.bindings ++ f p) (sym (get_or_from_slice_get parts c.parts.at part part c.part_at-part.ensures)))

pub returns : goal.returns
returns t c =
    let f : NodeId → List (Binding ℕ) = λ p. map (unready c.args.fixed) (names_of (nodes_of c.args.tree.now) p) in
    let within : c.args.node.0 < length c.args.tree.now = omega (arith, c.if-node-len.false, c.len.ensures) in
    pattern_done c.args.tree.now c.ordered.ensures c.args.node c.node-here.result.now c.args.fixed c.args.bindings.now c.parts.bindings c.parts.at within c.node-here.ensures.value
    (omega (arith, c.parts-test.false, c.part_count-at-end.ensures)) (c.parts.invariant ∙ ap (λ bs. bs ++ flat_map f (take c.parts.at (parts_of c.node-here.result.now))) c.in_ok-declare_own.ensures)
