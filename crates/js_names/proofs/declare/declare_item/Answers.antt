use Rattle.std.proofs.Common.{◌++◌, map, sym, ap, ◌∙◌, arith, Some, true, false}
use Rattle.std.specs.List.{flat_map}
use Rattle.js_semantics.specs.Environments.{declared_by, unready, names_of}
use Rattle.js_names.specs.Patterns.{nodes_of}
use Rattle.js_names.proofs.Naming.{item_none, item_is, other_none}
use Rattle.js_names.proofs.declare.declare_item.Goals as goal

pub returns-then-item-len : goal.returns-then-item-len
returns-then-item-len c = item_none c.args.tree.now c.args.item.0 c.args.bindings.now (omega (arith, c.if-item-len.true, c.len.ensures))

pub returns-in_ok-declare_pairs-in-Let : goal.returns-in_ok-declare_pairs-in-Let
returns-in_ok-declare_pairs-in-Let c =
    item_is c.args.tree.now c.args.item.0 c.node.result.now c.args.bindings.now c.declare_pairs.new.bindings c.node.ensures.value
    (c.in_ok-declare_pairs-in-Let.ensures
    ∙ ap (λ ps. c.args.bindings.now ++ flat_map (λ pair. map (unready false) (names_of (nodes_of c.args.tree.now) pair.bind)) ps) c.as_slice.ensures
    ∙ sym (ap (λ n. c.args.bindings.now ++ declared_by (nodes_of c.args.tree.now) (Some n)) c.in-Let.is))

pub returns-in_ok-declare_pairs-in-Const : goal.returns-in_ok-declare_pairs-in-Const
returns-in_ok-declare_pairs-in-Const c =
    item_is c.args.tree.now c.args.item.0 c.node.result.now c.args.bindings.now c.declare_pairs-in-Const.new.bindings c.node.ensures.value
    (c.in_ok-declare_pairs-in-Const.ensures
    ∙ ap (λ ps. c.args.bindings.now ++ flat_map (λ pair. map (unready true) (names_of (nodes_of c.args.tree.now) pair.bind)) ps) c.as_slice-in-Const.ensures
    ∙ sym (ap (λ n. c.args.bindings.now ++ declared_by (nodes_of c.args.tree.now) (Some n)) c.in-Const.is))

pub returns-in_ok-declare-in-FunDecl : goal.returns-in_ok-declare-in-FunDecl
returns-in_ok-declare-in-FunDecl c =
    item_is c.args.tree.now c.args.item.0 c.node.result.now c.args.bindings.now c.declare.new.bindings c.node.ensures.value
    (c.in_ok-declare-in-FunDecl.ensures ∙ sym (ap (λ n. c.args.bindings.now ++ declared_by (nodes_of c.args.tree.now) (Some n)) c.in-FunDecl.is))

pub returns-in_default : goal.returns-in_default
returns-in_default c =
    item_is c.args.tree.now c.args.item.0 c.node.result.now c.args.bindings.now c.args.bindings.now c.node.ensures.value
    (other_none (nodes_of c.args.tree.now) c.node.result.now c.args.bindings.now c.in_default.not-Let c.in_default.not-Const c.in_default.not-FunDecl)
