use Rattle.std.proofs.Common.{refl}
use Rattle.js_names.specs.Patterns.{nodes_of}
use Rattle.js_semantics.specs.Prog.{give}
use Rattle.js_semantics.specs.declared.fault.Fault.TheVariants.{NotAnObject, ReadOnly}
use Rattle.js_calls.proofs.Storing.{refused_ok}
use Rattle.js_calls.proofs.setting.set.Goals as goal

pub returns-in-Undefined-clause-does : goal.returns-in-Undefined-clause-does
returns-in-Undefined-clause-does c =
    rw c.in-Undefined.is (refused_ok (nodes_of c.args.tree.now) 4 _ c.args.key c.args.value (give c.args.result_value) NotAnObject c.args.state.now c.refuse.new.state c.refuse.result (λ supply. refl) (c.refuse.ensures.does (nodes_of c.args.tree.now)))

pub returns-in-Null-clause-does : goal.returns-in-Null-clause-does
returns-in-Null-clause-does c =
    rw c.in-Null.is (refused_ok (nodes_of c.args.tree.now) 4 _ c.args.key c.args.value (give c.args.result_value) NotAnObject c.args.state.now c.refuse-in-Null.new.state c.refuse-in-Null.result (λ supply. refl) (c.refuse-in-Null.ensures.does (nodes_of c.args.tree.now)))

pub returns-in-Bool-clause-does : goal.returns-in-Bool-clause-does
returns-in-Bool-clause-does c =
    rw c.in-Bool.is (refused_ok (nodes_of c.args.tree.now) 4 _ c.args.key c.args.value (give c.args.result_value) ReadOnly c.args.state.now c.refuse-in-Bool.new.state c.refuse-in-Bool.result (λ supply. refl) (c.refuse-in-Bool.ensures.does (nodes_of c.args.tree.now)))

pub returns-in-Num-clause-does : goal.returns-in-Num-clause-does
returns-in-Num-clause-does c =
    rw c.in-Num.is (refused_ok (nodes_of c.args.tree.now) 4 _ c.args.key c.args.value (give c.args.result_value) ReadOnly c.args.state.now c.refuse-in-Num.new.state c.refuse-in-Num.result (λ supply. refl) (c.refuse-in-Num.ensures.does (nodes_of c.args.tree.now)))

pub returns-in-Str-clause-does : goal.returns-in-Str-clause-does
returns-in-Str-clause-does c =
    rw c.in-Str.is (refused_ok (nodes_of c.args.tree.now) 4 _ c.args.key c.args.value (give c.args.result_value) ReadOnly c.args.state.now c.refuse-in-Str.new.state c.refuse-in-Str.result (λ supply. refl) (c.refuse-in-Str.ensures.does (nodes_of c.args.tree.now)))

pub returns-in-Undefined-clause-closed : goal.returns-in-Undefined-clause-closed
returns-in-Undefined-clause-closed c closed of value result_value = c.refuse.ensures.closed (nodes_of c.args.tree.now) closed

pub returns-in-Null-clause-closed : goal.returns-in-Null-clause-closed
returns-in-Null-clause-closed c closed of value result_value = c.refuse-in-Null.ensures.closed (nodes_of c.args.tree.now) closed

pub returns-in-Bool-clause-closed : goal.returns-in-Bool-clause-closed
returns-in-Bool-clause-closed c closed of value result_value = c.refuse-in-Bool.ensures.closed (nodes_of c.args.tree.now) closed

pub returns-in-Num-clause-closed : goal.returns-in-Num-clause-closed
returns-in-Num-clause-closed c closed of value result_value = c.refuse-in-Num.ensures.closed (nodes_of c.args.tree.now) closed

pub returns-in-Str-clause-closed : goal.returns-in-Str-clause-closed
returns-in-Str-clause-closed c closed of value result_value = c.refuse-in-Str.ensures.closed (nodes_of c.args.tree.now) closed
