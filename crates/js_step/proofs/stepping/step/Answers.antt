use Rattle.std.proofs.Common.{refl, sym, ◌∙◌}
use Rattle.js_names.specs.Patterns.{nodes_of}
use Rattle.js_machine.specs.declared.state.State.{State}
use Rattle.js_machine.specs.declared.state.Control.TheVariants as controls
use Rattle.js_machine.specs.declared.state.Control.TheVariants.{AtRest, Give}
use Rattle.js_step.proofs.Closing.{at_stop, taken_fits}
use Rattle.js_step.proofs.Entering.{again_next, again_ok, bind_next, member_next, native_next, node_next, script_next}
use Rattle.js_step.proofs.stepping.step.Goals as goal

pub returns-in-Script-clause-does : goal.returns-in-Script-clause-does
returns-in-Script-clause-does c = script_next (nodes_of c.args.tree.now) c.args.state.now _ _ c.in-Script.node _ (sym c.replace-control.ensures.value ∙ c.in-Script.is) refl c.row_script.ensures.does

pub returns-in-Node-clause-does : goal.returns-in-Node-clause-does
returns-in-Node-clause-does c = node_next (nodes_of c.args.tree.now) c.args.state.now _ _ c.in-Node.node c.in-Node.scope _ (sym c.replace-control.ensures.value ∙ c.in-Node.is) refl c.row_node.ensures.does

pub returns-in-Bind-clause-does : goal.returns-in-Bind-clause-does
returns-in-Bind-clause-does c = bind_next (nodes_of c.args.tree.now) c.args.state.now _ _ c.in-Bind.node c.in-Bind.value c.in-Bind.scope _ (sym c.replace-control.ensures.value ∙ c.in-Bind.is) refl c.bind_pattern.ensures.row

pub returns-in-Member-clause-does : goal.returns-in-Member-clause-does
returns-in-Member-clause-does c = member_next (nodes_of c.args.tree.now) c.args.state.now _ _ c.in-Member.node c.in-Member.object c.in-Member.scope _ (sym c.replace-control.ensures.value ∙ c.in-Member.is) refl c.row_member.ensures.does

pub returns-in-Native-clause-does : goal.returns-in-Native-clause-does
returns-in-Native-clause-does c = native_next (nodes_of c.args.tree.now) c.args.state.now _ _ c.in-Native.id c.in-Native.receiver c.in-Native.arguments _ (sym c.replace-control.ensures.value ∙ c.in-Native.is) refl (rw c.as_slice.ensures at (c.native.ensures.does (nodes_of c.args.tree.now)))

pub returns-in-Give-clause-does : goal.returns-in-Give-clause-does
returns-in-Give-clause-does c =
    let s : State = c.args.state.now in
    again_ok (nodes_of c.args.tree.now) s (record s { control = c.replace-control.new.dest }) c.take_up.new.state (Give c.in-Give.outcome) c.take_up.result (sym c.replace-control.ensures.value ∙ c.in-Give.is) refl c.take_up.ensures.does

pub returns-in-AtRest-clause-does : goal.returns-in-AtRest-clause-does
returns-in-AtRest-clause-does c =
    let s : State = c.args.state.now in
    again_next (nodes_of c.args.tree.now) s (record s { control = c.replace-control.new.dest }) c.rest.new.state (AtRest c.in-AtRest.mode) _ (sym c.replace-control.ensures.value ∙ c.in-AtRest.is) refl (c.rest.ensures.does (nodes_of c.args.tree.now))

pub returns-in-Script-clause-closed : goal.returns-in-Script-clause-closed
returns-in-Script-clause-closed c closed =
    let nodes = nodes_of c.args.tree.now in
    let s : State = c.args.state.now in
    let here = at_stop nodes s c.replace-control.new.dest closed c.replace-control.ensures.after in
    let fit = taken_fits nodes s (controls.Script c.in-Script.node) closed (sym c.replace-control.ensures.value ∙ c.in-Script.is) in
    c.row_script.ensures.closed here

pub returns-in-Node-clause-closed : goal.returns-in-Node-clause-closed
returns-in-Node-clause-closed c closed =
    let nodes = nodes_of c.args.tree.now in
    let s : State = c.args.state.now in
    let here = at_stop nodes s c.replace-control.new.dest closed c.replace-control.ensures.after in
    let fit = taken_fits nodes s (controls.Node c.in-Node.node c.in-Node.scope) closed (sym c.replace-control.ensures.value ∙ c.in-Node.is) in
    c.row_node.ensures.closed here fit

pub returns-in-Bind-clause-closed : goal.returns-in-Bind-clause-closed
returns-in-Bind-clause-closed c closed =
    let nodes = nodes_of c.args.tree.now in
    let s : State = c.args.state.now in
    let here = at_stop nodes s c.replace-control.new.dest closed c.replace-control.ensures.after in
    let fit = taken_fits nodes s (controls.Bind c.in-Bind.node c.in-Bind.value c.in-Bind.scope) closed (sym c.replace-control.ensures.value ∙ c.in-Bind.is) in
    c.bind_pattern.ensures.closed here fit.0 fit.1

pub returns-in-Member-clause-closed : goal.returns-in-Member-clause-closed
returns-in-Member-clause-closed c closed =
    let nodes = nodes_of c.args.tree.now in
    let s : State = c.args.state.now in
    let here = at_stop nodes s c.replace-control.new.dest closed c.replace-control.ensures.after in
    let fit = taken_fits nodes s (controls.Member c.in-Member.node c.in-Member.object c.in-Member.scope) closed (sym c.replace-control.ensures.value ∙ c.in-Member.is) in
    c.row_member.ensures.closed here fit.0 fit.1

pub returns-in-Native-clause-closed : goal.returns-in-Native-clause-closed
returns-in-Native-clause-closed c closed =
    let nodes = nodes_of c.args.tree.now in
    let s : State = c.args.state.now in
    let here = at_stop nodes s c.replace-control.new.dest closed c.replace-control.ensures.after in
    let fit = taken_fits nodes s (controls.Native c.in-Native.id c.in-Native.receiver c.in-Native.arguments) closed (sym c.replace-control.ensures.value ∙ c.in-Native.is) in
    c.native.ensures.closed nodes here fit.0 (rw c.as_slice.ensures fit.1)

pub returns-in-Give-clause-closed : goal.returns-in-Give-clause-closed
returns-in-Give-clause-closed c closed =
    let nodes = nodes_of c.args.tree.now in
    let s : State = c.args.state.now in
    let here = at_stop nodes s c.replace-control.new.dest closed c.replace-control.ensures.after in
    let fit = taken_fits nodes s (controls.Give c.in-Give.outcome) closed (sym c.replace-control.ensures.value ∙ c.in-Give.is) in
    c.take_up.ensures.closed here fit

pub returns-in-AtRest-clause-closed : goal.returns-in-AtRest-clause-closed
returns-in-AtRest-clause-closed c closed =
    let nodes = nodes_of c.args.tree.now in
    let s : State = c.args.state.now in
    let here = at_stop nodes s c.replace-control.new.dest closed c.replace-control.ensures.after in
    let fit = taken_fits nodes s (controls.AtRest c.in-AtRest.mode) closed (sym c.replace-control.ensures.value ∙ c.in-AtRest.is) in
    c.rest.ensures.closed nodes here
