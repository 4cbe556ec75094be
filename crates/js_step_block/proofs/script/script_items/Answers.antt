use Rattle.std.proofs.Common.{sym, ap, ◌∙◌, None}
use Rattle.js_semantics.specs.Prog.{alloc}
use Rattle.js_semantics.specs.Environments.{env_cell}
use Rattle.js_machine.proofs.Doing.{does_read_ok}
use Rattle.js_names.specs.Patterns.{nodes_of}
use Rattle.std.specs.Prelude.{slice_get}
use Rattle.js_semantics.specs.Statements.{fill_functions, run_items, script_of, global_of}
use Rattle.js_machine.specs.Parts.{items_of}
use Rattle.js_machine.specs.Does.{world_of}
use Rattle.js_step_block.proofs.Lasting.{bindings_fit}
use Rattle.js_step_block.proofs.script.script_items.Goals as goal

pub returns-clause-does : goal.returns-clause-does
unfolding script_of
returns-clause-does c = does_read_ok (nodes_of c.args.tree.now) 6 _ _ _ _ _ (λ supply. ap (λ bs. alloc (env_cell None bs) (λ env. fill_functions (items_of (slice_get (nodes_of c.args.tree.now) c.args.node.0)) env (run_items (items_of (slice_get (nodes_of c.args.tree.now) c.args.node.0)) (record { env = env; receiver = global_of (world_of (nodes_of c.args.tree.now) supply c.args.state.now) })))) (sym (rw c.items_of.ensures at c.in_ok-bindings.ensures)) ∙ ap (λ r. alloc (env_cell None c.in_ok-bindings.bindings) (λ env. fill_functions (items_of (slice_get (nodes_of c.args.tree.now) c.args.node.0)) env (run_items (items_of (slice_get (nodes_of c.args.tree.now) c.args.node.0)) (record { env = env; receiver = r })))) (sym (c.global_of-receiver.ensures.is (nodes_of c.args.tree.now) supply))) c.script_in.ensures.does

pub returns-clause-closed : goal.returns-clause-closed
returns-clause-closed c closed =
    c.script_in.ensures.closed closed (bindings_fit c.args.state.now.heap.cells (nodes_of c.args.tree.now) (items_of (slice_get (nodes_of c.args.tree.now) c.args.node.0)) c.in_ok-bindings.bindings (rw c.items_of.ensures at c.in_ok-bindings.ensures)) (c.global_of-receiver.ensures.closed (nodes_of c.args.tree.now) closed)
