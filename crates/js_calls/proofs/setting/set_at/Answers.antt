use Rattle.std.proofs.Common.{sym, ◌∙◌}
use Rattle.world_heap.specs.declared.value.Value.TheVariants.{Ref}
use Rattle.js_names.specs.Patterns.{nodes_of}
use Rattle.js_semantics.specs.Prog.{give}
use Rattle.js_semantics.specs.declared.fault.Fault.TheVariants.{ReadOnly}
use Rattle.js_calls.proofs.Storing.{refused_ok, symbol_refused}
use Rattle.js_calls.proofs.setting.set_at.Goals as goal

pub returns-then-symbol-clause-does : goal.returns-then-symbol-clause-does
returns-then-symbol-clause-does c =
    refused_ok (nodes_of c.args.tree.now) 4 (Ref c.args.loc) c.args.key c.args.value (give c.args.result_value) ReadOnly c.args.state.now c.refuse.new.state c.refuse.result (λ supply. symbol_refused (nodes_of c.args.tree.now) c.args.loc c.args.key c.args.value c.args.state.now supply (sym c.in-Some.ensures ∙ c.if-symbol.true)) (c.refuse.ensures.does (nodes_of c.args.tree.now))

pub returns-then-symbol-clause-closed : goal.returns-then-symbol-clause-closed
returns-then-symbol-clause-closed c closed loc value result_value = c.refuse.ensures.closed (nodes_of c.args.tree.now) closed
