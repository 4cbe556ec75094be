use Rattle.std.proofs.lemmas.Result.{err_from_is_err_and}
use Rattle.js_names.specs.Patterns.{nodes_of}
use Rattle.js_semantics.specs.declared.fault.Fault.TheVariants.{NotDefined}
use Rattle.js_semantics.specs.Prog.{throw}
use Rattle.js_machine.specs.Frames.{after_rest}
use Rattle.js_calls.proofs.Lookups.{name_ok}
use Rattle.js_calls.proofs.naming.read_name.Goals as goal

pub returns-clause-does : goal.returns-clause-does
returns-clause-does c =
    name_ok (nodes_of c.args.tree.now) 6 c.args.env c.args.name.now (throw NotDefined) (λ v. after_rest (nodes_of c.args.tree.now) c.args.frame v) c.in_ok-meant.meant c.args.state.now c.read.new.state c.read.result (λ supply. c.in_ok-meant.ensures.is (nodes_of c.args.tree.now) supply) c.read.ensures.does

pub returns-clause-closed : goal.returns-clause-closed
returns-clause-closed c closed env frame = c.read.ensures.closed closed (c.in_ok-meant.ensures.closed (nodes_of c.args.tree.now) closed) frame

pub returns-in_err-meant-clause-closed : goal.returns-in_err-meant-clause-closed
returns-in_err-meant-clause-closed c closed env frame =
    let p = err_from_is_err_and c.from_residual.result c.from_residual.ensures.1 in rw (p.1, p.2) (c.in_err-meant.ensures.closed (nodes_of c.args.tree.now) closed)
