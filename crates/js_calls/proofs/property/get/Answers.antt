use Rattle.std.proofs.lemmas.Result.{err_from_is_err_and}
use Rattle.js_names.specs.Patterns.{nodes_of}
use Rattle.js_machine.specs.Frames.{after_rest}
use Rattle.js_calls.proofs.Reading.{get_ok}
use Rattle.js_calls.proofs.property.get.Goals as goal

pub returns-clause-does : goal.returns-clause-does
returns-clause-does c =
    get_ok (nodes_of c.args.tree.now) 6 c.args.of c.args.key.now (λ v. after_rest (nodes_of c.args.tree.now) c.args.frame v) c.in_ok-got.got c.args.state.now c.take_up.new.state c.take_up.result c.in_ok-got.ensures.is (c.take_up.ensures.does c.in_ok-got.ensures.is)

pub returns-clause-closed : goal.returns-clause-closed
returns-clause-closed c closed of frame = c.take_up.ensures.closed closed (c.in_ok-got.ensures.closed of) of frame

pub returns-in_err-got-clause-closed : goal.returns-in_err-got-clause-closed
returns-in_err-got-clause-closed c closed of frame =
    let p = err_from_is_err_and c.from_residual.result c.from_residual.ensures.1 in rw (p.1, p.2) (c.in_err-got.ensures.closed of)
