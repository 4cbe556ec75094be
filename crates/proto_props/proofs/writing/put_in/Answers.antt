use Rattle.proto_props.proofs.Puts.{mid_body, back_well, back_same, put_well, put_is}
use Rattle.proto_props.proofs.writing.put_in.Goals as goal

pub replace_body-requires-clause-stands : goal.replace_body-requires-clause-stands
replace_body-requires-clause-stands c =
    let b = c.bared-body in
    mid_body c.args.heap.now b.new.heap b.new.heap c.args.loc b.result b.ensures.was b.ensures.is

pub replace_body-requires-clause-keeps : goal.replace_body-requires-clause-keeps
replace_body-requires-clause-keeps c = λ well.
    let b = c.bared-body in
    rw c.in-Ok.ensures.ok (put_well c.args.heap.now b.new.heap b.new.heap c.args.loc b.result b.ensures.was b.ensures.is c.args.key c.args.property c.requires.fits b.ensures.well well)

pub replace_body-requires-in-Err-clause-stands : goal.replace_body-requires-in-Err-clause-stands
replace_body-requires-in-Err-clause-stands c =
    let b = c.bared-body in
    mid_body c.args.heap.now b.new.heap b.new.heap c.args.loc b.result b.ensures.was b.ensures.is

pub replace_body-requires-in-Err-clause-keeps : goal.replace_body-requires-in-Err-clause-keeps
replace_body-requires-in-Err-clause-keeps c = λ well.
    let b = c.bared-body in
    rw c.in-Err.ensures.err (back_well c.args.heap.now b.new.heap b.new.heap c.args.loc b.result b.ensures.was b.ensures.is b.ensures.well well)

pub returns-in-Ok-clause-ok : goal.returns-in-Ok-clause-ok
returns-in-Ok-clause-ok c = λ cell body found has.
    let b = c.bared-body in
    put_is c.args.heap.now b.new.heap c.replace_body.new.self c.args.loc b.result b.ensures.was b.ensures.is c.args.key c.args.property (rw c.in-Ok.ensures.ok at c.replace_body.ensures.is) cell body found has

pub returns-in-Err-clause-err : goal.returns-in-Err-clause-err
returns-in-Err-clause-err c =
    let b = c.bared-body in
    back_same c.args.heap.now b.new.heap c.replace_body-in-Err.new.self c.args.loc b.result b.ensures.was b.ensures.is (rw c.in-Err.ensures.err at c.replace_body-in-Err.ensures.is)
