use Rattle.js_step_object.proofs.Pushing.{open_array, open_only}
use Rattle.std.proofs.Common.{◌∙◌}
use Rattle.js_step_object.proofs.element.is_open.Goals as goal

pub returns-in-Some-clause-fits : goal.returns-in-Some-clause-fits
returns-in-Some-clause-fits c = λ yes. open_array c.args.heap.now.cells c.args.loc _ c.is_open_array.result c.in-Some.ensures.found c.is_open_array.ensures yes

pub returns-in-Some-clause-only : goal.returns-in-Some-clause-only
returns-in-Some-clause-only c stands =
    c.is_open_array.ensures ∙ open_only c.args.heap.now.cells c.args.loc _ c.in-Some.ensures.found stands

pub returns-in-None-clause-only : goal.returns-in-None-clause-only
returns-in-None-clause-only c stands =
    absurd (cc (stands.2, c.in-None.ensures.found))
