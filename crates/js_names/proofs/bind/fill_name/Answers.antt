use Rattle.std.proofs.Common.{◌∙◌, ap, sym, option_map}
use Rattle.js_semantics.specs.World.{over}
use Rattle.js_names.proofs.Binding.{filled_none, filled_some}
use Rattle.js_names.proofs.bind.fill_name.Goals as goal

pub returns-in-None-clause-is : goal.returns-in-None-clause-is
returns-in-None-clause-is c = λ w. filled_none (over c.args.heap.now w) c.args.env c.args.name.now c.args.value (sym (c.binding_of.ensures w) ∙ ap (option_map (λ found. (found.0, found.1.now))) c.in-None.is)

pub returns-clause-is : goal.returns-clause-is
returns-clause-is c = λ w.
    c.in_ok-bind_in.ensures.is w
    ∙ filled_some (over c.args.heap.now w) c.args.env c.args.name.now c.args.value (c.in-Some.found.0, c.in-Some.found.1.now) (sym (c.binding_of.ensures w) ∙ ap (option_map (λ found. (found.0, found.1.now))) c.in-Some.is)
