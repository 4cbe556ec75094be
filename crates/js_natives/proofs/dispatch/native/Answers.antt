use Rattle.std.proofs.Common.{◌∙◌, ap, sym}
use Rattle.js_semantics.specs.Natives.{native_row}
use Rattle.js_semantics.specs.Realm.{module_of}
use Rattle.js_natives.proofs.Saying.{does_same, native_by}
use Rattle.js_natives.proofs.dispatch.native.Goals as goal

pub returns-in-Some-clause-does : goal.returns-in-Some-clause-does
returns-in-Some-clause-does c nodes = does_same nodes 6 _ _ c.args.state.now c.called.new.state c.called.result (native_by c.args.id c.args.receiver.now c.args.arguments.now ∙ ap (λ f. native_row module_of f c.args.receiver.now c.args.arguments.now) (sym c.of.ensures ∙ c.in-Some.is)) (c.called.ensures.does nodes c.args.receiver.now)

pub returns-in-None-clause-does : goal.returns-in-None-clause-does
returns-in-None-clause-does c nodes = does_same nodes 6 _ _ c.args.state.now c.throw.new.self c.throw.result (native_by c.args.id c.args.receiver.now c.args.arguments.now ∙ ap (λ f. native_row module_of f c.args.receiver.now c.args.arguments.now) (sym c.of.ensures ∙ c.in-None.is)) (c.throw.ensures.many nodes)

pub returns-in-Some-clause-closed : goal.returns-in-Some-clause-closed
returns-in-Some-clause-closed c nodes closed receiver arguments = c.called.ensures.closed nodes closed

pub returns-in-None-clause-closed : goal.returns-in-None-clause-closed
returns-in-None-clause-closed c nodes closed receiver arguments = c.throw.ensures.closed nodes closed
