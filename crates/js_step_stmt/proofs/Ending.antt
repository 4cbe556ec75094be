-- The end of a task, and what is told of an uncaught value.
use Rattle.std.proofs.Common.{◌≡◌, ◌+◌, ◌*◌, List, [], ◌∷◌, sym, ap, ◌∙◌, arith}
use Rattle.js_tree.specs.declared.node.Node.{Node}
use Rattle.js_semantics.specs.declared.mode.Mode.{Mode}
use Rattle.world_log.specs.declared.entry.Product.{Product}
use Rattle.js_semantics.specs.Prog.{Make}
use Rattle.js_semantics.specs.Run.{at_rest, run}
use Rattle.js_machine.specs.declared.state.State.{State}
use Rattle.js_machine.specs.declared.state.Control.TheVariants as controls
use Rattle.js_machine.specs.declared.state.Next.TheVariants.{Go, Made}
use Rattle.js_machine.specs.Does.{to_come, after, work, left, weights, Does}

pub does_rest : (nodes : List Node) (mode : Mode) (old new : State) → new ≡ record old { control = controls.AtRest mode } → Does nodes 2 (at_rest mode) old new Go
unfolding run
does_rest nodes mode old new is = record {
  law = λ supply ds follows. sym (ap (λ s. to_come nodes supply s ds) is);
  falls = let e : work new ≡ 32 * left old + weights old.frames.items + 1 = ap work is in omega arith;
  keeps = λ supply f. rw is at f;
  stays = ap (λ s. s.heap) is ∙ sym (ap (λ s. record old.heap { cells = s.heap.cells; counts = s.heap.counts }) is);
}

pub does_tell : (nodes : List Node) (mode : Mode) (product : Product) (old new : State) → new ≡ record old { control = controls.AtRest mode } → Does nodes 2 (Make product (at_rest mode)) old new (Made product)
unfolding run
does_tell nodes mode product old new is = record {
  law = λ supply ds follows. sym (ap (λ s. after (product ∷ []) (to_come nodes supply s ds)) is);
  falls = let e : work new ≡ 32 * left old + weights old.frames.items + 1 = ap work is in omega arith;
  keeps = λ supply f. rw is at f;
  stays = ap (λ s. s.heap) is ∙ sym (ap (λ s. record old.heap { cells = s.heap.cells; counts = s.heap.counts }) is);
}
