use Rattle.std.proofs.Common.{◌≡◌, refl, nat_eq}
use Rattle.world_heap.specs.Heaps.{IsNoEnv}
use Rattle.world_heap.specs.Over.{OptionOver}
use Rattle.js_semantics.specs.Prog.{error_cell}
use Rattle.js_machine.specs.Does.{world_of}
use Rattle.js_machine.proofs.Errors.{error_is, error_free, error_proto}
use Rattle.js_machine.proofs.Closing.{made_as}
use Rattle.js_machine.proofs.state.State.make_error.Goals as goal

pub returns-then-is_prototype : goal.returns-then-is_prototype
returns-then-is_prototype c nodes supply =
    let w = world_of nodes supply c.args.self.now in
    let is : c.error_of.result ≡ error_cell c.args.error c.args.message w =
    rw (c.error_of.ensures, c.error_number.ensures, c.in_ok-properties.ensures, c.built_in-proto.ensures nodes supply, c.error_prototype.ensures, ← error_is c.args.error c.args.message w) refl in
    made_as _ _ c.args.self.now c.make.new.self c.make.result is (error_free c.args.error c.args.message w) c.make.ensures

pub returns-else-is_prototype : goal.returns-else-is_prototype
returns-else-is_prototype c nodes supply fit =
    let w = world_of nodes supply c.args.self.now in
    let there : OptionOver (IsNoEnv nat_eq c.args.self.now.heap.cells) c.built_in-proto.result =
    rw (c.built_in-proto.ensures nodes supply, c.error_prototype.ensures) (error_proto c.args.self.now.heap.cells c.args.error c.args.message w fit) in
    absurd (cc (c.is_prototype.ensures.only there))
