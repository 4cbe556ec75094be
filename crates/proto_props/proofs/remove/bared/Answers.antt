use Rattle.std.proofs.Common.{◌≡◌, ◌∙◌, Some, sym, ap, subst, nat_eq, option_map}
use Rattle.world_heap.specs.Heaps.{IsWell}
use Rattle.world_heap.specs.Bodies.{rebodied}
use Rattle.proto_props.specs.Bared.{bare}
use Rattle.proto_props.proofs.Exchanges.{well_bare}
use Rattle.proto_props.proofs.remove.bared.Goals as goal

pub replace_body-requires-clause-keeps : goal.replace_body-requires-clause-keeps
replace_body-requires-clause-keeps c = λ well.
    let some : Some (bare c.requires.0) ≡ Some c.blank-empty.result = sym (ap (option_map bare) c.requires.1) ∙ c.blank-empty.ensures.is in
    let same : bare c.requires.0 ≡ c.blank-empty.result = cc in
    subst (λ d. IsWell nat_eq (rebodied c.args.heap.now.cells c.args.loc d)) same (well_bare c.args.heap.now.cells c.args.loc c.requires.0 c.requires.1 well)
