use Rattle.std.proofs.Common.{◌∙◌, ap, sym, subst, nat_eq}
use Rattle.std.specs.Option.{option_copied}
use Rattle.world_heap.specs.Heaps.{IsNoEnv}
use Rattle.world_heap.specs.Over.{OptionOver, PropertyOver}
use Rattle.proto_props.proofs.Fitting.{over_found}
use Rattle.proto_props.proofs.get.body_told.Goals as goal

pub returns-in-Some-clause-fits : goal.returns-in-Some-clause-fits
returns-in-Some-clause-fits c cells over =
    c.told.ensures.fits cells (subst (OptionOver (PropertyOver (IsNoEnv nat_eq cells))) (sym c.get.ensures ∙ ap option_copied c.in-Some.is) (over_found (PropertyOver (IsNoEnv nat_eq cells)) c.args.body.now.properties c.args.key.now over))
