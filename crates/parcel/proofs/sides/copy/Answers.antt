use Rattle.std.proofs.Common.{◌∙◌, refl}
use Rattle.parcel.specs.Turn.{side_by}
use Rattle.parcel.specs.declared.sides.Turn.TheVariants.{Kept}
use Rattle.parcel.proofs.Turning.{turned-kept}
use Rattle.parcel.proofs.sides.copy.Goals as goal

pub returns : goal.returns
returns c = c.in_ok-copy.ensures ∙ turned-kept (side_by Kept) (λ side. refl) c.args.parcel.now
