-- A new world takes its load.
use Rattle.std.proofs.Common.{◌≡◌, ℕ, true, List, [], ◌∷◌, length, drop, sym, ◌∙◌, subst}
use Rattle.world_heap.specs.Views.{PoolView}
use Rattle.world_log.specs.declared.entry.Delivery.TheVariants.{Load}
use Rattle.world_log.specs.declared.entry.Entry.{Entry}
use Rattle.js_semantics.specs.Run.{Arrival, Setting}
use Rattle.js_semantics.specs.Alone.{alone}
use Rattle.world_machine.specs.World.{IsBegun, IsComing, IsIn, IsSpared, Passes, Rests}
use Rattle.world_machine.specs.declared.world.World.{World}
use Rattle.world_machine.proofs.Passing.{all_made}
use Rattle.app_engine.specs.Log.{first_load}
use Rattle.app_engine.specs.Live.{Joins, behind_load}

abbrev arrival : Arrival
arrival = record { fresh = true; what = Load }

module _ (setting : Setting) (cells : List Arrival → ℕ) (before between after : PoolView) (world loaded : World) (made : List Entry)
    (b : IsBegun (alone setting) cells before world between) (p : Passes (arrival ∷ []) made world between loaded after) (r : Rests loaded after) where
  -- what it makes is all that it makes alone of its load
  made_all : alone setting first_load ≡ made
  made_all = all_made (arrival ∷ []) made world loaded between after p r (alone setting) b.comes

  spared : (w : World) → IsIn w before → IsSpared w before between × IsSpared w between after
  spared w stands =
      let first = b.spares w (b.apart w stands) stands in
      (first, p.spares w (b.apart w stands) first.stands)

  pub joins : Joins (behind_load setting) before loaded after
  unfolding behind_load
  joins = record {
    stands = r.stands;
    comes = subst (λ (es : List Entry). IsComing loaded after (λ ds. drop (length es) (alone setting (arrival ∷ ds)))) (sym made_all) (p.comes (alone setting) b.comes);
    apart = λ w stands e. b.apart w stands (e ∙ p.owner);
    stay = λ w stands. (spared w stands).1.stands;
    come = λ w more stands h. (spared w stands).1.comes more ((spared w stands).0.comes more h);
    given = p.given ∙ b.given;
    count = p.count ∙ b.count;
  }
