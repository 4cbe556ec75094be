use Rattle.std.proofs.Common.{refl, ap, ◌∙◌, sym, arith, length, length-append, [], ◌∷◌, ◌+◌}
use Rattle.app_manifest.proofs.Stopping.{Rose-after}
use Rattle.app_manifest.proofs.Windows.{start, turn, stops}
use Rattle.app_manifest.proofs.reading.read_windows.Goals as goal

pub plans-init : goal.plans-init
plans-init g c = record {
  files = refl;
  later = omega arith;
  many = ap length c.new-windows.ensures;
  read = start (g.F.Folder.files c.args.folder.now) c.args.app.now c.args.plans.now c.new-windows.result c.new-windows.ensures;
}

pub returns-in-Err-clause-err : goal.returns-in-Err-clause-err
returns-in-Err-clause-err g c =
    let l = c.plans in
    stops (g.F.Folder.files c.args.folder.now) c.args.app.now c.args.plans.now l.plan-index c.plan-item.result (omega arith) c.plan-item.is
    _ _ l.invariant.read _ _ (Rose-after _ _ _ l.invariant.later) c.in-Err.fault
    (rw l.invariant.files at c.in-Err.ensures.err)

pub plans-preserved : goal.plans-preserved
plans-preserved g c =
    let l = c.plans in
    record {
      files = c.in-Ok.ensures.files ∙ l.invariant.files;
      later = omega (arith, l.invariant.later, c.in-Ok.ensures.later);
      many = ap length c.in_ok-push-in-Ok.ensures.ok ∙ (length-append l.windows (c.in-Ok.window ∷ []) ∙ ap (λ n. n + 1) l.invariant.many);
      read = turn (g.F.Folder.files c.args.folder.now) c.args.app.now c.args.plans.now l.plan-index c.plan-item.result (omega arith) c.plan-item.is
          l.windows l.invariant.read c.in-Ok.window (rw l.invariant.files at c.in-Ok.ensures.ok) _ c.in_ok-push-in-Ok.ensures.ok;
    }
