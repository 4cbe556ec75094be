use Rattle.std.proofs.Common.{◌≡◌, ◌≤◌, map, flat_map, length, take}
use Rattle.app_manifest.specs.App.{window_scripts, window_texts}
use Rattle.app_manifest.specs.Clauses.{Reads, window_read}
use Rattle.app_manifest.proofs.reading.read_windows.Given as goal

-- The scripts of the windows so far were read.
abbrev pub invariant-plans : goal.invariant-plans
invariant-plans g l = record {
  files : g.F.Folder.files l.folder ≡ g.F.Folder.files l.fn.folder;
  later : g.F.Folder.faults l.fn.folder ≤ g.F.Folder.faults l.folder;
  many : length l.windows ≡ l.plan-index;
  read : Reads (g.F.Folder.files l.fn.folder) l.app (flat_map window_scripts (take l.plan-index l.plans))
      (λ files. map (window_texts files l.app) (take l.plan-index l.plans)) (map window_read l.windows);
}
