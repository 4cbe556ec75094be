use Rattle.std.proofs.Common.{◌≡◌, ◌++◌, length, drop}
use Rattle.serde_json.specs.View.{items_view}
use Rattle.app_manifest.specs.Manifest.{each_window_broken, each_window_said}
use Rattle.app_manifest.proofs.manifest.each_window_of.Given as goal

-- What was read so far stands in front of what the rest says, and no key of it is broken.
abbrev pub invariant-windows : goal.invariant-windows
invariant-windows l = record {
  many : length l.plans ≡ l.window-index;
  broken : each_window_broken 0 (items_view l.fn.windows) ≡ each_window_broken (length l.plans) (items_view (drop l.window-index l.windows));
  said : each_window_said (items_view l.fn.windows) ≡ l.plans ++ each_window_said (items_view (drop l.window-index l.windows));
}
