-- The numbers that a line may have.
use Rattle.std.specs.Prelude.{◌≡◌, ℕ, ◌≤◌}
use Rattle.world_kind.specs.declared.WorldKind.{WorldKind}
use Rattle.world_kind.specs.declared.WorldKind.TheVariants.{Main, Preload, Page}
use Rattle.event_script.specs.declared.line.LineKind.{LineKind}
use Rattle.event_script.specs.declared.line.LineKind.TheVariants.{Step, Drain, Event, Reload, Close}

-- There are at most eight windows.
abbrev pub IsWindow : ℕ → Type 0
IsWindow number = (1 ≤ number) × (number ≤ 8)

-- The main world has window 0.
abbrev pub IsWorld : WorldKind → ℕ → Type 0
IsWorld Main number = number ≡ 0
IsWorld Preload number = IsWindow number
IsWorld Page number = IsWindow number

abbrev pub IsAllowed : LineKind → Type 0
IsAllowed (Step process) = process ≤ 8
IsAllowed (Drain count) = count ≤ 10000
IsAllowed (Event kind number name text) = IsWorld kind number
IsAllowed (Reload number) = IsWindow number
IsAllowed (Close number) = IsWindow number
