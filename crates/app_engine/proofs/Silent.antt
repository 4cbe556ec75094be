-- Pieces of a log that say nothing of a window.
use Rattle.std.proofs.Common.{◌≡◌, ℕ, ◌+◌, ◌≤◌, ◌<◌, Bool, true, false, List, [], ◌∷◌, ◌++◌, ap, ◌∙◌, refl, arith}
use Rattle.std.specs.Prelude.{◌||◌, if◌then◌else◌, nat_eq}
use Rattle.std.specs.List.{list_any}
use Rattle.std.proofs.lemmas.Grind.{flat_map-append}
use Rattle.std.proofs.lemmas.List.{append-nil}
use Rattle.std.proofs.lemmas.List.Folds.{list_any-append}
use Rattle.world_log.specs.declared.entry.Entry.{Entry}
use Rattle.world_log.specs.declared.entry.LogItem.{LogItem}
use Rattle.world_log.specs.declared.entry.WorldName.{WorldName}
use Rattle.app_engine.specs.Log.{Application, Part, WindowScripts, ends, entries_of, has_ended, is_stop, logged, page_log, page_name, preload_name, transcript, window_log, windows_log}
use Rattle.app_engine.proofs.Parts.{ends-other, part-other}
use Rattle.app_engine.proofs.Windows.{apart_numbers, differ, later_numbers}

-- nothing is said of the process and its worlds
pub record Silent (n : ℕ) (log : List LogItem) : Type 0 where
  pub quiet : list_any (ends n) log ≡ false
  pub empty : (v : WorldName) → v.window ≡ n → Part v log ≡ []

-- of no process from a number on
abbrev pub Ahead : ℕ → List LogItem → Type 0
Ahead n log = (m : ℕ) → n ≤ m → Silent m log

pub part_twice : (v : WorldName) (xs ys : List LogItem) → Part v (xs ++ ys) ≡ Part v xs ++ Part v ys
unfolding Part
part_twice v xs ys = flat_map-append (entries_of v) xs ys

silent_append : (n : ℕ) (xs ys : List LogItem) → Silent n xs → Silent n ys → Silent n (xs ++ ys)
silent_append n xs ys s t = record {
  quiet = list_any-append (ends n) xs ys ∙ ap (λ (b : Bool). b || list_any (ends n) ys) s.quiet ∙ t.quiet;
  empty = λ v e. part_twice v xs ys ∙ ap (λ (es : List Entry). es ++ Part v ys) (s.empty v e) ∙ t.empty v e;
}

pub silent_nothing : (n : ℕ) → Silent n []
unfolding Part
silent_nothing n = record { quiet = refl; empty = λ v e. refl }

pub silent_other : (n : ℕ) (w : WorldName) (es : List Entry) → nat_eq w.window n ≡ false → nat_eq n w.window ≡ false → Silent n (logged w es)
unfolding Part
silent_other n w es h g = record {
  quiet = ends-other n w es h;
  empty = λ v e. part-other v w [] es (differ v w (ap (λ (m : ℕ). nat_eq m w.window) e ∙ g));
}

silent_page : (app : Application) (n k : ℕ) (b : Bool) → nat_eq k n ≡ false → nat_eq n k ≡ false → Silent n (if b then [] else logged (page_name k) (transcript app (page_name k)))
silent_page app n k true h g = silent_nothing n
silent_page app n k false h g = silent_other n (page_name k) (transcript app (page_name k)) h g

silent_window : (app : Application) (n k : ℕ) → nat_eq k n ≡ false → nat_eq n k ≡ false → Silent n (window_log app k)
unfolding window_log
silent_window app n k h g =
    silent_append n (logged (preload_name k) (transcript app (preload_name k))) (page_log app k)
    (silent_other n (preload_name k) (transcript app (preload_name k)) h g) (silent_page app n k (list_any is_stop (transcript app (preload_name k))) h g)

-- later windows say nothing of this one
pub silent_later : (app : Application) (n k : ℕ) (windows : List WindowScripts) → n < k → Silent n (windows_log app k windows)
silent_later app n k [] below = silent_nothing n
silent_later app n k (window ∷ windows) below =
    silent_append n (window_log app k) (windows_log app (k + 1) windows)
    (silent_window app n k (apart_numbers k n below) (later_numbers n k below)) (silent_later app n (k + 1) windows (omega (arith, below)))

pub ahead_window : (app : Application) (n : ℕ) (before : List LogItem) → Ahead n before → Ahead (n + 1) (before ++ window_log app n)
ahead_window app n before a m above =
    silent_append m before (window_log app n) (a m (omega (arith, above)))
    (silent_window app m n (later_numbers n m (omega (arith, above))) (apart_numbers m n (omega (arith, above))))

or_false : (a : Bool) → (a || false) ≡ a
or_false true = refl
or_false false = refl

-- ---- a log with one piece that speaks of the process

module _ (n : ℕ) (before piece after : List LogItem) (s : Silent n before) (t : Silent n after) where
  pub ended_is : has_ended n (before ++ (piece ++ after)) ≡ list_any (ends n) piece
  unfolding has_ended
  ended_is =
      list_any-append (ends n) before (piece ++ after)
      ∙ ap (λ (b : Bool). b || list_any (ends n) (piece ++ after)) s.quiet
      ∙ list_any-append (ends n) piece after
      ∙ ap (λ (b : Bool). list_any (ends n) piece || b) t.quiet
      ∙ or_false (list_any (ends n) piece)

  pub part_is : (v : WorldName) → v.window ≡ n → Part v (before ++ (piece ++ after)) ≡ Part v piece
  part_is v e =
      part_twice v before (piece ++ after)
      ∙ ap (λ (es : List Entry). es ++ Part v (piece ++ after)) (s.empty v e)
      ∙ part_twice v piece after
      ∙ ap (λ (es : List Entry). Part v piece ++ es) (t.empty v e)
      ∙ append-nil (Part v piece)
