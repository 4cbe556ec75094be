-- Window by window: the log by recursion is the one lawful log.
use Rattle.std.proofs.Common.{◌≡◌, ℕ, ◌+◌, ◌<◌, ◌≤◌, Bool, true, false, List, [], ◌∷◌, ◌++◌, ap, sym, ◌∙◌, refl, arith, append_assoc, subst}
use Rattle.std.specs.Prelude.{◌&&◌, ◌||◌, nat_eq, if◌then◌else◌}
use Rattle.std.specs.List.{list_any}
use Rattle.std.proofs.lemmas.List.{append-nil}
use Rattle.std.proofs.lemmas.List.Folds.{list_any-append}
use Rattle.world_log.specs.declared.entry.LogItem.{LogItem}
use Rattle.world_log.specs.declared.entry.WorldName.{WorldName}
use Rattle.world_log.specs.Print.{main_name}
use Rattle.js_semantics.specs.Alone.{alone, alone_by, trace_of}
use Rattle.js_semantics.specs.Run.{run}
use Rattle.app_engine.specs.Log.{Application, Due, Lawful, Part, WindowScripts, deliveries, ends, has_ended, is_loaded, is_stop, last, log_of, logged, page_log, page_name, preload_name, same_kind, same_world, transcript, window_log, window_worlds, windows_log, worlds_of}
use Rattle.app_engine.specs.Laws.{IsOnlyLog}
use Rattle.app_engine.proofs.Parts.{ended-append, ends-other, ends-own, number_self}
use Rattle.app_engine.proofs.Played.{Apart, Stands, Unnamed, due_here, load_next, pass_next}
use Rattle.app_engine.proofs.Unique.{at_most_one}

-- ---- names of windows

pub differ : (x v : WorldName) → nat_eq x.window v.window ≡ false → same_world x v ≡ false
unfolding same_world
differ x v h =
    ap (λ (b : Bool). same_kind x.kind v.kind && (b && nat_eq x.generation v.generation)) h ∙ and_false (same_kind x.kind v.kind)
  where
    and_false : (a : Bool) → (a && false) ≡ false
    and_false true = refl
    and_false false = refl

pub apart_numbers : (n m : ℕ) → m < n → nat_eq n m ≡ false
apart_numbers n m h = grind arith

pub later_numbers : (n m : ℕ) → n < m → nat_eq n m ≡ false
later_numbers n m h = grind arith

-- a world stands apart from those of later windows
apart_windows : (v : WorldName) (n : ℕ) (windows : List WindowScripts) → v.window < n → Apart v (window_worlds n windows)
apart_windows v n [] h = tt
apart_windows v n (window ∷ windows) h =
    (differ (preload_name n) v (apart_numbers n v.window h), (differ (page_name n) v (apart_numbers n v.window h), apart_windows v (n + 1) windows (omega (arith, h))))

pub page_apart : (n : ℕ) → same_world (page_name n) (preload_name n) ≡ false
unfolding same_world
page_apart n = refl

pub preload_apart : (n : ℕ) → same_world (preload_name n) (page_name n) ≡ false
unfolding same_world
preload_apart n = refl

-- ---- no process from a number on has ended

Quiet : ℕ → List LogItem → Type 0
Quiet n log = (m : ℕ) → n ≤ m → has_ended m log ≡ false

quiet_page : (app : Application) (n m : ℕ) (b : Bool) → nat_eq n m ≡ false → list_any (ends m) (if b then [] else logged (page_name n) (transcript app (page_name n))) ≡ false
quiet_page app n m true h = refl
quiet_page app n m false h = ends-other m (page_name n) (transcript app (page_name n)) h

quiet_window : (app : Application) (n m : ℕ) → nat_eq n m ≡ false → list_any (ends m) (window_log app n) ≡ false
unfolding window_log
quiet_window app n m h =
    list_any-append (ends m) (logged (preload_name n) (transcript app (preload_name n))) (page_log app n)
    ∙ ap (λ (b : Bool). b || list_any (ends m) (page_log app n)) (ends-other m (preload_name n) (transcript app (preload_name n)) h)
    ∙ quiet_page app n m (list_any is_stop (transcript app (preload_name n))) h

quiet_after : (app : Application) (n : ℕ) (log : List LogItem) → Quiet n log → Quiet (n + 1) (log ++ window_log app n)
unfolding Quiet
quiet_after app n log q m above =
    ended-append m log (window_log app n)
    ∙ ap (λ (b : Bool). b || list_any (ends m) (window_log app n)) (q m (omega (arith, above)))
    ∙ quiet_window app n m (later_numbers n m (omega (arith, above)))

-- ---- one window

abbrev Window : Application → List LogItem → ℕ → List WorldName → Type 0
Window app log n ws = Stands app log (preload_name n ∷ page_name n ∷ ws)

-- the page, where the preload has stopped or not
page_stands : (app : Application) (log : List LogItem) (n : ℕ) (ws : List WorldName) (b : Bool) → Stands app log (page_name n ∷ ws) → Apart (page_name n) ws → has_ended n log ≡ b
    → Stands app (log ++ (if b then [] else logged (page_name n) (transcript app (page_name n)))) ws
page_stands app log n ws true s apart ended = subst (λ (zs : List LogItem). Stands app zs ws) (sym (append-nil log)) (pass_next app log (page_name n) ws s ended)
page_stands app log n ws false s apart lives = load_next app log (page_name n) ws s apart lives

window_stands : (app : Application) (log : List LogItem) (n : ℕ) (ws : List WorldName) → Window app log n ws → Apart (preload_name n) (page_name n ∷ ws) → Apart (page_name n) ws → Quiet n log
    → Stands app (log ++ window_log app n) ws
unfolding Quiet window_log
window_stands app log n ws s first second q =
    let es = transcript app (preload_name n) in
    let lives : has_ended n log ≡ false = q n (omega arith) in
    let loaded : Stands app (log ++ logged (preload_name n) es) (page_name n ∷ ws) = load_next app log (preload_name n) (page_name n ∷ ws) s first lives in
    let ended : has_ended n (log ++ logged (preload_name n) es) ≡ list_any is_stop es =
    ended-append n log (logged (preload_name n) es)
    ∙ ap (λ (b : Bool). b || list_any (ends n) (logged (preload_name n) es)) lives
    ∙ ends-own n (preload_name n) es (number_self n) in
    subst (λ (zs : List LogItem). Stands app zs ws) (append_assoc log (logged (preload_name n) es) (page_log app n))
    (page_stands app (log ++ logged (preload_name n) es) n ws (list_any is_stop es) loaded second ended)

windows_stand : (app : Application) (log : List LogItem) (n : ℕ) (windows : List WindowScripts) → Stands app log (window_worlds n windows) → Quiet n log
    → Stands app (log ++ windows_log app n windows) []
windows_stand app log n [] s q = subst (λ (zs : List LogItem). Stands app zs []) (sym (append-nil log)) s
windows_stand app log n (window ∷ windows) s q =
    let ws = window_worlds (n + 1) windows in
    let next : Stands app (log ++ window_log app n) ws =
    window_stands app log n ws s (page_apart n, apart_windows (preload_name n) (n + 1) windows (omega arith)) (apart_windows (page_name n) (n + 1) windows (omega arith)) q in
    subst (λ (zs : List LogItem). Stands app zs []) (append_assoc log (window_log app n) (windows_log app (n + 1) windows))
    (windows_stand app (log ++ window_log app n) (n + 1) windows next (quiet_after app n log q))

-- ---- the whole log

none_named : (ws : List WorldName) → Unnamed ws []
unfolding Part is_loaded
none_named [] = tt
none_named (w ∷ ws) = (refl, refl, none_named ws)

start_stands : (app : Application) → Stands app [] (worlds_of app)
unfolding Part Due last deliveries alone alone_by trace_of run
start_stands app = record {
  parts = λ w. refl;
  follows = tt;
  over = refl;
  reached = λ more. refl;
  unnamed = none_named (worlds_of app);
}

main_stands : (app : Application) → Stands app (logged main_name (transcript app main_name)) (window_worlds 1 app.windows)
unfolding worlds_of has_ended
main_stands app = load_next app [] main_name (window_worlds 1 app.windows) (start_stands app) (apart_windows main_name 1 app.windows (omega arith)) refl

main_quiet : (app : Application) → Quiet 1 (logged main_name (transcript app main_name))
unfolding Quiet has_ended
main_quiet app m above = ends-other m main_name (transcript app main_name) (later_numbers 0 m (omega (arith, above)))

log_stands : (app : Application) → Stands app (log_of app) []
unfolding log_of
log_stands app = windows_stand app (logged main_name (transcript app main_name)) 1 app.windows (main_stands app) (main_quiet app)

pub log_lawful : (app : Application) → Lawful app (log_of app)
log_lawful app = let s = log_stands app in record { parts = s.parts; follows = s.follows; ended = due_here app (log_of app) [] s }

pub only_log : IsOnlyLog
unfolding IsOnlyLog
only_log app log = (λ lawful. at_most_one app log (log_of app) lawful (log_lawful app), λ e. subst (Lawful app) (sym e) (log_lawful app))
