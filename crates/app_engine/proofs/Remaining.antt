-- The worlds that are kept are those whose process hasn't ended in the log, with what is to come behind their part of it.
use Rattle.std.proofs.Common.{◌≡◌, ℕ, ◌+◌, Bool, true, false, List, [], ◌∷◌, ◌++◌, length, drop, map, ap, sym, ◌∙◌, refl, arith, append_assoc, subst}
use Rattle.std.specs.Prelude.{◌||◌, if◌then◌else◌, not, filter}
use Rattle.std.specs.List.{list_any}
use Rattle.std.proofs.lemmas.List.{append-nil}
use Rattle.std.proofs.lemmas.List.Folds.{list_any-append}
use Rattle.world_kind.specs.declared.WorldKind.TheVariants.{Main, Preload, Page}
use Rattle.world_heap.specs.declared.limits.Limits.{Limits}
use Rattle.world_heap.specs.Bounded.{bounds_of}
use Rattle.js_tree.specs.Nodes.{Nodes}
use Rattle.world_log.specs.Print.{main_name}
use Rattle.world_log.specs.declared.entry.Entry.{Entry}
use Rattle.world_log.specs.declared.entry.LogItem.{LogItem}
use Rattle.world_log.specs.declared.entry.WorldName.{WorldName}
use Rattle.js_semantics.specs.Run.{Setting}
use Rattle.js_semantics.specs.Alone.{alone}
use Rattle.app_manifest.specs.declared.app.App.{App}
use Rattle.app_manifest.specs.declared.app.WindowApp.{WindowApp}
use Rattle.app_engine.specs.Log.{Application, Part, deliveries, ends, first_load, has_ended, is_stop, log_of, logged, page_log, page_name, preload_name, process_of, same_world, setting_of, transcript, window_log, window_worlds, windows_log, worlds_of}
use Rattle.app_engine.specs.Machines.{world_setting}
use Rattle.app_engine.specs.Applications.{application_of, window_of}
use Rattle.app_engine.specs.Live.{Keeps, Owed, behind_load, lives_in, main_owed, owed_behind, owed_in, window_owed, windows_owed}
use Rattle.app_engine.specs.declared.kept.Kept.{Kept}
use Rattle.app_engine.proofs.Parts.{ends-own, number_self, part-other, part-own}
use Rattle.app_engine.proofs.Played.{transcript_takes}
use Rattle.app_engine.proofs.Windows.{page_apart, preload_apart, later_numbers, apart_numbers}
use Rattle.app_engine.proofs.Pieces.{number_past, page_set, preload_set, transcript_is, window_found, windows_past}
use Rattle.app_engine.proofs.Owing.{main_is, owing, page_owed, page_stops, preload_owed, preload_stops, window_is}
use Rattle.app_engine.proofs.Silent.{Ahead, Silent, ahead_window, ended_is, part_is, part_twice, silent_later, silent_nothing, silent_other}

-- ---- one world

owed_is : (app : Application) (log : List LogItem) (w : WorldName) (setting : Setting) → setting_of app w ≡ setting → Part w log ≡ transcript app w → owed_behind app log w ≡ (w, behind_load setting)
unfolding owed_behind behind_load
owed_is app log w setting s p =
    let made : Part w log ≡ alone setting first_load = p ∙ transcript_is app w setting s in
    let taken : deliveries (Part w log) ≡ first_load = ap deliveries p ∙ transcript_takes app w in
    λ i. (w, λ ds. drop (length (made i)) (alone (s i) (taken i ++ ds)))

lives_at : (log : List LogItem) (w : WorldName) (b : Bool) → has_ended (process_of w) log ≡ b → lives_in log w ≡ not b
unfolding lives_in
lives_at log w b e = ap not e

own_part : (w : WorldName) (es : List Entry) → Part w (logged w es) ≡ es
unfolding Part
own_part w es = part-own w [] es

other_part : (v w : WorldName) (es : List Entry) → same_world v w ≡ false → Part v (logged w es) ≡ []
unfolding Part
other_part v w es h = part-other v w [] es h

-- ---- main

one_filtered : (log : List LogItem) (w : WorldName) (ws : List WorldName) (b : Bool) → lives_in log w ≡ b
    → filter (lives_in log) (w ∷ ws) ≡ (if b then w ∷ filter (lives_in log) ws else filter (lives_in log) ws)
one_filtered log w ws b e = ap (λ (x : Bool). if x then w ∷ filter (lives_in log) ws else filter (lives_in log) ws) e

module _ (app : Application) (limits : Limits) (script : Nodes) (p : setting_of app main_name ≡ world_setting Main limits script)
    (after : List LogItem) (t : Silent 0 after) (ws : List WorldName) where
  abbrev log : List LogItem
  log = logged main_name (transcript app main_name) ++ after

  abbrev others : List Owed
  others = map (owed_behind app log) (filter (lives_in log) ws)

  main_ended : has_ended 0 log ≡ list_any is_stop (transcript app main_name)
  main_ended = ended_is 0 [] (logged main_name (transcript app main_name)) after (silent_nothing 0) t ∙ ends-own 0 main_name (transcript app main_name) (number_self 0)

  main_part : Part main_name log ≡ transcript app main_name
  main_part = part_is 0 [] (logged main_name (transcript app main_name)) after (silent_nothing 0) t main_name refl ∙ own_part main_name (transcript app main_name)

  main_by : (b : Bool) → list_any is_stop (transcript app main_name) ≡ b → map (owed_behind app log) (filter (lives_in log) (main_name ∷ ws)) ≡ main_owed limits script ++ others
  main_by b e = by b (sym e ∙ ap (λ (es : List Entry). list_any is_stop es) (transcript_is app main_name _ p)) (lives_at log main_name b (main_ended ∙ e))
    where
      by : (b : Bool) → b ≡ list_any is_stop (alone (world_setting Main limits script) first_load) → lives_in log main_name ≡ not b
          → map (owed_behind app log) (filter (lives_in log) (main_name ∷ ws)) ≡ main_owed limits script ++ others
      by true f lives =
          ap (λ (vs : List WorldName). map (owed_behind app log) vs) (one_filtered log main_name ws false lives)
          ∙ ap (λ (os : List Owed). os ++ others) (main_is limits script true f)
      by false f lives =
          ap (λ (vs : List WorldName). map (owed_behind app log) vs) (one_filtered log main_name ws true lives)
          ∙ ap (λ (o : Owed). o ∷ others) (owed_is app log main_name (world_setting Main limits script) p main_part)
          ∙ ap (λ (os : List Owed). os ++ others) (main_is limits script false f)

  pub main_remains : map (owed_behind app log) (filter (lives_in log) (main_name ∷ ws)) ≡ main_owed limits script ++ others
  main_remains = main_by (list_any is_stop (transcript app main_name)) refl

-- ---- a window

pair_filtered : (log : List LogItem) (v w : WorldName) (ws : List WorldName) (b : Bool) → lives_in log v ≡ b → lives_in log w ≡ b
    → filter (lives_in log) (v ∷ w ∷ ws) ≡ (if b then v ∷ w ∷ filter (lives_in log) ws else filter (lives_in log) ws)
pair_filtered log v w ws true e f =
    let fs = filter (lives_in log) ws in
    λ i. if e i then (v ∷ (if f i then w ∷ fs else fs)) else (if f i then w ∷ fs else fs)
pair_filtered log v w ws false e f =
    let fs = filter (lives_in log) ws in
    λ i. if e i then (v ∷ (if f i then w ∷ fs else fs)) else (if f i then w ∷ fs else fs)

module _ (app : Application) (number : ℕ) (window : WindowApp) (limits : Limits)
    (p : setting_of app (preload_name number) ≡ world_setting Preload limits window.preload.tree)
    (q : setting_of app (page_name number) ≡ world_setting Page limits window.page.tree)
    (before after : List LogItem) (s : Silent number before) (t : Silent number after) (ws : List WorldName) where
  abbrev whole : List LogItem
  whole = before ++ (window_log app number ++ after)

  abbrev rest : List Owed
  rest = map (owed_behind app whole) (filter (lives_in whole) ws)

  abbrev first : List Entry
  first = transcript app (preload_name number)

  abbrev second : List Entry
  second = transcript app (page_name number)

  abbrev Remains : Type 0
  Remains = map (owed_behind app whole) (filter (lives_in whole) (preload_name number ∷ page_name number ∷ ws)) ≡ window_owed limits number window ++ rest

  window_ends : list_any (ends number) (window_log app number) ≡ (list_any is_stop first || list_any (ends number) (page_log app number))
  unfolding window_log
  window_ends =
      list_any-append (ends number) (logged (preload_name number) first) (page_log app number)
      ∙ ap (λ (b : Bool). b || list_any (ends number) (page_log app number)) (ends-own number (preload_name number) first (number_self number))

  -- both worlds have ended
  gone : (b c : Bool) → b ≡ preload_stops limits number window → c ≡ page_stops limits number window → (if b then [] else (if c then [] else preload_owed limits number window ∷ page_owed limits number window ∷ [])) ≡ []
      → has_ended number whole ≡ true → Remains
  gone b c e f none h =
      ap (λ (vs : List WorldName). map (owed_behind app whole) vs)
      (pair_filtered whole (preload_name number) (page_name number) ws false (lives_at whole (preload_name number) true h) (lives_at whole (page_name number) true h))
      ∙ ap (λ (os : List Owed). os ++ rest) (sym none ∙ window_is limits number window b c e f)

  logged_both : list_any is_stop first ≡ false → window_log app number ≡ logged (preload_name number) first ++ logged (page_name number) second
  unfolding window_log
  logged_both e = ap (λ (b : Bool). logged (preload_name number) first ++ (if b then [] else logged (page_name number) second)) e

  preload_part : list_any is_stop first ≡ false → Part (preload_name number) whole ≡ first
  preload_part e =
      part_is number before (window_log app number) after s t (preload_name number) refl
      ∙ ap (Part (preload_name number)) (logged_both e)
      ∙ part_twice (preload_name number) (logged (preload_name number) first) (logged (page_name number) second)
      ∙ ap (λ (es : List Entry). es ++ Part (preload_name number) (logged (page_name number) second)) (own_part (preload_name number) first)
      ∙ ap (λ (es : List Entry). first ++ es) (other_part (preload_name number) (page_name number) second (preload_apart number))
      ∙ append-nil first

  page_part : list_any is_stop first ≡ false → Part (page_name number) whole ≡ second
  page_part e =
      part_is number before (window_log app number) after s t (page_name number) refl
      ∙ ap (Part (page_name number)) (logged_both e)
      ∙ part_twice (page_name number) (logged (preload_name number) first) (logged (page_name number) second)
      ∙ ap (λ (es : List Entry). es ++ Part (page_name number) (logged (page_name number) second)) (other_part (page_name number) (preload_name number) first (page_apart number))
      ∙ own_part (page_name number) second

  page_ends : list_any is_stop first ≡ false → (c : Bool) → list_any is_stop second ≡ c → has_ended number whole ≡ c
  page_ends e c f =
      ended_is number before (window_log app number) after s t
      ∙ window_ends
      ∙ ap (λ (b : Bool). b || list_any (ends number) (page_log app number)) e
      ∙ ap (λ (b : Bool). list_any (ends number) (if b then [] else logged (page_name number) second)) e
      ∙ ends-own number (page_name number) second (number_self number)
      ∙ f

  preload_ends : list_any is_stop first ≡ true → has_ended number whole ≡ true
  preload_ends e =
      ended_is number before (window_log app number) after s t
      ∙ window_ends
      ∙ ap (λ (b : Bool). b || list_any (ends number) (page_log app number)) e

  first_is : (b : Bool) → list_any is_stop first ≡ b → b ≡ preload_stops limits number window
  first_is b e = sym e ∙ ap (λ (es : List Entry). list_any is_stop es) (transcript_is app (preload_name number) _ p)

  second_is : (c : Bool) → list_any is_stop second ≡ c → c ≡ page_stops limits number window
  second_is c f = sym f ∙ ap (λ (es : List Entry). list_any is_stop es) (transcript_is app (page_name number) _ q)

  window_by : (b c : Bool) → list_any is_stop first ≡ b → list_any is_stop second ≡ c → Remains
  window_by true c e f = gone true c (first_is true e) (second_is c f) refl (preload_ends e)
  window_by false true e f = gone false true (first_is false e) (second_is true f) refl (page_ends e true f)
  window_by false false e f =
      ap (λ (vs : List WorldName). map (owed_behind app whole) vs)
      (pair_filtered whole (preload_name number) (page_name number) ws true (lives_at whole (preload_name number) false (page_ends e false f)) (lives_at whole (page_name number) false (page_ends e false f)))
      ∙ ap (λ (o : Owed). o ∷ owed_behind app whole (page_name number) ∷ rest) (owed_is app whole (preload_name number) _ p (preload_part e))
      ∙ ap (λ (o : Owed). preload_owed limits number window ∷ o ∷ rest) (owed_is app whole (page_name number) _ q (page_part e))
      ∙ ap (λ (os : List Owed). os ++ rest) (window_is limits number window false false (first_is false e) (second_is false f))

  window_remains : Remains
  window_remains = window_by (list_any is_stop first) (list_any is_stop second) refl refl

-- ---- the windows

windows_remain : (app : Application) (limits : Limits) (front windows : List WindowApp) (number : ℕ) → app.limits ≡ bounds_of limits → app.windows ≡ map window_of (front ++ windows) → number ≡ length front + 1
    → (before log : List LogItem) → Ahead number before → log ≡ before ++ windows_log app number (map window_of windows)
    → map (owed_behind app log) (filter (lives_in log) (window_worlds number (map window_of windows))) ≡ windows_owed limits number windows
windows_remain app limits front [] number l e n before log a is = refl
windows_remain app limits front (window ∷ windows) number l e n before log a is =
    let found = window_found app front windows number window e n in
    let later = windows_log app (number + 1) (map window_of windows) in
    let whole = before ++ (window_log app number ++ later) in
    subst (λ (zs : List LogItem). map (owed_behind app zs) (filter (lives_in zs) (window_worlds number (window_of window ∷ map window_of windows))) ≡ windows_owed limits number (window ∷ windows)) (sym is)
    (window_remains app number window limits (preload_set app number limits window l found) (page_set app number limits window l found) before later (a number (omega arith)) (silent_later app number (number + 1) (map window_of windows) (omega arith)) (window_worlds (number + 1) (map window_of windows))
    ∙ ap (λ (os : List Owed). window_owed limits number window ++ os)
    (windows_remain app limits (front ++ window ∷ []) windows (number + 1) l (windows_past app front windows window e) (number_past front window number n) (before ++ window_log app number) whole (ahead_window app number before a) (sym (append_assoc before (window_log app number) later))))

main_ahead : (app : Application) → Ahead 1 (logged main_name (transcript app main_name))
main_ahead app m above = silent_other m main_name (transcript app main_name) (later_numbers 0 m (omega (arith, above))) (apart_numbers m 0 (omega (arith, above)))

main_set : (app : App) → setting_of (application_of app) main_name ≡ world_setting Main app.limits app.main.tree
unfolding setting_of application_of
main_set app = refl

limits_set : (app : App) → (application_of app).limits ≡ bounds_of app.limits
unfolding application_of
limits_set app = refl

windows_set : (app : App) → (application_of app).windows ≡ map window_of app.windows
unfolding application_of
windows_set app = refl

remains : (given : Application) (limits : Limits) (script : Nodes) (windows : List WindowApp) → given.limits ≡ bounds_of limits → given.windows ≡ map window_of windows → setting_of given main_name ≡ world_setting Main limits script
    → main_owed limits script ++ windows_owed limits 1 windows ≡ owed_in given (log_of given)
unfolding owed_in worlds_of log_of
remains given limits script windows l e p =
    let made = logged main_name (transcript given main_name) in
    let log = made ++ windows_log given 1 given.windows in
    sym (main_remains given limits script p (windows_log given 1 given.windows) (silent_later given 0 1 given.windows (omega arith)) (window_worlds 1 given.windows)
    ∙ ap (λ (os : List Owed). main_owed limits script ++ os)
    (ap (λ xs. map (owed_behind given log) (filter (lives_in log) (window_worlds 1 xs))) e
    ∙ windows_remain given limits [] windows 1 l e refl made log (main_ahead given) (ap (λ xs. made ++ windows_log given 1 xs) e)))

-- what is kept in the end
pub kept_in_end : (app : App) (kept : Kept) → Keeps (main_owed app.limits app.main.tree ++ windows_owed app.limits 1 app.windows) kept → Keeps (owed_in (application_of app) (log_of (application_of app))) kept
kept_in_end app kept k = owing _ _ kept (remains (application_of app) app.limits app.main.tree app.windows (limits_set app) (windows_set app) (main_set app)) k
