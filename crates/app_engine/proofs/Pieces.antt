-- A text in two pieces, written whole or in front.
use Rattle.std.proofs.Common.{◌≡◌, ℕ, ◌+◌, ◌-◌, ◌<◌, Bool, true, false, List, [], ◌∷◌, ◌++◌, map, length, drop, get_or, Option, Some, ap, sym, ◌∙◌, refl, arith, append_assoc, length-append}
use Rattle.std.specs.Prelude.{if◌then◌else◌, slice_get}
use Rattle.std.specs.List.{list_any}
use Rattle.std.specs.Option.{option_map_or}
use Rattle.std.proofs.lemmas.Grind.{flat_map-append}
use Rattle.std.proofs.lemmas.List.{append-nil, drop_more, map-append, length-map}
use Rattle.std.proofs.lemmas.Option.{slice_get-get_or}
use Rattle.std.proofs.Math.Seq.{get_or-append_seam}
use Rattle.wl_causes.specs.Taking.{with_more, TakesFront}
use Rattle.wl_causes.proofs.Takes.{TakesFront-behind, with_more-none, with_more-twice}
use Rattle.world_kind.specs.declared.WorldKind.TheVariants.{Preload, Page}
use Rattle.world_heap.specs.declared.limits.Limits.{Limits}
use Rattle.world_heap.specs.Bounded.{bounds_of}
use Rattle.world_log.specs.declared.entry.Entry.{Entry}
use Rattle.world_log.specs.declared.entry.LogItem.{LogItem}
use Rattle.world_log.specs.declared.entry.WorldName.{WorldName}
use Rattle.world_log.specs.Print.{main_name, printed, printed_log}
use Rattle.js_semantics.specs.Run.{Setting}
use Rattle.js_semantics.specs.Alone.{alone}
use Rattle.app_manifest.specs.declared.app.App.{App}
use Rattle.app_manifest.specs.declared.app.WindowApp.{WindowApp}
use Rattle.app_engine.specs.Log.{Application, Lawful, WindowScripts, first_load, is_stop, log_of, logged, page_log, page_name, preload_name, setting_of, transcript, window_log, windows_log}
use Rattle.app_engine.specs.Laws.{IsOnlyLog}
use Rattle.app_engine.specs.Machines.{lines_of, world_setting}
use Rattle.app_engine.specs.Applications.{application_of, main_lines, window_lines, window_of, windows_lines}
use Rattle.app_engine.proofs.Windows.{only_log}

pub front_in : (whole a b : List ℕ) (before taken : Option (List ℕ)) → whole ≡ a ++ b → TakesFront a before taken → TakesFront whole before taken
front_in whole a b before taken e t = TakesFront-behind whole [] a b before before taken e (sym (with_more-none before)) t

pub front_after : (whole a b : List ℕ) (before taken more : Option (List ℕ)) → whole ≡ a ++ b → taken ≡ with_more a before → TakesFront b taken more → TakesFront whole before more
front_after whole a b before taken more e w t = TakesFront-behind whole a b [] before taken more (e ∙ ap (λ (xs : List ℕ). a ++ xs) (sym (append-nil b))) w t

pub both_pieces : (whole a b : List ℕ) (before taken more : Option (List ℕ)) → whole ≡ a ++ b → taken ≡ with_more a before → more ≡ with_more b taken → more ≡ with_more whole before
both_pieces whole a b before taken more e w v = v ∙ ap (with_more b) w ∙ with_more-twice a b before ∙ ap (λ (xs : List ℕ). with_more xs before) (sym e)

pub one_piece : (whole a : List ℕ) (before taken : Option (List ℕ)) → whole ≡ a ++ [] → taken ≡ with_more a before → taken ≡ with_more whole before
one_piece whole a before taken e w = w ∙ ap (λ (xs : List ℕ). with_more xs before) (sym (append-nil a) ∙ sym e)

pub front_whole : (text : List ℕ) (before taken : Option (List ℕ)) → taken ≡ with_more text before → TakesFront text before taken
front_whole text before taken e = (text, [], sym (append-nil text), e)

-- ---- a window's lines

pub window_is : (limits : Limits) (number : ℕ) (window : WindowApp) (b : Bool) → b ≡ list_any is_stop (alone (world_setting Preload limits window.preload.tree) first_load)
    → window_lines limits number window ≡ lines_of (preload_name number) (alone (world_setting Preload limits window.preload.tree) first_load) ++ (if b then [] else lines_of (page_name number) (alone (world_setting Page limits window.page.tree) first_load))
unfolding window_lines
window_is limits number window b e =
    ap (λ (x : Bool). lines_of (preload_name number) (alone (world_setting Preload limits window.preload.tree) first_load) ++ (if x then [] else lines_of (page_name number) (alone (world_setting Page limits window.page.tree) first_load))) (sym e)

-- the windows so far, and those that follow
pub record WindowsWritten (limits : Limits) (first now : List WindowApp) (number : ℕ) (before taken : Option (List ℕ)) : Type 0 where
  pub text : List ℕ
  pub whole : windows_lines limits 1 first ≡ text ++ windows_lines limits number now
  pub was : taken ≡ with_more text before

pub windows_first : (limits : Limits) (first : List WindowApp) (before : Option (List ℕ)) → WindowsWritten limits first first 1 before before
windows_first limits first before = record { text = []; whole = refl; was = sym (with_more-none before) }

following : (limits : Limits) (first now after : List WindowApp) (number : ℕ) (window : WindowApp) (before taken : Option (List ℕ)) → now ≡ window ∷ after
    → (w : WindowsWritten limits first now number before taken) → windows_lines limits 1 first ≡ w.text ++ (window_lines limits number window ++ windows_lines limits (number + 1) after)
following limits first now after number window before taken e w = w.whole ∙ ap (λ (xs : List WindowApp). w.text ++ windows_lines limits number xs) e

pub windows_next : (limits : Limits) (first now after : List WindowApp) (number : ℕ) (window : WindowApp) (before taken more : Option (List ℕ)) → now ≡ window ∷ after
    → WindowsWritten limits first now number before taken → more ≡ with_more (window_lines limits number window) taken → WindowsWritten limits first after (number + 1) before more
windows_next limits first now after number window before taken more e w m = record {
  text = w.text ++ window_lines limits number window;
  whole = following limits first now after number window before taken e w ∙ sym (append_assoc w.text (window_lines limits number window) (windows_lines limits (number + 1) after));
  was = m ∙ ap (with_more (window_lines limits number window)) w.was ∙ with_more-twice w.text (window_lines limits number window) before;
}

pub windows_front : (limits : Limits) (first now after : List WindowApp) (number : ℕ) (window : WindowApp) (before taken more : Option (List ℕ)) → now ≡ window ∷ after
    → WindowsWritten limits first now number before taken → TakesFront (window_lines limits number window) taken more → TakesFront (windows_lines limits 1 first) before more
windows_front limits first now after number window before taken more e w t =
    TakesFront-behind _ w.text (window_lines limits number window) (windows_lines limits (number + 1) after) before taken more (following limits first now after number window before taken e w) w.was t

pub windows_all : (limits : Limits) (first now : List WindowApp) (number : ℕ) (before taken : Option (List ℕ)) → now ≡ [] → WindowsWritten limits first now number before taken
    → taken ≡ with_more (windows_lines limits 1 first) before
windows_all limits first now number before taken e w =
    w.was ∙ ap (λ (xs : List ℕ). with_more xs before) (sym (w.whole ∙ ap (λ (xs : List WindowApp). w.text ++ windows_lines limits number xs) e ∙ append-nil w.text))

-- an item of a list, and what follows it
pub item_then : {A : Type 0} (xs : List A) (i : ℕ) (x : A) → i < length xs → x ≡ get_or xs i x → drop i xs ≡ x ∷ drop (i + 1) xs
item_then xs i x below e = drop_more xs i x below ∙ ap (λ y. y ∷ drop (i + 1) xs) (sym e)

-- ---- the lines of the whole log

found_behind : {A : Type 0} (xs ys : List A) (y : A) → slice_get (xs ++ y ∷ ys) (length xs) ≡ Some y
found_behind xs ys y =
    let below : length xs < length (xs ++ y ∷ ys) = omega (arith, length-append xs (y ∷ ys)) in
    slice_get-get_or (xs ++ y ∷ ys) (length xs) y below ∙ ap Some (get_or-append_seam xs y ys y)

log_twice : (xs ys : List LogItem) → printed_log (xs ++ ys) ≡ printed_log xs ++ printed_log ys
unfolding printed_log
log_twice xs ys = flat_map-append printed xs ys

-- what a script's world is made of, by its place among the windows
pub preload_set : (app : Application) (number : ℕ) (limits : Limits) (window : WindowApp) → app.limits ≡ bounds_of limits → slice_get app.windows (number - 1) ≡ Some (window_of window)
    → setting_of app (preload_name number) ≡ world_setting Preload limits window.preload.tree
unfolding setting_of
preload_set app number limits window l e =
    let script = ap (λ (found : Option WindowScripts). option_map_or (λ scripts. scripts.preload) found []) e in
    λ i. record { kind = Preload; limits = l i; tree = script i }

pub page_set : (app : Application) (number : ℕ) (limits : Limits) (window : WindowApp) → app.limits ≡ bounds_of limits → slice_get app.windows (number - 1) ≡ Some (window_of window)
    → setting_of app (page_name number) ≡ world_setting Page limits window.page.tree
unfolding setting_of
page_set app number limits window l e =
    let script = ap (λ (found : Option WindowScripts). option_map_or (λ scripts. scripts.page) found []) e in
    λ i. record { kind = Page; limits = l i; tree = script i }

-- what a world makes of its load
pub transcript_is : (app : Application) (w : WorldName) (setting : Setting) → setting_of app w ≡ setting → transcript app w ≡ alone setting first_load
unfolding transcript
transcript_is app w setting e = ap (λ (x : Setting). alone x first_load) e

page_text : (b : Bool) (name : WorldName) (es : List Entry) → printed_log (if b then [] else logged name es) ≡ (if b then [] else lines_of name es)
unfolding lines_of printed_log
page_text true name es = refl
page_text false name es = refl

window_text : (app : Application) (number : ℕ) (limits : Limits) (window : WindowApp) → app.limits ≡ bounds_of limits → slice_get app.windows (number - 1) ≡ Some (window_of window)
    → printed_log (window_log app number) ≡ window_lines limits number window
unfolding window_log window_lines lines_of
window_text app number limits window l e =
    let p = transcript_is app (preload_name number) _ (preload_set app number limits window l e) in
    let q = transcript_is app (page_name number) _ (page_set app number limits window l e) in
    log_twice (logged (preload_name number) (transcript app (preload_name number))) (page_log app number)
    ∙ ap (λ (xs : List ℕ). lines_of (preload_name number) (transcript app (preload_name number)) ++ xs) (page_text (list_any is_stop (transcript app (preload_name number))) (page_name number) (transcript app (page_name number)))
    ∙ (λ i. lines_of (preload_name number) (p i) ++ (if list_any is_stop (p i) then [] else lines_of (page_name number) (q i)))

pub window_found : (app : Application) (front windows : List WindowApp) (number : ℕ) (window : WindowApp) → app.windows ≡ map window_of (front ++ window ∷ windows) → number ≡ length front + 1
    → slice_get app.windows (number - 1) ≡ Some (window_of window)
window_found app front windows number window e n =
    let place : number - 1 ≡ length (map window_of front) = omega (arith, length-map front window_of) in
    ap (λ (i : ℕ). slice_get app.windows i) place
    ∙ ap (λ (xs : List WindowScripts). slice_get xs (length (map window_of front))) (e ∙ map-append window_of front (window ∷ windows))
    ∙ found_behind (map window_of front) (map window_of windows) (window_of window)

-- the windows in front of the next one, and those that follow
pub windows_past : (app : Application) (front windows : List WindowApp) (window : WindowApp) → app.windows ≡ map window_of (front ++ window ∷ windows) → app.windows ≡ map window_of ((front ++ window ∷ []) ++ windows)
windows_past app front windows window e = e ∙ ap (λ (xs : List WindowApp). map window_of xs) (sym (append_assoc front (window ∷ []) windows))

pub number_past : (front : List WindowApp) (window : WindowApp) (number : ℕ) → number ≡ length front + 1 → number + 1 ≡ length (front ++ window ∷ []) + 1
number_past front window number n = omega (arith, length-append front (window ∷ []))

windows_text : (app : Application) (limits : Limits) (front windows : List WindowApp) (number : ℕ) → app.limits ≡ bounds_of limits → app.windows ≡ map window_of (front ++ windows) → number ≡ length front + 1
    → printed_log (windows_log app number (map window_of windows)) ≡ windows_lines limits number windows
unfolding printed_log
windows_text app limits front [] number l e n = refl
windows_text app limits front (window ∷ windows) number l e n =
    let found = window_found app front windows number window e n in
    log_twice (window_log app number) (windows_log app (number + 1) (map window_of windows))
    ∙ ap (λ (xs : List ℕ). xs ++ printed_log (windows_log app (number + 1) (map window_of windows))) (window_text app number limits window l found)
    ∙ ap (λ (xs : List ℕ). window_lines limits number window ++ xs)
    (windows_text app limits (front ++ window ∷ []) windows (number + 1) l (windows_past app front windows window e) (number_past front window number n))

-- main's lines, and then those of the windows
pub log_text : (app : App) → printed_log (log_of (application_of app)) ≡ main_lines app.limits app.main.tree ++ windows_lines app.limits 1 app.windows
unfolding log_of application_of transcript setting_of lines_of main_lines
log_text app =
    log_twice (logged main_name (transcript (application_of app) main_name)) (windows_log (application_of app) 1 (map window_of app.windows))
    ∙ ap (λ (xs : List ℕ). lines_of main_name (transcript (application_of app) main_name) ++ xs) (windows_text (application_of app) app.limits [] app.windows 1 refl refl refl)

-- every lawful log is that by recursion
pub lawful_text : (app : Application) (before taken : Option (List ℕ)) → taken ≡ with_more (printed_log (log_of app)) before → (log : List LogItem) → Lawful app log → taken ≡ with_more (printed_log log) before
unfolding IsOnlyLog
lawful_text app before taken e log lawful = e ∙ ap (λ (items : List LogItem). with_more (printed_log items) before) (sym ((only_log app log).0 lawful))
