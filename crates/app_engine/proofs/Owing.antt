-- What is kept of an application, window by window.
use Rattle.std.proofs.Common.{◌≡◌, ℕ, ◌+◌, Bool, true, false, List, [], ◌∷◌, ◌++◌, ap, sym, ◌∙◌, refl, append_assoc, subst}
use Rattle.std.specs.Prelude.{if◌then◌else◌}
use Rattle.std.specs.List.{list_any}
use Rattle.std.proofs.lemmas.List.{append-nil}
use Rattle.world_kind.specs.declared.WorldKind.TheVariants.{Main, Preload, Page}
use Rattle.world_heap.specs.declared.limits.Limits.{Limits}
use Rattle.js_tree.specs.Nodes.{Nodes}
use Rattle.world_log.specs.Print.{main_name}
use Rattle.js_semantics.specs.Alone.{alone}
use Rattle.app_manifest.specs.declared.app.WindowApp.{WindowApp}
use Rattle.app_engine.specs.Log.{first_load, is_stop, page_name, preload_name}
use Rattle.app_engine.specs.Machines.{world_setting}
use Rattle.app_engine.specs.Live.{Keeps, Owed, behind_load, main_owed, window_owed, windows_owed}
use Rattle.app_engine.specs.declared.kept.Kept.{Kept}

-- the worlds owed are these
pub owing : (owed some : List Owed) (kept : Kept) → owed ≡ some → Keeps owed kept → Keeps some kept
owing owed some kept e k = subst (λ (os : List Owed). Keeps os kept) e k

pub main_is : (limits : Limits) (script : Nodes) (b : Bool) → b ≡ list_any is_stop (alone (world_setting Main limits script) first_load)
    → (if b then [] else (main_name, behind_load (world_setting Main limits script)) ∷ []) ≡ main_owed limits script
unfolding main_owed
main_is limits script b e = ap (λ (x : Bool). if x then [] else (main_name, behind_load (world_setting Main limits script)) ∷ []) e

pub main_ended : (limits : Limits) (script : Nodes) (owed : List Owed) (kept : Kept) → true ≡ list_any is_stop (alone (world_setting Main limits script) first_load)
    → Keeps owed kept → Keeps (owed ++ main_owed limits script) kept
main_ended limits script owed kept e k = owing owed _ kept (sym (append-nil owed) ∙ ap (λ (os : List Owed). owed ++ os) (main_is limits script true e)) k

pub main_lives : (limits : Limits) (script : Nodes) (owed : List Owed) (kept : Kept) → false ≡ list_any is_stop (alone (world_setting Main limits script) first_load)
    → Keeps (owed ++ (main_name, behind_load (world_setting Main limits script)) ∷ []) kept → Keeps (owed ++ main_owed limits script) kept
main_lives limits script owed kept e k = owing _ _ kept (ap (λ (os : List Owed). owed ++ os) (main_is limits script false e)) k

-- ---- a window

module _ (limits : Limits) (number : ℕ) (window : WindowApp) where
  abbrev pub preload_stops : Bool
  preload_stops = list_any is_stop (alone (world_setting Preload limits window.preload.tree) first_load)

  abbrev pub page_stops : Bool
  page_stops = list_any is_stop (alone (world_setting Page limits window.page.tree) first_load)

  abbrev pub preload_owed : Owed
  preload_owed = (preload_name number, behind_load (world_setting Preload limits window.preload.tree))

  abbrev pub page_owed : Owed
  page_owed = (page_name number, behind_load (world_setting Page limits window.page.tree))

  pub window_is : (b c : Bool) → b ≡ preload_stops → c ≡ page_stops → (if b then [] else (if c then [] else preload_owed ∷ page_owed ∷ [])) ≡ window_owed limits number window
  unfolding window_owed
  window_is b c e f = λ i. if e i then [] else (if f i then [] else preload_owed ∷ page_owed ∷ [])

  pub preload_ended : (owed : List Owed) (kept : Kept) → true ≡ preload_stops → Keeps owed kept → Keeps (owed ++ window_owed limits number window) kept
  preload_ended owed kept e k = owing owed _ kept (sym (append-nil owed) ∙ ap (λ (os : List Owed). owed ++ os) (window_is true page_stops e refl)) k

  pub page_ended : (owed : List Owed) (kept : Kept) → false ≡ preload_stops → true ≡ page_stops → Keeps owed kept → Keeps (owed ++ window_owed limits number window) kept
  page_ended owed kept e f k = owing owed _ kept (sym (append-nil owed) ∙ ap (λ (os : List Owed). owed ++ os) (window_is false true e f)) k

  pub window_lives : (owed : List Owed) (kept : Kept) → false ≡ preload_stops → false ≡ page_stops → Keeps ((owed ++ preload_owed ∷ []) ++ page_owed ∷ []) kept → Keeps (owed ++ window_owed limits number window) kept
  window_lives owed kept e f k = owing _ _ kept (append_assoc owed (preload_owed ∷ []) (page_owed ∷ []) ∙ ap (λ (os : List Owed). owed ++ os) (window_is false false e f)) k

-- ---- windows

-- the windows so far, and those that follow
pub record WindowsKept (limits : Limits) (first now : List WindowApp) (number : ℕ) (before after : Kept) : Type 0 where
  pub owed : List Owed
  pub whole : windows_owed limits 1 first ≡ owed ++ windows_owed limits number now
  pub keeps : (others : List Owed) → Keeps others before → Keeps (others ++ owed) after

pub none_kept : (limits : Limits) (first : List WindowApp) (kept : Kept) → WindowsKept limits first first 1 kept kept
none_kept limits first kept = record { owed = []; whole = refl; keeps = λ others k. owing others _ kept (sym (append-nil others)) k }

pub one_kept : (limits : Limits) (first now rest : List WindowApp) (number : ℕ) (window : WindowApp) (before between after : Kept) → now ≡ window ∷ rest
    → WindowsKept limits first now number before between → ((others : List Owed) → Keeps others between → Keeps (others ++ window_owed limits number window) after)
    → WindowsKept limits first rest (number + 1) before after
one_kept limits first now rest number window before between after e w k = record {
  owed = w.owed ++ window_owed limits number window;
  whole = w.whole ∙ ap (λ (xs : List WindowApp). w.owed ++ windows_owed limits number xs) e ∙ sym (append_assoc w.owed (window_owed limits number window) (windows_owed limits (number + 1) rest));
  keeps = λ others h. owing _ _ after (append_assoc others w.owed (window_owed limits number window)) (k (others ++ w.owed) (w.keeps others h));
}

pub all_kept : (limits : Limits) (first now : List WindowApp) (number : ℕ) (before after : Kept) → now ≡ [] → WindowsKept limits first now number before after
    → (others : List Owed) → Keeps others before → Keeps (others ++ windows_owed limits 1 first) after
all_kept limits first now number before after e w others k =
    owing _ _ after (ap (λ (os : List Owed). others ++ os) (sym (w.whole ∙ ap (λ (xs : List WindowApp). w.owed ++ windows_owed limits number xs) e ∙ append-nil w.owed))) (w.keeps others k)

-- something is kept still
pub some_kept : (before after : Kept) (more : List Owed) → ((others : List Owed) × Keeps others before) → ((others : List Owed) → Keeps others before → Keeps (others ++ more) after) → (others : List Owed) × Keeps others after
some_kept before after more h k = (h.0 ++ more, k h.0 h.1)
