-- Names of worlds, and what a log says once a world's entries stand behind it.
use Rattle.std.proofs.Common.{◌≡◌, ℕ, Bool, true, false, List, [], ◌∷◌, ◌++◌, ap, ◌∙◌, refl, Some, None, Option, arith, subst}
use Rattle.std.proofs.Math.Nat.{ℕ_set}
use Rattle.std.specs.Prelude.{◌&&◌, ◌||◌, nat_eq}
use Rattle.std.specs.List.{flat_map, list_any}
use Rattle.std.proofs.lemmas.Grind.{flat_map-append, fold-append}
use Rattle.std.proofs.lemmas.List.{append-nil}
use Rattle.std.proofs.lemmas.List.Folds.{list_any-append}
use Rattle.world_kind.specs.declared.WorldKind.{WorldKind}
use Rattle.world_kind.specs.declared.WorldKind.TheVariants.{Main, Preload, Page}
use Rattle.world_log.specs.declared.entry.Entry.{Entry}
use Rattle.world_log.specs.declared.entry.LogItem.{LogItem}
use Rattle.world_log.specs.declared.entry.WorldName.{WorldName}
use Rattle.app_engine.specs.Log.{Application, Due, Part, due_after, ends, entries_of, has_ended, is_load, is_loaded, is_stop, kept_if, last, last_step, load, loads, logged, process_of, same_kind, same_world}

-- ---- names

-- both of two tests
pub both : (a b : Bool) → (a && b) ≡ true → (a ≡ true) × (b ≡ true)
both true b h = (refl, h)
both false b h = cc

pub none_behind : (a b : Bool) → a ≡ false → (a && b) ≡ false
none_behind a b h = ap (λ (x : Bool). x && b) h

kind_self : (k : WorldKind) → same_kind k k ≡ true
kind_self Main = refl
kind_self Preload = refl
kind_self Page = refl

kinds : (k l : WorldKind) → same_kind k l ≡ true → k ≡ l
kinds Main Main h = refl
kinds Preload Preload h = refl
kinds Page Page h = refl
kinds Main Preload h = cc
kinds Main Page h = cc
kinds Preload Main h = cc
kinds Preload Page h = cc
kinds Page Main h = cc
kinds Page Preload h = cc

pub number_self : (n : ℕ) → nat_eq n n ≡ true
number_self n = grind arith

numbers : (n m : ℕ) → nat_eq n m ≡ true → n ≡ m
numbers n m h = grind arith

pub same_self : (w : WorldName) → same_world w w ≡ true
unfolding same_world
same_self w =
    ap (λ (x : Bool). x && (nat_eq w.window w.window && nat_eq w.generation w.generation)) (kind_self w.kind)
    ∙ ap (λ (x : Bool). x && nat_eq w.generation w.generation) (number_self w.window)
    ∙ number_self w.generation

-- what is said of the numbers of main
abbrev Zero : WorldKind → ℕ → Type 0
Zero kind number = kind ≡ Main → number ≡ 0

zero-prop : (k : WorldKind) (n : ℕ) → IsProp (Zero k n)
zero-prop k n = hlevel ℕ_set

abbrev name_at : (k : WorldKind) (n g : ℕ) → Zero k n → Zero k g → WorldName
name_at k n g a b = record { kind = k; window = n; generation = g; main_window = a; main_generation = b }

same_record : (k : WorldKind) (n g : ℕ) (a a' : Zero k n) (b b' : Zero k g) → name_at k n g a b ≡ name_at k n g a' b'
same_record k n g a a' b b' = λ i. name_at k n g (zero-prop k n a a' i) (zero-prop k g b b' i)

-- names with one kind and the same numbers are one
same_at : (k l : WorldKind) (n m g h : ℕ) (a : Zero k n) (b : Zero k g) (a' : Zero l m) (b' : Zero l h) → k ≡ l → n ≡ m → g ≡ h → name_at k n g a b ≡ name_at l m h a' b'
same_at k l n m g h a b a' b' p q r =
    subst (λ (x : WorldKind). (c : Zero x m) (d : Zero x h) → name_at k n g a b ≡ name_at x m h c d) p
    (subst (λ (x : ℕ). (c : Zero k x) (d : Zero k h) → name_at k n g a b ≡ name_at k x h c d) q
    (subst (λ (x : ℕ). (c : Zero k n) (d : Zero k x) → name_at k n g a b ≡ name_at k n x c d) r
    (λ c d. same_record k n g a c b d)))
    a' b'

pub same_parts : (v w : WorldName) → v.kind ≡ w.kind → v.window ≡ w.window → v.generation ≡ w.generation → v ≡ w
same_parts v w p q r =
    same_at v.kind w.kind v.window w.window v.generation w.generation v.main_window v.main_generation w.main_window w.main_generation p q r

pub same_means : (v w : WorldName) → same_world v w ≡ true → v ≡ w
unfolding same_world
same_means v w h =
    let outer = both (same_kind v.kind w.kind) (nat_eq v.window w.window && nat_eq v.generation w.generation) h in
    let inner = both (nat_eq v.window w.window) (nat_eq v.generation w.generation) outer.1 in
    same_parts v w (kinds v.kind w.kind outer.0) (numbers v.window w.window inner.0) (numbers v.generation w.generation inner.1)

-- ---- parts

entries_own : (w v : WorldName) (es : List Entry) → same_world w v ≡ true → flat_map (entries_of w) (logged v es) ≡ es
entries_own w v [] h = refl
entries_own w v (e ∷ es) h =
    ap (λ (x : Bool). kept_if x e ++ flat_map (entries_of w) (logged v es)) h ∙ ap (λ (xs : List Entry). e ∷ xs) (entries_own w v es h)

entries_none : (w v : WorldName) (es : List Entry) → same_world w v ≡ false → flat_map (entries_of w) (logged v es) ≡ []
entries_none w v [] h = refl
entries_none w v (e ∷ es) h =
    ap (λ (x : Bool). kept_if x e ++ flat_map (entries_of w) (logged v es)) h ∙ entries_none w v es h

-- the part of the world that made the entries, and that of any other
pub part-own : (w : WorldName) (log : List LogItem) (es : List Entry) → Part w (log ++ logged w es) ≡ Part w log ++ es
unfolding Part
part-own w log es =
    flat_map-append (entries_of w) log (logged w es)
    ∙ ap (λ (xs : List Entry). flat_map (entries_of w) log ++ xs) (entries_own w w es (same_self w))

pub part-other : (w v : WorldName) (log : List LogItem) (es : List Entry) → same_world w v ≡ false → Part w (log ++ logged v es) ≡ Part w log
unfolding Part
part-other w v log es h =
    flat_map-append (entries_of w) log (logged v es)
    ∙ ap (λ (xs : List Entry). flat_map (entries_of w) log ++ xs) (entries_none w v es h)
    ∙ append-nil (flat_map (entries_of w) log)

-- ---- loads and ends

or_false : (a : Bool) → (a || false) ≡ a
or_false true = refl
or_false false = refl

pub or_true : (a : Bool) → (a || true) ≡ true
or_true true = refl
or_true false = refl

loads_none : (w v : WorldName) (es : List Entry) → same_world w v ≡ false → list_any (loads w) (logged v es) ≡ false
loads_none w v [] h = refl
loads_none w v (e ∷ es) h =
    ap (λ (x : Bool). (x && is_load e) || list_any (loads w) (logged v es)) h ∙ loads_none w v es h

pub loaded-other : (w v : WorldName) (log : List LogItem) (es : List Entry) → same_world w v ≡ false → is_loaded w (log ++ logged v es) ≡ is_loaded w log
unfolding is_loaded
loaded-other w v log es h = list_any-append (loads w) log (logged v es) ∙ ap (λ (x : Bool). list_any (loads w) log || x) (loads_none w v es h) ∙ or_false (list_any (loads w) log)

pub loaded-own : (w : WorldName) (log : List LogItem) (es : List Entry) → is_loaded w (log ++ logged w (load ∷ es)) ≡ true
unfolding is_loaded
loaded-own w log es =
    list_any-append (loads w) log (logged w (load ∷ es))
    ∙ ap (λ (x : Bool). list_any (loads w) log || ((x && true) || list_any (loads w) (logged w es))) (same_self w)
    ∙ or_true (list_any (loads w) log)

-- once loaded or ended, always so
pub loaded-stays : (w : WorldName) (log more : List LogItem) → is_loaded w log ≡ true → is_loaded w (log ++ more) ≡ true
unfolding is_loaded
loaded-stays w log more h = list_any-append (loads w) log more ∙ ap (λ (x : Bool). x || list_any (loads w) more) h

pub ended-stays : (n : ℕ) (log more : List LogItem) → has_ended n log ≡ true → has_ended n (log ++ more) ≡ true
unfolding has_ended
ended-stays n log more h = list_any-append (ends n) log more ∙ ap (λ (x : Bool). x || list_any (ends n) more) h

pub ended-append : (n : ℕ) (log more : List LogItem) → has_ended n (log ++ more) ≡ (has_ended n log || list_any (ends n) more)
unfolding has_ended
ended-append n log more = list_any-append (ends n) log more

pub ends-own : (n : ℕ) (w : WorldName) (es : List Entry) → nat_eq (process_of w) n ≡ true → list_any (ends n) (logged w es) ≡ list_any is_stop es
ends-own n w [] h = refl
ends-own n w (e ∷ es) h =
    ap (λ (x : Bool). (x && is_stop e) || list_any (ends n) (logged w es)) h ∙ ap (λ (x : Bool). is_stop e || x) (ends-own n w es h)

pub ends-other : (n : ℕ) (w : WorldName) (es : List Entry) → nat_eq (process_of w) n ≡ false → list_any (ends n) (logged w es) ≡ false
ends-other n w [] h = refl
ends-other n w (e ∷ es) h =
    ap (λ (x : Bool). (x && is_stop e) || list_any (ends n) (logged w es)) h ∙ ends-other n w es h

-- ---- the last item

pub last-push : (log : List LogItem) (item : LogItem) → last (log ++ item ∷ []) ≡ Some item
unfolding last
last-push log item = fold-append last_step None log (item ∷ [])

pub due-push : (app : Application) (log : List LogItem) (item : LogItem) → Due app (log ++ item ∷ []) ≡ due_after app (log ++ item ∷ []) (Some item)
unfolding Due
due-push app log item = ap (λ (x : Option LogItem). due_after app (log ++ item ∷ []) x) (last-push log item)
