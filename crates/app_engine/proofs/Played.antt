-- The log by recursion is lawful: each world that is loaded stands in it with its whole transcript.
use Rattle.std.proofs.Common.{◌≡◌, Bool, true, false, List, [], ◌∷◌, ◌++◌, ap, sym, ◌∙◌, refl, append_assoc, subst}
use Rattle.std.specs.Prelude.{◌||◌, if◌then◌else◌}
use Rattle.std.specs.List.{flat_map}
use Rattle.std.proofs.lemmas.List.{append-nil}
use Rattle.world_log.specs.declared.entry.Delivery.TheVariants.{Load}
use Rattle.world_log.specs.declared.entry.Product.TheVariants.{Console, Uncaught, Rest, Stopped}
use Rattle.world_log.specs.declared.entry.Entry.{Entry}
use Rattle.world_log.specs.declared.entry.Entry.TheVariants.{Delivery, Product}
use Rattle.world_log.specs.declared.entry.LogItem.{LogItem}
use Rattle.world_log.specs.declared.entry.LogItem.TheVariants.{World}
use Rattle.world_log.specs.declared.entry.WorldName.{WorldName}
use Rattle.js_semantics.specs.Run.{Arrival}
use Rattle.js_semantics.specs.Alone.{alone}
use Rattle.app_engine.specs.Log.{Application, Due, Exactly, Follows, Names, Next, Part, Product_of, deliveries, delivery_of, first_load, has_ended, is_loaded, load, logged, next_load, process_of, same_world, setting_of, transcript, worlds_of}
use Rattle.app_engine.specs.Laws.{IsYielding, Yields}
use Rattle.app_engine.proofs.Parts.{due-push, ended-stays, loaded-other, loaded-own, loaded-stays, or_true, part-other, part-own, same_means, same_self}
use Rattle.app_engine.proofs.Yielded.{yielding}

-- ---- what follows

follows_append : (app : Application) (before xs ys : List LogItem) → Follows app before xs → Follows app (before ++ xs) ys → Follows app before (xs ++ ys)
follows_append app before [] ys f g = subst (λ (zs : List LogItem). Follows app zs ys) (append-nil before) g
follows_append app before (x ∷ xs) ys f g =
    (f.0, follows_append app (before ++ x ∷ []) xs ys f.1 (subst (λ (zs : List LogItem). Follows app zs ys) (sym (append_assoc before (x ∷ []) xs)) g))

named : (app : Application) (before : List LogItem) (n : Next) (item : LogItem) → Due app before ≡ n → Names n item → Names (Due app before) item
named app before n item e h = subst (λ (x : Next). Names x item) (sym e) h

nothing_follows : (app : Application) (w : WorldName) (before : List LogItem) (es : List Entry) → es ≡ [] → Follows app before (logged w es)
nothing_follows app w before es e = subst (λ (xs : List Entry). Follows app before (logged w xs)) (sym e) tt

-- what a world makes up to its yield
follows_yields : (app : Application) (w : WorldName) (es : List Entry) → Yields es → (before : List LogItem) → Due app before ≡ Product_of w → Follows app before (logged w es)
follows_yields app w [] y before e = absurd y
follows_yields app w (Delivery fresh what ∷ es) y before e = absurd y
follows_yields app w (Product (Console level text) ∷ es) y before e =
    (named app before _ _ e (same_self w), follows_yields app w es y (before ++ World w (Product (Console level text)) ∷ []) (due-push app before (World w (Product (Console level text)))))
follows_yields app w (Product (Uncaught text) ∷ es) y before e =
    (named app before _ _ e (same_self w), follows_yields app w es y (before ++ World w (Product (Uncaught text)) ∷ []) (due-push app before (World w (Product (Uncaught text)))))
follows_yields app w (Product (Rest jobs) ∷ es) y before e =
    (named app before _ _ e (same_self w), nothing_follows app w _ es y.1)
follows_yields app w (Product (Stopped stop) ∷ es) y before e =
    (named app before _ _ e (same_self w), nothing_follows app w _ es y)

-- between tasks
abbrev pub IsOver : Application → List LogItem → Type 0
IsOver app log = Due app log ≡ next_load (worlds_of app) log

over_at : (app : Application) (w : WorldName) (before : List LogItem) (e : Entry) (es : List Entry) → es ≡ [] → IsOver app (before ++ World w e ∷ []) → IsOver app (before ++ logged w (e ∷ es))
over_at app w before e es none h = subst (λ (xs : List Entry). IsOver app (before ++ World w e ∷ logged w xs)) (sym none) h

over_yields : (app : Application) (w : WorldName) (es : List Entry) → Yields es → (before : List LogItem) → IsOver app (before ++ logged w es)
over_yields app w [] y before = absurd y
over_yields app w (Delivery fresh what ∷ es) y before = absurd y
over_yields app w (Product (Console level text) ∷ es) y before =
    subst (IsOver app) (append_assoc before (World w (Product (Console level text)) ∷ []) (logged w es)) (over_yields app w es y (before ++ World w (Product (Console level text)) ∷ []))
over_yields app w (Product (Uncaught text) ∷ es) y before =
    subst (IsOver app) (append_assoc before (World w (Product (Uncaught text)) ∷ []) (logged w es)) (over_yields app w es y (before ++ World w (Product (Uncaught text)) ∷ []))
over_yields app w (Product (Rest jobs) ∷ es) y before = over_at app w before _ es y.1 (due-push app before (World w (Product (Rest jobs))))
over_yields app w (Product (Stopped stop) ∷ es) y before = over_at app w before _ es y (due-push app before (World w (Product (Stopped stop))))

no_deliveries : (es : List Entry) → Yields es → deliveries es ≡ []
unfolding deliveries
no_deliveries [] y = absurd y
no_deliveries (Delivery fresh what ∷ es) y = absurd y
no_deliveries (Product (Console level text) ∷ es) y = no_deliveries es y
no_deliveries (Product (Uncaught text) ∷ es) y = no_deliveries es y
no_deliveries (Product (Rest jobs) ∷ es) y = ap (λ (xs : List Entry). flat_map delivery_of xs) y.1
no_deliveries (Product (Stopped stop) ∷ es) y = ap (λ (xs : List Entry). flat_map delivery_of xs) y

-- ---- a transcript

-- a transcript is a load and products up to a yield
pub record Loaded (app : Application) (w : WorldName) : Type 0 where
  products : List Entry
  is : transcript app w ≡ load ∷ products
  yields : Yields products

loaded_is : (app : Application) (w : WorldName) → Loaded app w
unfolding transcript IsYielding
loaded_is app w = let h = yielding (setting_of app w) in record { products = h.0; is = h.1; yields = h.2 }

pub transcript_takes : (app : Application) (w : WorldName) → deliveries (transcript app w) ≡ first_load
unfolding deliveries
transcript_takes app w =
    let h = loaded_is app w in
    ap deliveries h.is ∙ ap (λ (ds : List Arrival). record { fresh = true; what = Load } ∷ ds) (no_deliveries h.products h.yields)

own_transcript : (app : Application) (w : WorldName) → transcript app w ≡ alone (setting_of app w) (deliveries (transcript app w))
unfolding transcript
own_transcript app w = ap (alone (setting_of app w)) (sym (transcript_takes app w))

follows_transcript : (app : Application) (w : WorldName) (log : List LogItem) → Due app log ≡ Exactly (World w load) → Follows app log (logged w (transcript app w))
follows_transcript app w log e =
    let h = loaded_is app w in
    subst (λ (xs : List Entry). Follows app log (logged w xs)) (sym h.is)
    (named app log _ (World w load) e refl, follows_yields app w h.products h.yields (log ++ World w load ∷ []) (due-push app log (World w load)))

over_transcript : (app : Application) (w : WorldName) (log : List LogItem) → IsOver app (log ++ logged w (transcript app w))
over_transcript app w log =
    let h = loaded_is app w in
    subst (λ (xs : List Entry). IsOver app (log ++ logged w xs)) (sym h.is)
    (subst (IsOver app) (append_assoc log (World w load ∷ []) (logged w h.products)) (over_yields app w h.products h.yields (log ++ World w load ∷ [])))

loaded_transcript : (app : Application) (w : WorldName) (log : List LogItem) → is_loaded w (log ++ logged w (transcript app w)) ≡ true
loaded_transcript app w log =
    let h = loaded_is app w in
    subst (λ (xs : List Entry). is_loaded w (log ++ logged w xs) ≡ true) (sym h.is) (loaded-own w log h.products)

-- ---- the worlds still to come

-- worlds that a log doesn't name
abbrev pub Unnamed : List WorldName → List LogItem → Type 0
Unnamed [] log = Unit {0}
Unnamed (w ∷ ws) log = (Part w log ≡ []) × (is_loaded w log ≡ false) × Unnamed ws log

-- worlds with other names than this one
abbrev pub Apart : WorldName → List WorldName → Type 0
Apart w [] = Unit {0}
Apart w (v ∷ vs) = (same_world v w ≡ false) × Apart w vs

unnamed_still : (w : WorldName) (ws : List WorldName) (log : List LogItem) (es : List Entry) → Apart w ws → Unnamed ws log → Unnamed ws (log ++ logged w es)
unnamed_still w [] log es apart h = tt
unnamed_still w (v ∷ vs) log es apart h =
    (part-other v w log es apart.0 ∙ h.0, loaded-other v w log es apart.0 ∙ h.1, unnamed_still w vs log es apart.1 h.2)

-- A log so far, with the worlds that are still to be loaded.
pub record Stands (app : Application) (log : List LogItem) (ws : List WorldName) : Type 0 where
  pub parts : (w : WorldName) → Part w log ≡ alone (setting_of app w) (deliveries (Part w log))
  pub follows : Follows app [] log
  pub over : IsOver app log
  pub reached : (more : List LogItem) → next_load (worlds_of app) (log ++ more) ≡ next_load ws (log ++ more)
  pub unnamed : Unnamed ws log

pub due_here : (app : Application) (log : List LogItem) (ws : List WorldName) → Stands app log ws → Due app log ≡ next_load ws log
due_here app log ws s =
    s.over ∙ subst (λ (zs : List LogItem). next_load (worlds_of app) zs ≡ next_load ws zs) (append-nil log) (s.reached [])

part_now : (app : Application) (v w : WorldName) (log : List LogItem) (b : Bool) → same_world v w ≡ b → Part w log ≡ []
    → Part v log ≡ alone (setting_of app v) (deliveries (Part v log))
    → Part v (log ++ logged w (transcript app w)) ≡ alone (setting_of app v) (deliveries (Part v (log ++ logged w (transcript app w))))
part_now app v w log true same none before =
    let p : Part w (log ++ logged w (transcript app w)) ≡ transcript app w = part-own w log (transcript app w) ∙ ap (λ (xs : List Entry). xs ++ transcript app w) none in
    subst (λ (z : WorldName). Part z (log ++ logged w (transcript app w)) ≡ alone (setting_of app z) (deliveries (Part z (log ++ logged w (transcript app w))))) (sym (same_means v w same))
    (p ∙ own_transcript app w ∙ ap (λ (xs : List Entry). alone (setting_of app w) (deliveries xs)) (sym p))
part_now app v w log false same none before =
    let p : Part v (log ++ logged w (transcript app w)) ≡ Part v log = part-other v w log (transcript app w) same in
    p ∙ before ∙ ap (λ (xs : List Entry). alone (setting_of app v) (deliveries xs)) (sym p)

exactly_now : (w : WorldName) (ws : List WorldName) (log : List LogItem) → is_loaded w log ≡ false → has_ended (process_of w) log ≡ false → next_load (w ∷ ws) log ≡ Exactly (World w load)
exactly_now w ws log l e = ap (λ (b : Bool). if b then next_load ws log else Exactly (World w load)) (ap (λ (b : Bool). b || has_ended (process_of w) log) l ∙ e)

passed : (w : WorldName) (ws : List WorldName) (log : List LogItem) → (is_loaded w log || has_ended (process_of w) log) ≡ true → next_load (w ∷ ws) log ≡ next_load ws log
passed w ws log h = ap (λ (b : Bool). if b then next_load ws log else Exactly (World w load)) h

-- the next world is loaded
pub load_next : (app : Application) (log : List LogItem) (w : WorldName) (ws : List WorldName) → Stands app log (w ∷ ws) → Apart w ws → has_ended (process_of w) log ≡ false
    → Stands app (log ++ logged w (transcript app w)) ws
load_next app log w ws s apart lives = record {
  parts = λ v. part_now app v w log (same_world v w) refl s.unnamed.0 (s.parts v);
  follows = follows_append app [] log (logged w (transcript app w)) s.follows (follows_transcript app w log (due_here app log (w ∷ ws) s ∙ exactly_now w ws log s.unnamed.1 lives));
  over = over_transcript app w log;
  reached = λ more. subst (λ (zs : List LogItem). next_load (worlds_of app) zs ≡ next_load ws zs) (sym (append_assoc log (logged w (transcript app w)) more))
      (s.reached (logged w (transcript app w) ++ more)
      ∙ passed w ws _ (ap (λ (b : Bool). b || has_ended (process_of w) (log ++ (logged w (transcript app w) ++ more)))
      (subst (λ (zs : List LogItem). is_loaded w zs ≡ true) (append_assoc log (logged w (transcript app w)) more) (loaded-stays w (log ++ logged w (transcript app w)) more (loaded_transcript app w log)))));
  unnamed = unnamed_still w ws log (transcript app w) apart s.unnamed.2;
}

-- the next world's process has ended
pub pass_next : (app : Application) (log : List LogItem) (w : WorldName) (ws : List WorldName) → Stands app log (w ∷ ws) → has_ended (process_of w) log ≡ true → Stands app log ws
pass_next app log w ws s ended = record {
  parts = s.parts;
  follows = s.follows;
  over = s.over;
  reached = λ more. s.reached more ∙ passed w ws (log ++ more) (ap (λ (b : Bool). is_loaded w (log ++ more) || b) (ended-stays (process_of w) log more ended) ∙ or_true (is_loaded w (log ++ more)));
  unnamed = s.unnamed.2;
}
