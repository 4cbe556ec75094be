-- At most one lawful log: what a world makes next is settled by its part so far.
use Rattle.std.proofs.Common.{◌≡◌, ℕ, ◌≤◌, Bool, List, [], ◌∷◌, ◌++◌, length, ap, sym, ◌∙◌, refl, arith, append_assoc, subst}
use Rattle.std.proofs.lemmas.Grind.{flat_map-append}
use Rattle.std.proofs.lemmas.List.{append-nil}
use Rattle.std.specs.List.{flat_map}
use Rattle.world_log.specs.declared.entry.Product.{Product as ProductType}
use Rattle.world_log.specs.declared.entry.Entry.{Entry}
use Rattle.world_log.specs.declared.entry.Entry.TheVariants.{Delivery, Product}
use Rattle.world_log.specs.declared.entry.LogItem.{LogItem}
use Rattle.world_log.specs.declared.entry.LogItem.TheVariants.{World}
use Rattle.world_log.specs.declared.entry.WorldName.{WorldName}
use Rattle.js_semantics.specs.Run.{Arrival}
use Rattle.js_semantics.specs.Alone.{alone}
use Rattle.app_engine.specs.Log.{Application, Due, End, Exactly, Follows, Lawful, Names, Next, Part, Product_of, deliveries, delivery_of, entries_of, kept_if, setting_of}
use Rattle.app_engine.specs.Laws.{BeginsByDelivery, Causal}
use Rattle.app_engine.proofs.Adding.{causal_of}
use Rattle.app_engine.proofs.Lists.{cancel, heads, tails}
use Rattle.app_engine.proofs.Parts.{same_means, same_self}

abbrev product_or : ProductType → Entry → ProductType
product_or d (Delivery fresh what) = d
product_or d (Product p) = p

products : (p q : ProductType) → Product p ≡ Product q → p ≡ q
products p q h = ap (product_or p) h

-- how many deliveries
abbrev count : List Entry → ℕ
count es = length (flat_map delivery_of es)

fewer : (e : Entry) (a c : List Entry) → count (e ∷ a) ≤ count (e ∷ c) → count a ≤ count c
fewer (Delivery fresh what) a c h = omega (arith, h)
fewer (Product p) a c h = h

-- a product behind what was there is made before any further delivery
inside : (a c u r : List Entry) (p : ProductType) → a ++ Product p ∷ u ≡ c ++ r → BeginsByDelivery r → count a ≤ count c
    → (t : List Entry) × (c ≡ a ++ Product p ∷ t)
inside [] [] u r p h begins less = absurd (subst BeginsByDelivery (sym h) begins)
inside [] (f ∷ c) u r p h begins less = (c, ap (λ (x : Entry). x ∷ c) (sym (heads (Product p) f u (c ++ r) h)))
inside (Product q ∷ a) [] u r p h begins less = absurd (subst BeginsByDelivery (sym h) begins)
inside (Delivery fresh what ∷ a) [] u r p h begins less = absurd (omega (arith, less))
inside (e ∷ a) (f ∷ c) u r p h begins less =
    let one : e ≡ f = heads e f (a ++ Product p ∷ u) (c ++ r) h in
    let rest : (t : List Entry) × (c ≡ a ++ Product p ∷ t) =
    inside a c u r p (tails e f (a ++ Product p ∷ u) (c ++ r) h) begins
    (fewer e a c (subst (λ (x : Entry). count (e ∷ a) ≤ count (x ∷ c)) (sym one) less)) in
    (rest.0, ap (λ (x : Entry). x ∷ c) (sym one) ∙ ap (λ (xs : List Entry). e ∷ xs) rest.1)

deliveries-after : (a u : List Entry) (p : ProductType) → deliveries (a ++ Product p ∷ u) ≡ deliveries a ++ deliveries u
unfolding deliveries
deliveries-after a u p = flat_map-append delivery_of a (Product p ∷ u)

made-in : (make : List Arrival → List Entry) (a u : List Entry) (p : ProductType) → Causal make
    → a ++ Product p ∷ u ≡ make (deliveries (a ++ Product p ∷ u)) → (t : List Entry) × (make (deliveries a) ≡ a ++ Product p ∷ t)
unfolding deliveries
made-in make a u p law own =
    let split : make (deliveries (a ++ Product p ∷ u)) ≡ make (deliveries a ++ deliveries u) = ap make (deliveries-after a u p) in
    let more = law.adds (deliveries a) (deliveries u) in
    let fit : deliveries (make (deliveries a)) ≡ deliveries a =
    law.takes (deliveries a) (deliveries u) (ap deliveries (sym (own ∙ split)) ∙ deliveries-after a u p) in
    let less : count a ≤ count (make (deliveries a)) = omega (arith, ap (λ (ds : List Arrival). length ds) fit) in
    inside a (make (deliveries a)) u more.0 p (own ∙ split ∙ more.1) more.2 less

next-same : (make : List Arrival → List Entry) (a u v : List Entry) (p q : ProductType) → Causal make
    → a ++ Product p ∷ u ≡ make (deliveries (a ++ Product p ∷ u)) → a ++ Product q ∷ v ≡ make (deliveries (a ++ Product q ∷ v)) → p ≡ q
next-same make a u v p q law left right =
    let x = made-in make a u p law left in
    let y = made-in make a v q law right in
    products p q (heads (Product p) (Product q) x.0 y.0 (cancel a (Product p ∷ x.0) (Product q ∷ y.0) (sym x.1 ∙ y.1)))

part-split : (w : WorldName) (before xs : List LogItem) (p : ProductType) → Part w (before ++ World w (Product p) ∷ xs) ≡ Part w before ++ Product p ∷ Part w xs
unfolding Part
part-split w before xs p =
    flat_map-append (entries_of w) before (World w (Product p) ∷ xs)
    ∙ ap (λ (b : Bool). flat_map (entries_of w) before ++ (kept_if b (Product p) ++ flat_map (entries_of w) xs)) (same_self w)

abbrev Own : Application → List LogItem → Type 0
Own app log = (w : WorldName) → Part w log ≡ alone (setting_of app w) (deliveries (Part w log))

own-product : (app : Application) (w : WorldName) (before xs ys : List LogItem) (p q : ProductType)
    → Own app (before ++ World w (Product p) ∷ xs) → Own app (before ++ World w (Product q) ∷ ys) → p ≡ q
own-product app w before xs ys p q left right =
    next-same (alone (setting_of app w)) (Part w before) (Part w xs) (Part w ys) p q (causal_of (setting_of app w))
    (subst (λ (es : List Entry). es ≡ alone (setting_of app w) (deliveries es)) (part-split w before xs p) (left w))
    (subst (λ (es : List Entry). es ≡ alone (setting_of app w) (deliveries es)) (part-split w before ys q) (right w))

first-same : (app : Application) (n : Next) (before xs ys : List LogItem) (x y : LogItem)
    → Own app (before ++ x ∷ xs) → Own app (before ++ y ∷ ys) → Names n x → Names n y → x ≡ y
first-same app (Exactly z) before xs ys x y left right nx ny = nx ∙ sym ny
first-same app End before xs ys x y left right nx ny = absurd nx
first-same app (Product_of w) before xs ys (World v (Product p)) (World u (Product q)) left right nx ny =
    let a : v ≡ w = sym (same_means w v nx) in
    let b : u ≡ w = sym (same_means w u ny) in
    let one : p ≡ q = own-product app w before xs ys p q
    (subst (λ (z : WorldName). Own app (before ++ World z (Product p) ∷ xs)) a left)
    (subst (λ (z : WorldName). Own app (before ++ World z (Product q) ∷ ys)) b right) in
    ap (λ (z : WorldName). World z (Product p)) (a ∙ sym b) ∙ ap (λ (z : ProductType). World u (Product z)) one
first-same app (Product_of w) before xs ys (World v (Delivery fresh what)) y left right nx ny = absurd nx
first-same app (Product_of w) before xs ys (World v (Product p)) (World u (Delivery fresh what)) left right nx ny = absurd ny

ended : (app : Application) (before : List LogItem) (y : LogItem) → Due app (before ++ []) ≡ End → Names (Due app before) y → ⊥
ended app before y end names = subst (λ (n : Next). Names n y) (ap (Due app) (sym (append-nil before)) ∙ end) names

rests : (app : Application) (before xs ys : List LogItem)
    → Own app (before ++ xs) → Own app (before ++ ys) → Follows app before xs → Follows app before ys
    → Due app (before ++ xs) ≡ End → Due app (before ++ ys) ≡ End → xs ≡ ys
rests app before [] [] ox oy fx fy ex ey = refl
rests app before [] (y ∷ ys) ox oy fx fy ex ey = absurd (ended app before y ex fy.0)
rests app before (x ∷ xs) [] ox oy fx fy ex ey = absurd (ended app before x ey fx.0)
rests app before (x ∷ xs) (y ∷ ys) ox oy fx fy ex ey =
    let one : x ≡ y = first-same app (Due app before) before xs ys x y ox oy fx.0 fy.0 in
    let back : (zs : List LogItem) → before ++ x ∷ zs ≡ (before ++ x ∷ []) ++ zs = λ zs. sym (append_assoc before (x ∷ []) zs) in
    let more : xs ≡ ys = rests app (before ++ x ∷ []) xs ys
    (subst (Own app) (back xs) ox)
    (subst (Own app) (back ys) (subst (λ (z : LogItem). Own app (before ++ z ∷ ys)) (sym one) oy))
    fx.1
    (subst (λ (z : LogItem). Follows app (before ++ z ∷ []) ys) (sym one) fy.1)
    (subst (λ (zs : List LogItem). Due app zs ≡ End) (back xs) ex)
    (subst (λ (zs : List LogItem). Due app zs ≡ End) (back ys) (subst (λ (z : LogItem). Due app (before ++ z ∷ ys) ≡ End) (sym one) ey)) in
    ap (λ (z : LogItem). z ∷ xs) one ∙ ap (λ (zs : List LogItem). y ∷ zs) more

pub at_most_one : (app : Application) (left right : List LogItem) → Lawful app left → Lawful app right → left ≡ right
at_most_one app left right l r = rests app [] left right l.parts r.parts l.follows r.follows l.ended r.ended
