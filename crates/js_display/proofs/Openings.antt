-- Arrays and objects that are opened, or not.
use Rattle.std.proofs.Common.{◌≡◌, ◌∙◌, ℕ, zero, suc, ◌-◌, Bool, true, false, List, [], ◌∷◌, ◌++◌, length, ◌==◌, Option, Some, IsTrue, ◌⊎◌, inl, inr, codes, refl, sym, ap, arith}
use Rattle.world_heap.specs.declared.value.Value.{Value}
use Rattle.world_heap.specs.declared.value.Value.TheVariants.{Ref, Str}
use Rattle.world_heap.specs.declared.value.Property.TheVariants.{Data}
use Rattle.world_heap.specs.declared.value.Property.{Property}
use Rattle.world_heap.specs.declared.cell.Body.{Body}
use Rattle.world_heap.specs.declared.cell.Cell.{Cell}
use Rattle.world_heap.specs.declared.cell.Cell.TheVariants.{Closure, Native, Far}
use Rattle.js_semantics.specs.World.{World}
use Rattle.js_semantics.specs.Display.{Shown, shown_value, shown_one, message_text, shown_array, shown_object, shown_items, shown_properties}
use Rattle.js_display.specs.Line.{Built, showing, more}
use Rattle.js_display.specs.Levels.{opened, closed, is_any, cell_text}
use Rattle.js_display.proofs.Lines.{showing_twice}
use Rattle.js_display.proofs.Turns.{items_left, properties_left}

module _ (w : World ℕ) (around : List ℕ) (loc : ℕ) where
  pub array_opened : (depth : ℕ) (items : List (Value ℕ)) (line after : Built) → (depth ≡ 0 → ⊥) → (items ≡ [] → ⊥) → after ≡ more (codes "[") line
      → items_left w (shown_value w (depth - 1) (loc ∷ around)) (codes "]") true items after ≡ showing (shown_array w (opened w depth around loc) items line.left) line
  array_opened zero items line after d n e = absurd (d refl)
  array_opened (suc d) [] line after s n e = absurd (n refl)
  array_opened (suc d) (v ∷ vs) line after s n e =
      let less : suc d - 1 ≡ d = omega arith in
      let show : Value ℕ → ℕ → Shown = shown_value w d (loc ∷ around) in
      ap (λ k. items_left w (shown_value w k (loc ∷ around)) (codes "]") true (v ∷ vs) after) less
      ∙ ap (items_left w show (codes "]") true (v ∷ vs)) e
      ∙ showing_twice (record { text = codes "["; left = line.left }) (closed (codes "]") (shown_items w show true (v ∷ vs) line.left)) line

  pub array_shut : (depth : ℕ) (items : List (Value ℕ)) (line : Built) → depth ≡ 0 → (items ≡ [] → ⊥)
      → more (codes "[Array]") line ≡ showing (shown_array w (opened w depth around loc) items line.left) line
  array_shut zero [] line d n = absurd (n refl)
  array_shut zero (v ∷ vs) line d n = refl
  array_shut (suc d) items line s n = absurd (omega (arith, s))

  pub object_opened : (depth : ℕ) (es : List (List ℕ × Property ℕ)) (line after : Built) → (depth ≡ 0 → ⊥) → is_any es ≡ true → after ≡ more (codes "{") line
      → properties_left w (shown_value w (depth - 1) (loc ∷ around)) (codes "}") true es after ≡ showing (shown_object w (opened w depth around loc) es line.left) line
  object_opened zero es line after d n e = absurd (d refl)
  object_opened (suc d) [] line after s n e = absurd (cc)
  object_opened (suc d) (v ∷ vs) line after s n e =
      let less : suc d - 1 ≡ d = omega arith in
      let show : Value ℕ → ℕ → Shown = shown_value w d (loc ∷ around) in
      ap (λ k. properties_left w (shown_value w k (loc ∷ around)) (codes "}") true (v ∷ vs) after) less
      ∙ ap (properties_left w show (codes "}") true (v ∷ vs)) e
      ∙ showing_twice (record { text = codes "{"; left = line.left }) (closed (codes "}") (shown_properties w show true (v ∷ vs) line.left)) line

  pub object_shut : (depth : ℕ) (es : List (List ℕ × Property ℕ)) (line : Built) → depth ≡ 0 → is_any es ≡ true
      → more (codes "[Object]") line ≡ showing (shown_object w (opened w depth around loc) es line.left) line
  object_shut zero [] line d n = absurd (cc)
  object_shut zero (v ∷ vs) line d n = refl
  object_shut (suc d) es line s n = absurd (omega (arith, s))

  pub object_empty : (depth : ℕ) (es : List (List ℕ × Property ℕ)) (line : Built) → is_any es ≡ false
      → more (codes "{}") line ≡ showing (shown_object w (opened w depth around loc) es line.left) line
  object_empty depth [] line n = refl
  object_empty depth (v ∷ vs) line n = absurd (cc)

pub some_items : {A : Type 0} (b : Bool) (items : List A) → b ≡ (length items == 0) → b ≡ false → items ≡ [] → ⊥
some_items b [] e f n = absurd (cc)
some_items b (v ∷ vs) e f n = absurd (cc)

pub value_at : (w : World ℕ) (around : List ℕ) (loc depth left : ℕ) → shown_value w depth around (Ref loc) left ≡ shown_one w (opened w depth around) around (Ref loc) left
value_at w around loc zero left = refl
value_at w around loc (suc depth) left = refl

pub message_some : (text : List ℕ) (writable enumerable configurable : Bool) → (text ≡ [] → ⊥) → message_text {L = ℕ} (Some (Data (Str text) writable enumerable configurable)) ≡ codes ": " ++ text
message_some [] x y z n = absurd (n refl)
message_some (unit ∷ units) x y z n = refl

pub function_text : (cell : Cell ℕ)
    → ((b : Body ℕ) × (n : ℕ) × (env : ℕ) × (r : Option (Value ℕ)) × (cell ≡ Closure b n env r))
    ⊎ (((b : Body ℕ) × (i : ℕ) × (vs : List (Value ℕ)) × (cell ≡ Native b i vs)) ⊎ ((b : Body ℕ) × (n : ℕ) × (cell ≡ Far b n)))
    → cell_text cell ≡ codes "[Function]"
function_text cell (inl h) = ap cell_text h.4
function_text cell (inr (inl h)) = ap cell_text h.3
function_text cell (inr (inr h)) = ap cell_text h.2

pub never : IsTrue false → ⊥
never h = absurd (cc)
