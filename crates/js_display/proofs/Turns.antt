-- One element or property more.
use Rattle.std.proofs.Common.{◌≡◌, ◌∙◌, ℕ, zero, suc, ◌+◌, ◌-◌, ◌≤◌, ◌<◌, length, drop, get_or, Bool, true, false, List, [], ◌∷◌, ◌++◌, take, codes, refl, sym, ap, arith}
use Rattle.std.proofs.lemmas.List.{drop_more, drop_all}
use Rattle.world_heap.specs.declared.value.Value.{Value}
use Rattle.world_heap.specs.declared.value.Property.{Property}
use Rattle.js_semantics.specs.World.{World}
use Rattle.js_semantics.specs.Display.{Shown, shown_items, shown_property, shown_properties, shown_key, separator}
use Rattle.js_display.specs.Line.{Built, showing, more, Spends}
use Rattle.js_display.specs.Levels.{closed, dots}
use Rattle.js_display.proofs.Lines.{cut_twice, cut_thrice, cut_five}

module _ (w : World ℕ) (show : Value ℕ → ℕ → Shown) (behind : List ℕ) where
  -- what is still to be shown, with what stands behind it
  abbrev pub items_left : Bool → List (Value ℕ) → Built → Built
  items_left first vs line = showing (closed behind (shown_items w show first vs line.left)) line

  abbrev pub properties_left : Bool → List (List ℕ × Property ℕ) → Built → Built
  properties_left first es line = showing (closed behind (shown_properties w show first es line.left)) line

  items_step : (first : Bool) (v : Value ℕ) (vs : List (Value ℕ)) (text : List ℕ) (limit n : ℕ)
      → items_left first (v ∷ vs) (record { text = text; limit = limit; left = suc n })
      ≡ items_left false vs (showing (show v n) (more (separator first) (record { text = text; limit = limit; left = n })))
  items_step first v vs text limit n = λ i. record {
    text = cut_thrice limit text (separator first) (show v n).text (shown_items w show false vs (show v n).left).text behind i;
    limit = limit;
    left = (shown_items w show false vs (show v n).left).left;
  }

  properties_step : (first : Bool) (e : List ℕ × Property ℕ) (es : List (List ℕ × Property ℕ)) (text : List ℕ) (limit n : ℕ)
      → properties_left first (e ∷ es) (record { text = text; limit = limit; left = suc n })
      ≡ properties_left false es (showing (shown_property w show e.1 n) (more (codes ": ") (more (shown_key e.0) (more (separator first) (record { text = text; limit = limit; left = n })))))
  properties_step first e es text limit n = λ i. record {
    text = cut_five limit text (separator first) (shown_key e.0) (codes ": ") (shown_property w show e.1 n).text (shown_properties w show false es (shown_property w show e.1 n).left).text behind i;
    limit = limit;
    left = (shown_properties w show false es (shown_property w show e.1 n).left).left;
  }

  -- an element more is shown
  pub items_turn : (first : Bool) (v : Value ℕ) (vs : List (Value ℕ)) (before spent after : Built) → Spends before true spent
      → after ≡ showing (show v spent.left) (more (separator first) spent)
      → items_left first (v ∷ vs) before ≡ items_left false vs after
  items_turn first v vs before spent after s e =
      let n : ℕ = before.left - 1 in
      let h : before.left ≡ suc n = omega (arith, s.0) in
      ap (λ k. items_left first (v ∷ vs) (record before { left = k })) h
      ∙ items_step first v vs before.text before.limit n
      ∙ ap (λ l. items_left false vs (showing (show v l.left) (more (separator first) l))) (sym s.1)
      ∙ ap (items_left false vs) (sym e)

  -- no element may be shown any more
  pub items_stop : (first : Bool) (v : Value ℕ) (vs : List (Value ℕ)) (before spent : Built) → Spends before false spent
      → items_left first (v ∷ vs) before ≡ more behind (more (dots first) spent)
  items_stop first v vs before spent s =
      let none : before ≡ record before { left = 0 } = ap (λ k. record before { left = k }) s.0 in
      ap (items_left first (v ∷ vs)) none
      ∙ (λ i. record { text = sym (cut_twice before.limit before.text (dots first) behind) i; limit = before.limit; left = 0 })
      ∙ ap (λ l. more behind (more (dots first) l)) (sym (s.1 ∙ none))

  -- a property more is shown
  pub properties_turn : (first : Bool) (e : List ℕ × Property ℕ) (es : List (List ℕ × Property ℕ)) (before spent after : Built) → Spends before true spent
      → after ≡ showing (shown_property w show e.1 spent.left) (more (codes ": ") (more (shown_key e.0) (more (separator first) spent)))
      → properties_left first (e ∷ es) before ≡ properties_left false es after
  properties_turn first e es before spent after s q =
      let n : ℕ = before.left - 1 in
      let h : before.left ≡ suc n = omega (arith, s.0) in
      ap (λ k. properties_left first (e ∷ es) (record before { left = k })) h
      ∙ properties_step first e es before.text before.limit n
      ∙ ap (λ l. properties_left false es (showing (shown_property w show e.1 l.left) (more (codes ": ") (more (shown_key e.0) (more (separator first) l))))) (sym s.1)
      ∙ ap (properties_left false es) (sym q)

  -- no property may be shown any more
  pub properties_stop : (first : Bool) (e : List ℕ × Property ℕ) (es : List (List ℕ × Property ℕ)) (before spent : Built) → Spends before false spent
      → properties_left first (e ∷ es) before ≡ more behind (more (dots first) spent)
  properties_stop first e es before spent s =
      let none : before ≡ record before { left = 0 } = ap (λ k. record before { left = k }) s.0 in
      ap (properties_left first (e ∷ es)) none
      ∙ (λ i. record { text = sym (cut_twice before.limit before.text (dots first) behind) i; limit = before.limit; left = 0 })
      ∙ ap (λ l. more behind (more (dots first) l)) (sym (s.1 ∙ none))

  -- the same, of the elements from a place on
  next_item : (items : List (Value ℕ)) (i : ℕ) (v : Value ℕ) → i < length items → v ≡ get_or items i v → drop i items ≡ v ∷ drop (i + 1) items
  next_item items i v h is = drop_more items i v h ∙ ap (λ x. x ∷ drop (i + 1) items) (sym is)

  pub items_turn_at : (first : Bool) (items : List (Value ℕ)) (i : ℕ) (v : Value ℕ) (start before spent after : Built) → i < length items → v ≡ get_or items i v → Spends before true spent
      → after ≡ showing (show v spent.left) (more (separator first) spent)
      → start ≡ items_left first (drop i items) before → start ≡ items_left false (drop (i + 1) items) after
  items_turn_at first items i v start before spent after h is s e inv =
      inv ∙ ap (λ vs. items_left first vs before) (next_item items i v h is) ∙ items_turn first v (drop (i + 1) items) before spent after s e

  pub items_stop_at : (first : Bool) (items : List (Value ℕ)) (i : ℕ) (v : Value ℕ) (start before spent : Built) → i < length items → v ≡ get_or items i v → Spends before false spent
      → start ≡ items_left first (drop i items) before → start ≡ more behind (more (dots first) spent)
  items_stop_at first items i v start before spent h is s inv =
      inv ∙ ap (λ vs. items_left first vs before) (next_item items i v h is) ∙ items_stop first v (drop (i + 1) items) before spent s

  pub items_end : (first : Bool) (items : List (Value ℕ)) (i : ℕ) (start before : Built) → length items ≤ i
      → start ≡ items_left first (drop i items) before → start ≡ more behind before
  items_end first items i start before h inv = inv ∙ ap (λ vs. items_left first vs before) (drop_all i items h)

  -- the same, of the properties from a place on
  pub properties_turn_at : (first : Bool) (es rest : List (List ℕ × Property ℕ)) (e : List ℕ × Property ℕ) (start before spent after : Built) → es ≡ e ∷ rest → Spends before true spent
      → after ≡ showing (shown_property w show e.1 spent.left) (more (codes ": ") (more (shown_key e.0) (more (separator first) spent)))
      → start ≡ properties_left first es before → start ≡ properties_left false rest after
  properties_turn_at first es rest e start before spent after here s q inv =
      inv ∙ ap (λ xs. properties_left first xs before) here ∙ properties_turn first e rest before spent after s q

  pub properties_stop_at : (first : Bool) (es rest : List (List ℕ × Property ℕ)) (e : List ℕ × Property ℕ) (start before spent : Built) → es ≡ e ∷ rest → Spends before false spent
      → start ≡ properties_left first es before → start ≡ more behind (more (dots first) spent)
  properties_stop_at first es rest e start before spent here s inv =
      inv ∙ ap (λ xs. properties_left first xs before) here ∙ properties_stop first e rest before spent s
