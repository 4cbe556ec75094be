-- Arguments, one behind another.
use Rattle.std.proofs.Common.{◌≡◌, ◌∙◌, ℕ, ◌+◌, ◌≤◌, ◌<◌, List, [], ◌∷◌, ◌++◌, length, take, drop, get_or, Result, Ok, Err, Bool, true, false, refl, sym, ap, arith}
use Rattle.std.proofs.lemmas.List.{append-nil, take_all, drop_more, drop_all, length-take}
use Rattle.wl_text.specs.Answer.{Gives}
use Rattle.wl_text.specs.declared.fault.TextFault.{TextFault}
use Rattle.wl_text.specs.declared.fault.TextFault.TheVariants.{TooLong, Memory}
use Rattle.world_heap.specs.declared.value.Value.{Value}
use Rattle.world_heap.specs.declared.value.Value.TheVariants.{Undefined, Null, Bool as Boolean, Num, Str, Ref}
use Rattle.js_semantics.specs.World.{World}
use Rattle.js_semantics.specs.Display.{Shown, display, shown_value, line_of}
use Rattle.js_display.specs.Levels.{joined, space}
use Rattle.js_display.specs.Line.{Built, showing, more, Says}
use Rattle.js_display.proofs.Lines.{cut_twice, full_stays}

-- what is shown of an argument of which so many may be shown
pub says_shown : (S : ℕ → Shown) (n : ℕ) (before line after : Built) → line ≡ record before { left = n } → after ≡ showing (S line.left) line → Says before (S n).text after
says_shown S n before line after e f =
    (ap (λ l. l.limit) f ∙ ap (λ l. l.limit) e, ap (λ l. l.text) f ∙ ap (λ l. take l.limit (l.text ++ (S l.left).text)) e)

pub display_other : (w : World ℕ) (v : Value ℕ) → ((t : List ℕ) → v ≡ Str t → ⊥) → display w v ≡ (shown_value w 2 [] v 200).text
unfolding display
display_other w Undefined n = refl
display_other w Null n = refl
display_other w (Boolean b) n = refl
display_other w (Num z) n = refl
display_other w (Str t) n = absurd (n t refl)
display_other w (Ref l) n = refl

-- A text that is cut one unit above the greatest length is too long exactly where it was.
pub gives_cut : (r : Result (List ℕ) TextFault) (text : List ℕ) → Gives r (take 1_048_577 text) → Gives r text
gives_cut (Ok given) text h =
    let size : length (take 1_048_577 text) ≤ 1_048_576 = h.1 in
    let within : length text ≤ 1_048_576 = omega (arith, size, length-take 1_048_577 text) in
    (h.0 ∙ take_all 1_048_577 text (omega (arith, within)), within)
gives_cut (Err TooLong) text h = omega (arith, h, length-take 1_048_577 text)
gives_cut (Err Memory) text h = tt

module _ (w : World ℕ) where
  joined_next : (first : Bool) (v : Value ℕ) (vs : List (Value ℕ)) → joined w first (v ∷ vs) ≡ space first ++ (display w v ++ joined w false vs)
  joined_next true v vs = refl
  joined_next false v vs = refl

  joined_none : (first : Bool) → joined w first [] ≡ []
  joined_none true = refl
  joined_none false = refl

  -- the line's text with what is still to be shown of the arguments
  abbrev pub arguments_left : Bool → List (Value ℕ) → Built → List ℕ
  arguments_left first vs line = take line.limit (line.text ++ joined w first vs)

  pub argument_turn : (first : Bool) (arguments : List (Value ℕ)) (i : ℕ) (v : Value ℕ) (start : List ℕ) (before spaced after : Built) → i < length arguments → v ≡ get_or arguments i v
      → spaced ≡ more (space first) before → Says spaced (display w v) after → arguments_left first (drop i arguments) before ≡ start → arguments_left false (drop (i + 1) arguments) after ≡ start
  argument_turn first arguments i v start before spaced after h is e s inv =
      let left : List (Value ℕ) = drop (i + 1) arguments in
      let rest : List ℕ = joined w false left in
      (λ j. take (s.0 j) (s.1 j ++ rest))
      ∙ cut_twice spaced.limit spaced.text (display w v) rest
      ∙ ap (λ l. take l.limit (l.text ++ (display w v ++ rest))) e
      ∙ cut_twice before.limit before.text (space first) (display w v ++ rest)
      ∙ ap (λ t. take before.limit (before.text ++ t)) (sym (joined_next first v left))
      ∙ ap (λ vs. arguments_left first vs before) (sym (drop_more arguments i v h ∙ ap (λ x. x ∷ left) (sym is)))
      ∙ inv

  pub argument_limit : (first : Bool) (v : Value ℕ) (limit : ℕ) (before spaced after : Built) → spaced ≡ more (space first) before → Says spaced (display w v) after → before.limit ≡ limit → after.limit ≡ limit
  argument_limit first v limit before spaced after e s h = s.0 ∙ ap (λ l. l.limit) e ∙ h

  pub argument_fits : (text : List ℕ) (before after : Built) → Says before text after → length after.text ≤ after.limit
  argument_fits text before after s = omega (arith, ap length s.1, length-take before.limit (before.text ++ text), s.0)

  pub arguments_full : (first : Bool) (vs : List (Value ℕ)) (start : List ℕ) (line : Built) → length line.text ≡ line.limit → arguments_left first vs line ≡ start → line.text ≡ start
  arguments_full first vs start line full inv = sym (full_stays (record { text = joined w first vs; left = 0 }) line full) ∙ inv

  pub arguments_end : (first : Bool) (arguments : List (Value ℕ)) (i : ℕ) (start : List ℕ) (line : Built) → length line.text ≤ line.limit → length arguments ≤ i
      → arguments_left first (drop i arguments) line ≡ start → line.text ≡ start
  arguments_end first arguments i start line fits h inv =
      let none : joined w first (drop i arguments) ≡ [] = ap (joined w first) (drop_all i arguments h) ∙ joined_none first in
      sym (ap (λ t. take line.limit (line.text ++ t)) none ∙ ap (take line.limit) (append-nil line.text) ∙ take_all line.limit line.text fits) ∙ inv

pub line_is : (w : World ℕ) (vs : List (Value ℕ)) → take 65_536 (joined w true vs) ≡ line_of w vs
unfolding line_of
line_is w [] = refl
line_is w (v ∷ vs) = refl
