-- An operand of a list, read as an expression and as a parameter: both stay in step behind it.
use Rattle.std.proofs.Common.{inl, inr, true, false, Bool, ◌⊎◌, ◌≡◌, ℕ, List, [], ◌∷◌, Ok, Err, refl, ap, sym, subst, ◌∙◌}
use Rattle.std.specs.Prelude.{if◌then◌else◌, ◌==◌}
use Rattle.grammar.specs.Kinds.{among, apart}
use Rattle.grammar.specs.Grammar.{Tree, tip, leaf, pair, node, line, both, either, starts, entry}
use Rattle.grammar.specs.Reading.{firsts, nullable}
use Rattle.grammar.specs.Tests.{InPlace}
use Rattle.grammar.proofs.Sets.{off-apart, is_or_not}
use Rattle.grammar.proofs.Free.{free}
use Rattle.js_token.specs.declared.token.Token.{Token}
use Rattle.js_grammar.specs.Script.{script, rules, bind, identifier, parameters, arrow_tail, arrow_kinds, form, assign_rule, cond_rule}
use Rattle.js_parse.specs.declared.symbol.Symbol.{Symbol}
use Rattle.js_parse.specs.declared.symbol.Symbol.TheVariants as s
use Rattle.js_parse.specs.Symbols.{of_kind, is_name, same}
use Rattle.js_parse.specs.Input.{arrow_at}
use Rattle.parse_laws.specs.Kinds.{token_kind, numbered}
use Rattle.parse_laws.proofs.Guided.{Was, Goes, done, called, wrong, forked, opens_next, guided, guided-continues}
use Rattle.parse_laws.proofs.Walk.{language, ahead, rule, at_kind}
use Rattle.parse_laws.proofs.Begun.{kind-at, not-begun, tables}
use Rattle.parse_laws.proofs.Ahead.{ahead-name, ahead-other, arrow-starts, no-name, opening}
use Rattle.parse_laws.proofs.Scripts.{end_kinds}
use Rattle.parse_laws.proofs.Places.{EndsIn, Within, within-self, ascends-behind, Stands, stands-then, rule-stands, stands-past}
use Rattle.parse_laws.proofs.Covered.{Read, Placed, onward-by, behind, behind-stands, cond-name, cond-brace, cond-bracket}
use Rattle.parse_laws.proofs.Lockstep.{Fine, fine-behind, Lock, follow_kinds, Open, lock-then, defaulted, operated, defaulted-stands, operated-onward, defaulted-onward, equal_kinds, default-none, behind-open}

-- ---- a right side of a list, and a parameter

-- what a binding may begin with
abbrev pub begins_bind : Symbol → Bool
begins_bind s.OpenBrace = true
begins_bind s.OpenBracket = true
begins_bind symbol = is_name symbol

pub placed-assign : (b : Bool) → Placed (line (form b 43) (assign_rule b))
unfolding InPlace rules entry free tables apart
placed-assign true = (refl, refl)
placed-assign false = (refl, refl)

pub placed-bind : Placed bind
unfolding InPlace rules entry free tables apart
placed-bind = (search, refl)

pub placed-arrow : (b : Bool) → Placed (arrow_tail b)
unfolding InPlace rules entry free tables apart
placed-arrow true = (search, refl)
placed-arrow false = (search, refl)

-- an arrow behind a name
pub named-arrow : (depth : ℕ) (allow_in : Bool) (t : Token) (ts : List Token) → is_name (of_kind t.kind) ≡ true
    → guided language ahead (rule depth) (both (either parameters identifier) (arrow_tail allow_in)) (t ∷ ts) done ≡ guided language ahead (rule depth) (arrow_tail allow_in) ts (λ b r. done (pair (leaf t) b) r)
unfolding at_kind tables guided
named-arrow depth allow_in t ts n = by (of_kind t.kind) t.broken n refl refl
  where
    by : (symbol : Symbol) (broken : Bool) → is_name symbol ≡ true → of_kind t.kind ≡ symbol → t.broken ≡ broken
        → guided language ahead (rule depth) (both (either parameters identifier) (arrow_tail allow_in)) (t ∷ ts) done ≡ guided language ahead (rule depth) (arrow_tail allow_in) ts (λ b r. done (pair (leaf t) b) r)
    by s.Name true n e f = kind-at depth s.Name true (both (either parameters identifier) (arrow_tail allow_in)) t ts done e f
    by s.Name false n e f = kind-at depth s.Name false (both (either parameters identifier) (arrow_tail allow_in)) t ts done e f
    by s.Of true n e f = kind-at depth s.Of true (both (either parameters identifier) (arrow_tail allow_in)) t ts done e f
    by s.Of false n e f = kind-at depth s.Of false (both (either parameters identifier) (arrow_tail allow_in)) t ts done e f
    by s.Get true n e f = kind-at depth s.Get true (both (either parameters identifier) (arrow_tail allow_in)) t ts done e f
    by s.Get false n e f = kind-at depth s.Get false (both (either parameters identifier) (arrow_tail allow_in)) t ts done e f
    by s.Set true n e f = kind-at depth s.Set true (both (either parameters identifier) (arrow_tail allow_in)) t ts done e f
    by s.Set false n e f = kind-at depth s.Set false (both (either parameters identifier) (arrow_tail allow_in)) t ts done e f
    by _ _ n e f = absurd (cc (n))

module _ (depth : ℕ) where
  abbrev pub bound : (Tree Token → Tree Token → Tree Token) → List Token → Was Token
  bound fy ts = guided language ahead (rule depth) bind ts (defaulted depth fy)

  abbrev pub assigned : (Tree Token → Tree Token) → List Token → Was Token
  assigned fx ts = guided language ahead (rule depth) (line 43 (assign_rule true)) ts (λ a r. done (fx a) r)

  pub assigned-stands : (ts m : List Token) (fx : Tree Token → Tree Token) → Within ts m → Stands ts (assigned fx m)
  assigned-stands ts m fx w = onward-by depth (line 43 (assign_rule true)) (placed-assign true).0 (placed-assign true).1 ts m w _ (λ a r v. v)

  pub bound-stands : (ts m : List Token) (fy : Tree Token → Tree Token → Tree Token) → Within ts m → Stands ts (bound fy m)
  bound-stands ts m fy w = onward-by depth bind placed-bind.0 placed-bind.1 ts m w _ (λ a r v. defaulted-stands depth ts r fy a v)

  -- an expression that begins with no parenthesis, where no arrow comes
  pub assigned-plain : (fx : Tree Token → Tree Token) (t : Token) (ts : List Token) → opens_next (t ∷ ts) ≡ false → ahead (t ∷ ts) ≡ false
      → assigned fx (t ∷ ts) ≡ called (guided language ahead (rule depth) (cond_rule true) (t ∷ ts) done) (λ a r. done (fx (node 43 a)) r)
  unfolding assign_rule guided
  assigned-plain fx t ts o a = by (starts language (among (firsts language.heads (line 42 (cond_rule true)))) (t ∷ ts)) (opens_next (t ∷ ts)) (ahead (t ∷ ts)) o a
    where
      x : Was Token
      x = guided language ahead (rule depth) (cond_rule true) (t ∷ ts) done

      y : Was Token
      y = guided language ahead (rule depth) (both (either parameters identifier) (arrow_tail true)) (t ∷ ts) done

      by : (b c d : Bool) → c ≡ false → d ≡ false
          → (if b then called (forked c d x y) (λ a r. done (fx (node 43 a)) r) else guided language ahead (rule depth) (cond_rule true) (t ∷ ts) (λ a r. done (fx (node 43 a)) r))
          ≡ called x (λ a r. done (fx (node 43 a)) r)
      by true false false o a = refl
      by true true d o a = absurd (cc (o))
      by true false true o a = absurd (cc (a))
      by false c d o a = guided-continues language ahead (rule depth) Read (cond_rule true) (t ∷ ts) (λ a r. done (fx (node 43 a)) r)

  -- where an arrow comes behind a name
  pub assigned-arrow : (fx : Tree Token → Tree Token) (t : Token) (ts : List Token) → is_name (of_kind t.kind) ≡ true → EndsIn ts → Stands ts (assigned fx (t ∷ ts))
  unfolding assign_rule guided
  assigned-arrow fx t ts n e = by (starts language (among (firsts language.heads (line 42 (cond_rule true)))) (t ∷ ts)) (opens_next (t ∷ ts)) (ahead (t ∷ ts)) (not-open (of_kind t.kind) n)
    where
      wrap : Goes Token Read
      wrap a r = done (fx (node 43 a)) r

      x : Was Token
      x = guided language ahead (rule depth) (cond_rule true) (t ∷ ts) done

      y : Was Token
      y = guided language ahead (rule depth) (both (either parameters identifier) (arrow_tail true)) (t ∷ ts) done

      not-open : (symbol : Symbol) → is_name symbol ≡ true → same symbol s.OpenParen ≡ false
      not-open symbol n = no-name symbol n

      x-stands : Stands ts (called x wrap)
      x-stands = subst (λ w. Stands ts (called w wrap)) (sym (cond-name depth true (of_kind t.kind) t.broken t ts n refl refl))
          (stands-then ts (behind depth true (leaf t) ts) wrap (behind-stands depth true ts ts (leaf t) (within-self ts e)) (λ a r v. v))

      y-is : y ≡ guided language ahead (rule depth) (arrow_tail true) ts (λ b r. done (pair (leaf t) b) r)
      y-is = named-arrow depth true t ts n

      y-stands : Stands ts (called y wrap)
      y-stands = subst (λ w. Stands ts (called w wrap)) (sym y-is)
          (stands-then ts (guided language ahead (rule depth) (arrow_tail true) ts (λ b r. done (pair (leaf t) b) r)) wrap
          (onward-by depth (arrow_tail true) (placed-arrow true).0 (placed-arrow true).1 ts ts (within-self ts e) _ (λ a r v. v)) (λ a r v. v))

      by : (b c d : Bool) → c ≡ false → Stands ts (if b then called (forked c d x y) wrap else guided language ahead (rule depth) (cond_rule true) (t ∷ ts) wrap)
      by true true d o = absurd (cc (o))
      by true false true o = y-stands
      by true false false o = x-stands
      by false c d o = subst (Stands ts) (sym (guided-continues language ahead (rule depth) Read (cond_rule true) (t ∷ ts) wrap)) x-stands

  pub bound-name : (fy : Tree Token → Tree Token → Tree Token) (t : Token) (ts : List Token) → is_name (of_kind t.kind) ≡ true → bound fy (t ∷ ts) ≡ defaulted depth fy (leaf t) ts
  unfolding at_kind tables guided
  bound-name fy t ts n = by (of_kind t.kind) t.broken n refl refl
    where
      by : (symbol : Symbol) (broken : Bool) → is_name symbol ≡ true → of_kind t.kind ≡ symbol → t.broken ≡ broken → bound fy (t ∷ ts) ≡ defaulted depth fy (leaf t) ts
      by s.Name true n e f = kind-at depth s.Name true bind t ts (defaulted depth fy) e f
      by s.Name false n e f = kind-at depth s.Name false bind t ts (defaulted depth fy) e f
      by s.Of true n e f = kind-at depth s.Of true bind t ts (defaulted depth fy) e f
      by s.Of false n e f = kind-at depth s.Of false bind t ts (defaulted depth fy) e f
      by s.Get true n e f = kind-at depth s.Get true bind t ts (defaulted depth fy) e f
      by s.Get false n e f = kind-at depth s.Get false bind t ts (defaulted depth fy) e f
      by s.Set true n e f = kind-at depth s.Set true bind t ts (defaulted depth fy) e f
      by s.Set false n e f = kind-at depth s.Set false bind t ts (defaulted depth fy) e f
      by _ _ n e f = absurd (cc (n))

  pub bound-pattern : (fy : Tree Token → Tree Token → Tree Token) (symbol : Symbol) (broken : Bool) (t : Token) (ts : List Token) → of_kind t.kind ≡ symbol → t.broken ≡ broken
      → among (language.heads 20) (numbered symbol broken) ≡ true → is_name symbol ≡ false → bound fy (t ∷ ts) ≡ called (rule depth 20 (t ∷ ts)) (defaulted depth fy)
  unfolding at_kind tables guided
  bound-pattern fy s.OpenBrace true t ts e f b n = kind-at depth s.OpenBrace true bind t ts (defaulted depth fy) e f
  bound-pattern fy s.OpenBrace false t ts e f b n = kind-at depth s.OpenBrace false bind t ts (defaulted depth fy) e f
  bound-pattern fy s.OpenBracket true t ts e f b n = kind-at depth s.OpenBracket true bind t ts (defaulted depth fy) e f
  bound-pattern fy s.OpenBracket false t ts e f b n = kind-at depth s.OpenBracket false bind t ts (defaulted depth fy) e f
  bound-pattern fy _ true t ts e f b n = absurd (cc (b))
  bound-pattern fy _ false t ts e f b n = absurd (cc (b))

  -- What neither is a name nor opens brackets is no binding.
  pub bound-none : (fy : Tree Token → Tree Token → Tree Token) (ts : List Token) → starts language (among (firsts language.heads bind)) ts ≡ false → bound fy ts ≡ Err (wrong ts)
  unfolding InPlace nullable
  bound-none fy ts o = not-begun depth bind placed-bind.0 refl ts (defaulted depth fy) o

  abbrev pub Locks : Type 0
  Locks = ((t : Token) (ts : List Token) → Fine (t ∷ ts) → of_kind t.kind ≡ s.OpenBrace → Lock (rule depth 9 (t ∷ ts)) (rule depth 20 (t ∷ ts)))
      × ((t : Token) (ts : List Token) → Fine (t ∷ ts) → of_kind t.kind ≡ s.OpenBracket → Lock (rule depth 8 (t ∷ ts)) (rule depth 20 (t ∷ ts)))

  -- behind brackets in place of a name
  pub literal-open : (fx : Tree Token → Tree Token) (fy : Tree Token → Tree Token → Tree Token) (n : ℕ) (t : Token) (ts : List Token) → Fine (t ∷ ts) → (n == script) ≡ false
      → opens_next (t ∷ ts) ≡ false → ahead (t ∷ ts) ≡ false → guided language ahead (rule depth) (cond_rule true) (t ∷ ts) done ≡ called (rule depth n (t ∷ ts)) (behind depth true)
      → bound fy (t ∷ ts) ≡ called (rule depth 20 (t ∷ ts)) (defaulted depth fy) → Lock (rule depth n (t ∷ ts)) (rule depth 20 (t ∷ ts)) → Open (assigned fx (t ∷ ts)) (bound fy (t ∷ ts))
  literal-open fx fy n t ts f o p a c b l =
      let one : assigned fx (t ∷ ts) ≡ called (rule depth n (t ∷ ts)) (operated depth (λ a. fx (node 43 a))) =
      assigned-plain fx t ts p a ∙ ap (λ w. called w (λ a r. done (fx (node 43 a)) r)) c ∙ twice (rule depth n (t ∷ ts)) in
      subst (λ u. Open u (bound fy (t ∷ ts))) (sym one) (subst (λ u. Open (called (rule depth n (t ∷ ts)) (operated depth (λ a. fx (node 43 a)))) u) (sym b)
      (lock-then (t ∷ ts) (rule depth n (t ∷ ts)) (rule depth 20 (t ∷ ts)) (operated depth (λ a. fx (node 43 a))) (defaulted depth fy) (rule-stands depth n o (t ∷ ts) f.1) (rule-stands depth 20 refl (t ∷ ts) f.1)
      (operated-onward depth (t ∷ ts) (λ a. fx (node 43 a)) f.0) (defaulted-onward depth (t ∷ ts) fy f.0) l
      (λ a b m w. behind-open depth (λ a. fx (node 43 a)) fy a b m (fine-behind (t ∷ ts) m f w))))
    where
      twice : (w : Was Token) → called (called w (behind depth true)) (λ a r. done (fx (node 43 a)) r) ≡ called w (operated depth (λ a. fx (node 43 a)))
      twice (Ok q) = refl
      twice (Err e) = refl

  abbrev pub BindCase : Symbol → Bool → Type 0
  BindCase symbol broken = (symbol ≡ s.OpenBrace) ⊎ ((symbol ≡ s.OpenBracket) ⊎ (among (firsts language.heads bind) (numbered symbol broken) ≡ false))

  pub bind-case : (symbol : Symbol) (broken : Bool) → is_name symbol ≡ false → BindCase symbol broken
  unfolding tables
  bind-case s.OpenBrace broken n = inl refl
  bind-case s.OpenBracket broken n = inr (inl refl)
  bind-case s.Name broken n = absurd (cc (n))
  bind-case s.Of broken n = absurd (cc (n))
  bind-case s.Get broken n = absurd (cc (n))
  bind-case s.Set broken n = absurd (cc (n))
  bind-case _ true n = inr (inr refl)
  bind-case _ false n = inr (inr refl)

  pub name-no_end : (symbol : Symbol) (broken : Bool) → is_name symbol ≡ true → among end_kinds (numbered symbol broken) ≡ false
  unfolding tables
  name-no_end s.End broken n = absurd (cc (n))
  name-no_end _ true n = refl
  name-no_end _ false n = refl

  pub fine-name : (t : Token) (ts : List Token) → Fine (t ∷ ts) → is_name (of_kind t.kind) ≡ true → Fine ts
  unfolding token_kind
  fine-name t ts f n = (
    ascends-behind (t ∷ []) (t ∷ ts) ts refl f.0,
    elim f.1 [ inl h ↦ absurd (let off = name-no_end (of_kind t.kind) t.broken n in cc (off, h)) | inr h ↦ h ],
  )

  pub arrow-off : (m : List Token) → arrow_at m ≡ true → (starts language (among (equal_kinds depth)) m ≡ false) × (starts language (among follow_kinds) m ≡ false)
  unfolding tables apart
  arrow-off m a =
      let on : starts language (among arrow_kinds) m ≡ true = sym (arrow-starts m) ∙ a in
      (off-apart language (equal_kinds depth) arrow_kinds m refl on, off-apart language follow_kinds arrow_kinds m refl on)

  -- A name in the place of an operand, and as a binding.
  pub name-open : (fx : Tree Token → Tree Token) (fy : Tree Token → Tree Token → Tree Token) (t : Token) (ts : List Token) → Fine (t ∷ ts) → is_name (of_kind t.kind) ≡ true
      → Open (assigned fx (t ∷ ts)) (bound fy (t ∷ ts))
  name-open fx fy t ts f n = subst (λ u. Open (assigned fx (t ∷ ts)) u) (sym (bound-name fy t ts n)) (elim (is_or_not (arrow_at ts)) [
    | inl a ↦
        let off = arrow-off ts a in
        let g = fine-name t ts f n in
        inr (inl (ts, inr (fy (leaf t) tip, default-none depth ts (λ b r. done (fy (leaf t) b) r) off.0, off.1), stands-past ts (assigned fx (t ∷ ts)) g.0 (assigned-arrow fx t ts n g.1)))
    | inr a ↦
        let one : assigned fx (t ∷ ts) ≡ operated depth (λ a. fx (node 43 a)) (leaf t) ts =
        assigned-plain fx t ts (no-name (of_kind t.kind) n) (ahead-name t ts n ∙ a) ∙ ap (λ w. called w (λ a r. done (fx (node 43 a)) r)) (cond-name depth true (of_kind t.kind) t.broken t ts n refl refl) in
        subst (λ u. Open u (defaulted depth fy (leaf t) ts)) (sym one) (behind-open depth (λ a. fx (node 43 a)) fy (leaf t) (leaf t) ts (fine-name t ts f n))
  ])

  pub member-open : Locks → (fx : Tree Token → Tree Token) (fy : Tree Token → Tree Token → Tree Token) (ts : List Token) → Fine ts → Open (assigned fx ts) (bound fy ts)
  unfolding same token_kind tables
  member-open l fx fy [] f = absurd f.1
  member-open l fx fy (t ∷ ts) f = elim (is_or_not (is_name (of_kind t.kind))) [
    | inl n ↦ name-open fx fy t ts f n
    | inr n ↦ elim (bind-case (of_kind t.kind) t.broken n) [
      | inl e ↦ literal-open fx fy 9 t ts f refl (ap (λ symbol. same symbol s.OpenParen) e) (ahead-other t ts (ap (λ symbol. among opening (numbered symbol t.broken)) e ∙ brace-kind t.broken) n)
          (cond-brace depth true t.broken t ts e refl) (bound-pattern fy s.OpenBrace t.broken t ts e refl (brace-heads t.broken) refl) (l.0 t ts f e)
      | inr g ↦ elim g [
        | inl e ↦ literal-open fx fy 8 t ts f refl (ap (λ symbol. same symbol s.OpenParen) e) (ahead-other t ts (ap (λ symbol. among opening (numbered symbol t.broken)) e ∙ bracket-kind t.broken) n)
            (cond-bracket depth true t.broken t ts e refl) (bound-pattern fy s.OpenBracket t.broken t ts e refl (bracket-heads t.broken) refl) (l.1 t ts f e)
        | inr e ↦ inr (inl (t ∷ ts, inl (bound-none fy (t ∷ ts) e), stands-past (t ∷ ts) (assigned fx (t ∷ ts)) f.0 (assigned-stands (t ∷ ts) (t ∷ ts) fx (within-self (t ∷ ts) f.1))))
      ]
    ]
  ]
    where
      brace-kind : (b : Bool) → among opening (numbered s.OpenBrace b) ≡ false
      brace-kind true = refl
      brace-kind false = refl

      bracket-kind : (b : Bool) → among opening (numbered s.OpenBracket b) ≡ false
      bracket-kind true = refl
      bracket-kind false = refl

      brace-heads : (b : Bool) → among (language.heads 20) (numbered s.OpenBrace b) ≡ true
      brace-heads true = refl
      brace-heads false = refl

      bracket-heads : (b : Bool) → among (language.heads 20) (numbered s.OpenBracket b) ≡ true
      bracket-heads true = refl
      bracket-heads false = refl
