-- The rules in both readings of a parenthesis: brackets of an array and of a pattern, of an object and of a pattern, and a parenthesis and parameters.
use Rattle.std.proofs.Common.{inl, inr, true, false, Bool, ◌≡◌, ℕ, List, [], ◌∷◌, Err, refl, ap, sym, subst, ◌∙◌, codes}
use Rattle.std.proofs.lemmas.List.{append-nil}
use Rattle.grammar.specs.Kinds.{among, apart, covers}
use Rattle.grammar.specs.Grammar.{Tree, tip, leaf, pair, token, line, both, either, starts, entry}
use Rattle.grammar.specs.Reading.{firsts, nullable}
use Rattle.grammar.specs.Tests.{InPlace}
use Rattle.grammar.proofs.Sets.{off-apart, at-covered, is_or_not}
use Rattle.grammar.proofs.Free.{free}
use Rattle.js_token.specs.declared.token.Token.{Token}
use Rattle.js_grammar.specs.Kinds.{kinds, mark}
use Rattle.js_grammar.specs.Script.{Rule, script, rules, any, always, optional, has_member, listed, bind, default, parameter, pattern_member, pattern_rule, array_rule, object_rule, element, property, behind_key, key, computed_key, getter, setter, rest_parameter, is_parameter, has_parameter, parameter_list, parameters_rule, group_rule, expr, expr_rule, assign_rule}
use Rattle.js_parse.specs.declared.symbol.Symbol.{Symbol}
use Rattle.js_parse.specs.declared.symbol.Symbol.TheVariants as s
use Rattle.js_parse.specs.Symbols.{of_kind, same}
use Rattle.parse_laws.specs.Kinds.{token_kind, numbered}
use Rattle.parse_laws.proofs.Guided.{Was, Goes, done, wrong, guided, taking}
use Rattle.parse_laws.proofs.Sound.{vacant}
use Rattle.parse_laws.proofs.Walk.{language, ahead, rule, at_kind}
use Rattle.parse_laws.proofs.Begun.{kind-at, chosen-false, tables}
use Rattle.parse_laws.proofs.Symbols.{end-agrees}
use Rattle.parse_laws.proofs.Scripts.{end_kinds}
use Rattle.parse_laws.proofs.Places.{EndsIn, within-self, ascends-behind, Stands, stands-past}
use Rattle.parse_laws.proofs.Covered.{Read, Placed, onward-by}
use Rattle.parse_laws.proofs.Lockstep.{Fine, Open, follow_kinds, defaulted, defaulted-stands, default-none}
use Rattle.parse_laws.proofs.Operands.{Locks, member-open, assigned}
use Rattle.parse_laws.proofs.Lists.{comma_kinds, reads, Paired}

pub fine-next : (t : Token) (ts : List Token) → Fine (t ∷ ts) → same (of_kind t.kind) s.End ≡ false → Fine ts
unfolding token_kind
fine-next t ts f o = (
  ascends-behind (t ∷ []) (t ∷ ts) ts refl f.0,
  elim f.1 [ inl h ↦ absurd (let off : among end_kinds (token_kind t) ≡ false = sym (end-agrees (of_kind t.kind) t.broken) ∙ o in cc (off, h)) | inr h ↦ h ],
)

abbrev pub shut_bracket : List ℕ
shut_bracket = kinds (mark (codes "]") ∷ [])

abbrev pub shut_brace : List ℕ
shut_brace = kinds (mark (codes "}") ∷ [])

abbrev pub shut_paren : List ℕ
shut_paren = kinds (mark (codes ")") ∷ [])

-- ---- arrays

pub placed-element : Placed element
unfolding InPlace rules entry free tables apart
placed-element = (search, refl)

pub placed-more_elements : Placed (both (token comma_kinds) (optional element))
unfolding InPlace rules entry free tables apart
placed-more_elements = (search, refl)

pub placed-parameter : Placed parameter
unfolding InPlace rules entry free tables apart
placed-parameter = (search, refl)

pub placed-more_parameters : Placed (both (token comma_kinds) (optional parameter))
unfolding InPlace rules entry free tables apart
placed-more_parameters = (search, refl)

abbrev pub dots : List ℕ
dots = kinds (mark (codes "...") ∷ [])

pub no-dots : (m : List Token) → starts language (among (firsts language.heads bind)) m ≡ true → starts language (among dots) m ≡ false
unfolding tables apart
no-dots m e = off-apart language dots (firsts language.heads bind) m refl e

pub begins-bind : (m : List Token) → starts language (among (firsts language.heads parameter)) m ≡ true → starts language (among (firsts language.heads bind)) m ≡ true
unfolding tables covers
begins-bind m e = at-covered language (firsts language.heads bind) (firsts language.heads parameter) m refl e

module _ (depth : ℕ) (l : Locks depth) where
  pub element-open : (m : List Token) → Fine m → starts language (among (firsts language.heads parameter)) m ≡ true → Open (reads depth element m) (reads depth parameter m)
  unfolding guided firsts nullable tables
  element-open m f e =
      let one : reads depth element m ≡ assigned depth (λ a. a) m = chosen-false (starts language (among (firsts language.heads (both (token dots) (line 43 (assign_rule true))))) m) _ _ (no-dots m (begins-bind m e)) in
      subst (λ u. Open u (reads depth parameter m)) (sym one) (member-open depth l (λ a. a) (λ a b. pair a b) m f)

  pub elements-paired : Paired depth element parameter shut_bracket
  unfolding vacant tables apart covers assign_rule Rattle.js_grammar.specs.Script.cond_rule Rattle.js_grammar.specs.Script.short_rule Rattle.js_grammar.specs.Script.or_rule Rattle.js_grammar.specs.Script.and_rule Rattle.js_grammar.specs.Script.bit_or_rule Rattle.js_grammar.specs.Script.bit_xor_rule Rattle.js_grammar.specs.Script.bit_and_rule Rattle.js_grammar.specs.Script.equal_rule Rattle.js_grammar.specs.Script.rel_rule Rattle.js_grammar.specs.Script.shift_rule Rattle.js_grammar.specs.Script.add_rule Rattle.js_grammar.specs.Script.mul_rule Rattle.js_grammar.specs.Script.unary_rule Rattle.js_grammar.specs.Script.left_rule Rattle.js_grammar.specs.Script.primary_rule
  elements-paired = record {
    x-takes = refl;
    y-takes = refl;
    x-placed = placed-element;
    y-placed = placed-parameter;
    x-more = placed-more_elements;
    y-more = placed-more_parameters;
    no-end = refl;
    x-closes = refl;
    commas = refl;
    follows-comma = refl;
    follows-close = refl;
    both-begin = refl;
    opened = element-open;
  }

-- ---- objects

pub placed-property : Placed property
unfolding InPlace rules entry free tables apart
placed-property = (search, refl)

pub placed-more_properties : Placed (both (token comma_kinds) (optional property))
unfolding InPlace rules entry free tables apart
placed-more_properties = (search, refl)

pub placed-member : Placed pattern_member
unfolding InPlace rules entry free tables apart
placed-member = (search, refl)

pub placed-more_members : Placed (both (token comma_kinds) (optional pattern_member))
unfolding InPlace rules entry free tables apart
placed-more_members = (search, refl)

abbrev pub colon : List ℕ
colon = kinds (mark (codes ":") ∷ [])

pub colon-kind : (symbol : Symbol) (broken : Bool) → among colon (numbered symbol broken) ≡ true → symbol ≡ s.Colon
unfolding tables
colon-kind s.Colon broken e = refl
colon-kind _ true e = absurd (cc (e))
colon-kind _ false e = absurd (cc (e))

abbrev pub equal_kinds : List ℕ
equal_kinds = kinds (mark (codes "=") ∷ [])

-- before these no more of a property comes
abbrev pub quiet : List ℕ
quiet = kinds (mark (codes "=") ∷ mark (codes ",") ∷ mark (codes ")") ∷ mark (codes "]") ∷ mark (codes "}") ∷ [])

pub quiet-equals : (m : List Token) → starts language (among equal_kinds) m ≡ true → (starts language (among quiet) m ≡ true) × (starts language (among follow_kinds) m ≡ false)
unfolding tables covers apart
quiet-equals m e = (at-covered language quiet equal_kinds m refl e, off-apart language follow_kinds equal_kinds m refl e)

pub quiet-follows : (m : List Token) → starts language (among follow_kinds) m ≡ true → starts language (among quiet) m ≡ true
unfolding tables covers
quiet-follows m e = at-covered language quiet follow_kinds m refl e

abbrev pub bound_x : Rule
bound_x = both (token colon) bind

module _ (depth : ℕ) where
  -- What follows a key, in an object.
  pub record Keyed (z : Rule) : Type 1 where
    pub placed : Placed z
    pub colons : (u : Token) (m : List Token) (k : Goes Token Read) → of_kind u.kind ≡ s.Colon
        → guided language ahead (rule depth) z (u ∷ m) k ≡ guided language ahead (rule depth) (line 43 (assign_rule true)) m (λ v r. k (pair (leaf u) v) r)

  -- where nothing may follow, too
  pub record Short (z : Rule) : Type 1 where
    pub keyed : Keyed z
    pub none : (m : List Token) (k : Goes Token Read) → starts language (among quiet) m ≡ true → guided language ahead (rule depth) z m k ≡ k tip m

  pub behind-colon : (broken : Bool) (u : Token) (m : List Token) (k : Goes Token Read) → of_kind u.kind ≡ s.Colon → u.broken ≡ broken
      → guided language ahead (rule depth) behind_key (u ∷ m) k ≡ guided language ahead (rule depth) (line 43 (assign_rule true)) m (λ v r. k (pair (leaf u) v) r)
  unfolding at_kind tables guided
  behind-colon true u m k e f = kind-at depth s.Colon true behind_key u m k e f
  behind-colon false u m k e f = kind-at depth s.Colon false behind_key u m k e f

  pub optional-colon : (broken : Bool) (u : Token) (m : List Token) (k : Goes Token Read) → of_kind u.kind ≡ s.Colon → u.broken ≡ broken
      → guided language ahead (rule depth) (optional behind_key) (u ∷ m) k ≡ guided language ahead (rule depth) (line 43 (assign_rule true)) m (λ v r. k (pair (leaf u) v) r)
  unfolding at_kind tables guided
  optional-colon true u m k e f = kind-at depth s.Colon true (optional behind_key) u m k e f
  optional-colon false u m k e f = kind-at depth s.Colon false (optional behind_key) u m k e f

  pub getter-colon : (broken : Bool) (u : Token) (m : List Token) (k : Goes Token Read) → of_kind u.kind ≡ s.Colon → u.broken ≡ broken
      → guided language ahead (rule depth) (either (both key getter) (optional behind_key)) (u ∷ m) k ≡ guided language ahead (rule depth) (line 43 (assign_rule true)) m (λ v r. k (pair (leaf u) v) r)
  unfolding at_kind tables guided
  getter-colon true u m k e f = kind-at depth s.Colon true (either (both key getter) (optional behind_key)) u m k e f
  getter-colon false u m k e f = kind-at depth s.Colon false (either (both key getter) (optional behind_key)) u m k e f

  pub setter-colon : (broken : Bool) (u : Token) (m : List Token) (k : Goes Token Read) → of_kind u.kind ≡ s.Colon → u.broken ≡ broken
      → guided language ahead (rule depth) (either (both key setter) (optional behind_key)) (u ∷ m) k ≡ guided language ahead (rule depth) (line 43 (assign_rule true)) m (λ v r. k (pair (leaf u) v) r)
  unfolding at_kind tables guided
  setter-colon true u m k e f = kind-at depth s.Colon true (either (both key setter) (optional behind_key)) u m k e f
  setter-colon false u m k e f = kind-at depth s.Colon false (either (both key setter) (optional behind_key)) u m k e f

  pub behind-off : (m : List Token) → starts language (among quiet) m ≡ true → starts language (among (firsts language.heads behind_key)) m ≡ false
  unfolding tables apart
  behind-off m e = off-apart language (firsts language.heads behind_key) quiet m refl e

  pub key-off : (m : List Token) → starts language (among quiet) m ≡ true
      → (starts language (among (firsts language.heads (both key getter))) m ≡ false) × (starts language (among (firsts language.heads (both key setter))) m ≡ false)
  unfolding tables apart
  key-off m e = (off-apart language (firsts language.heads (both key getter)) quiet m refl e, off-apart language (firsts language.heads (both key setter)) quiet m refl e)

  pub keyed-plain : Keyed behind_key
  unfolding InPlace rules entry free tables apart
  keyed-plain = record { placed = (search, refl); colons = λ u m k e. behind-colon u.broken u m k e refl }

  pub short-plain : Short (optional behind_key)
  unfolding InPlace rules entry free tables apart guided
  short-plain = record {
    keyed = record { placed = (search, refl); colons = λ u m k e. optional-colon u.broken u m k e refl };
    none = λ m k e. chosen-false (starts language (among (firsts language.heads behind_key)) m) _ _ (behind-off m e);
  }

  pub short-getter : Short (either (both key getter) (optional behind_key))
  unfolding InPlace rules entry free tables apart guided
  short-getter = record {
    keyed = record { placed = (search, refl); colons = λ u m k e. getter-colon u.broken u m k e refl };
    none = λ m k e. chosen-false (starts language (among (firsts language.heads (both key getter))) m) _ _ (key-off m e).0
        ∙ chosen-false (starts language (among (firsts language.heads behind_key)) m) _ _ (behind-off m e);
  }

  pub short-setter : Short (either (both key setter) (optional behind_key))
  unfolding InPlace rules entry free tables apart guided
  short-setter = record {
    keyed = record { placed = (search, refl); colons = λ u m k e. setter-colon u.broken u m k e refl };
    none = λ m k e. chosen-false (starts language (among (firsts language.heads (both key setter))) m) _ _ (key-off m e).1
        ∙ chosen-false (starts language (among (firsts language.heads behind_key)) m) _ _ (behind-off m e);
  }

  pub bound-colon : (broken : Bool) (u : Token) (m : List Token) (k : Goes Token Read) → of_kind u.kind ≡ s.Colon → u.broken ≡ broken
      → (guided language ahead (rule depth) bound_x (u ∷ m) k ≡ guided language ahead (rule depth) bind m (λ v r. k (pair (leaf u) v) r))
      × (guided language ahead (rule depth) (optional bound_x) (u ∷ m) k ≡ guided language ahead (rule depth) bind m (λ v r. k (pair (leaf u) v) r))
  unfolding at_kind tables guided
  bound-colon true u m k e f = (kind-at depth s.Colon true bound_x u m k e f, kind-at depth s.Colon true (optional bound_x) u m k e f)
  bound-colon false u m k e f = (kind-at depth s.Colon false bound_x u m k e f, kind-at depth s.Colon false (optional bound_x) u m k e f)

  pub bound-off : (m : List Token) (k : Goes Token Read) → starts language (among colon) m ≡ false
      → (guided language ahead (rule depth) bound_x m k ≡ Err (wrong m)) × (guided language ahead (rule depth) (optional bound_x) m k ≡ k tip m)
  unfolding guided firsts nullable
  bound-off m k o = (taken-off m o, chosen-false (starts language (among (firsts language.heads bound_x)) m) _ _ (ap (λ ks. starts language (among ks) m) (append-nil colon) ∙ o))
    where
      taken-off : (m : List Token) → starts language (among colon) m ≡ false → taking language colon m (λ a mid. guided language ahead (rule depth) bind mid (λ b rest. k (pair a b) rest)) ≡ Err (wrong m)
      taken-off [] o = refl
      taken-off (u ∷ m) o = chosen-false (among colon (token_kind u)) _ _ o

  abbrev pub keyed_first : Rule → Token → List Token → Was Token
  keyed_first z t m = guided language ahead (rule depth) z m (λ b r. done (pair (leaf t) b) r)

  abbrev pub member_behind : Tree Token → Tree Token → Tree Token
  member_behind a b = pair a b

  abbrev pub keyed_second : Rule → Token → List Token → Was Token
  keyed_second z t m = guided language ahead (rule depth) z m (λ b r. defaulted depth member_behind (pair (leaf t) b) r)

  pub keyed-stands : (z : Rule) → Placed z → (t : Token) (m : List Token) → EndsIn m → Stands m (keyed_first z t m)
  keyed-stands z p t m e = onward-by depth z p.0 p.1 m m (within-self m e) _ (λ b r v. v)

  module _ (l : Locks depth) where
    pub colon-open : (z : Rule) → Keyed z → (t u : Token) (m : List Token) → Fine (u ∷ m) → of_kind u.kind ≡ s.Colon → Open (keyed_first z t (u ∷ m))
        (guided language ahead (rule depth) bind m (λ a r. defaulted depth member_behind (pair (leaf t) (pair (leaf u) a)) r))
    unfolding same
    colon-open z k t u m f e =
        subst (λ w. Open w (guided language ahead (rule depth) bind m (λ a r. defaulted depth member_behind (pair (leaf t) (pair (leaf u) a)) r)))
        (sym (k.colons u m (λ b r. done (pair (leaf t) b) r) e))
        (member-open depth l (λ v. pair (leaf t) (pair (leaf u) v)) (λ a b. pair (pair (leaf t) (pair (leaf u) a)) b) m (fine-next u m f (ap (λ symbol. same symbol s.End) e)))

    -- behind a key that needs a colon
    pub keyed-open : (z : Rule) → Keyed z → (t : Token) (m : List Token) → Fine m → Open (keyed_first z t m) (keyed_second bound_x t m)
    unfolding token_kind
    keyed-open z k t [] f = absurd f.1
    keyed-open z k t (u ∷ m) f = elim (is_or_not (among colon (token_kind u))) [
      | inl c ↦
          let e = colon-kind (of_kind u.kind) u.broken c in
          subst (λ w. Open (keyed_first z t (u ∷ m)) w) (sym (bound-colon u.broken u m (λ b r. defaulted depth member_behind (pair (leaf t) b) r) e refl).0) (colon-open z k t u m f e)
      | inr c ↦ inr (inl (u ∷ m, inl (bound-off (u ∷ m) (λ b r. defaulted depth member_behind (pair (leaf t) b) r) c).0, stands-past (u ∷ m) _ f.0 (keyed-stands z k.placed t (u ∷ m) f.1)))
    ]

    -- behind a key that stands alone, too
    pub short-open : (z : Rule) → Short z → (t : Token) (m : List Token) → Fine m → Open (keyed_first z t m) (keyed_second (optional bound_x) t m)
    unfolding token_kind
    short-open z k t [] f = absurd f.1
    short-open z k t (u ∷ m) f = elim (is_or_not (among colon (token_kind u))) [
      | inl c ↦
          let e = colon-kind (of_kind u.kind) u.broken c in
          subst (λ w. Open (keyed_first z t (u ∷ m)) w) (sym (bound-colon u.broken u m (λ b r. defaulted depth member_behind (pair (leaf t) b) r) e refl).1) (colon-open z k.keyed t u m f e)
      | inr c ↦
          let two : keyed_second (optional bound_x) t (u ∷ m) ≡ defaulted depth member_behind (pair (leaf t) tip) (u ∷ m) = (bound-off (u ∷ m) (λ b r. defaulted depth member_behind (pair (leaf t) b) r) c).1 in
          subst (λ w. Open (keyed_first z t (u ∷ m)) w) (sym two) (elim (is_or_not (starts language (among equal_kinds) (u ∷ m))) [
            | inl q ↦
                let off = quiet-equals (u ∷ m) q in
                inl (
                  u ∷ m,
                  inr (pair (leaf t) tip, k.none (u ∷ m) (λ b r. done (pair (leaf t) b) r) off.0, off.1),
                  stands-past (u ∷ m) _ f.0 (defaulted-stands depth (u ∷ m) (u ∷ m) member_behind (pair (leaf t) tip) (within-self (u ∷ m) f.1)),
                )
            | inr q ↦
                let none = default-none depth (u ∷ m) (λ b r. done (member_behind (pair (leaf t) tip) b) r) q in
                elim (is_or_not (starts language (among follow_kinds) (u ∷ m))) [
                  | inl g ↦ inr (inr (inr (pair (leaf t) tip, pair (pair (leaf t) tip) tip, u ∷ m, k.none (u ∷ m) (λ b r. done (pair (leaf t) b) r) (quiet-follows (u ∷ m) g), none)))
                  | inr g ↦ inr (inl (u ∷ m, inr (pair (pair (leaf t) tip) tip, none, g), stands-past (u ∷ m) _ f.0 (keyed-stands z k.keyed.placed t (u ∷ m) f.1)))
                ]
          ])
    ]

    abbrev pub MemberOpen : Token → List Token → Type 0
    MemberOpen t m = Open (reads depth property (t ∷ m)) (reads depth pattern_member (t ∷ m))

    pub by-forms : (z w : Rule) (t : Token) (m : List Token) → reads depth property (t ∷ m) ≡ keyed_first z t m → reads depth pattern_member (t ∷ m) ≡ keyed_second w t m
        → Open (keyed_first z t m) (keyed_second w t m) → MemberOpen t m
    by-forms z w t m e f o = subst (λ u. Open u (reads depth pattern_member (t ∷ m))) (sym e) (subst (λ u. Open (keyed_first z t m) u) (sym f) o)

    pub property-by : (symbol : Symbol) (broken : Bool) (t : Token) (m : List Token) → Fine (t ∷ m) → of_kind t.kind ≡ symbol → t.broken ≡ broken
        → among (firsts language.heads pattern_member) (numbered symbol broken) ≡ true → MemberOpen t m
    unfolding at_kind tables guided same
    property-by s.Name true t m f e b i = by-forms (optional behind_key) (optional bound_x) t m (kind-at depth s.Name true property t m done e b) (kind-at depth s.Name true pattern_member t m done e b) (short-open (optional behind_key) short-plain t m (fine-next t m f (ap (λ symbol. same symbol s.End) e)))
    property-by s.Name false t m f e b i = by-forms (optional behind_key) (optional bound_x) t m (kind-at depth s.Name false property t m done e b) (kind-at depth s.Name false pattern_member t m done e b) (short-open (optional behind_key) short-plain t m (fine-next t m f (ap (λ symbol. same symbol s.End) e)))
    property-by s.Of true t m f e b i = by-forms (optional behind_key) (optional bound_x) t m (kind-at depth s.Of true property t m done e b) (kind-at depth s.Of true pattern_member t m done e b) (short-open (optional behind_key) short-plain t m (fine-next t m f (ap (λ symbol. same symbol s.End) e)))
    property-by s.Of false t m f e b i = by-forms (optional behind_key) (optional bound_x) t m (kind-at depth s.Of false property t m done e b) (kind-at depth s.Of false pattern_member t m done e b) (short-open (optional behind_key) short-plain t m (fine-next t m f (ap (λ symbol. same symbol s.End) e)))
    property-by s.Get true t m f e b i = by-forms (either (both key getter) (optional behind_key)) (optional bound_x) t m (kind-at depth s.Get true property t m done e b) (kind-at depth s.Get true pattern_member t m done e b) (short-open (either (both key getter) (optional behind_key)) short-getter t m (fine-next t m f (ap (λ symbol. same symbol s.End) e)))
    property-by s.Get false t m f e b i = by-forms (either (both key getter) (optional behind_key)) (optional bound_x) t m (kind-at depth s.Get false property t m done e b) (kind-at depth s.Get false pattern_member t m done e b) (short-open (either (both key getter) (optional behind_key)) short-getter t m (fine-next t m f (ap (λ symbol. same symbol s.End) e)))
    property-by s.Set true t m f e b i = by-forms (either (both key setter) (optional behind_key)) (optional bound_x) t m (kind-at depth s.Set true property t m done e b) (kind-at depth s.Set true pattern_member t m done e b) (short-open (either (both key setter) (optional behind_key)) short-setter t m (fine-next t m f (ap (λ symbol. same symbol s.End) e)))
    property-by s.Set false t m f e b i = by-forms (either (both key setter) (optional behind_key)) (optional bound_x) t m (kind-at depth s.Set false property t m done e b) (kind-at depth s.Set false pattern_member t m done e b) (short-open (either (both key setter) (optional behind_key)) short-setter t m (fine-next t m f (ap (λ symbol. same symbol s.End) e)))
    property-by s.Text true t m f e b i = by-forms (behind_key) bound_x t m (kind-at depth s.Text true property t m done e b) (kind-at depth s.Text true pattern_member t m done e b) (keyed-open behind_key keyed-plain t m (fine-next t m f (ap (λ symbol. same symbol s.End) e)))
    property-by s.Text false t m f e b i = by-forms (behind_key) bound_x t m (kind-at depth s.Text false property t m done e b) (kind-at depth s.Text false pattern_member t m done e b) (keyed-open behind_key keyed-plain t m (fine-next t m f (ap (λ symbol. same symbol s.End) e)))
    property-by s.Break true t m f e b i = by-forms (behind_key) bound_x t m (kind-at depth s.Break true property t m done e b) (kind-at depth s.Break true pattern_member t m done e b) (keyed-open behind_key keyed-plain t m (fine-next t m f (ap (λ symbol. same symbol s.End) e)))
    property-by s.Break false t m f e b i = by-forms (behind_key) bound_x t m (kind-at depth s.Break false property t m done e b) (kind-at depth s.Break false pattern_member t m done e b) (keyed-open behind_key keyed-plain t m (fine-next t m f (ap (λ symbol. same symbol s.End) e)))
    property-by s.Catch true t m f e b i = by-forms (behind_key) bound_x t m (kind-at depth s.Catch true property t m done e b) (kind-at depth s.Catch true pattern_member t m done e b) (keyed-open behind_key keyed-plain t m (fine-next t m f (ap (λ symbol. same symbol s.End) e)))
    property-by s.Catch false t m f e b i = by-forms (behind_key) bound_x t m (kind-at depth s.Catch false property t m done e b) (kind-at depth s.Catch false pattern_member t m done e b) (keyed-open behind_key keyed-plain t m (fine-next t m f (ap (λ symbol. same symbol s.End) e)))
    property-by s.Const true t m f e b i = by-forms (behind_key) bound_x t m (kind-at depth s.Const true property t m done e b) (kind-at depth s.Const true pattern_member t m done e b) (keyed-open behind_key keyed-plain t m (fine-next t m f (ap (λ symbol. same symbol s.End) e)))
    property-by s.Const false t m f e b i = by-forms (behind_key) bound_x t m (kind-at depth s.Const false property t m done e b) (kind-at depth s.Const false pattern_member t m done e b) (keyed-open behind_key keyed-plain t m (fine-next t m f (ap (λ symbol. same symbol s.End) e)))
    property-by s.Continue true t m f e b i = by-forms (behind_key) bound_x t m (kind-at depth s.Continue true property t m done e b) (kind-at depth s.Continue true pattern_member t m done e b) (keyed-open behind_key keyed-plain t m (fine-next t m f (ap (λ symbol. same symbol s.End) e)))
    property-by s.Continue false t m f e b i = by-forms (behind_key) bound_x t m (kind-at depth s.Continue false property t m done e b) (kind-at depth s.Continue false pattern_member t m done e b) (keyed-open behind_key keyed-plain t m (fine-next t m f (ap (λ symbol. same symbol s.End) e)))
    property-by s.Delete true t m f e b i = by-forms (behind_key) bound_x t m (kind-at depth s.Delete true property t m done e b) (kind-at depth s.Delete true pattern_member t m done e b) (keyed-open behind_key keyed-plain t m (fine-next t m f (ap (λ symbol. same symbol s.End) e)))
    property-by s.Delete false t m f e b i = by-forms (behind_key) bound_x t m (kind-at depth s.Delete false property t m done e b) (kind-at depth s.Delete false pattern_member t m done e b) (keyed-open behind_key keyed-plain t m (fine-next t m f (ap (λ symbol. same symbol s.End) e)))
    property-by s.Do true t m f e b i = by-forms (behind_key) bound_x t m (kind-at depth s.Do true property t m done e b) (kind-at depth s.Do true pattern_member t m done e b) (keyed-open behind_key keyed-plain t m (fine-next t m f (ap (λ symbol. same symbol s.End) e)))
    property-by s.Do false t m f e b i = by-forms (behind_key) bound_x t m (kind-at depth s.Do false property t m done e b) (kind-at depth s.Do false pattern_member t m done e b) (keyed-open behind_key keyed-plain t m (fine-next t m f (ap (λ symbol. same symbol s.End) e)))
    property-by s.Else true t m f e b i = by-forms (behind_key) bound_x t m (kind-at depth s.Else true property t m done e b) (kind-at depth s.Else true pattern_member t m done e b) (keyed-open behind_key keyed-plain t m (fine-next t m f (ap (λ symbol. same symbol s.End) e)))
    property-by s.Else false t m f e b i = by-forms (behind_key) bound_x t m (kind-at depth s.Else false property t m done e b) (kind-at depth s.Else false pattern_member t m done e b) (keyed-open behind_key keyed-plain t m (fine-next t m f (ap (λ symbol. same symbol s.End) e)))
    property-by s.False true t m f e b i = by-forms (behind_key) bound_x t m (kind-at depth s.False true property t m done e b) (kind-at depth s.False true pattern_member t m done e b) (keyed-open behind_key keyed-plain t m (fine-next t m f (ap (λ symbol. same symbol s.End) e)))
    property-by s.False false t m f e b i = by-forms (behind_key) bound_x t m (kind-at depth s.False false property t m done e b) (kind-at depth s.False false pattern_member t m done e b) (keyed-open behind_key keyed-plain t m (fine-next t m f (ap (λ symbol. same symbol s.End) e)))
    property-by s.Finally true t m f e b i = by-forms (behind_key) bound_x t m (kind-at depth s.Finally true property t m done e b) (kind-at depth s.Finally true pattern_member t m done e b) (keyed-open behind_key keyed-plain t m (fine-next t m f (ap (λ symbol. same symbol s.End) e)))
    property-by s.Finally false t m f e b i = by-forms (behind_key) bound_x t m (kind-at depth s.Finally false property t m done e b) (kind-at depth s.Finally false pattern_member t m done e b) (keyed-open behind_key keyed-plain t m (fine-next t m f (ap (λ symbol. same symbol s.End) e)))
    property-by s.For true t m f e b i = by-forms (behind_key) bound_x t m (kind-at depth s.For true property t m done e b) (kind-at depth s.For true pattern_member t m done e b) (keyed-open behind_key keyed-plain t m (fine-next t m f (ap (λ symbol. same symbol s.End) e)))
    property-by s.For false t m f e b i = by-forms (behind_key) bound_x t m (kind-at depth s.For false property t m done e b) (kind-at depth s.For false pattern_member t m done e b) (keyed-open behind_key keyed-plain t m (fine-next t m f (ap (λ symbol. same symbol s.End) e)))
    property-by s.Function true t m f e b i = by-forms (behind_key) bound_x t m (kind-at depth s.Function true property t m done e b) (kind-at depth s.Function true pattern_member t m done e b) (keyed-open behind_key keyed-plain t m (fine-next t m f (ap (λ symbol. same symbol s.End) e)))
    property-by s.Function false t m f e b i = by-forms (behind_key) bound_x t m (kind-at depth s.Function false property t m done e b) (kind-at depth s.Function false pattern_member t m done e b) (keyed-open behind_key keyed-plain t m (fine-next t m f (ap (λ symbol. same symbol s.End) e)))
    property-by s.If true t m f e b i = by-forms (behind_key) bound_x t m (kind-at depth s.If true property t m done e b) (kind-at depth s.If true pattern_member t m done e b) (keyed-open behind_key keyed-plain t m (fine-next t m f (ap (λ symbol. same symbol s.End) e)))
    property-by s.If false t m f e b i = by-forms (behind_key) bound_x t m (kind-at depth s.If false property t m done e b) (kind-at depth s.If false pattern_member t m done e b) (keyed-open behind_key keyed-plain t m (fine-next t m f (ap (λ symbol. same symbol s.End) e)))
    property-by s.In true t m f e b i = by-forms (behind_key) bound_x t m (kind-at depth s.In true property t m done e b) (kind-at depth s.In true pattern_member t m done e b) (keyed-open behind_key keyed-plain t m (fine-next t m f (ap (λ symbol. same symbol s.End) e)))
    property-by s.In false t m f e b i = by-forms (behind_key) bound_x t m (kind-at depth s.In false property t m done e b) (kind-at depth s.In false pattern_member t m done e b) (keyed-open behind_key keyed-plain t m (fine-next t m f (ap (λ symbol. same symbol s.End) e)))
    property-by s.InstanceOf true t m f e b i = by-forms (behind_key) bound_x t m (kind-at depth s.InstanceOf true property t m done e b) (kind-at depth s.InstanceOf true pattern_member t m done e b) (keyed-open behind_key keyed-plain t m (fine-next t m f (ap (λ symbol. same symbol s.End) e)))
    property-by s.InstanceOf false t m f e b i = by-forms (behind_key) bound_x t m (kind-at depth s.InstanceOf false property t m done e b) (kind-at depth s.InstanceOf false pattern_member t m done e b) (keyed-open behind_key keyed-plain t m (fine-next t m f (ap (λ symbol. same symbol s.End) e)))
    property-by s.Let true t m f e b i = by-forms (behind_key) bound_x t m (kind-at depth s.Let true property t m done e b) (kind-at depth s.Let true pattern_member t m done e b) (keyed-open behind_key keyed-plain t m (fine-next t m f (ap (λ symbol. same symbol s.End) e)))
    property-by s.Let false t m f e b i = by-forms (behind_key) bound_x t m (kind-at depth s.Let false property t m done e b) (kind-at depth s.Let false pattern_member t m done e b) (keyed-open behind_key keyed-plain t m (fine-next t m f (ap (λ symbol. same symbol s.End) e)))
    property-by s.New true t m f e b i = by-forms (behind_key) bound_x t m (kind-at depth s.New true property t m done e b) (kind-at depth s.New true pattern_member t m done e b) (keyed-open behind_key keyed-plain t m (fine-next t m f (ap (λ symbol. same symbol s.End) e)))
    property-by s.New false t m f e b i = by-forms (behind_key) bound_x t m (kind-at depth s.New false property t m done e b) (kind-at depth s.New false pattern_member t m done e b) (keyed-open behind_key keyed-plain t m (fine-next t m f (ap (λ symbol. same symbol s.End) e)))
    property-by s.Null true t m f e b i = by-forms (behind_key) bound_x t m (kind-at depth s.Null true property t m done e b) (kind-at depth s.Null true pattern_member t m done e b) (keyed-open behind_key keyed-plain t m (fine-next t m f (ap (λ symbol. same symbol s.End) e)))
    property-by s.Null false t m f e b i = by-forms (behind_key) bound_x t m (kind-at depth s.Null false property t m done e b) (kind-at depth s.Null false pattern_member t m done e b) (keyed-open behind_key keyed-plain t m (fine-next t m f (ap (λ symbol. same symbol s.End) e)))
    property-by s.Return true t m f e b i = by-forms (behind_key) bound_x t m (kind-at depth s.Return true property t m done e b) (kind-at depth s.Return true pattern_member t m done e b) (keyed-open behind_key keyed-plain t m (fine-next t m f (ap (λ symbol. same symbol s.End) e)))
    property-by s.Return false t m f e b i = by-forms (behind_key) bound_x t m (kind-at depth s.Return false property t m done e b) (kind-at depth s.Return false pattern_member t m done e b) (keyed-open behind_key keyed-plain t m (fine-next t m f (ap (λ symbol. same symbol s.End) e)))
    property-by s.This true t m f e b i = by-forms (behind_key) bound_x t m (kind-at depth s.This true property t m done e b) (kind-at depth s.This true pattern_member t m done e b) (keyed-open behind_key keyed-plain t m (fine-next t m f (ap (λ symbol. same symbol s.End) e)))
    property-by s.This false t m f e b i = by-forms (behind_key) bound_x t m (kind-at depth s.This false property t m done e b) (kind-at depth s.This false pattern_member t m done e b) (keyed-open behind_key keyed-plain t m (fine-next t m f (ap (λ symbol. same symbol s.End) e)))
    property-by s.Throw true t m f e b i = by-forms (behind_key) bound_x t m (kind-at depth s.Throw true property t m done e b) (kind-at depth s.Throw true pattern_member t m done e b) (keyed-open behind_key keyed-plain t m (fine-next t m f (ap (λ symbol. same symbol s.End) e)))
    property-by s.Throw false t m f e b i = by-forms (behind_key) bound_x t m (kind-at depth s.Throw false property t m done e b) (kind-at depth s.Throw false pattern_member t m done e b) (keyed-open behind_key keyed-plain t m (fine-next t m f (ap (λ symbol. same symbol s.End) e)))
    property-by s.True true t m f e b i = by-forms (behind_key) bound_x t m (kind-at depth s.True true property t m done e b) (kind-at depth s.True true pattern_member t m done e b) (keyed-open behind_key keyed-plain t m (fine-next t m f (ap (λ symbol. same symbol s.End) e)))
    property-by s.True false t m f e b i = by-forms (behind_key) bound_x t m (kind-at depth s.True false property t m done e b) (kind-at depth s.True false pattern_member t m done e b) (keyed-open behind_key keyed-plain t m (fine-next t m f (ap (λ symbol. same symbol s.End) e)))
    property-by s.Try true t m f e b i = by-forms (behind_key) bound_x t m (kind-at depth s.Try true property t m done e b) (kind-at depth s.Try true pattern_member t m done e b) (keyed-open behind_key keyed-plain t m (fine-next t m f (ap (λ symbol. same symbol s.End) e)))
    property-by s.Try false t m f e b i = by-forms (behind_key) bound_x t m (kind-at depth s.Try false property t m done e b) (kind-at depth s.Try false pattern_member t m done e b) (keyed-open behind_key keyed-plain t m (fine-next t m f (ap (λ symbol. same symbol s.End) e)))
    property-by s.Typeof true t m f e b i = by-forms (behind_key) bound_x t m (kind-at depth s.Typeof true property t m done e b) (kind-at depth s.Typeof true pattern_member t m done e b) (keyed-open behind_key keyed-plain t m (fine-next t m f (ap (λ symbol. same symbol s.End) e)))
    property-by s.Typeof false t m f e b i = by-forms (behind_key) bound_x t m (kind-at depth s.Typeof false property t m done e b) (kind-at depth s.Typeof false pattern_member t m done e b) (keyed-open behind_key keyed-plain t m (fine-next t m f (ap (λ symbol. same symbol s.End) e)))
    property-by s.Void true t m f e b i = by-forms (behind_key) bound_x t m (kind-at depth s.Void true property t m done e b) (kind-at depth s.Void true pattern_member t m done e b) (keyed-open behind_key keyed-plain t m (fine-next t m f (ap (λ symbol. same symbol s.End) e)))
    property-by s.Void false t m f e b i = by-forms (behind_key) bound_x t m (kind-at depth s.Void false property t m done e b) (kind-at depth s.Void false pattern_member t m done e b) (keyed-open behind_key keyed-plain t m (fine-next t m f (ap (λ symbol. same symbol s.End) e)))
    property-by s.While true t m f e b i = by-forms (behind_key) bound_x t m (kind-at depth s.While true property t m done e b) (kind-at depth s.While true pattern_member t m done e b) (keyed-open behind_key keyed-plain t m (fine-next t m f (ap (λ symbol. same symbol s.End) e)))
    property-by s.While false t m f e b i = by-forms (behind_key) bound_x t m (kind-at depth s.While false property t m done e b) (kind-at depth s.While false pattern_member t m done e b) (keyed-open behind_key keyed-plain t m (fine-next t m f (ap (λ symbol. same symbol s.End) e)))
    property-by s.Reserved true t m f e b i = by-forms (behind_key) bound_x t m (kind-at depth s.Reserved true property t m done e b) (kind-at depth s.Reserved true pattern_member t m done e b) (keyed-open behind_key keyed-plain t m (fine-next t m f (ap (λ symbol. same symbol s.End) e)))
    property-by s.Reserved false t m f e b i = by-forms (behind_key) bound_x t m (kind-at depth s.Reserved false property t m done e b) (kind-at depth s.Reserved false pattern_member t m done e b) (keyed-open behind_key keyed-plain t m (fine-next t m f (ap (λ symbol. same symbol s.End) e)))
    property-by _ true t m f e b i = absurd (cc (i))
    property-by _ false t m f e b i = absurd (cc (i))

    pub property-open : (m : List Token) → Fine m → starts language (among (firsts language.heads pattern_member)) m ≡ true → Open (reads depth property m) (reads depth pattern_member m)
    unfolding token_kind
    property-open [] f i = absurd f.1
    property-open (t ∷ m) f i = property-by (of_kind t.kind) t.broken t m f refl refl i

    pub properties-paired : Paired depth property pattern_member shut_brace
    unfolding vacant tables apart covers
    properties-paired = record {
      x-takes = refl;
      y-takes = refl;
      x-placed = placed-property;
      y-placed = placed-member;
      x-more = placed-more_properties;
      y-more = placed-more_members;
      no-end = refl;
      x-closes = refl;
      commas = refl;
      follows-comma = refl;
      follows-close = refl;
      both-begin = refl;
      opened = property-open;
    }
