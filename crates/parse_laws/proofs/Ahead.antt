-- What stands behind a parenthesis, or behind a name, tells which part of a fork is derived.
use Rattle.std.proofs.Common.{inl, inr, true, false, Bool, ◌⊎◌, ◌≡◌, ℕ, zero, suc, ◌-◌, List, [], ◌∷◌, refl, ap, sym, ◌∙◌, arith, codes}
use Rattle.std.proofs.lemmas.Bool.{ne_eqb}
use Rattle.std.specs.Prelude.{if◌then◌else◌, ◌==◌, Option, Some, None, nat_eq, slice_index_or}
use Rattle.std.specs.Cmp.Lexicographic.{pointwise}
use Rattle.grammar.specs.Kinds.{among}
use Rattle.grammar.specs.Grammar.{Tree, Grammar, Derives, Spells, starts, entry}
use Rattle.grammar.specs.Tests.{InPlace}
use Rattle.grammar.specs.Pairs.{Told, leads, alone, before_stop}
use Rattle.grammar.proofs.Sets.{At, Off, is_or_not, false_by, at-covered, begun-surely}
use Rattle.grammar.proofs.Complete.{derives-begun}
use Rattle.grammar.proofs.Pairs.{closing, closing-open, closing-close, closing-found, closing-other, derives-scans, wrapped-found, leads-found, alone-found, before-found}
use Rattle.js_token.specs.declared.token.Token.{Token}
use Rattle.js_token.specs.declared.token.TokenKind.{TokenKind}
use Rattle.js_token.specs.declared.token.TokenKind.TheVariants as kind
use Rattle.js_grammar.specs.Script.{arrow_kinds, script_language}
use Rattle.js_grammar.proofs.Tables.{tails, parentheses}
use Rattle.js_grammar.proofs.Passes.{script-told}
use Rattle.js_parse.specs.declared.symbol.Symbol.{Symbol}
use Rattle.js_parse.specs.declared.symbol.Symbol.TheVariants as s
use Rattle.js_parse.specs.Symbols.{same, of_kind, of_word, of_name, of_mark, marks, or_else, jump_word, control_word, value_word, operator_word, is_name}
use Rattle.js_parse.specs.Input.{opened_by, arrow_behind, arrow_at, is_arrow_ahead, is_arrow_next, sees, symbol}
use Rattle.parse_laws.specs.Kinds.{token_kind}
use Rattle.parse_laws.proofs.Walk.{language, language-fits, ahead}
use Rattle.parse_laws.proofs.Begun.{tables}
use Rattle.parse_laws.proofs.Steps.{arrow-agrees, name-agrees}
use Rattle.parse_laws.proofs.Symbols.{open_paren-agrees, close_paren-agrees}

-- ---- parentheses by the kinds of tokens

-- no parenthesis
abbrev pub Plain : Symbol → Type 0
Plain symbol = (same symbol s.OpenParen ≡ false) × (same symbol s.CloseParen ≡ false)

pub plain-one : (b : Bool) (x y : Symbol) → Plain x → Plain y → Plain (if b then x else y)
plain-one true x y p q = p
plain-one false x y p q = q

pub record PlainIf (o : Option Symbol) : Type 0 where
  pub holds : (other : Symbol) → Plain other → Plain (or_else o other)

pub plain-none : PlainIf None
plain-none = record { holds = λ other r. r }

pub plain-if : (b : Bool) (x : Symbol) (o : Option Symbol) → Plain x → PlainIf o → PlainIf (if b then Some x else o)
plain-if true x o p q = record { holds = λ other r. p }
plain-if false x o p q = q

pub plain-name : (text : List ℕ) → Plain (of_name text)
unfolding of_name same
plain-name text =
    let third = if pointwise nat_eq (codes "set") text then s.Set else s.Name in
    let second = if pointwise nat_eq (codes "get") text then s.Get else third in
    plain-one (pointwise nat_eq (codes "of") text) s.Of second (refl, refl) (plain-one (pointwise nat_eq (codes "get") text) s.Get third (refl, refl)
    (plain-one (pointwise nat_eq (codes "set") text) s.Set s.Name (refl, refl) (refl, refl)))

pub plain-jump : (text : List ℕ) → PlainIf (jump_word text)
unfolding jump_word same
plain-jump text = plain-if _ s.Break _ (refl, refl) (plain-if _ s.Continue _ (refl, refl) (plain-if _ s.Return _ (refl, refl) (plain-if _ s.Throw _ (refl, refl)
    (plain-if _ s.Try _ (refl, refl) (plain-if _ s.Catch _ (refl, refl) (plain-if _ s.Finally None (refl, refl) plain-none))))))

pub plain-control : (text : List ℕ) → PlainIf (control_word text)
unfolding control_word same
plain-control text = plain-if _ s.If _ (refl, refl) (plain-if _ s.Else _ (refl, refl) (plain-if _ s.While _ (refl, refl) (plain-if _ s.Do _ (refl, refl)
    (plain-if _ s.For _ (refl, refl) (plain-if _ s.Let _ (refl, refl) (plain-if _ s.Const _ (refl, refl) (plain-if _ s.Function None (refl, refl) plain-none)))))))

pub plain-value : (text : List ℕ) → PlainIf (value_word text)
unfolding value_word same
plain-value text =
    plain-if _ s.This _ (refl, refl) (plain-if _ s.Null _ (refl, refl) (plain-if _ s.True _ (refl, refl) (plain-if _ s.False None (refl, refl) plain-none)))

pub plain-operator : (text : List ℕ) → PlainIf (operator_word text)
unfolding operator_word same
plain-operator text = plain-if _ s.New _ (refl, refl) (plain-if _ s.Delete _ (refl, refl) (plain-if _ s.Typeof _ (refl, refl) (plain-if _ s.Void _ (refl, refl)
    (plain-if _ s.In _ (refl, refl) (plain-if _ s.InstanceOf None (refl, refl) plain-none)))))

pub plain-word : (text : List ℕ) → Plain (of_word text)
unfolding of_word same
plain-word text = (plain-jump text).holds _ ((plain-control text).holds _ ((plain-value text).holds _ ((plain-operator text).holds s.Reserved (refl, refl))))

-- the marks but for the first four
unfoldable pub AllPlain : List Symbol → Type 0
AllPlain [] = Unit {0}
AllPlain (x ∷ xs) = Plain x × AllPlain xs

pub plain-at : (xs : List Symbol) → AllPlain xs → (n : ℕ) → Plain (slice_index_or xs n s.End)
unfolding AllPlain same
plain-at [] a n = (refl, refl)
plain-at (x ∷ xs) a zero = a.0
plain-at (x ∷ xs) a (suc n) = plain-at xs a.1 n

abbrev pub behind_four : List Symbol → List Symbol
behind_four (a ∷ b ∷ c ∷ d ∷ xs) = xs
behind_four _ = []

pub four-plain : AllPlain (behind_four marks)
unfolding AllPlain same
four-plain = ((refl, refl), ((refl, refl), ((refl, refl), ((refl, refl), ((refl, refl), ((refl, refl), ((refl, refl), ((refl, refl), ((refl, refl), ((refl, refl), ((refl, refl), ((refl, refl), ((refl, refl), ((refl, refl), ((refl, refl), ((refl, refl), ((refl, refl), ((refl, refl), ((refl, refl), ((refl, refl), ((refl, refl), ((refl, refl), ((refl, refl), ((refl, refl), ((refl, refl), ((refl, refl), ((refl, refl), ((refl, refl), ((refl, refl), ((refl, refl), ((refl, refl), ((refl, refl), ((refl, refl), ((refl, refl), ((refl, refl), ((refl, refl), ((refl, refl), ((refl, refl), ((refl, refl), tt)))))))))))))))))))))))))))))))))))))))

-- what a token opens or closes
abbrev pub Counts : TokenKind → ℕ → Type 0
Counts k n = ((same (of_kind k) s.OpenParen ≡ true) × (opened_by k n ≡ suc n)) ⊎ (((same (of_kind k) s.CloseParen ≡ true) × (opened_by k n ≡ n - 1)) ⊎ (Plain (of_kind k) × (opened_by k n ≡ n)))

pub other-mark : (m n : ℕ) → opened_by (kind.Mark (suc (suc (suc (suc m))))) n ≡ n
other-mark m n =
    let a : (suc (suc (suc (suc m))) == 2) ≡ false = ne_eqb (suc (suc (suc (suc m)))) 2 (λ e. omega (arith, e)) in
    let b : (suc (suc (suc (suc m))) == 3) ≡ false = ne_eqb (suc (suc (suc (suc m)))) 3 (λ e. omega (arith, e)) in
    rw (a, b) refl

pub counts : (k : TokenKind) (n : ℕ) → Counts k n
unfolding of_kind same of_mark
counts (kind.Name text) n = inr (inr (plain-name text, refl))
counts (kind.Word text) n = inr (inr (plain-word text, refl))
counts (kind.Number value) n = inr (inr ((refl, refl), refl))
counts (kind.Text text) n = inr (inr ((refl, refl), refl))
counts (kind.Piece text true true) n = inr (inr ((refl, refl), refl))
counts (kind.Piece text true false) n = inr (inr ((refl, refl), refl))
counts (kind.Piece text false true) n = inr (inr ((refl, refl), refl))
counts (kind.Piece text false false) n = inr (inr ((refl, refl), refl))
counts (kind.Mark zero) n = inr (inr ((refl, refl), refl))
counts (kind.Mark (suc zero)) n = inr (inr ((refl, refl), refl))
counts (kind.Mark (suc (suc zero))) n = inl (refl, omega arith)
counts (kind.Mark (suc (suc (suc zero)))) n = inr (inl (refl, refl))
counts (kind.Mark (suc (suc (suc (suc m))))) n = inr (inr (plain-at (behind_four marks) four-plain m, other-mark m n))
counts kind.End n = inr (inr ((refl, refl), refl))

-- ---- what closes a parenthesis

abbrev pub opening : List ℕ
opening = 78 ∷ 79 ∷ []

abbrev pub closings : List ℕ
closings = 80 ∷ 81 ∷ []

pub opens-agree : (t : Token) → among opening (token_kind t) ≡ same (of_kind t.kind) s.OpenParen
unfolding token_kind tables
opens-agree t = sym (open_paren-agrees (of_kind t.kind) t.broken)

pub closes-agree : (t : Token) → among closings (token_kind t) ≡ same (of_kind t.kind) s.CloseParen
unfolding token_kind tables
closes-agree t = sym (close_paren-agrees (of_kind t.kind) t.broken)

pub not-both : (symbol : Symbol) → same symbol s.OpenParen ≡ true → same symbol s.CloseParen ≡ true → ⊥
unfolding same
not-both s.OpenParen e f = cc (f)
not-both _ e f = cc (e)

pub one-further : (t : Token) (ts : List Token) (level : ℕ) → arrow_behind (suc level) (t ∷ ts) ≡ arrow_behind (opened_by t.kind (suc level)) ts
one-further t ts level = let e : (suc level == 0) ≡ false = ne_eqb (suc level) 0 (λ e. omega (arith, e)) in rw e refl

-- The parser's count finds the parenthesis that the grammar's rules close.
pub arrow-found : (ts : List Token) (level : ℕ) (c : Token) (rest : List Token) → closing language parentheses level ts ≡ c ∷ rest → arrow_behind (suc level) ts ≡ arrow_at rest
unfolding closing
arrow-found [] level c rest e = absurd (cc (e))
arrow-found (t ∷ ts) level c rest e = one-further t ts level ∙ elim (counts t.kind (suc level)) [
  | inl h ↦
      let on : among opening (token_kind t) ≡ true = opens-agree t ∙ h.0 in
      ap (λ n. arrow_behind n ts) h.1 ∙ arrow-found ts (suc level) c rest (sym (closing-open language parentheses t ts level on) ∙ e)
  | inr g ↦ elim g [
    | inl h ↦
        let off : among opening (token_kind t) ≡ false = opens-agree t ∙ false_by (same (of_kind t.kind) s.OpenParen) (λ o. not-both (of_kind t.kind) o h.0) in
        let on : among closings (token_kind t) ≡ true = closes-agree t ∙ h.0 in
        ap (λ n. arrow_behind n ts) h.1 ∙ closed (λ level. arrow-found ts level c rest) level off on e
    | inr h ↦
        let off : among opening (token_kind t) ≡ false = opens-agree t ∙ (h.0).0 in
        let off' : among closings (token_kind t) ≡ false = closes-agree t ∙ (h.0).1 in
        ap (λ n. arrow_behind n ts) h.1 ∙ arrow-found ts level c rest (sym (closing-other language parentheses t ts level off off') ∙ e)
  ]
]
  where
    none : (ts : List Token) → arrow_behind 0 ts ≡ arrow_at ts
    none [] = refl
    none (t ∷ ts) = refl

    closed : ((level : ℕ) → closing language parentheses level ts ≡ c ∷ rest → arrow_behind (suc level) ts ≡ arrow_at rest) → (level : ℕ) → among opening (token_kind t) ≡ false → among closings (token_kind t) ≡ true → closing language parentheses level (t ∷ ts) ≡ c ∷ rest
        → arrow_behind (suc level - 1) ts ≡ arrow_at rest
    closed ih zero off on e =
        let n : suc zero - 1 ≡ 0 = omega arith in
        let same : t ∷ ts ≡ c ∷ rest = sym (closing-found language parentheses t ts off on) ∙ e in
        let rests : ts ≡ rest = cc (same) in
        ap (λ n. arrow_behind n ts) n ∙ none ts ∙ ap (λ m. arrow_at m) rests
    closed ih (suc level) off on e = let n : suc (suc level) - 1 ≡ suc level = omega arith in ap (λ n. arrow_behind n ts) n ∙ ih level (sym (closing-close language parentheses t ts level off on) ∙ e)

pub arrow-starts : (ts : List Token) → arrow_at ts ≡ starts language (among arrow_kinds) ts
unfolding token_kind
arrow-starts [] = refl
arrow-starts (t ∷ ts) = arrow-agrees (of_kind t.kind) t.broken

-- ---- which part comes

pub ahead-open : (t : Token) (ts : List Token) → among opening (token_kind t) ≡ true → ahead (t ∷ ts) ≡ arrow_behind 1 ts
unfolding ahead sees symbol is_arrow_ahead
ahead-open t ts e = let on : same (of_kind t.kind) s.OpenParen ≡ true = sym (opens-agree t) ∙ e in rw on refl

pub no-name : (symbol : Symbol) → is_name symbol ≡ true → same symbol s.OpenParen ≡ false
unfolding same
no-name s.OpenParen e = absurd (cc (e))
no-name _ e = refl

pub ahead-name : (t : Token) (ts : List Token) → is_name (of_kind t.kind) ≡ true → ahead (t ∷ ts) ≡ arrow_at ts
unfolding ahead sees symbol is_arrow_next
ahead-name t ts e = let off : same (of_kind t.kind) s.OpenParen ≡ false = no-name (of_kind t.kind) e in rw (off, e) refl

pub ahead-other : (t : Token) (ts : List Token) → among opening (token_kind t) ≡ false → is_name (of_kind t.kind) ≡ false → ahead (t ∷ ts) ≡ false
unfolding ahead sees symbol
ahead-other t ts e f = let off : same (of_kind t.kind) s.OpenParen ≡ false = sym (opens-agree t) ∙ e in rw (off, f) refl

pub names-agree : (t : Token) → is_name (of_kind t.kind) ≡ among parentheses.names (token_kind t)
unfolding token_kind tables
names-agree t = name-agrees (of_kind t.kind) t.broken

pub language-told : Told language parentheses
unfolding script_language
language-told = script-told

abbrev pub follows : ℕ → List ℕ
follows = entry [] tails

module _ (depth : ℕ) (x : Grammar Token) (i : InPlace language.rules x) where
  abbrev pub Derived : List Token → List Token → Tree Token → Type 0
  Derived ts rest a = Spells language (Derives language depth) x ts rest a

  -- what stands behind the brackets
  pub behind-brackets : (name : ℕ) → Rattle.grammar.specs.Pairs.wrapped parentheses (language.rules name) ≡ true → (ts rest : List Token) (a : Tree Token) → Derives language depth name ts rest a
      → (t : Token) × (inner : List Token) × (ts ≡ t ∷ inner) × (arrow_behind 1 inner ≡ arrow_at rest)
  unfolding Derives
  behind-brackets name w ts rest a d = by depth d
    where
      by : (depth : ℕ) → Derives language depth name ts rest a → (t : Token) × (inner : List Token) × (ts ≡ t ∷ inner) × (arrow_behind 1 inner ≡ arrow_at rest)
      by zero d = absurd d
      by (suc depth) d =
          let k = wrapped-found language follows language-fits parentheses language-told (Derives language depth) (derives-scans language follows language-fits parentheses language-told depth)
          (language.rules name) (language-fits name).1 w ts rest a d in
          (k.0, k.2, k.3, arrow-found k.2 0 k.1 rest k.4)

  -- An arrow comes where one is derived.
  pub second-ahead : before_stop language.heads parentheses arrow_kinds x ≡ true → (ts rest : List Token) (a : Tree Token) → Derived ts rest a → ahead ts ≡ true
  second-ahead w ts rest a d =
      let g = before-found language follows language-fits parentheses language-told (Derives language depth) (derives-begun language follows language-fits depth) arrow_kinds x i w ts rest a d in
      let arrow : arrow_at g.0 ≡ true = arrow-starts g.0 ∙ g.2 in
      elim g.1 [
        | inl h ↦
            let k = behind-brackets 19 language-told.2 ts g.0 h.0 h.1 in
            let begun = begun-surely language (language.heads 19) false ts g.0 refl (derives-begun language follows language-fits depth 19 ts g.0 h.0 h.1) in
            let opened : starts language (among opening) ts ≡ true = at-covered language opening (language.heads 19) ts language-told.3 begun.0 in
            let on : among opening (token_kind k.0) ≡ true = ap (λ m. starts language (among opening) m) (sym k.2) ∙ opened in
            ap (λ m. ahead m) k.2 ∙ ahead-open k.0 k.1 on ∙ k.3 ∙ arrow
        | inr h ↦ ap (λ m. ahead m) h.1 ∙ ahead-name h.0 g.0 (names-agree h.0 ∙ h.2) ∙ arrow
      ]

  -- None comes where another expression is derived, up to what is no arrow.
  pub first-ahead : leads language.heads parentheses arrow_kinds x ≡ true → alone language.heads parentheses arrow_kinds x ≡ true
      → (ts rest : List Token) (a : Tree Token) → Derived ts rest a → Off language arrow_kinds rest → ahead ts ≡ false
  unfolding ahead sees symbol same
  first-ahead v w [] rest a d o = refl
  first-ahead v w (t ∷ ts) rest a d o = elim (is_or_not (among opening (token_kind t))) [
    | inl h ↦
        let k = leads-found language follows language-fits parentheses language-told (Derives language depth) (derives-begun language follows language-fits depth) arrow_kinds x i v (t ∷ ts) rest a d h in
        let b = behind-brackets 5 language-told.1 (t ∷ ts) k.0 k.1 k.2 in
        let inner : ts ≡ b.1 = let e = b.2 in cc (e) in
        ahead-open t ts h ∙ ap (λ m. arrow_behind 1 m) inner ∙ b.3 ∙ none k.0 k.3
    | inr h ↦ elim (is_or_not (is_name (of_kind t.kind))) [
      | inl n ↦
          let on : starts language (among parentheses.names) (t ∷ ts) ≡ true = sym (names-agree t) ∙ n in
          let k = alone-found language follows language-fits parentheses language-told (Derives language depth) (derives-begun language follows language-fits depth) arrow_kinds x i w (t ∷ ts) rest a d on in
          let inner : ts ≡ k.1 = let e = k.2 in cc (e) in
          ahead-name t ts n ∙ ap (λ m. arrow_at m) inner ∙ none k.1 k.3
      | inr n ↦ ahead-other t ts h n
    ]
  ]
    where
      none : (mid : List Token) → (At language arrow_kinds mid → rest ≡ mid) → arrow_at mid ≡ false
      none mid same = false_by (arrow_at mid) (λ e.
          let on : At language arrow_kinds mid = sym (arrow-starts mid) ∙ e in
          let here : At language arrow_kinds rest = ap (λ m. starts language (among arrow_kinds) m) (same on) ∙ on in
          cc (here, o))
