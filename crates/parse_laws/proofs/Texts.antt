-- What is parsed of a text's tokens is a script.
use Rattle.std.proofs.Common.{true, false, ◌≡◌, ℕ, suc, ◌+◌, ◌*◌, List, [], ◌∷◌, ◌++◌, length, refl, ap, sym, subst, ◌∙◌, arith}
use Rattle.std.specs.Prelude.{Ok, if◌then◌else◌}
use Rattle.grammar.specs.Kinds.{among}
use Rattle.grammar.specs.Grammar.{Tree, leaf, pair, Derives, Spells, entry}
use Rattle.grammar.specs.Reading.{read}
use Rattle.grammar.specs.Tests.{InPlace}
use Rattle.grammar.proofs.Laws.{read-sound}
use Rattle.grammar.proofs.Complete.{read-complete}
use Rattle.grammar.proofs.Pairs.{all-apart}
use Rattle.grammar.proofs.Free.{free, NoneOf, spells-free, derives-free}
use Rattle.js_token.specs.declared.token.Token.{Token}
use Rattle.js_token.specs.declared.token.TokenKind.{TokenKind}
use Rattle.js_token.specs.declared.token.TokenKind.TheVariants as kind
use Rattle.js_token.specs.Lists.{IsInner, EndsAt}
use Rattle.js_tree.specs.Nodes.{Nodes}
use Rattle.js_grammar.specs.Kinds.{kinds, end, class_of}
use Rattle.js_grammar.specs.Script.{item, any, nesting, script, script_language, script_rule, rules}
use Rattle.js_grammar.specs.Scripts.{IsScript}
use Rattle.js_grammar.proofs.Tables.{parentheses}
use Rattle.js_grammar.proofs.Ends.{rules-free}
use Rattle.js_parse.specs.declared.symbol.Symbol.TheVariants as s
use Rattle.js_parse.specs.Symbols.{same, of_kind, of_mark, marks}
use Rattle.js_parse.specs.Ready.{symbol_of}
use Rattle.js_parse.specs.Parsing.{parsed}
use Rattle.parse_laws.specs.Kinds.{token_kind, class}
use Rattle.parse_laws.specs.Trees.{nodes_of}
use Rattle.parse_laws.proofs.Walk.{language, language-fits}
use Rattle.parse_laws.proofs.Symbols.{end-agrees}
use Rattle.parse_laws.proofs.Whole.{script-found}
use Rattle.parse_laws.proofs.Ahead.{follows, language-told}
use Rattle.parse_laws.proofs.Kinded.{Same, words-agree, names-agree, mark-at, each-mark}
use Rattle.parse_laws.proofs.Kindred.{AllSame, read-alike}
use Rattle.parse_laws.proofs.Scripts.{end_kinds, script-parsed}

-- ---- the tokens of a text

abbrev pub Inners : List Token → Type 0
Inners [] = Unit {0}
Inners (t ∷ ts) = IsInner t.kind × Inners ts

abbrev pub EndsSo : List Token → Type 0
EndsSo tokens = (front : List Token) × (t : Token) × (tokens ≡ front ++ t ∷ []) × Inners front × (t.kind ≡ kind.End)

pub ends-so : (at : ℕ) (tokens : List Token) → EndsAt at tokens → EndsSo tokens
ends-so at [] e = absurd e
ends-so at (t ∷ []) e = ([], t, refl, tt, e.1)
ends-so at (t ∷ u ∷ more) e = let k = ends-so at (u ∷ more) e.1 in (t ∷ k.0, k.1, ap (λ l. t ∷ l) k.2, (e.0, k.3), k.4)

pub inner-class : (k : TokenKind) → IsInner k → class_of k ≡ class (of_kind k)
unfolding class_of of_kind of_mark
inner-class (kind.Name text) i = names-agree text
inner-class (kind.Word text) i = words-agree text
inner-class (kind.Number value) i = refl
inner-class (kind.Text text) i = refl
inner-class (kind.Piece text true true) i = refl
inner-class (kind.Piece text true false) i = refl
inner-class (kind.Piece text false true) i = refl
inner-class (kind.Piece text false false) i = refl
inner-class (kind.Mark number) i = mark-at marks 37 number each-mark i
inner-class kind.End i = absurd i

pub inner-some : (k : TokenKind) → IsInner k → class_of k ≡ 0 → ⊥
unfolding class_of
inner-some (kind.Name text) i e = omega (arith, e)
inner-some (kind.Word text) i e = omega (arith, e)
inner-some (kind.Number value) i e = omega (arith, e)
inner-some (kind.Text text) i e = omega (arith, e)
inner-some (kind.Piece text true true) i e = omega (arith, e)
inner-some (kind.Piece text true false) i e = omega (arith, e)
inner-some (kind.Piece text false true) i e = omega (arith, e)
inner-some (kind.Piece text false false) i e = omega (arith, e)
inner-some (kind.Mark number) i e = omega (arith, e)
inner-some kind.End i e = i

pub inner-no_end : (k : TokenKind) → IsInner k → of_kind k ≡ s.End → ⊥
inner-no_end k i e = inner-some k i (inner-class k i ∙ ap (λ symbol. class symbol) e)

pub same-of : (t : Token) → class_of t.kind ≡ class (of_kind t.kind) → Same t
unfolding Rattle.js_grammar.specs.Kinds.kind_of token_kind
same-of t e = ap (λ c. 2 * c + (if t.broken then 1 else 0)) e

pub end-class : (k : TokenKind) → k ≡ kind.End → class_of k ≡ class (of_kind k)
unfolding class_of of_kind
end-class k e = ap (λ k. class_of k) e ∙ sym (ap (λ k. class (of_kind k)) e)

pub all-inner : (front : List Token) (t : Token) → Inners front → t.kind ≡ kind.End → AllSame (front ++ t ∷ [])
all-inner [] t i e = (same-of t (end-class t.kind e), tt)
all-inner (u ∷ front) t i e = (same-of u (inner-class u.kind i.0), all-inner front t i.1 e)

pub text-same : (tokens : List Token) → EndsSo tokens → AllSame tokens
text-same tokens k = subst AllSame (sym k.2) (all-inner k.0 k.1 k.3 k.4)

pub ends : (t : Token) → t.kind ≡ kind.End → among end_kinds (token_kind t) ≡ true
unfolding token_kind of_kind same
ends t e = sym (end-agrees (of_kind t.kind) t.broken) ∙ ap (λ k. same (of_kind k) s.End) e

-- Of items up to the end nothing is left but that.
pub last-one : (front f rest : List Token) (t : Token) → front ++ t ∷ [] ≡ f ++ rest → Inners front → NoneOf language end_kinds script f → symbol_of rest ≡ s.End → t.kind ≡ kind.End
    → rest ≡ t ∷ []
last-one [] [] rest t e i n o k = sym e
last-one [] (x ∷ f) rest t e i n o k =
    let same : t ≡ x = cc (e) in
    let on : among end_kinds (token_kind x) ≡ true = ap (λ t. among end_kinds (token_kind t)) (sym same) ∙ ends t k in
    absurd (let off = n.0 in cc (on, off))
last-one (x ∷ front) [] rest t e i n o k = absurd (inner-no_end x.kind i.0 (ap (λ l. symbol_of l) e ∙ o))
last-one (x ∷ front) (y ∷ f) rest t e i n o k = let e' : front ++ t ∷ [] ≡ f ++ rest = cc (e) in last-one front f rest t e' i.1 n.1 o k

pub no-end : (depth : ℕ) (tokens rest : List Token) (items : Tree Token) → Spells language (Derives language depth) (any item) tokens rest items
    → (f : List Token) × (tokens ≡ f ++ rest) × NoneOf language end_kinds script f
unfolding free InPlace rules entry script_language
no-end depth tokens rest items d =
    spells-free language end_kinds script (Derives language depth) (λ n. (language-fits n).1) rules-free (derives-free language end_kinds script (λ n. (language-fits n).1) rules-free depth)
    (any item) refl refl tokens rest items d

pub wholly : (depth : ℕ) (tokens : List Token) (items : Tree Token) (t : Token) (rest : List Token) → Spells language (Derives language depth) (any item) tokens rest items → rest ≡ t ∷ []
    → t.kind ≡ kind.End → Derives language (suc depth) script tokens [] (pair items (leaf t))
unfolding Derives Spells rules entry script_rule
wholly depth tokens items t rest d e k = (rest, items, leaf t, d, (t, e, ends t k, refl), refl)

pub is-derived : (depth : ℕ) (tokens : List Token) (tree : Tree Token) → AllSame tokens → Derives language depth script tokens [] tree → Derives script_language depth script tokens [] tree
is-derived depth tokens tree a d =
    let limit = suc (length tokens) in
    let one : read language limit depth script tokens ≡ Ok (tree, []) =
    read-complete language follows language-fits limit (all-apart language follows language-fits parentheses language-told limit) depth script tokens [] tree d refl (omega arith) in
    read-sound script_language limit depth script tokens (tree, []) (read-alike limit depth script tokens a ∙ one)

pub is-script : (tokens : List Token) (tree : Tree Token) → AllSame tokens → Derives language (suc nesting) script tokens [] tree → IsScript tokens tree
unfolding IsScript
is-script tokens tree a d = is-derived (suc nesting) tokens tree a d

-- What is parsed of a text's tokens is a script, and the nodes are those of its derivation.
pub text-parsed : (tokens : List Token) (nodes : Nodes) → EndsSo tokens → parsed tokens ≡ Ok nodes → (tree : Tree Token) × IsScript tokens tree × (nodes ≡ nodes_of nesting tree)
text-parsed tokens nodes w e =
    let k = script-found tokens nodes e in
    let f = no-end nesting tokens k.1 k.0 k.2 in
    let last = last-one w.0 f.0 k.1 w.1 (sym w.2 ∙ f.1) w.3 f.2 k.3 w.4 in
    let tree = pair k.0 (leaf w.1) in
    let is : IsScript tokens tree = is-script tokens tree (text-same tokens w) (wholly nesting tokens k.0 w.1 k.1 k.2 last w.4) in
    let nodes_same : nodes ≡ nodes_of nesting tree = let p = script-parsed tokens tree is in cc (p, e) in
    (tree, is, nodes_same)
