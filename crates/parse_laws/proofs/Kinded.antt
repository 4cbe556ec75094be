-- The kinds of tokens by their symbols are those that the grammar of scripts tells apart.
use Rattle.std.proofs.Common.{inl, inr, true, false, Bool, ◌≡◌, ℕ, zero, suc, ◌+◌, ◌*◌, ◌<◌, List, [], ◌∷◌, length, refl, ap, sym, subst, ◌∙◌, arith, codes}
use Rattle.std.specs.Prelude.{if◌then◌else◌, ◌==◌, nat_eq, None, slice_index_or}
use Rattle.std.specs.Cmp.Lexicographic.{pointwise, bytes_decides}
use Rattle.grammar.specs.Kinds.{alike}
use Rattle.grammar.specs.Grammar.{entry}
use Rattle.grammar.proofs.Laws.{rows}
use Rattle.grammar.proofs.Sets.{test_was, is_or_not, false_by}
use Rattle.js_token.specs.declared.token.Token.{Token}
use Rattle.js_token.specs.declared.token.TokenKind.{TokenKind}
use Rattle.js_token.specs.declared.token.TokenKind.TheVariants as kind
use Rattle.js_grammar.specs.Kinds.{kind_of, class_of, place_in, words, contextual}
use Rattle.js_parse.specs.declared.symbol.Symbol.{Symbol}
use Rattle.js_parse.specs.declared.symbol.Symbol.TheVariants as s
use Rattle.js_parse.specs.Symbols.{of_kind, of_word, of_name, of_mark, marks, jump_word, control_word, value_word, operator_word}
use Rattle.parse_laws.specs.Kinds.{token_kind, class}

-- ---- words

pub alike-self : (xs : List ℕ) → alike xs xs ≡ true
unfolding alike
alike-self [] = refl
alike-self (x ∷ xs) = rw (same x) (alike-self xs)
  where
    same : (x : ℕ) → (x == x) ≡ true
    same x = grind arith

-- what holds of each text of a list, and of one that is like none
unfoldable pub EachSo : (List ℕ → Type 0) → List (List ℕ) → Type 0
EachSo P [] = Unit {0}
EachSo P (x ∷ xs) = P x × EachSo P xs

pub alike-same : (xs ys : List ℕ) → alike xs ys ≡ true → xs ≡ ys
unfolding alike
alike-same [] [] e = refl
alike-same [] (y ∷ ys) e = absurd (cc (e))
alike-same (x ∷ xs) [] e = absurd (cc (e))
alike-same (x ∷ xs) (y ∷ ys) e = elim (test_was (x == y) (alike xs ys) false true e) [
  | inl h ↦ let n : x ≡ y = Rattle.grammar.proofs.Laws.same_number x y h.0 in let m : xs ≡ ys = alike-same xs ys h.1 in λ i. n i ∷ m i
  | inr h ↦ absurd (cc (h.1))
]

pub by-texts : (P : List ℕ → Type 0) (xs : List (List ℕ)) (text : List ℕ) → EachSo P xs
    → (((n : ℕ) → n < length xs → alike (entry [] xs n) text ≡ false) → P text) → P text
unfolding EachSo entry
by-texts P [] text a h = h (λ n small. absurd (omega (arith, small)))
by-texts P (x ∷ xs) text a h = elim (is_or_not (alike x text)) [
  | inl e ↦ subst P (alike-same x text e) a.0
  | inr e ↦ by-texts P xs text a.1 (λ none. h (λ n small. by n small none e))
]
  where
    by : (n : ℕ) → n < length (x ∷ xs) → ((n : ℕ) → n < length xs → alike (entry [] xs n) text ≡ false) → alike x text ≡ false → alike (entry [] (x ∷ xs) n) text ≡ false
    by zero small none e = e
    by (suc n) small none e = none n (omega (arith, small))

-- another text
pub differs : (word text : List ℕ) → alike word text ≡ false → pointwise nat_eq word text ≡ false
differs word text e = false_by (pointwise nat_eq word text) (λ h.
    let same : word ≡ text = (bytes_decides word text).0 h in
    let wrong : alike word text ≡ true = ap (λ t. alike word t) (sym same) ∙ alike-self word in
    cc (wrong, e))

abbrev pub WordAgrees : List ℕ → Type 0
WordAgrees text = 5 + place_in words text ≡ class (of_word text)

abbrev pub NoWord : List ℕ → Type 0
NoWord text = (n : ℕ) → n < 25 → alike (entry [] words n) text ≡ false

pub no-word : (n : ℕ) (text : List ℕ) (word : List ℕ) → n < 25 → entry [] words n ≡ word → NoWord text → pointwise nat_eq word text ≡ false
no-word n text word small e none = differs word text (ap (λ w. alike w text) (sym e) ∙ none n small)

pub no-jump : (text : List ℕ) → NoWord text → jump_word text ≡ None
unfolding jump_word entry words
no-jump text none =
    let e0 = no-word 0 text (codes "break") (omega arith) refl none in
    let e3 = no-word 3 text (codes "continue") (omega arith) refl none in
    let e17 = no-word 17 text (codes "return") (omega arith) refl none in
    let e19 = no-word 19 text (codes "throw") (omega arith) refl none in
    let e21 = no-word 21 text (codes "try") (omega arith) refl none in
    let e1 = no-word 1 text (codes "catch") (omega arith) refl none in
    let e8 = no-word 8 text (codes "finally") (omega arith) refl none in
    rw (e0, e3, e17, e19, e21, e1, e8) refl

pub no-control : (text : List ℕ) → NoWord text → control_word text ≡ None
unfolding control_word entry words
no-control text none =
    let e11 = no-word 11 text (codes "if") (omega arith) refl none in
    let e6 = no-word 6 text (codes "else") (omega arith) refl none in
    let e24 = no-word 24 text (codes "while") (omega arith) refl none in
    let e5 = no-word 5 text (codes "do") (omega arith) refl none in
    let e9 = no-word 9 text (codes "for") (omega arith) refl none in
    let e14 = no-word 14 text (codes "let") (omega arith) refl none in
    let e2 = no-word 2 text (codes "const") (omega arith) refl none in
    let e10 = no-word 10 text (codes "function") (omega arith) refl none in
    rw (e11, e6, e24, e5, e9, e14, e2, e10) refl

pub no-value : (text : List ℕ) → NoWord text → value_word text ≡ None
unfolding value_word entry words
no-value text none =
    let e18 = no-word 18 text (codes "this") (omega arith) refl none in
    let e16 = no-word 16 text (codes "null") (omega arith) refl none in
    let e20 = no-word 20 text (codes "true") (omega arith) refl none in
    let e7 = no-word 7 text (codes "false") (omega arith) refl none in
    rw (e18, e16, e20, e7) refl

pub no-operator : (text : List ℕ) → NoWord text → operator_word text ≡ None
unfolding operator_word entry words
no-operator text none =
    let e15 = no-word 15 text (codes "new") (omega arith) refl none in
    let e4 = no-word 4 text (codes "delete") (omega arith) refl none in
    let e22 = no-word 22 text (codes "typeof") (omega arith) refl none in
    let e23 = no-word 23 text (codes "void") (omega arith) refl none in
    let e12 = no-word 12 text (codes "in") (omega arith) refl none in
    let e13 = no-word 13 text (codes "instanceof") (omega arith) refl none in
    rw (e15, e4, e22, e23, e12, e13) refl

pub none-placed : (xs : List (List ℕ)) (text : List ℕ) → ((n : ℕ) → n < length xs → alike (entry [] xs n) text ≡ false) → place_in xs text ≡ length xs
unfolding place_in entry
none-placed [] text h = refl
none-placed (x ∷ xs) text h =
    let e : alike x text ≡ false = h 0 (omega arith) in
    rw e (ap (λ n. suc n) (none-placed xs text (λ n small. h (suc n) (omega (arith, small)))))

pub each-word : EachSo WordAgrees words
unfolding EachSo words place_in alike of_word jump_word control_word value_word operator_word
each-word = (refl, (refl, (refl, (refl, (refl, (refl, (refl, (refl, (refl, (refl, (refl, (refl, (refl, (refl, (refl, (refl, (refl, (refl, (refl, (refl, (refl, (refl, (refl, (refl, (refl, tt)))))))))))))))))))))))))

pub words-agree : (text : List ℕ) → 5 + place_in words text ≡ class (of_word text)
unfolding of_word words
words-agree text = by-texts WordAgrees words text each-word none
  where
    none : NoWord text → WordAgrees text
    none n =
        let a = no-jump text n in let b = no-control text n in let c = no-value text n in let d = no-operator text n in
        ap (λ k. 5 + k) (none-placed words text n) ∙ rw (a, b, c, d) refl

abbrev pub NameAgrees : List ℕ → Type 0
NameAgrees text = 1 + place_in contextual text ≡ class (of_name text)

pub each-name : EachSo NameAgrees contextual
unfolding EachSo contextual place_in alike of_name
each-name = (refl, (refl, (refl, tt)))

pub names-agree : (text : List ℕ) → 1 + place_in contextual text ≡ class (of_name text)
unfolding of_name contextual entry
names-agree text = by-texts NameAgrees contextual text each-name none
  where
    none : ((n : ℕ) → n < 3 → alike (entry [] contextual n) text ≡ false) → NameAgrees text
    none n =
        let a = differs (codes "of") text (n 0 (omega arith)) in let b = differs (codes "get") text (n 1 (omega arith)) in let c = differs (codes "set") text (n 2 (omega arith)) in
        ap (λ k. 1 + k) (none-placed contextual text n) ∙ rw (a, b, c) refl

-- ---- marks

unfoldable pub Numbered : ℕ → List Symbol → Type 0
Numbered k [] = Unit {0}
Numbered k (x ∷ xs) = (k ≡ class x) × Numbered (suc k) xs

pub mark-at : (xs : List Symbol) (k n : ℕ) → Numbered k xs → n < length xs → k + n ≡ class (slice_index_or xs n s.End)
unfolding Numbered
mark-at [] k n a small = absurd (omega (arith, small))
mark-at (x ∷ xs) k zero a small = let e : k + 0 ≡ k = omega arith in e ∙ a.0
mark-at (x ∷ xs) k (suc n) a small = let e : k + suc n ≡ suc k + n = omega arith in e ∙ mark-at xs (suc k) n a.1 (omega (arith, small))

pub each-mark : Numbered 37 marks
unfolding Numbered
each-mark = (refl, (refl, (refl, (refl, (refl, (refl, (refl, (refl, (refl, (refl, (refl, (refl, (refl, (refl, (refl, (refl, (refl, (refl, (refl, (refl, (refl, (refl, (refl, (refl, (refl, (refl, (refl, (refl, (refl, (refl, (refl, (refl, (refl, (refl, (refl, (refl, (refl, (refl, (refl, (refl, (refl, (refl, (refl, tt)))))))))))))))))))))))))))))))))))))))))))

-- A token of the kinds that the grammar names.
abbrev pub Low : Token → Type 0
Low t = kind_of t < 160

abbrev pub Same : Token → Type 0
Same t = kind_of t ≡ token_kind t

pub class-agrees : (k : TokenKind) → class_of k < 80 → class_of k ≡ class (of_kind k)
unfolding class_of of_kind of_mark
class-agrees (kind.Name text) low = names-agree text
class-agrees (kind.Word text) low = words-agree text
class-agrees (kind.Number value) low = refl
class-agrees (kind.Text text) low = refl
class-agrees (kind.Piece text true true) low = refl
class-agrees (kind.Piece text true false) low = refl
class-agrees (kind.Piece text false true) low = refl
class-agrees (kind.Piece text false false) low = refl
class-agrees (kind.Mark number) low = mark-at marks 37 number each-mark (omega (arith, low))
class-agrees kind.End low = refl

pub low-same : (t : Token) → Low t → Same t
unfolding kind_of token_kind
low-same t low = ap (λ c. 2 * c + (if t.broken then 1 else 0)) (class-agrees t.kind (below (class_of t.kind) t.broken low))
  where
    below : (c : ℕ) (b : Bool) → 2 * c + (if b then 1 else 0) < 160 → c < 80
    below c true low = omega (arith, low)
    below c false low = omega (arith, low)
