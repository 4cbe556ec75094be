-- Lines that grow.
use Rattle.std.proofs.Common.{◌≡◌, ◌∙◌, ℕ, zero, suc, ◌+◌, ◌-◌, ◌≤◌, ◌<◌, ◌==◌, true, min, List, [], ◌∷◌, ◌++◌, length, take, drop, get_or, refl, sym, ap, arith, append_assoc, Result, Ok, Err, OnOk, IfOk}
use Rattle.std.specs.List.{flat_map}
use Rattle.std.proofs.lemmas.List.{append-nil, take_all, drop_more}
use Rattle.std.proofs.lemmas.List.Concat.{flat_map-cons}
use Rattle.std.proofs.Math.Seq.{take-append_seam, take-append-add}
use Rattle.js_semantics.specs.Display.{Shown}
use Rattle.js_display.specs.Line.{Built, showing, more}

take_min : (k : ℕ) (ys : List ℕ) → take (min (length ys) k) ys ≡ take k ys
take_min zero ys = let none : min (length ys) 0 ≡ 0 = omega arith in ap (λ m. take m ys) none
take_min (suc k) [] = let none : min (length {A = ℕ} []) (suc k) ≡ 0 = omega arith in ap (λ m. take {A = ℕ} m []) none
take_min (suc k) (y ∷ ys) =
    let some : min (length (y ∷ ys)) (suc k) ≡ suc (min (length ys) k) = omega arith in
    ap (λ m. take m (y ∷ ys)) some ∙ ap (λ zs. y ∷ zs) (take_min k ys)

-- what fits
pub put_taken : (n : ℕ) (xs ys : List ℕ) → length xs ≤ n → take n (xs ++ ys) ≡ xs ++ take (min (length ys) (n - length xs)) ys
put_taken n xs ys h =
    let k : ℕ = n - length xs in
    let whole : n ≡ length xs + k = omega (arith, h) in
    ap (λ m. take m (xs ++ ys)) whole ∙ take-append-add xs ys k ∙ ap (λ zs. xs ++ zs) (sym (take_min k ys))

-- what is cut may be cut before
pub cut_before : (n : ℕ) (xs ys : List ℕ) → take n (take n xs ++ ys) ≡ take n (xs ++ ys)
cut_before zero xs ys = refl
cut_before (suc n) [] ys = refl
cut_before (suc n) (x ∷ xs) ys = ap (λ zs. x ∷ zs) (cut_before n xs ys)

pub cut_twice : (n : ℕ) (xs ys zs : List ℕ) → take n (take n (xs ++ ys) ++ zs) ≡ take n (xs ++ (ys ++ zs))
cut_twice n xs ys zs = cut_before n (xs ++ ys) zs ∙ ap (take n) (append_assoc xs ys zs)

-- one text behind another
pub showing_twice : (s t : Shown) (line : Built) → showing t (showing s line) ≡ showing (record { text = s.text ++ t.text; left = t.left }) line
showing_twice s t line = λ i. record { text = cut_twice line.limit line.text s.text t.text i; limit = line.limit; left = t.left }

-- a full line stays
pub full_stays : (s : Shown) (line : Built) → length line.text ≡ line.limit → (showing s line).text ≡ line.text
full_stays s line h = ap (λ n. take n (line.text ++ s.text)) (sym h) ∙ take-append_seam line.text s.text

pub cut_thrice : (n : ℕ) (text a b c d : List ℕ) → take n (text ++ ((a ++ (b ++ c)) ++ d)) ≡ take n (take n (take n (text ++ a) ++ b) ++ (c ++ d))
cut_thrice n text a b c d =
    ap (λ x. take n (text ++ x)) (append_assoc a (b ++ c) d ∙ ap (λ x. a ++ x) (append_assoc b c d))
    ∙ sym (cut_twice n text a (b ++ (c ++ d)))
    ∙ sym (cut_twice n (take n (text ++ a)) b (c ++ d))

pub cut_five : (n : ℕ) (text a b c d e f : List ℕ) → take n (text ++ ((a ++ (b ++ (c ++ (d ++ e)))) ++ f)) ≡ take n (take n (take n (take n (take n (text ++ a) ++ b) ++ c) ++ d) ++ (e ++ f))
cut_five n text a b c d e f =
    let one : List ℕ = take n (text ++ a) in
    let two : List ℕ = take n (one ++ b) in
    let three : List ℕ = take n (two ++ c) in
    ap (λ x. take n (text ++ x)) (append_assoc a (b ++ (c ++ (d ++ e))) f ∙ ap (λ x. a ++ x) (append_assoc b (c ++ (d ++ e)) f ∙ ap (λ x. b ++ x) (append_assoc c (d ++ e) f ∙ ap (λ x. c ++ x) (append_assoc d e f))))
    ∙ sym (cut_twice n text a (b ++ (c ++ (d ++ (e ++ f)))))
    ∙ sym (cut_twice n one b (c ++ (d ++ (e ++ f))))
    ∙ sym (cut_twice n two c (d ++ (e ++ f)))
    ∙ sym (cut_twice n three d (e ++ f))

pub more_twice : (a b : List ℕ) (line : Built) → more b (more a line) ≡ more (a ++ b) line
more_twice a b line = showing_twice (record { text = a; left = line.left }) (record { text = b; left = line.left }) line

pub more_thrice : (a b c : List ℕ) (line : Built) → more c (more b (more a line)) ≡ more (a ++ (b ++ c)) line
more_thrice a b c line = more_twice b c (more a line) ∙ more_twice a (b ++ c) line

pub more_none : (line : Built) → length line.text ≤ line.limit → more [] line ≡ line
more_none line h =
    let same : take line.limit (line.text ++ []) ≡ line.text = ap (take line.limit) (append-nil line.text) ∙ take_all line.limit line.text h in
    λ i. record { text = same i; limit = line.limit; left = line.left }

pub more_full : (text : List ℕ) (line : Built) → length line.text ≡ line.limit → more text line ≡ line
more_full text line h = λ i. record { text = full_stays (record { text = text; left = line.left }) line h i; limit = line.limit; left = line.left }

-- One letter more of a word.
pub letter_turn : (letters : List ℕ) (i unit : ℕ) (before after start : Built) → i < length letters → unit ≡ get_or letters i 0
    → after ≡ more (unit ∷ []) before → more (drop i letters) before ≡ start → more (drop (i + 1) letters) after ≡ start
letter_turn letters i unit before after start h u e inv =
    let rest : List ℕ = drop (i + 1) letters in
    ap (more rest) e ∙ more_twice (unit ∷ []) rest before
    ∙ ap (λ x. more (x ∷ rest) before) u
    ∙ ap (λ xs. more xs before) (sym (drop_more letters i 0 h)) ∙ inv

-- One unit more of a text that is written unit by unit.
pub unit_turn : (f : ℕ → List ℕ) (units : List ℕ) (i unit : ℕ) (tail : List ℕ) (before after start : Built) → i < length units → unit ≡ get_or units i 0
    → after ≡ more (f unit) before → more (flat_map f (drop i units) ++ tail) before ≡ start → more (flat_map f (drop (i + 1) units) ++ tail) after ≡ start
unit_turn f units i unit tail before after start h u e inv =
    let rest : List ℕ = flat_map f (drop (i + 1) units) in
    ap (more (rest ++ tail)) e ∙ more_twice (f unit) (rest ++ tail) before
    ∙ ap (λ xs. more xs before) (sym (append_assoc (f unit) rest tail))
    ∙ ap (λ x. more ((f x ++ rest) ++ tail) before) u
    ∙ ap (λ xs. more (xs ++ tail) before) (sym (ap (flat_map f) (drop_more units i 0 h) ∙ flat_map-cons f (get_or units i 0) (drop (i + 1) units)))
    ∙ inv

pub on_ok : {T E : Type 0} (r : Result T E) {P Q : Type 0} → (P → Q) → OnOk r P → OnOk r Q
on_ok (Ok x) f p = f p
on_ok (Err e) f p = tt

pub if_ok : {T E : Type 0} (r : Result T E) {P Q : T → Type 0} → ((x : T) → P x → Q x) → IfOk r P → IfOk r Q
if_ok (Ok x) f p = f x p
if_ok (Err e) f p = tt

pub eqb_true : (a b : ℕ) → (a == b) ≡ true → a ≡ b
eqb_true a b h = grind (arith, h)
