-- The name of an item can be told apart from what follows it.
use Rattle.std.proofs.Common.{◌≡◌, ◌≢◌, ℕ, suc, ◌^◌, ◌<◌, true, false, if◌then◌else◌, List, [], ◌∷◌, ◌++◌, length, get_or, pos, negsuc, refl, sym, ap, ◌∙◌, subst, arith}
use Rattle.std.specs.Fmt.{decimal}
use Rattle.std.specs.List.{list_all}
use Rattle.std.proofs.Math.Dec.{eqb}
use Rattle.std.proofs.lemmas.Bool.{ne_eqb}
use Rattle.std.proofs.lemmas.Fmt.{decimal_nonempty}
use Rattle.wl_text.specs.Text.{quoted}
use Rattle.parcel.specs.Checked.{is_safe}
use Rattle.parcel.specs.Text.{item_name}
use Rattle.parcel.specs.declared.parcel.Side.TheVariants.{Own, Far}
use Rattle.parcel.specs.declared.parcel.Item.{Item}
use Rattle.parcel.specs.declared.parcel.Item.TheVariants.{Undefined, Null, Bool, Num, Str, Node, Fn, Prom}
use Rattle.parcel.proofs.Prefixes.{IsDigit, AreDigits, AreDigits-decimal, Stops, decimal-apart, quoted-apart, is_unit}
use Rattle.parcel.proofs.Walks.{safe-below, safe-above}

-- the ranges in which a name can be read
abbrev pub IsReadable : Item → Type 0
IsReadable Undefined = Unit {0}
IsReadable Null = Unit {0}
IsReadable (Bool b) = Unit {0}
IsReadable (Num n) = is_safe n ≡ true
IsReadable (Str units) = list_all is_unit units ≡ true
IsReadable (Node number) = number < 2 ^ 64
IsReadable (Fn side number) = number < 2 ^ 64
IsReadable (Prom side number) = number < 2 ^ 64

-- an item by the kind of its name
data Flat : Type 0 where
  an_undefined : Flat
  a_null : Flat
  a_true : Flat
  a_false : Flat
  a_positive : ℕ → Flat
  a_negative : ℕ → Flat
  a_text : List ℕ → Flat
  a_reference : ℕ → Flat
  an_own_function : ℕ → Flat
  a_far_function : ℕ → Flat
  an_own_promise : ℕ → Flat
  a_far_promise : ℕ → Flat

abbrev flat : Item → Flat
flat Undefined = an_undefined
flat Null = a_null
flat (Bool true) = a_true
flat (Bool false) = a_false
flat (Num (pos n)) = a_positive n
flat (Num (negsuc n)) = a_negative n
flat (Str units) = a_text units
flat (Node number) = a_reference number
flat (Fn Own number) = an_own_function number
flat (Fn Far number) = a_far_function number
flat (Prom Own number) = an_own_promise number
flat (Prom Far number) = a_far_promise number

abbrev item_of : Flat → Item
item_of an_undefined = Undefined
item_of a_null = Null
item_of a_true = Bool true
item_of a_false = Bool false
item_of (a_positive n) = Num (pos n)
item_of (a_negative n) = Num (negsuc n)
item_of (a_text units) = Str units
item_of (a_reference number) = Node number
item_of (an_own_function number) = Fn Own number
item_of (a_far_function number) = Fn Far number
item_of (an_own_promise number) = Prom Own number
item_of (a_far_promise number) = Prom Far number

item_of-flat : (item : Item) → item_of (flat item) ≡ item
item_of-flat Undefined = refl
item_of-flat Null = refl
item_of-flat (Bool true) = refl
item_of-flat (Bool false) = refl
item_of-flat (Num (pos n)) = refl
item_of-flat (Num (negsuc n)) = refl
item_of-flat (Str units) = refl
item_of-flat (Node number) = refl
item_of-flat (Fn Own number) = refl
item_of-flat (Fn Far number) = refl
item_of-flat (Prom Own number) = refl
item_of-flat (Prom Far number) = refl

-- the kinds of names
abbrev flat_kind : Flat → ℕ
flat_kind an_undefined = 0
flat_kind a_null = 1
flat_kind a_true = 2
flat_kind a_false = 3
flat_kind (a_positive n) = 4
flat_kind (a_negative n) = 5
flat_kind (a_text units) = 6
flat_kind (a_reference number) = 7
flat_kind (an_own_function number) = 8
flat_kind (a_far_function number) = 9
flat_kind (an_own_promise number) = 10
flat_kind (a_far_promise number) = 11

abbrev kind : Item → ℕ
kind item = flat_kind (flat item)

-- the kind that a text tells, by its first, third and fourth unit
abbrev kind_by : ℕ → ℕ → ℕ → ℕ
kind_by a c d =
    if eqb a 117 then 0
    else if eqb a 110 then 1
    else if eqb a 116 then 2
    else if eqb a 45 then 5
    else if eqb a 34 then 6
    else if eqb a 35 then 7
    else if eqb a 111 then (if eqb d 112 then 10 else 8)
    else if eqb a 102 then (if eqb c 108 then 3 else if eqb d 112 then 11 else 9)
    else 4

abbrev text_kind : List ℕ → ℕ
text_kind text = kind_by (get_or text 0 0) (get_or text 2 0) (get_or text 3 0)

first-digit : (digits more : List ℕ) → 0 < length digits → AreDigits digits → IsDigit (get_or (digits ++ more) 0 0)
first-digit [] more some all = absurd (omega arith)
first-digit (d ∷ digits) more some all = all.0

number-digit : (n : ℕ) (more : List ℕ) → n < 2 ^ 64 → IsDigit (get_or (decimal n ++ more) 0 0)
number-digit n more low = first-digit (decimal n) more (decimal_nonempty n low) (AreDigits-decimal n low)

digit-kind : (a c d : ℕ) → IsDigit a → kind_by a c d ≡ 4
digit-kind a c d digit =
    rw (
      no 117 (omega (arith, digit.1)),
      no 110 (omega (arith, digit.1)),
      no 116 (omega (arith, digit.1)),
      no 45 (omega (arith, digit.0)),
      no 34 (omega (arith, digit.0)),
      no 35 (omega (arith, digit.0)),
      no 111 (omega (arith, digit.1)),
      no 102 (omega (arith, digit.1)),
    ) refl
  where
    no : (m : ℕ) → a ≢ m → eqb a m ≡ false
    no m other = ne_eqb a m other

no-p : (n : ℕ) (more : List ℕ) → n < 2 ^ 64 → eqb (get_or (decimal n ++ more) 0 0) 112 ≡ false
no-p n more low = let digit = number-digit n more low in ne_eqb _ 112 (λ e. omega (arith, digit.1, e))

kind-told : (item : Item) (more : List ℕ) → IsReadable item → text_kind (item_name item ++ more) ≡ kind item
unfolding item_name quoted
kind-told Undefined more fine = refl
kind-told Null more fine = refl
kind-told (Bool true) more fine = refl
kind-told (Bool false) more fine = refl
kind-told (Num (pos n)) more fine = digit-kind _ _ _ (number-digit n more (let low = safe-below n fine in omega arith))
kind-told (Num (negsuc n)) more fine = refl
kind-told (Str units) more fine = refl
kind-told (Node number) more fine = refl
kind-told (Fn Own number) more fine = rw (no-p number more fine) refl
kind-told (Fn Far number) more fine = rw (no-p number more fine) refl
kind-told (Prom Own number) more fine = refl
kind-told (Prom Far number) more fine = refl

-- two names of one kind
data SameName : Item → Item → Type 0 where
  undefineds : SameName Undefined Undefined
  nulls : SameName Null Null
  trues : SameName (Bool true) (Bool true)
  falses : SameName (Bool false) (Bool false)
  positives : (m n : ℕ) → SameName (Num (pos m)) (Num (pos n))
  negatives : (m n : ℕ) → SameName (Num (negsuc m)) (Num (negsuc n))
  texts : (u v : List ℕ) → SameName (Str u) (Str v)
  references : (m n : ℕ) → SameName (Node m) (Node n)
  own_functions : (m n : ℕ) → SameName (Fn Own m) (Fn Own n)
  far_functions : (m n : ℕ) → SameName (Fn Far m) (Fn Far n)
  own_promises : (m n : ℕ) → SameName (Prom Own m) (Prom Own n)
  far_promises : (m n : ℕ) → SameName (Prom Far m) (Prom Far n)

same-flat : (f g : Flat) → flat_kind f ≡ flat_kind g → SameName (item_of f) (item_of g)
same-flat an_undefined an_undefined e = undefineds
same-flat an_undefined g e = absurd (omega arith)
same-flat a_null a_null e = nulls
same-flat a_null g e = absurd (omega arith)
same-flat a_true a_true e = trues
same-flat a_true g e = absurd (omega arith)
same-flat a_false a_false e = falses
same-flat a_false g e = absurd (omega arith)
same-flat (a_positive m) (a_positive n) e = positives m n
same-flat (a_positive m) g e = absurd (omega arith)
same-flat (a_negative m) (a_negative n) e = negatives m n
same-flat (a_negative m) g e = absurd (omega arith)
same-flat (a_text m) (a_text n) e = texts m n
same-flat (a_text m) g e = absurd (omega arith)
same-flat (a_reference m) (a_reference n) e = references m n
same-flat (a_reference m) g e = absurd (omega arith)
same-flat (an_own_function m) (an_own_function n) e = own_functions m n
same-flat (an_own_function m) g e = absurd (omega arith)
same-flat (a_far_function m) (a_far_function n) e = far_functions m n
same-flat (a_far_function m) g e = absurd (omega arith)
same-flat (an_own_promise m) (an_own_promise n) e = own_promises m n
same-flat (an_own_promise m) g e = absurd (omega arith)
same-flat (a_far_promise m) (a_far_promise n) e = far_promises m n
same-flat (a_far_promise m) g e = absurd (omega arith)

same-name : (i j : Item) → kind i ≡ kind j → SameName i j
same-name i j e =
    let s = same-flat (flat i) (flat j) e in
    subst (λ k. SameName i k) (item_of-flat j) (subst (λ k. SameName k (item_of (flat j))) (item_of-flat i) s)

numbered-apart : (make : ℕ → Item) (m n : ℕ) (xs ys : List ℕ) → m < 2 ^ 64 → n < 2 ^ 64 → Stops xs → Stops ys → decimal m ++ xs ≡ decimal n ++ ys
    → (make m ≡ make n) × (xs ≡ ys)
numbered-apart make m n xs ys p q s t e = let h = decimal-apart m n xs ys p q s t e in (ap make h.0, h.1)

apart-by : (i j : Item) (xs ys : List ℕ) → SameName i j → IsReadable i → IsReadable j → Stops xs → Stops ys → item_name i ++ xs ≡ item_name j ++ ys
    → (i ≡ j) × (xs ≡ ys)
unfolding item_name
apart-by i j xs ys undefineds p q s t e = (refl, cc)
apart-by i j xs ys nulls p q s t e = (refl, cc)
apart-by i j xs ys trues p q s t e = (refl, cc)
apart-by i j xs ys falses p q s t e = (refl, cc)
apart-by i j xs ys (positives m n) p q s t e =
    let low = safe-below m p in
    let high = safe-below n q in
    numbered-apart (λ k. Num (pos k)) m n xs ys (omega arith) (omega arith) s t e
apart-by i j xs ys (negatives m n) p q s t e =
    let low = safe-above m p in
    let high = safe-above n q in
    let rest : decimal (suc m) ++ xs ≡ decimal (suc n) ++ ys = cc in
    let h = decimal-apart (suc m) (suc n) xs ys (omega arith) (omega arith) s t rest in
    let same : m ≡ n = omega (arith, h.0) in
    (ap (λ k. Num (negsuc k)) same, h.1)
apart-by i j xs ys (texts u v) p q s t e = let h = quoted-apart u v xs ys p q e in (ap (λ w. Str w) h.0, h.1)
apart-by i j xs ys (references m n) p q s t e =
    let rest : decimal m ++ xs ≡ decimal n ++ ys = cc in numbered-apart (λ k. Node k) m n xs ys p q s t rest
apart-by i j xs ys (own_functions m n) p q s t e =
    let rest : decimal m ++ xs ≡ decimal n ++ ys = cc in numbered-apart (λ k. Fn Own k) m n xs ys p q s t rest
apart-by i j xs ys (far_functions m n) p q s t e =
    let rest : decimal m ++ xs ≡ decimal n ++ ys = cc in numbered-apart (λ k. Fn Far k) m n xs ys p q s t rest
apart-by i j xs ys (own_promises m n) p q s t e =
    let rest : decimal m ++ xs ≡ decimal n ++ ys = cc in numbered-apart (λ k. Prom Own k) m n xs ys p q s t rest
apart-by i j xs ys (far_promises m n) p q s t e =
    let rest : decimal m ++ xs ≡ decimal n ++ ys = cc in numbered-apart (λ k. Prom Far k) m n xs ys p q s t rest

pub name-apart : (i j : Item) (xs ys : List ℕ) → IsReadable i → IsReadable j → Stops xs → Stops ys → item_name i ++ xs ≡ item_name j ++ ys
    → (i ≡ j) × (xs ≡ ys)
name-apart i j xs ys p q s t e =
    apart-by i j xs ys (same-name i j (sym (kind-told i xs p) ∙ ap text_kind e ∙ kind-told j ys q)) p q s t e
