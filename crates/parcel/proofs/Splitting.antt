-- What is shown of nodes and items can be told apart, so that the text of a checked parcel tells the parcel.
use Rattle.std.proofs.Common.{◌≡◌, ◌≢◌, ℕ, ◌+◌, ◌*◌, ◌^◌, ◌<◌, ◌≤◌, inl, inr, Bool as Boolean, true, false, if◌then◌else◌, nat_lt, List, [], ◌∷◌, ◌++◌, length, get_or, slice_get, codes, Option, Some, None, refl, sym, ap, ◌∙◌, subst, append_assoc, arith}
use Rattle.std.specs.Fmt.{decimal}
use Rattle.std.specs.List.{list_all}
use Rattle.std.proofs.lemmas.Bool.{and_parts}
use Rattle.std.proofs.Math.Dec.{leb}
use Rattle.std.proofs.lemmas.Bool.Decides.{nat_tests}
use borrow.Author.Tests.{ltb-true, leb-true}
use Rattle.hex.specs.Hex.{encode_upper}
use Rattle.wl_text.specs.Text.{quoted}
use Rattle.parcel.specs.Checked.{◌>>=◌, is_safe, is_text, with_text, is_contents, is_word, with_message, with_contents, only_if, numbered, in_turn, visit_property, visit_entry, contents_met, node_met, value_met}
use Rattle.parcel.specs.Text.{Shown, list_shown, property_shown, entry_shown, kind_name, message_shown, bytes_shown, view_shown, node_shown, first_shown, rest_shown}
use Rattle.parcel.specs.declared.parcel.ErrorKind.{ErrorKind}
use Rattle.parcel.specs.declared.parcel.ErrorKind.TheVariants.{Error as Plain, EvalError, RangeError, ReferenceError, SyntaxError, TypeError, URIError}
use Rattle.parcel.specs.declared.parcel.Item.{Item}
use Rattle.parcel.specs.declared.parcel.Item.TheVariants.{Undefined, Null, Bool, Num, Str, Node, Fn, Prom}
use Rattle.parcel.specs.declared.parcel.PNode.{PNode}
use Rattle.parcel.specs.declared.parcel.PNode.TheVariants.{Object, Array, Error, Map, Set, Port, Buffer, View}
use Rattle.parcel.specs.declared.tally.Tally.{Tally}
use Rattle.parcel.proofs.Agree.{Agree, Agree-none, Agree-along, Agree-one, Agree-at, Fair, Fair-more, Fair-at}
use Rattle.parcel.proofs.Lists.{Told, Splits, property-splits, entry-splits, list-splits}
use Rattle.parcel.proofs.NodeMet.{Listed, Viewed, is_message, node-told}
use Rattle.parcel.proofs.Prefixes.{decimal-apart, quoted-apart, hex-apart, is_unit, is_byte}
use Rattle.parcel.proofs.Tallies.{only_if-told, with_text-told, numbered-told, BufferTold}
use Rattle.parcel.proofs.Walks.{Walks, IsCloser, property-walks, entry-walks}

some-same : {A : Type 0} (o : Option A) (x y : A) → o ≡ Some x → o ≡ Some y → x ≡ y
some-same o x y e f = let h : Some x ≡ Some y = sym e ∙ f in cc

-- ---- the kinds of errors

-- the length of a name and its first letter in one number
abbrev code_of : ErrorKind → ℕ
code_of Plain = 5069
code_of EvalError = 9069
code_of RangeError = 10082
code_of ReferenceError = 14082
code_of SyntaxError = 11083
code_of TypeError = 9084
code_of URIError = 8085

abbrev text_code : List ℕ → ℕ
text_code text = length text * 1_000 + get_or text 0 0

code-told : (kind : ErrorKind) → text_code (kind_name kind) ≡ code_of kind
code-told Plain = refl
code-told EvalError = refl
code-told RangeError = refl
code-told ReferenceError = refl
code-told SyntaxError = refl
code-told TypeError = refl
code-told URIError = refl

same-kind : (j k : ErrorKind) → code_of j ≡ code_of k → j ≡ k
same-kind Plain Plain e = refl
same-kind Plain other e = absurd (omega arith)
same-kind EvalError EvalError e = refl
same-kind EvalError other e = absurd (omega arith)
same-kind RangeError RangeError e = refl
same-kind RangeError other e = absurd (omega arith)
same-kind ReferenceError ReferenceError e = refl
same-kind ReferenceError other e = absurd (omega arith)
same-kind SyntaxError SyntaxError e = refl
same-kind SyntaxError other e = absurd (omega arith)
same-kind TypeError TypeError e = refl
same-kind TypeError other e = absurd (omega arith)
same-kind URIError URIError e = refl
same-kind URIError other e = absurd (omega arith)

-- no `(`
abbrev NoBracket : List ℕ → Type 0
NoBracket [] = Unit {0}
NoBracket (c ∷ cs) = (c ≢ 40) × NoBracket cs

name-NoBracket : (kind : ErrorKind) → NoBracket (kind_name kind)
name-NoBracket Plain = (λ e. omega arith, (λ e. omega arith, (λ e. omega arith, (λ e. omega arith, (λ e. omega arith, tt)))))
name-NoBracket EvalError = (λ e. omega arith, (λ e. omega arith, (λ e. omega arith, (λ e. omega arith, (λ e. omega arith, (λ e. omega arith, (λ e. omega arith, (λ e. omega arith, (λ e. omega arith, tt)))))))))
name-NoBracket RangeError = (λ e. omega arith, (λ e. omega arith, (λ e. omega arith, (λ e. omega arith, (λ e. omega arith, (λ e. omega arith, (λ e. omega arith, (λ e. omega arith, (λ e. omega arith, (λ e. omega arith, tt))))))))))
name-NoBracket ReferenceError = (λ e. omega arith, (λ e. omega arith, (λ e. omega arith, (λ e. omega arith, (λ e. omega arith, (λ e. omega arith, (λ e. omega arith, (λ e. omega arith, (λ e. omega arith, (λ e. omega arith, (λ e. omega arith, (λ e. omega arith, (λ e. omega arith, (λ e. omega arith, tt))))))))))))))
name-NoBracket SyntaxError = (λ e. omega arith, (λ e. omega arith, (λ e. omega arith, (λ e. omega arith, (λ e. omega arith, (λ e. omega arith, (λ e. omega arith, (λ e. omega arith, (λ e. omega arith, (λ e. omega arith, (λ e. omega arith, tt)))))))))))
name-NoBracket TypeError = (λ e. omega arith, (λ e. omega arith, (λ e. omega arith, (λ e. omega arith, (λ e. omega arith, (λ e. omega arith, (λ e. omega arith, (λ e. omega arith, (λ e. omega arith, tt)))))))))
name-NoBracket URIError = (λ e. omega arith, (λ e. omega arith, (λ e. omega arith, (λ e. omega arith, (λ e. omega arith, (λ e. omega arith, (λ e. omega arith, (λ e. omega arith, tt))))))))

bracket-apart : (u v xs ys : List ℕ) → NoBracket u → NoBracket v → u ++ (40 ∷ xs) ≡ v ++ (40 ∷ ys) → (u ≡ v) × (xs ≡ ys)
bracket-apart [] [] xs ys p q e = (refl, cc)
bracket-apart [] (d ∷ v) xs ys p q e = absurd (q.0 cc)
bracket-apart (c ∷ u) [] xs ys p q e = absurd (p.0 cc)
bracket-apart (c ∷ u) (d ∷ v) xs ys p q e =
    let heads : c ≡ d = cc in
    let rest = bracket-apart u v xs ys p.1 q.1 cc in
    (rw (heads, rest.0) refl, rest.1)

kind-apart : (j k : ErrorKind) (xs ys : List ℕ) → kind_name j ++ (40 ∷ xs) ≡ kind_name k ++ (40 ∷ ys) → (j ≡ k) × (xs ≡ ys)
kind-apart j k xs ys e =
    let h = bracket-apart (kind_name j) (kind_name k) xs ys (name-NoBracket j) (name-NoBracket k) e in
    (same-kind j k (sym (code-told j) ∙ ap text_code h.0 ∙ code-told k), h.1)

text-units : (units : List ℕ) → is_text units ≡ true → list_all is_unit units ≡ true
text-units units e = (and_parts (leb (length units) 1_048_576) (list_all is_unit units) e).1

contents-bytes : (bytes : List ℕ) → is_contents bytes ≡ true → list_all is_byte bytes ≡ true
contents-bytes bytes e = (and_parts (leb (length bytes) 1_048_576) (list_all is_byte bytes) e).1

message-apart : (m n : Option (List ℕ)) (xs ys : List ℕ) → is_message m ≡ true → is_message n ≡ true
    → message_shown m ++ (41 ∷ xs) ≡ message_shown n ++ (41 ∷ ys) → (m ≡ n) × (xs ≡ ys)
unfolding quoted
message-apart None None xs ys p q e = (refl, cc)
message-apart None (Some n) xs ys p q e = absurd (let h : ◌≡◌ {A = ℕ} 41 34 = cc in omega arith)
message-apart (Some m) None xs ys p q e = absurd (let h : ◌≡◌ {A = ℕ} 41 34 = cc in omega arith)
message-apart (Some m) (Some n) xs ys p q e =
    let h = quoted-apart m n (41 ∷ xs) (41 ∷ ys) (text-units m p) (text-units n q) e in
    (ap (λ t. Some t) h.0, cc)

error-apart : (j k : ErrorKind) (m n : Option (List ℕ)) (xs ys : List ℕ) → is_message m ≡ true → is_message n ≡ true
    → (codes "!" ++ (kind_name j ++ (codes "(" ++ (message_shown m ++ codes ")")))) ++ xs
    ≡ (codes "!" ++ (kind_name k ++ (codes "(" ++ (message_shown n ++ codes ")")))) ++ ys
    → (j ≡ k) × (m ≡ n) × (xs ≡ ys)
error-apart j k m n xs ys p q e =
    let front : (kind_name j ++ (40 ∷ (message_shown m ++ 41 ∷ []))) ++ xs ≡ (kind_name k ++ (40 ∷ (message_shown n ++ 41 ∷ []))) ++ ys = cc in
    let kinds = kind-apart j k ((message_shown m ++ 41 ∷ []) ++ xs) ((message_shown n ++ 41 ∷ []) ++ ys)
    (sym (append_assoc (kind_name j) _ xs) ∙ front ∙ append_assoc (kind_name k) _ ys) in
    let messages = message-apart m n xs ys p q
    (sym (append_assoc (message_shown m) (41 ∷ []) xs) ∙ kinds.1 ∙ append_assoc (message_shown n) (41 ∷ []) ys) in
    (kinds.0, messages.0, messages.1)

-- ---- numbers, bytes and views

-- a number, and a unit behind it that is no digit
number-apart : (m n c : ℕ) (us vs xs ys : List ℕ) → m < 2 ^ 64 → n < 2 ^ 64 → (48 ≤ c → c ≤ 57 → ⊥)
    → (decimal m ++ (c ∷ us)) ++ xs ≡ (decimal n ++ (c ∷ vs)) ++ ys → (m ≡ n) × (us ++ xs ≡ vs ++ ys)
number-apart m n c us vs xs ys p q stop e =
    let h = decimal-apart m n (c ∷ (us ++ xs)) (c ∷ (vs ++ ys)) p q stop stop
    (sym (append_assoc (decimal m) (c ∷ us) xs) ∙ e ∙ append_assoc (decimal n) (c ∷ vs) ys) in
    (h.0, cc)

bytes-apart : (a b xs ys : List ℕ) → is_contents a ≡ true → is_contents b ≡ true → bytes_shown a ++ xs ≡ bytes_shown b ++ ys → (a ≡ b) × (xs ≡ ys)
unfolding bytes_shown
bytes-apart a b xs ys p q e =
    let front : (encode_upper a ++ 41 ∷ []) ++ xs ≡ (encode_upper b ++ 41 ∷ []) ++ ys = cc in
    hex-apart a b xs ys (contents-bytes a p) (contents-bytes b q)
    (sym (append_assoc (encode_upper a) (41 ∷ []) xs) ∙ front ∙ append_assoc (encode_upper b) (41 ∷ []) ys)

port-apart : (m n : ℕ) (xs ys : List ℕ) → is_word m ≡ true → is_word n ≡ true
    → (codes "port(" ++ (decimal m ++ codes ")")) ++ xs ≡ (codes "port(" ++ (decimal n ++ codes ")")) ++ ys → (m ≡ n) × (xs ≡ ys)
port-apart m n xs ys p q e =
    let low : m < 4_294_967_296 = omega (arith, ltb-true, p) in
    let high : n < 4_294_967_296 = omega (arith, ltb-true, q) in
    let front : (decimal m ++ 41 ∷ []) ++ xs ≡ (decimal n ++ 41 ∷ []) ++ ys = cc in
    number-apart m n 41 [] [] xs ys (omega arith) (omega arith) (λ low high. omega arith) front

-- what stands behind a view's buffer and a comma
abbrev span : ℕ → ℕ → List ℕ
span offset size = decimal offset ++ (44 ∷ (decimal size ++ 41 ∷ []))

span-apart : (m n k l : ℕ) (xs ys : List ℕ) → m < 2 ^ 64 → n < 2 ^ 64 → k < 2 ^ 64 → l < 2 ^ 64 → span m k ++ xs ≡ span n l ++ ys
    → (m ≡ n) × (k ≡ l) × (xs ≡ ys)
span-apart m n k l xs ys p q r s e =
    let first = number-apart m n 44 (decimal k ++ 41 ∷ []) (decimal l ++ 41 ∷ []) xs ys p q (λ low high. omega arith) e in
    let second = number-apart k l 41 [] [] xs ys r s (λ low high. omega arith) first.1 in
    (first.0, second.0, second.1)

view-old : (buffer offset size next : ℕ) (bytes : List ℕ) → buffer < next
    → view_shown buffer offset size (Some (Buffer bytes)) next ≡ codes "view(#" ++ (decimal buffer ++ (44 ∷ span offset size))
unfolding view_shown
view-old buffer offset size next bytes low =
    let test : nat_lt buffer next ≡ true = grind (arith, nat_tests) in
    rw test refl

view-new : (buffer offset size next : ℕ) (bytes : List ℕ) → buffer ≡ next
    → view_shown buffer offset size (Some (Buffer bytes)) next
    ≡ codes "view(#" ++ (decimal buffer ++ (61 ∷ (bytes_shown bytes ++ (44 ∷ span offset size))))
unfolding view_shown
view-new buffer offset size next bytes e =
    let test : nat_lt buffer next ≡ false = grind (arith, nat_tests) in
    rw test refl

old-apart : (b c m n k l : ℕ) (xs ys : List ℕ) → b < 2 ^ 64 → c < 2 ^ 64 → m < 2 ^ 64 → n < 2 ^ 64 → k < 2 ^ 64 → l < 2 ^ 64
    → (codes "view(#" ++ (decimal b ++ (44 ∷ span m k))) ++ xs ≡ (codes "view(#" ++ (decimal c ++ (44 ∷ span n l))) ++ ys
    → (b ≡ c) × (m ≡ n) × (k ≡ l) × (xs ≡ ys)
old-apart b c m n k l xs ys pb pc pm pn pk pl e =
    let front : (decimal b ++ (44 ∷ span m k)) ++ xs ≡ (decimal c ++ (44 ∷ span n l)) ++ ys = cc in
    let buffers = number-apart b c 44 (span m k) (span n l) xs ys pb pc (λ low high. omega arith) front in
    let spans = span-apart m n k l xs ys pm pn pk pl buffers.1 in
    (buffers.0, spans.0, spans.1, spans.2)

new-apart : (b c m n k l : ℕ) (bytes more xs ys : List ℕ) → is_contents bytes ≡ true → is_contents more ≡ true
    → b < 2 ^ 64 → c < 2 ^ 64 → m < 2 ^ 64 → n < 2 ^ 64 → k < 2 ^ 64 → l < 2 ^ 64
    → (codes "view(#" ++ (decimal b ++ (61 ∷ (bytes_shown bytes ++ (44 ∷ span m k))))) ++ xs
    ≡ (codes "view(#" ++ (decimal c ++ (61 ∷ (bytes_shown more ++ (44 ∷ span n l))))) ++ ys
    → (b ≡ c) × (bytes ≡ more) × (m ≡ n) × (k ≡ l) × (xs ≡ ys)
new-apart b c m n k l bytes more xs ys p q pb pc pm pn pk pl e =
    let front : (decimal b ++ (61 ∷ (bytes_shown bytes ++ (44 ∷ span m k)))) ++ xs ≡ (decimal c ++ (61 ∷ (bytes_shown more ++ (44 ∷ span n l)))) ++ ys = cc in
    let buffers = number-apart b c 61 (bytes_shown bytes ++ (44 ∷ span m k)) (bytes_shown more ++ (44 ∷ span n l)) xs ys pb pc (λ low high. omega arith) front in
    let contents = bytes-apart bytes more (44 ∷ (span m k ++ xs)) (44 ∷ (span n l ++ ys)) p q
    (sym (append_assoc (bytes_shown bytes) (44 ∷ span m k) xs) ∙ buffers.1 ∙ append_assoc (bytes_shown more) (44 ∷ span n l) ys) in
    let spans = span-apart m n k l xs ys pm pn pk pl cc in
    (buffers.0, contents.0, spans.0, spans.1, spans.2)

mixed-apart : (b c : ℕ) (us vs xs ys : List ℕ) → b < 2 ^ 64 → c < 2 ^ 64
    → (codes "view(#" ++ (decimal b ++ (44 ∷ us))) ++ xs ≡ (codes "view(#" ++ (decimal c ++ (61 ∷ vs))) ++ ys → ⊥
mixed-apart b c us vs xs ys p q e =
    let front : (decimal b ++ (44 ∷ us)) ++ xs ≡ (decimal c ++ (61 ∷ vs)) ++ ys = cc in
    let h = decimal-apart b c (44 ∷ (us ++ xs)) (61 ∷ (vs ++ ys)) p q (λ low high. omega arith) (λ low high. omega arith)
    (sym (append_assoc (decimal b) (44 ∷ us) xs) ∙ front ∙ append_assoc (decimal c) (61 ∷ vs) ys) in
    let wrong : ◌≡◌ {A = ℕ} 44 61 = let r = h.1 in cc in
    omega arith

-- ---- nodes

cancel-front : (front u v : List ℕ) → front ++ u ≡ front ++ v → u ≡ v
cancel-front [] u v e = e
cancel-front (x ∷ front) u v e = cancel-front front u v cc

-- the first unit of a node's text
abbrev mark : PNode → ℕ
mark (Object properties) = 123
mark (Array items) = 91
mark (Error kind message) = 33
mark (Map entries) = 109
mark (Set items) = 115
mark (Port place) = 112
mark (Buffer bytes) = 98
mark (View buffer offset size) = 118

mark-told : (show : Item → ℕ → Shown) (nodes : List PNode) (number : ℕ) (node : PNode) (next : ℕ) (more : List ℕ)
    → get_or ((node_shown show nodes number node next).0 ++ more) 0 0 ≡ mark node
unfolding node_shown bytes_shown view_shown
mark-told show nodes number (Object properties) next more = refl
mark-told show nodes number (Array items) next more = refl
mark-told show nodes number (Error kind message) next more = refl
mark-told show nodes number (Map entries) next more = refl
mark-told show nodes number (Set items) next more = refl
mark-told show nodes number (Port place) next more = refl
mark-told show nodes number (Buffer bytes) next more = refl
mark-told show nodes number (View buffer offset size) next more = refl

-- two nodes of one kind
data SameKind : PNode → PNode → Type 0 where
  objects : (a b : List (List ℕ × Item)) → SameKind (Object a) (Object b)
  arrays : (a b : List Item) → SameKind (Array a) (Array b)
  errors : (j k : ErrorKind) (m n : Option (List ℕ)) → SameKind (Error j m) (Error k n)
  maps : (a b : List (Item × Item)) → SameKind (Map a) (Map b)
  sets : (a b : List Item) → SameKind (Set a) (Set b)
  ports : (m n : ℕ) → SameKind (Port m) (Port n)
  buffers : (a b : List ℕ) → SameKind (Buffer a) (Buffer b)
  views : (b c m n k l : ℕ) → SameKind (View b m k) (View c n l)

same-node-kind : (x y : PNode) → mark x ≡ mark y → SameKind x y
same-node-kind (Object a) (Object b) e = objects a b
same-node-kind (Object a) y e = absurd (omega arith)
same-node-kind (Array a) (Array b) e = arrays a b
same-node-kind (Array a) y e = absurd (omega arith)
same-node-kind (Error j m) (Error k n) e = errors j k m n
same-node-kind (Error j m) y e = absurd (omega arith)
same-node-kind (Map a) (Map b) e = maps a b
same-node-kind (Map a) y e = absurd (omega arith)
same-node-kind (Set a) (Set b) e = sets a b
same-node-kind (Set a) y e = absurd (omega arith)
same-node-kind (Port m) (Port n) e = ports m n
same-node-kind (Port m) y e = absurd (omega arith)
same-node-kind (Buffer a) (Buffer b) e = buffers a b
same-node-kind (Buffer a) y e = absurd (omega arith)
same-node-kind (View b m k) (View c n l) e = views b c m n k l
same-node-kind (View b m k) y e = absurd (omega arith)

listed-told : {A : Type 0} (p q : List PNode) (inner_p inner_q : A → Tally → Option Tally) (show_p show_q : A → ℕ → Shown)
    → Walks p inner_p show_p → Walks q inner_q show_q → Splits p q inner_p inner_q show_p show_q
    → (make : List A → PNode) (front : List ℕ) (c : ℕ) → IsCloser c → (number : ℕ) (a b : List A) (met now after : Tally) (xs ys : List ℕ)
    → slice_get p number ≡ Some (make a) → slice_get q number ≡ Some (make b) → ((x : List A) (bytes : List ℕ) → make x ≡ Buffer bytes → ⊥)
    → Fair p met.nodes → Fair q met.nodes → Listed number met (in_turn inner_p a) now → Listed number met (in_turn inner_q b) after
    → (front ++ ((list_shown show_p [] a (number + 1)).0 ++ (c ∷ []))) ++ xs ≡ (front ++ ((list_shown show_q [] b (number + 1)).0 ++ (c ∷ []))) ++ ys
    → Told p q (make a) (make b) met now after xs ys
listed-told p q inner_p inner_q show_p show_q wp wq splits make front c closer number a b met now after xs ys at_p at_q other fair_p fair_q lp lq text =
    let start = lp.start in
    let given = numbered-told number met start lp.given in
    let starts : start ≡ lq.start = some-same (numbered number met) start lq.start lp.given lq.given in
    let inside : ((list_shown show_p [] a (number + 1)).0 ++ (c ∷ [])) ++ xs ≡ ((list_shown show_q [] b (number + 1)).0 ++ (c ∷ [])) ++ ys =
    cancel-front front _ _ (sym (append_assoc front _ xs) ∙ text ∙ append_assoc front _ ys) in
    let apart : (list_shown show_p [] a (number + 1)).0 ++ (c ∷ xs) ≡ (list_shown show_q [] b (number + 1)).0 ++ (c ∷ ys) =
    sym (append_assoc (list_shown show_p [] a (number + 1)).0 (c ∷ []) xs) ∙ inside ∙ append_assoc (list_shown show_q [] b (number + 1)).0 (c ∷ []) ys in
    let apart_at : (list_shown show_p [] a start.nodes).0 ++ (c ∷ xs) ≡ (list_shown show_q [] b start.nodes).0 ++ (c ∷ ys) =
    subst (λ n. (list_shown show_p [] a n).0 ++ (c ∷ xs) ≡ (list_shown show_q [] b n).0 ++ (c ∷ ys)) (sym given.2) apart in
    let t = list-splits p q inner_p inner_q show_p show_q wp wq splits a b start now after c xs ys closer
    (fair-start p (make a) at_p (other a) fair_p) (fair-start q (make b) at_q (other b) fair_q)
    lp.walked (subst (λ (m : Tally). in_turn inner_q b m ≡ Some after) (sym starts) lq.walked) apart_at in
    record {
      same = ap make t.same;
      tally = t.tally;
      rest = t.rest;
      nodes = Agree-along p q met.nodes start.nodes now.nodes
          (Agree-at p q number start.nodes met.nodes start.nodes given.0 refl
          (Agree-one p q number start.nodes (make a) at_p (at_q ∙ ap (λ l. Some (make l)) (sym t.same)) given.2))
          t.nodes;
    }
  where
    fair-start : (nodes : List PNode) (node : PNode) → slice_get nodes number ≡ Some node → ((bytes : List ℕ) → node ≡ Buffer bytes → ⊥)
        → Fair nodes met.nodes → Fair nodes lp.start.nodes
    fair-start nodes node at not_buffer fair =
        let given = numbered-told number met lp.start lp.given in
        Fair-at nodes (number + 1) lp.start.nodes (sym given.2)
        (Fair-more nodes number (Fair-at nodes met.nodes number (sym given.0) fair) given.1
        (λ bytes here. absurd (not_buffer bytes (let same : Some node ≡ Some (Buffer bytes) = sym at ∙ here in cc))))

-- a node in which no node stands, met in both alike
alone-told : (p q : List PNode) (number : ℕ) (x y : PNode) (met now after : Tally) (xs ys : List ℕ) → slice_get p number ≡ Some x → slice_get q number ≡ Some y
    → number ≡ met.nodes → now.nodes ≡ number + 1 → x ≡ y → now ≡ after → xs ≡ ys → Told p q x y met now after xs ys
alone-told p q number x y met now after xs ys at_p at_q first next same tally rest = record {
  same = same;
  tally = tally;
  rest = rest;
  nodes = Agree-at p q number now.nodes met.nodes now.nodes first refl (Agree-one p q number now.nodes x at_p (at_q ∙ ap (λ n. Some n) (sym same)) next);
}

contents-short : (bytes : List ℕ) → is_contents bytes ≡ true → length bytes ≤ 1_048_576
contents-short bytes e = omega (arith, leb-true, (and_parts (leb (length bytes) 1_048_576) (list_all is_byte bytes) e).0)

-- the bounds on the numbers of a view
view-bounds : (nodes : List PNode) (buffer offset size : ℕ) (met behind : Tally) → Fair nodes met.nodes
    → BufferTold buffer offset size (slice_get nodes buffer) met behind → (buffer < 2 ^ 64) × (offset < 2 ^ 64) × (size < 2 ^ 64)
view-bounds nodes buffer offset size met behind fair t =
    let within = t.within in
    elim t.when [
      | inl old ↦
          let short = fair.short buffer t.bytes old.0 t.is in
          let count = fair.count in
          let low = old.0 in
          (omega arith, omega arith, omega arith)
      | inr new ↦
          let short = contents-short t.bytes new.tested in
          let low = new.low in
          (omega arith, omega arith, omega arith)
    ]

view-told : (p q : List PNode) (number b c m n k l : ℕ) (met now after : Tally) (xs ys : List ℕ)
    → slice_get p number ≡ Some (View b m k) → slice_get q number ≡ Some (View c n l) → Fair p met.nodes → Fair q met.nodes
    → Viewed p number b m k met now → Viewed q number c n l met after
    → view_shown b m k (slice_get p b) met.nodes ++ xs ≡ view_shown c n l (slice_get q c) met.nodes ++ ys
    → Told p q (View b m k) (View c n l) met now after xs ys
view-told p q number b c m n k l met now after xs ys at_p at_q fair_p fair_q vp vq text =
    let tp = vp.buffer_told in
    let tq = vq.buffer_told in
    let lp = view-bounds p b m k met vp.behind fair_p tp in
    let lq = view-bounds q c n l met vq.behind fair_q tq in
    elim tp.when [
      | inl old ↦ elim tq.when [
        | inl old' ↦
            let told = old-apart b c m n k l xs ys lp.0 lq.0 lp.1 lq.1 lp.2 lq.2
            (sym (ap (λ t. t ++ xs) (ap (λ o. view_shown b m k o met.nodes) tp.is ∙ view-old b m k met.nodes tp.bytes old.0)) ∙ text
            ∙ ap (λ t. t ++ ys) (ap (λ o. view_shown c n l o met.nodes) tq.is ∙ view-old c n l met.nodes tq.bytes old'.0)) in
            alone-told p q number (View b m k) (View c n l) met now after xs ys at_p at_q (vp.first ∙ ap (λ (t : Tally). t.nodes) old.1) vp.next
            (view-same b c m n k l told.0 told.1 told.2)
            (some-same (numbered number met) now after (ap (λ t. numbered number t) (sym old.1) ∙ vp.given)
            (ap (λ t. numbered number t) (sym old'.1) ∙ vq.given))
            told.3
        | inr new ↦ absurd (mixed-apart b c (span m k) (bytes_shown tq.bytes ++ (44 ∷ span n l)) xs ys lp.0 lq.0
            (sym (ap (λ t. t ++ xs) (ap (λ o. view_shown b m k o met.nodes) tp.is ∙ view-old b m k met.nodes tp.bytes old.0)) ∙ text
            ∙ ap (λ t. t ++ ys) (ap (λ o. view_shown c n l o met.nodes) tq.is ∙ view-new c n l met.nodes tq.bytes new.first)))
      ]
      | inr new ↦ elim tq.when [
        | inl old ↦ absurd (mixed-apart c b (span n l) (bytes_shown tp.bytes ++ (44 ∷ span m k)) ys xs lq.0 lp.0
            (sym (ap (λ t. t ++ ys) (ap (λ o. view_shown c n l o met.nodes) tq.is ∙ view-old c n l met.nodes tq.bytes old.0)) ∙ sym text
            ∙ ap (λ t. t ++ xs) (ap (λ o. view_shown b m k o met.nodes) tp.is ∙ view-new b m k met.nodes tp.bytes new.first)))
        | inr new' ↦
            let told = new-apart b c m n k l tp.bytes tq.bytes xs ys new.tested new'.tested lp.0 lq.0 lp.1 lq.1 lp.2 lq.2
            (sym (ap (λ t. t ++ xs) (ap (λ o. view_shown b m k o met.nodes) tp.is ∙ view-new b m k met.nodes tp.bytes new.first)) ∙ text
            ∙ ap (λ t. t ++ ys) (ap (λ o. view_shown c n l o met.nodes) tq.is ∙ view-new c n l met.nodes tq.bytes new'.first)) in
            let behind : vp.behind ≡ vq.behind = some-same (numbered b met >>= with_contents tp.bytes) vp.behind vq.behind new.given
            (both-same b c tp.bytes tq.bytes told.0 told.1 ∙ new'.given) in
            record {
              same = view-same b c m n k l told.0 told.2 told.3;
              tally = some-same (numbered number vp.behind) now after vp.given (ap (λ t. numbered number t) behind ∙ vq.given);
              rest = told.4;
              nodes = Agree-along p q met.nodes vp.behind.nodes now.nodes
                  (Agree-at p q b vp.behind.nodes met.nodes vp.behind.nodes new.first refl
                  (Agree-one p q b vp.behind.nodes (Buffer tp.bytes) tp.is
                  (ap (λ i. slice_get q i) told.0 ∙ tq.is ∙ ap (λ bs. Some (Buffer bs)) (sym told.1)) new.next))
                  (Agree-at p q number now.nodes vp.behind.nodes now.nodes vp.first refl
                  (Agree-one p q number now.nodes (View b m k) at_p
                  (at_q ∙ ap (λ v. Some v) (sym (view-same b c m n k l told.0 told.2 told.3))) vp.next));
            }
      ]
    ]
  where
    view-same : (b c m n k l : ℕ) → b ≡ c → m ≡ n → k ≡ l → View b m k ≡ View c n l
    view-same b c m n k l e f g = rw (e, f, g) refl

    both-same : (b c : ℕ) (bytes more : List ℕ) → b ≡ c → bytes ≡ more
        → (numbered b met >>= with_contents bytes) ≡ (numbered c met >>= with_contents more)
    both-same b c bytes more e f = rw (e, f) refl

module _ (p q : List PNode) (visit_p visit_q : Item → Tally → Option Tally) (show_p show_q : Item → ℕ → Shown)
    (wp : Walks p visit_p show_p) (wq : Walks q visit_q show_q) (splits : Splits p q visit_p visit_q show_p show_q) where
  node-by : (number : ℕ) (x y : PNode) (met now after : Tally) (xs ys : List ℕ) → SameKind x y → slice_get p number ≡ Some x → slice_get q number ≡ Some y
      → Fair p met.nodes → Fair q met.nodes → node_met visit_p p number x met ≡ Some now → node_met visit_q q number y met ≡ Some after
      → (node_shown show_p p number x met.nodes).0 ++ xs ≡ (node_shown show_q q number y met.nodes).0 ++ ys
      → Told p q x y met now after xs ys
  unfolding node_shown node_met contents_met
  node-by number x y met now after xs ys (objects a b) at_p at_q fair_p fair_q e f text =
      listed-told p q (visit_property visit_p) (visit_property visit_q) (property_shown show_p) (property_shown show_q)
      (property-walks p visit_p show_p wp) (property-walks q visit_q show_q wq) (property-splits p q visit_p visit_q show_p show_q wp wq splits)
      (λ l. Object l) (codes "{") 125 (inr refl) number a b met now after xs ys at_p at_q (λ l bytes same. cc) fair_p fair_q
      (node-told visit_p p number (Object a) met now e) (node-told visit_q q number (Object b) met after f) text
  node-by number x y met now after xs ys (arrays a b) at_p at_q fair_p fair_q e f text =
      listed-told p q visit_p visit_q show_p show_q wp wq splits
      (λ l. Array l) (codes "[") 93 (inl refl) number a b met now after xs ys at_p at_q (λ l bytes same. cc) fair_p fair_q
      (node-told visit_p p number (Array a) met now e) (node-told visit_q q number (Array b) met after f) text
  node-by number x y met now after xs ys (maps a b) at_p at_q fair_p fair_q e f text =
      listed-told p q (visit_entry visit_p) (visit_entry visit_q) (entry_shown show_p) (entry_shown show_q)
      (entry-walks p visit_p show_p wp) (entry-walks q visit_q show_q wq) (entry-splits p q visit_p visit_q show_p show_q wp wq splits)
      (λ l. Map l) (codes "map[") 93 (inl refl) number a b met now after xs ys at_p at_q (λ l bytes same. cc) fair_p fair_q
      (node-told visit_p p number (Map a) met now e) (node-told visit_q q number (Map b) met after f) text
  node-by number x y met now after xs ys (sets a b) at_p at_q fair_p fair_q e f text =
      listed-told p q visit_p visit_q show_p show_q wp wq splits
      (λ l. Set l) (codes "set[") 93 (inl refl) number a b met now after xs ys at_p at_q (λ l bytes same. cc) fair_p fair_q
      (node-told visit_p p number (Set a) met now e) (node-told visit_q q number (Set b) met after f) text
  node-by number x y met now after xs ys (errors j k m n) at_p at_q fair_p fair_q e f text =
      let tp = node-told visit_p p number (Error j m) met now e in
      let tq = node-told visit_q q number (Error k n) met after f in
      let told = error-apart j k m n xs ys tp.tested tq.tested text in
      alone-told p q number (Error j m) (Error k n) met now after xs ys at_p at_q tp.first tp.next (error-same j k m n told.0 told.1)
      (some-same (numbered number met >>= with_message m) now after e (ap (λ t. numbered number met >>= with_message t) told.1 ∙ f)) told.2
    where
      error-same : (j k : ErrorKind) (m n : Option (List ℕ)) → j ≡ k → m ≡ n → Error j m ≡ Error k n
      error-same j k m n e f = rw (e, f) refl
  node-by number x y met now after xs ys (ports m n) at_p at_q fair_p fair_q e f text =
      let tp = node-told visit_p p number (Port m) met now e in
      let tq = node-told visit_q q number (Port n) met after f in
      let told = port-apart m n xs ys tp.tested tq.tested text in
      alone-told p q number (Port m) (Port n) met now after xs ys at_p at_q tp.first tp.next (ap (λ t. Port t) told.0)
      (some-same (numbered number met >>= only_if (is_word m)) now after e (ap (λ t. numbered number met >>= only_if (is_word t)) told.0 ∙ f)) told.1
  node-by number x y met now after xs ys (buffers a b) at_p at_q fair_p fair_q e f text =
      let tp = node-told visit_p p number (Buffer a) met now e in
      let tq = node-told visit_q q number (Buffer b) met after f in
      let told = bytes-apart a b xs ys tp.tested tq.tested text in
      alone-told p q number (Buffer a) (Buffer b) met now after xs ys at_p at_q tp.first tp.next (ap (λ t. Buffer t) told.0)
      (some-same (numbered number met >>= with_contents a) now after e (ap (λ t. numbered number met >>= with_contents t) told.0 ∙ f)) told.1
  node-by number x y met now after xs ys (views b c m n k l) at_p at_q fair_p fair_q e f text =
      view-told p q number b c m n k l met now after xs ys at_p at_q fair_p fair_q
      (node-told visit_p p number (View b m k) met now e) (node-told visit_q q number (View c n l) met after f) text

  pub node-splits : (number : ℕ) (x y : PNode) (met now after : Tally) (xs ys : List ℕ) → slice_get p number ≡ Some x → slice_get q number ≡ Some y
      → Fair p met.nodes → Fair q met.nodes → node_met visit_p p number x met ≡ Some now → node_met visit_q q number y met ≡ Some after
      → (node_shown show_p p number x met.nodes).0 ++ xs ≡ (node_shown show_q q number y met.nodes).0 ++ ys
      → Told p q x y met now after xs ys
  node-splits number x y met now after xs ys at_p at_q fair_p fair_q e f text =
      let marks : mark x ≡ mark y = sym (mark-told show_p p number x met.nodes xs) ∙ ap (λ t. get_or t 0 0) text ∙ mark-told show_q q number y met.nodes ys in
      node-by number x y met now after xs ys (same-node-kind x y marks) at_p at_q fair_p fair_q e f text

  -- what stands behind the name of one and the same item
  reference-splits : (number : ℕ) (test : Boolean) (found_p found_q : Option PNode) (met now after : Tally) (xs ys : List ℕ)
      → slice_get p number ≡ found_p → slice_get q number ≡ found_q → Fair p met.nodes → Fair q met.nodes
      → (if test then Some met else found_p >>= λ node. node_met visit_p p number node met) ≡ Some now
      → (if test then Some met else found_q >>= λ node. node_met visit_q q number node met) ≡ Some after
      → (if test then ([], met.nodes) else first_shown show_p p number found_p met.nodes).0 ++ xs
      ≡ (if test then ([], met.nodes) else first_shown show_q q number found_q met.nodes).0 ++ ys
      → (now ≡ after) × (xs ≡ ys) × Agree p q met.nodes now.nodes
  reference-splits number true found_p found_q met now after xs ys at_p at_q fair_p fair_q e f text = met-same met now after xs ys e f text
    where
      met-same : (met now after : Tally) (xs ys : List ℕ) → Some met ≡ Some now → Some met ≡ Some after → xs ≡ ys
          → (now ≡ after) × (xs ≡ ys) × Agree p q met.nodes now.nodes
      met-same met now after xs ys e f text =
          let a : met ≡ now = cc in
          let b : met ≡ after = cc in
          (sym a ∙ b, text, Agree-at p q met.nodes met.nodes met.nodes now.nodes refl (ap (λ (m : Tally). m.nodes) a) (Agree-none p q met.nodes))
  reference-splits number false None found_q met now after xs ys at_p at_q fair_p fair_q e f text = absurd cc
  reference-splits number false (Some x) None met now after xs ys at_p at_q fair_p fair_q e f text = absurd cc
  reference-splits number false (Some x) (Some y) met now after xs ys at_p at_q fair_p fair_q e f text =
      let inside : (node_shown show_p p number x met.nodes).0 ++ xs ≡ (node_shown show_q q number y met.nodes).0 ++ ys = cc in
      let t = node-splits number x y met now after xs ys at_p at_q fair_p fair_q e f inside in
      (t.tally, t.rest, t.nodes)

  leaf-splits : (o : Option Tally) (met now after : Tally) (xs ys : List ℕ) → o ≡ Some now → o ≡ Some after → now.nodes ≡ met.nodes → xs ≡ ys
      → (now ≡ after) × (xs ≡ ys) × Agree p q met.nodes now.nodes
  leaf-splits o met now after xs ys e f nodes rest =
      (some-same o now after e f, rest, Agree-at p q met.nodes met.nodes met.nodes now.nodes refl (sym nodes) (Agree-none p q met.nodes))

  pub value-splits : (item : Item) (met now after : Tally) (xs ys : List ℕ) → Fair p met.nodes → Fair q met.nodes
      → value_met visit_p p item met ≡ Some now → value_met visit_q q item met ≡ Some after
      → (rest_shown show_p p item met.nodes).0 ++ xs ≡ (rest_shown show_q q item met.nodes).0 ++ ys
      → (now ≡ after) × (xs ≡ ys) × Agree p q met.nodes now.nodes
  unfolding value_met
  value-splits Undefined met now after xs ys fair_p fair_q e f text =
      leaf-splits (Some met) met now after xs ys e f (let h : met ≡ now = cc in sym (ap (λ (m : Tally). m.nodes) h)) text
  value-splits Null met now after xs ys fair_p fair_q e f text =
      leaf-splits (Some met) met now after xs ys e f (let h : met ≡ now = cc in sym (ap (λ (m : Tally). m.nodes) h)) text
  value-splits (Bool b) met now after xs ys fair_p fair_q e f text =
      leaf-splits (Some met) met now after xs ys e f (let h : met ≡ now = cc in sym (ap (λ (m : Tally). m.nodes) h)) text
  value-splits (Num n) met now after xs ys fair_p fair_q e f text =
      leaf-splits (only_if (is_safe n) met) met now after xs ys e f (ap (λ (m : Tally). m.nodes) (only_if-told (is_safe n) met now e).1) text
  value-splits (Str units) met now after xs ys fair_p fair_q e f text =
      leaf-splits (with_text units met) met now after xs ys e f (with_text-told units met now e).1 text
  value-splits (Fn side number) met now after xs ys fair_p fair_q e f text =
      leaf-splits (only_if (is_word number) met) met now after xs ys e f (ap (λ (m : Tally). m.nodes) (only_if-told (is_word number) met now e).1) text
  value-splits (Prom side number) met now after xs ys fair_p fair_q e f text =
      leaf-splits (only_if (is_word number) met) met now after xs ys e f (ap (λ (m : Tally). m.nodes) (only_if-told (is_word number) met now e).1) text
  value-splits (Node number) met now after xs ys fair_p fair_q e f text =
      reference-splits number (nat_lt number met.nodes) (slice_get p number) (slice_get q number) met now after xs ys refl refl fair_p fair_q e f text
