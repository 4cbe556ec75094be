-- The texts and parts of a template, from a place on.
use Rattle.std.proofs.Common.{◌≡◌, ℕ, zero, suc, ◌+◌, List, [], ◌∷◌, ◌++◌, drop, Some, None, refl, sym, ap, ◌∙◌, add-one}
use Rattle.std.proofs.Math.Path.{fun_ext}
use Rattle.std.proofs.lemmas.List.{append_assoc}
use Rattle.std.specs.Prelude.{slice_get}
use Rattle.js_tree.specs.declared.node.NodeId.{NodeId}
use Rattle.js_semantics.specs.declared.scope.Scope.{Scope}
use Rattle.js_semantics.specs.Prog.{eval, give, make_text}
use Rattle.js_semantics.specs.Operators.{primitive_text}
use Rattle.js_semantics.specs.Expressions.{first_text, further_texts, template_from, with_key}

drop_some_suc : {A : Type 0} (xs : List A) (i : ℕ) (x : A) → slice_get xs i ≡ Some x → drop i xs ≡ x ∷ drop (suc i) xs
drop_some_suc [] i x h = cc
drop_some_suc (y ∷ ys) zero x h = let e : y ≡ x = cc in ap (λ z. z ∷ ys) e
drop_some_suc (y ∷ ys) (suc i) x h = drop_some_suc ys i x h

-- what stands at a place comes first from there on
pub drop_some : {A : Type 0} (xs : List A) (i : ℕ) (x : A) → slice_get xs i ≡ Some x → drop i xs ≡ x ∷ drop (i + 1) xs
drop_some xs i x h = rw add-one (drop_some_suc xs i x h)

-- and where nothing stands nothing follows
pub drop_none : {A : Type 0} (xs : List A) (i : ℕ) → slice_get xs i ≡ None → drop i xs ≡ []
drop_none [] zero h = refl
drop_none [] (suc i) h = refl
drop_none (y ∷ ys) zero h = cc
drop_none (y ∷ ys) (suc i) h = drop_none ys i h

-- the text at a place
pub first_some : (texts : List (List ℕ)) (i : ℕ) (text : List ℕ) → slice_get texts i ≡ Some text → first_text (drop i texts) ≡ text
first_some texts i text h = ap first_text (drop_some texts i text h)

pub first_none : (texts : List (List ℕ)) (i : ℕ) → slice_get texts i ≡ None → first_text (drop i texts) ≡ []
first_none texts i h = ap first_text (drop_none texts i h)

further-suc : (texts : List (List ℕ)) (i : ℕ) → further_texts (drop i texts) ≡ drop (suc i) texts
further-suc [] zero = refl
further-suc [] (suc i) = refl
further-suc (t ∷ ts) zero = refl
further-suc (t ∷ ts) (suc i) = further-suc ts i

-- the texts behind it
further_drop : (texts : List (List ℕ)) (i : ℕ) → further_texts (drop i texts) ≡ drop (i + 1) texts
further_drop texts i = rw add-one (further-suc texts i)

-- a part is evaluated behind the text before it
pub template_step : (before : List ℕ) (texts : List (List ℕ)) (parts : List NodeId) (place : ℕ) (part : NodeId) (scope : Scope ℕ) → slice_get parts place ≡ Some part → template_from before (drop place texts) (drop place parts) scope ≡ eval part scope (λ v. with_key (primitive_text v) (λ text. template_from ((before ++ first_text (drop place texts)) ++ text) (drop (place + 1) texts) (drop (place + 1) parts) scope))
template_step before texts parts place part scope h =
    ap (λ ps. template_from before (drop place texts) ps scope) (drop_some parts place part h)
    ∙ ap (λ (f : List ℕ → List ℕ). eval part scope (λ v. with_key (primitive_text v) (λ text. template_from (f text) (further_texts (drop place texts)) (drop (place + 1) parts) scope))) (fun_ext (λ text. sym (append_assoc before (first_text (drop place texts)) text)))
    ∙ ap (λ ts. eval part scope (λ v. with_key (primitive_text v) (λ text. template_from ((before ++ first_text (drop place texts)) ++ text) ts (drop (place + 1) parts) scope))) (further_drop texts place)

-- behind the last text the text is made
pub template_end : (before : List ℕ) (texts : List (List ℕ)) (parts : List NodeId) (place : ℕ) (scope : Scope ℕ) → slice_get parts place ≡ None → template_from before (drop place texts) (drop place parts) scope ≡ make_text (before ++ first_text (drop place texts)) (λ v. give v)
template_end before texts parts place scope h = ap (λ ps. template_from before (drop place texts) ps scope) (drop_none parts place h)
