-- Built-in cells that are added one after another.
use Rattle.std.proofs.Common.{◌≡◌, ℕ, zero, suc, ◌+◌, List, [], ◌∷◌, ◌++◌, length, nat_eq, refl, sym, ap, ◌∙◌, arith, add-one, length-append, append_assoc}
use Rattle.world_heap.specs.declared.cell.Cell.{Cell}
use Rattle.world_heap.specs.Heaps.{IsNoEnv}
use Rattle.world_heap.specs.Maps.{keys, keys-append}
use Rattle.world_heap.specs.Starting.{with_built_in}
use Rattle.world_heap.specs.Views.{HeapView}
use Rattle.js_realm.specs.Building.{Adds, contents, numbered}
use Rattle.js_realm.proofs.Listing.{contents-append}

append_nil : {A : Type 0} (xs : List A) → xs ++ [] ≡ xs
append_nil [] = refl
append_nil (x ∷ xs) = ap (λ ys. x ∷ ys) (append_nil xs)

pub adds_none : (h : HeapView) → Adds [] h h
adds_none h = record {
  locs = [];
  places = sym (append_nil (keys h.cells));
  many = refl;
  are = sym (append_nil (contents h.cells));
  rest = let none : h.base ≡ h.base + 0 = omega arith in ap (λ n. record h { base = n }) none;
  kept = λ l n. n;
}

pub adds_one : (old new : HeapView) (loc : ℕ) (cell : Cell ℕ) → new ≡ with_built_in old ((loc, cell) ∷ []) → ((l : ℕ) → IsNoEnv nat_eq old.cells l → IsNoEnv nat_eq new.cells l) → Adds (cell ∷ []) old new
adds_one old new loc cell is kept =
    let cells : new.cells ≡ old.cells ++ (loc, cell) ∷ [] = ap (λ (h : HeapView). h.cells) is in
    record {
      locs = loc ∷ [];
      places = ap keys cells ∙ keys-append old.cells ((loc, cell) ∷ []);
      many = refl;
      are = ap contents cells ∙ contents-append old.cells ((loc, cell) ∷ []);
      rest = is ∙ ap (λ cs. record old { cells = cs; base = old.base + 1 }) (sym cells);
      kept = kept;
    }

pub adds_then : (xs ys : List (Cell ℕ)) (a b c : HeapView) → Adds xs a b → Adds ys b c → Adds (xs ++ ys) a c
adds_then xs ys a b c p q = record {
  locs = p.locs ++ q.locs;
  places = q.places ∙ ap (λ ks. ks ++ q.locs) p.places ∙ append_assoc (keys a.cells) p.locs q.locs;
  many = let lens = p.many in let more = q.many in omega (arith, length-append p.locs q.locs, length-append xs ys);
  are = q.are ∙ ap (λ cs. cs ++ ys) p.are ∙ append_assoc (contents a.cells) xs ys;
  rest = q.rest ∙ ap (λ (h : HeapView). record h { cells = c.cells; base = h.base + length ys }) p.rest
      ∙ (let sum : a.base + length xs + length ys ≡ a.base + length (xs ++ ys) = omega (arith, length-append xs ys) in ap (λ n. record a { cells = c.cells; base = n }) sum);
  kept = λ l n. q.kept l (p.kept l n);
}

-- one more of a row
pub adds_next : (cell : ℕ → Cell ℕ) (n : ℕ) (a b c : HeapView) → Adds (numbered cell n) a b → Adds (cell n ∷ []) b c → Adds (numbered cell (n + 1)) a c
adds_next cell n a b c p q = rw add-one (adds_then (numbered cell n) (cell n ∷ []) a b c p q)

pub length-numbered : (cell : ℕ → Cell ℕ) (n : ℕ) → length (numbered cell n) ≡ n
length-numbered cell zero = refl
length-numbered cell (suc n) = omega (arith, length-append (numbered cell n) (cell n ∷ []), length-numbered cell n)

-- how many cells are built in then
pub base_after : (xs : List (Cell ℕ)) (a b : HeapView) → Adds xs a b → b.base ≡ a.base + length xs
base_after xs a b p = ap (λ (h : HeapView). h.base) p.rest
