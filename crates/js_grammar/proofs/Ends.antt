-- A script ends with the one token that says so, and each fault is at a token.
use Rattle.std.proofs.Common.{inl, inr, true, false, Bool, ◌≡◌, ◌^◌, ℕ, zero, suc, List, [], ◌∷◌, ◌++◌, Ok, Err, refl, ap, sym, subst, ◌∙◌}
use Rattle.std.specs.Prelude.{◌==◌}
use Rattle.std.proofs.lemmas.List.{append-nil, append_assoc}
use Rattle.grammar.specs.Kinds.{among, apart, alike, and}
use Rattle.grammar.specs.Grammar.{Tree, Grammar, token, pair, Spells, Derives, entry}
use Rattle.grammar.specs.Reading.{read, read_at}
use Rattle.grammar.specs.Tests.{clear, InPlace}
use Rattle.grammar.proofs.Laws.{bind_err, token-err, plus, second, read_at-sound, read-sound}
use Rattle.grammar.proofs.Sets.{and_both}
use Rattle.grammar.proofs.Complete.{derives-begun}
use Rattle.grammar.proofs.Completed.{in-open, read_at-completed, read-sound_more, derives-moved, example-more, read-completed}
use Rattle.grammar.proofs.Fronts.{spells-front, derives-front}
use Rattle.grammar.proofs.Free.{free, NoneOf, spells-free, derives-free}
use Rattle.js_token.specs.declared.token.Token.{Token}
use Rattle.js_grammar.specs.Kinds.{end, kinds, unbroken_kinds, names, reserved, place_in, marks, words, contextual}
use Rattle.js_grammar.specs.Script.{pattern_rule, primary_rule, member_rule, left_rule, unary_rule, mul_rule, add_rule, shift_rule, rel_rule, equal_rule, bit_and_rule, bit_xor_rule, bit_or_rule, and_rule, or_rule, short_rule, cond_rule, assign_rule, expr_rule, arrow_rule, prefixed_rule, new_rule, group_rule, index_rule, computed_rule, array_rule, arguments_rule, template_rule, object_rule, function_rule, declared_rule, parameters_rule, no_parameters_rule, one_parameter_rule, stmt_rule, item_rule, block_rule, for_rule, script_rule, rules, script_language, script, nesting, any, item, an_end}
use Rattle.js_grammar.specs.Scripts.{is_end, NoEnd, read_script}
use Rattle.js_grammar.proofs.Tables.{tails, examples}
use Rattle.js_grammar.proofs.Passes.{script-fits, script-opens}

-- The last token that is read is the end.
pub end-read : (front back rest : List Token) (t u : Token) → front ++ t ∷ [] ≡ back ++ u ∷ rest → NoEnd front → is_end u ≡ true → rest ≡ []
end-read [] [] rest t u e n i = cc (e)
end-read [] (x ∷ back) rest t u e n i = absurd (none back u rest (cc (e)))
  where
    none : (back : List Token) (u : Token) (rest : List Token) → [] ≡ back ++ u ∷ rest → ⊥
    none [] u rest e = cc (e)
    none (x ∷ back) u rest e = cc (e)
end-read (x ∷ front) [] rest t u e n i = absurd (let same : x ≡ u = cc (e) in let on : is_end x ≡ true = ap (λ t. is_end t) same ∙ i in let off = n.0 in cc (on, off))
end-read (x ∷ front) (y ∷ back) rest t u e n i = let e' : front ++ t ∷ [] ≡ back ++ u ∷ rest = cc (e) in end-read front back rest t u e' n.1 i

pub script-ended : (depth : ℕ) (front rest : List Token) (t : Token) (tree : Tree Token) → NoEnd front → Derives script_language (suc depth) script (front ++ t ∷ []) rest tree → rest ≡ []
unfolding Derives Spells script_language rules script_rule entry
script-ended depth front rest t tree n d =
    let k = spells-front script_language (Derives script_language depth) (derives-front script_language depth) (any item) (front ++ t ∷ []) d.0 d.1 d.3 in
    end-read front k.0 rest t (d.4).0 (k.1 ∙ ap (λ m. k.0 ++ m) (d.4).1) n (d.4).2

-- The end stands in no rule but that of scripts.
unfoldable pub AllFree : List (Grammar Token) → Type 0
AllFree [] = Unit {0}
AllFree (x ∷ xs) = (free (kinds (end ∷ [])) script x ≡ true) × AllFree xs

unfoldable pub others : List (Grammar Token) → List (Grammar Token)
others [] = []
others (x ∷ xs) = xs

pub free-at : (xs : List (Grammar Token)) (n : ℕ) → AllFree xs → free (kinds (end ∷ [])) script (entry (token []) xs n) ≡ true
unfolding AllFree entry free apart
free-at [] n a = refl
free-at (x ∷ xs) zero a = a.0
free-at (x ∷ xs) (suc n) a = free-at xs n a.1

pub others-free : AllFree (others rules)
unfolding pattern_rule primary_rule member_rule left_rule unary_rule mul_rule add_rule shift_rule rel_rule equal_rule bit_and_rule bit_xor_rule bit_or_rule and_rule or_rule short_rule cond_rule assign_rule expr_rule arrow_rule prefixed_rule new_rule group_rule index_rule computed_rule array_rule arguments_rule template_rule object_rule function_rule declared_rule parameters_rule no_parameters_rule one_parameter_rule stmt_rule item_rule block_rule for_rule script_rule rules kinds unbroken_kinds names reserved place_in marks words contextual others AllFree free apart among alike
others-free = (refl, (refl, (refl, (refl, (refl, (refl, (refl, (refl, (refl, (refl, (refl, (refl, (refl, (refl, (refl, (refl, (refl, (refl, (refl, (refl, (refl, (refl, (refl, (refl, (refl, (refl, (refl, (refl, (refl, (refl, (refl, (refl, (refl, (refl, (refl, (refl, (refl, (refl, (refl, (refl, (refl, (refl, (refl, (refl, (refl, (refl, (refl, (refl, (refl, (refl, (refl, (refl, (refl, (refl, (refl, (refl, (refl, tt)))))))))))))))))))))))))))))))))))))))))))))))))))))))))

pub rules-free : (n : ℕ) → (n == script) ≡ false → free (kinds (end ∷ [])) script (script_language.rules n) ≡ true
unfolding script_language rules entry others
rules-free zero o = absurd (cc (o))
rules-free (suc n) o = free-at (others rules) n others-free

-- what stands before the end and behind it
pub none-there : (front more : List Token) (t : Token) → NoneOf script_language (kinds (end ∷ [])) script (front ++ t ∷ more) → is_end t ≡ true → ⊥
unfolding script_language
none-there [] more t n i = let off = n.0 in cc (off, i)
none-there (x ∷ front) more t n i = none-there front more t n.1 i

pub never-behind : (deep : Bool) (front : List Token) (t : Token) → is_end t ≡ true → read_script (front ++ t ∷ []) ≡ Err (deep, []) → ⊥
unfolding read_script read read_at script_language rules script_rule entry clear InPlace free
never-behind deep front t i e =
    let l = script_language in
    let k = in-open l (entry [] tails) script-fits examples script-opens script (l.rules script) refl refl in
    let v = and_both (clear l.heads examples (any item)) (clear l.heads examples an_end) (and_both _ (and (clear l.heads examples (any item)) (clear l.heads examples an_end)) k.4).1 in
    let p = (script-fits script).1 in
    elim (bind_err (read_at l (2 ^ 64) (read l (2 ^ 64) nesting) (any item) (front ++ t ∷ [])) (second l (λ _. read_at l (2 ^ 64) (read l (2 ^ 64) nesting) an_end)) (deep, []) e) [
      | inl g ↦
          let R = Derives l (plus examples.deepest nesting) in
          let c = read_at-completed l (entry [] tails) script-fits examples script-opens R (2 ^ 64) (read l (2 ^ 64) nesting)
          (derives-begun l (entry [] tails) script-fits (plus examples.deepest nesting)) (read-sound_more l (entry [] tails) script-fits examples script-opens (2 ^ 64) nesting)
          (derives-moved l (entry [] tails) script-fits examples script-opens (plus examples.deepest nesting)) (example-more l (entry [] tails) script-fits examples script-opens nesting)
          (read-completed l (entry [] tails) script-fits examples script-opens (2 ^ 64) nesting) (any item) p.0 v.0 (front ++ t ∷ []) (deep, []) g in
          let d = c.3 [] refl in
          let s = spells-free l (kinds (end ∷ [])) script R (λ n. (script-fits n).1) rules-free
          (derives-free l (kinds (end ∷ [])) script (λ n. (script-fits n).1) rules-free (plus examples.deepest nesting)) (any item) p.0 refl
          (c.0 ++ (c.2 ++ [])) [] d.0 d.1 in
          let whole : c.0 ≡ front ++ t ∷ [] = sym (append-nil c.0) ∙ sym c.1 in
          let same : s.0 ≡ front ++ t ∷ (c.2 ++ []) =
          sym (append-nil s.0) ∙ sym s.1 ∙ ap (λ m. m ++ (c.2 ++ [])) whole ∙ append_assoc front (t ∷ []) (c.2 ++ []) in
          none-there front (c.2 ++ []) t (subst (NoneOf l (kinds (end ∷ [])) script) same s.2) i
      | inr g ↦ elim (bind_err (read_at l (2 ^ 64) (read l (2 ^ 64) nesting) an_end (g.0).1) (λ q. Ok (pair (g.0).0 q.0, q.1)) (deep, []) g.2) [
        | inl h ↦
            let gone : (g.0).1 ≡ [] = ap (λ q. q.1) (token-err l (kinds (end ∷ [])) (g.0).1 (deep, []) h) in
            let R = Derives l nesting in
            let d = read_at-sound l R (2 ^ 64) (read l (2 ^ 64) nesting) (read-sound l (2 ^ 64) nesting) (any item) (front ++ t ∷ []) g.0 g.1 in
            let s = spells-free l (kinds (end ∷ [])) script R (λ n. (script-fits n).1) rules-free
            (derives-free l (kinds (end ∷ [])) script (λ n. (script-fits n).1) rules-free nesting) (any item) p.0 refl (front ++ t ∷ []) (g.0).1 (g.0).0 d in
            let same : s.0 ≡ front ++ t ∷ [] = sym (append-nil s.0) ∙ ap (λ m. s.0 ++ m) (sym gone) ∙ sym s.1 in
            none-there front [] t (subst (NoneOf l (kinds (end ∷ [])) script) same s.2) i
        | inr h ↦ absurd (cc (h.2))
      ]
    ]
