-- The grammar of scripts passes the tests.
use Rattle.std.proofs.Common.{true, ◌≡◌, ℕ, List, [], ◌∷◌, refl, inl, inr, ◌∙◌}
use Rattle.std.specs.Prelude.{◌==◌}
use Rattle.grammar.specs.Kinds.{among, kept, apart, covers, alike}
use Rattle.grammar.specs.Grammar.{entry}
use Rattle.grammar.specs.Reading.{nullable, firsts}
use Rattle.grammar.specs.Tests.{goes_on, decided, InPlace, AllFit, Fits, bars, word as example_of, steep, clear, AllOpen, Opens, AllApart}
use Rattle.grammar.specs.Pairs.{levels, even, shuts_one, wrapped, leads, alone, is_head, before_stop, told, AllPaired, Told}
use Rattle.grammar.proofs.Lists.{fits-of_list, opens-of_list, paired-of_list}
use Rattle.grammar.proofs.Pairs.{all-apart}
use Rattle.js_token.specs.declared.token.Token.{Token}
use Rattle.grammar.proofs.Laws.{same_number}
use Rattle.grammar.proofs.Sets.{test_was}
use Rattle.js_grammar.specs.Kinds.{kind_of, class_of, kinds, unbroken_kinds, names, reserved, place_in, marks, words, contextual}
use Rattle.js_grammar.specs.Script.{pattern_rule, primary_rule, member_rule, left_rule, unary_rule, mul_rule, add_rule, shift_rule, rel_rule, equal_rule, bit_and_rule, bit_xor_rule, bit_or_rule, and_rule, or_rule, short_rule, cond_rule, assign_rule, expr_rule, arrow_rule, prefixed_rule, new_rule, group_rule, index_rule, computed_rule, array_rule, arguments_rule, template_rule, object_rule, function_rule, declared_rule, parameters_rule, no_parameters_rule, one_parameter_rule, stmt_rule, item_rule, block_rule, for_rule, script_rule, rules, heads, script_language}
use Rattle.js_grammar.proofs.Tables.{tails, shuts, examples_of, ranks, samples, sample_kinds, examples, parentheses}

-- Each token is of its kind.
unfoldable pub Sampled : List Token → List ℕ → Type 0
Sampled [] [] = Unit {0}
Sampled [] (k ∷ ks) = ⊥
Sampled (t ∷ ts) [] = ⊥
Sampled (t ∷ ts) (k ∷ ks) = (kind_of t ≡ k) × Sampled ts ks

pub script-fits : Fits script_language (entry [] tails)
unfolding script_language pattern_rule primary_rule member_rule left_rule unary_rule mul_rule add_rule shift_rule rel_rule equal_rule bit_and_rule bit_xor_rule bit_or_rule and_rule or_rule short_rule cond_rule assign_rule expr_rule arrow_rule prefixed_rule new_rule group_rule index_rule computed_rule array_rule arguments_rule template_rule object_rule function_rule declared_rule parameters_rule no_parameters_rule one_parameter_rule stmt_rule item_rule block_rule for_rule script_rule rules heads kinds unbroken_kinds names reserved place_in marks words contextual tails entry nullable firsts among kept alike goes_on apart covers decided InPlace AllFit
script-fits = fits-of_list script_language (entry [] tails) rules (λ n. refl) ((refl, search), ((refl, search), ((refl, search), ((refl, search), ((refl, search), ((refl, search), ((refl, search), ((refl, search), ((refl, search), ((refl, search), ((refl, search), ((refl, search), ((refl, search), ((refl, search), ((refl, search), ((refl, search), ((refl, search), ((refl, search), ((refl, search), ((refl, search), ((refl, search), ((refl, search), ((refl, search), ((refl, search), ((refl, search), ((refl, search), ((refl, search), ((refl, search), ((refl, search), ((refl, search), ((refl, search), ((refl, search), ((refl, search), ((refl, search), ((refl, search), ((refl, search), ((refl, search), ((refl, search), ((refl, search), ((refl, search), ((refl, search), ((refl, search), ((refl, search), ((refl, search), ((refl, search), ((refl, search), ((refl, search), ((refl, search), ((refl, search), ((refl, search), ((refl, search), ((refl, search), ((refl, search), ((refl, search), ((refl, search), ((refl, search), ((refl, search), ((refl, search), tt))))))))))))))))))))))))))))))))))))))))))))))))))))))))))

-- a token of each kind that is used
pub sampled : (ts : List Token) (ks : List ℕ) → Sampled ts ks → (kind : ℕ) → among ks kind ≡ true → (t : Token) × (kind_of t ≡ kind)
unfolding Sampled among
sampled [] [] a kind u = absurd (cc (u))
sampled [] (k ∷ ks) a kind u = absurd a
sampled (t ∷ ts) [] a kind u = absurd (cc (u))
sampled (t ∷ ts) (k ∷ ks) a kind u = elim (test_was (k == kind) true (among ks kind) true u) [
  | inl h ↦ (t, a.0 ∙ same_number k kind h.0)
  | inr h ↦ sampled ts ks a.1 kind h.1
]

pub samples-are : Sampled samples sample_kinds
unfolding Sampled samples sample_kinds kind_of class_of place_in marks words contextual alike
samples-are = (refl, (refl, (refl, (refl, (refl, (refl, (refl, (refl, (refl, (refl, (refl, (refl, (refl, (refl, (refl, (refl, (refl, (refl, (refl, (refl, (refl, (refl, (refl, (refl, (refl, (refl, (refl, (refl, (refl, (refl, (refl, (refl, (refl, (refl, (refl, (refl, (refl, (refl, (refl, (refl, (refl, (refl, (refl, (refl, (refl, (refl, (refl, (refl, (refl, (refl, tt))))))))))))))))))))))))))))))))))))))))))))))))))

pub script-opens : Opens script_language examples
unfolding script_language pattern_rule primary_rule member_rule left_rule unary_rule mul_rule add_rule shift_rule rel_rule equal_rule bit_and_rule bit_xor_rule bit_or_rule and_rule or_rule short_rule cond_rule assign_rule expr_rule arrow_rule prefixed_rule new_rule group_rule index_rule computed_rule array_rule arguments_rule template_rule object_rule function_rule declared_rule parameters_rule no_parameters_rule one_parameter_rule stmt_rule item_rule block_rule for_rule script_rule rules heads kinds unbroken_kinds names reserved place_in marks words contextual shuts examples_of ranks sample_kinds entry nullable firsts among kept apart covers alike bars example_of steep clear AllOpen
script-opens = (opens-of_list script_language examples rules (λ n. refl) refl (refl, (refl, (refl, (refl, (refl, (refl, (refl, (refl, (refl, (refl, (refl, (refl, (refl, (refl, (refl, (refl, (refl, (refl, (refl, (refl, (refl, (refl, (refl, (refl, (refl, (refl, (refl, (refl, (refl, (refl, (refl, (refl, (refl, (refl, (refl, (refl, (refl, (refl, (refl, (refl, (refl, (refl, (refl, (refl, (refl, (refl, (refl, (refl, (refl, (refl, (refl, (refl, (refl, (refl, (refl, (refl, (refl, (refl, tt)))))))))))))))))))))))))))))))))))))))))))))))))))))))))), λ kind u. sampled samples sample_kinds samples-are kind u)

pub script-told : Told script_language parentheses
unfolding script_language pattern_rule primary_rule member_rule left_rule unary_rule mul_rule add_rule shift_rule rel_rule equal_rule bit_and_rule bit_xor_rule bit_or_rule and_rule or_rule short_rule cond_rule assign_rule expr_rule arrow_rule prefixed_rule new_rule group_rule index_rule computed_rule array_rule arguments_rule template_rule object_rule function_rule declared_rule parameters_rule no_parameters_rule one_parameter_rule stmt_rule item_rule block_rule for_rule script_rule rules heads kinds unbroken_kinds names reserved place_in marks words contextual entry nullable firsts among kept apart covers alike levels even shuts_one wrapped leads alone is_head before_stop told AllPaired
script-told = (paired-of_list script_language parentheses rules (λ n. refl) (refl, (refl, (refl, (refl, (refl, (refl, (refl, (refl, (refl, (refl, (refl, (refl, (refl, (refl, (refl, (refl, (refl, (refl, (refl, (refl, (refl, (refl, (refl, (refl, (refl, (refl, (refl, (refl, (refl, (refl, (refl, (refl, (refl, (refl, (refl, (refl, (refl, (refl, (refl, (refl, (refl, (refl, (refl, (refl, (refl, (refl, (refl, (refl, (refl, (refl, (refl, (refl, (refl, (refl, (refl, (refl, (refl, (refl, tt)))))))))))))))))))))))))))))))))))))))))))))))))))))))))), refl, refl, refl)

pub script-apart : (limit : ℕ) → AllApart script_language limit
script-apart = all-apart script_language (entry [] tails) script-fits parentheses script-told
