-- Scripts and faults of scripts, as the grammar reads them. A row has the tokens, how deep they may nest, and how many tokens are left at the fault, if any.
use Rattle.std.proofs.Common.{true, false, Bool, ◌≡◌, ℕ, suc, List, [], ◌∷◌, length, Ok, Err, refl, codes}
use Rattle.std.specs.Prelude.{pos, Option, Some, None}
use Rattle.grammar.specs.Kinds.{among, alike, kept}
use Rattle.grammar.specs.Grammar.{entry}
use Rattle.grammar.specs.Reading.{Answer, nullable, firsts, many_at, read_at, read}
use Rattle.js_token.specs.declared.token.Token.{Token}
use Rattle.js_token.specs.declared.token.TokenKind.{TokenKind}
use Rattle.js_token.specs.declared.token.TokenKind.TheVariants.{Name, Word, Number, Text, Piece, Mark, End}
use Rattle.js_grammar.specs.Kinds.{kind_of, class_of, kinds, unbroken_kinds, names, reserved, place_in, marks, words, contextual}
use Rattle.js_grammar.specs.Script.{pattern_rule, primary_rule, member_rule, left_rule, unary_rule, mul_rule, add_rule, shift_rule, rel_rule, equal_rule, bit_and_rule, bit_xor_rule, bit_or_rule, and_rule, or_rule, short_rule, cond_rule, assign_rule, expr_rule, arrow_rule, prefixed_rule, new_rule, group_rule, index_rule, computed_rule, array_rule, arguments_rule, template_rule, object_rule, function_rule, declared_rule, parameters_rule, no_parameters_rule, one_parameter_rule, stmt_rule, item_rule, block_rule, for_rule, script_rule, rules, heads, reaches, script_language, script}
use Rattle.js_grammar.proofs.Tables.{plain}

-- behind a line break
abbrev pub below : TokenKind → Token
below kind = record { place = 0; broken = true; kind = kind }

-- whether a fault is one of nesting, and how many tokens are left there; or how many are left where they are read
abbrev pub told : Answer Token → Option Bool × ℕ
told (Ok p) = (None, length p.1)
told (Err e) = (Some e.0, length e.1)

abbrev pub answers : ℕ → List Token → Option Bool → ℕ → Type 0
answers depth tokens fault left = told (read script_language 1000 (suc depth) script tokens) ≡ (fault, left)

-- let x = 1, y; const {a: [b]} = c;
pub declared : answers 200 (plain (Word (codes "let")) ∷ plain (Name (codes "x")) ∷ plain (Mark 34) ∷ plain (Number (pos 1)) ∷ plain (Mark 7) ∷ plain (Name (codes "y")) ∷ plain (Mark 6) ∷ plain (Word (codes "const")) ∷ plain (Mark 0) ∷ plain (Name (codes "a")) ∷ plain (Mark 33) ∷ plain (Mark 4) ∷ plain (Name (codes "b")) ∷ plain (Mark 5) ∷ plain (Mark 1) ∷ plain (Mark 34) ∷ plain (Name (codes "c")) ∷ plain (Mark 6) ∷ plain End ∷ []) None 0
unfolding script_language pattern_rule primary_rule member_rule left_rule unary_rule mul_rule add_rule shift_rule rel_rule equal_rule bit_and_rule bit_xor_rule bit_or_rule and_rule or_rule short_rule cond_rule assign_rule expr_rule arrow_rule prefixed_rule new_rule group_rule index_rule computed_rule array_rule arguments_rule template_rule object_rule function_rule declared_rule parameters_rule no_parameters_rule one_parameter_rule stmt_rule item_rule block_rule for_rule script_rule rules heads reaches kinds unbroken_kinds names reserved kind_of class_of place_in marks words contextual entry nullable firsts among alike kept many_at read_at read
declared = refl

-- ({a = 1}) b;
pub group_then_name : answers 200 (plain (Mark 2) ∷ plain (Mark 0) ∷ plain (Name (codes "a")) ∷ plain (Mark 34) ∷ plain (Number (pos 1)) ∷ plain (Mark 1) ∷ plain (Mark 3) ∷ plain (Name (codes "b")) ∷ plain (Mark 6) ∷ plain End ∷ []) (Some false) 3
unfolding script_language pattern_rule primary_rule member_rule left_rule unary_rule mul_rule add_rule shift_rule rel_rule equal_rule bit_and_rule bit_xor_rule bit_or_rule and_rule or_rule short_rule cond_rule assign_rule expr_rule arrow_rule prefixed_rule new_rule group_rule index_rule computed_rule array_rule arguments_rule template_rule object_rule function_rule declared_rule parameters_rule no_parameters_rule one_parameter_rule stmt_rule item_rule block_rule for_rule script_rule rules heads reaches kinds unbroken_kinds names reserved kind_of class_of place_in marks words contextual entry nullable firsts among alike kept many_at read_at read
group_then_name = refl

-- (a, {b: c.d}) => 1;
pub no_pattern : answers 200 (plain (Mark 2) ∷ plain (Name (codes "a")) ∷ plain (Mark 7) ∷ plain (Mark 0) ∷ plain (Name (codes "b")) ∷ plain (Mark 33) ∷ plain (Name (codes "c")) ∷ plain (Mark 8) ∷ plain (Name (codes "d")) ∷ plain (Mark 1) ∷ plain (Mark 3) ∷ plain (Mark 42) ∷ plain (Number (pos 1)) ∷ plain (Mark 6) ∷ plain End ∷ []) (Some false) 4
unfolding script_language pattern_rule primary_rule member_rule left_rule unary_rule mul_rule add_rule shift_rule rel_rule equal_rule bit_and_rule bit_xor_rule bit_or_rule and_rule or_rule short_rule cond_rule assign_rule expr_rule arrow_rule prefixed_rule new_rule group_rule index_rule computed_rule array_rule arguments_rule template_rule object_rule function_rule declared_rule parameters_rule no_parameters_rule one_parameter_rule stmt_rule item_rule block_rule for_rule script_rule rules heads reaches kinds unbroken_kinds names reserved kind_of class_of place_in marks words contextual entry nullable firsts among alike kept many_at read_at read
no_pattern = refl

-- if (a) if (b) ; else ;
pub nearest_if : answers 200 (plain (Word (codes "if")) ∷ plain (Mark 2) ∷ plain (Name (codes "a")) ∷ plain (Mark 3) ∷ plain (Word (codes "if")) ∷ plain (Mark 2) ∷ plain (Name (codes "b")) ∷ plain (Mark 3) ∷ plain (Mark 6) ∷ plain (Word (codes "else")) ∷ plain (Mark 6) ∷ plain End ∷ []) None 0
unfolding script_language pattern_rule primary_rule member_rule left_rule unary_rule mul_rule add_rule shift_rule rel_rule equal_rule bit_and_rule bit_xor_rule bit_or_rule and_rule or_rule short_rule cond_rule assign_rule expr_rule arrow_rule prefixed_rule new_rule group_rule index_rule computed_rule array_rule arguments_rule template_rule object_rule function_rule declared_rule parameters_rule no_parameters_rule one_parameter_rule stmt_rule item_rule block_rule for_rule script_rule rules heads reaches kinds unbroken_kinds names reserved kind_of class_of place_in marks words contextual entry nullable firsts among alike kept many_at read_at read
nearest_if = refl

-- a [line break] ++;
pub postfix_after_break : answers 200 (plain (Name (codes "a")) ∷ below (Mark 40) ∷ plain (Mark 6) ∷ plain End ∷ []) (Some false) 3
unfolding script_language pattern_rule primary_rule member_rule left_rule unary_rule mul_rule add_rule shift_rule rel_rule equal_rule bit_and_rule bit_xor_rule bit_or_rule and_rule or_rule short_rule cond_rule assign_rule expr_rule arrow_rule prefixed_rule new_rule group_rule index_rule computed_rule array_rule arguments_rule template_rule object_rule function_rule declared_rule parameters_rule no_parameters_rule one_parameter_rule stmt_rule item_rule block_rule for_rule script_rule rules heads reaches kinds unbroken_kinds names reserved kind_of class_of place_in marks words contextual entry nullable firsts among alike kept many_at read_at read
postfix_after_break = refl

-- return [line break] 1;
pub return_after_break : answers 200 (plain (Word (codes "return")) ∷ below (Number (pos 1)) ∷ plain (Mark 6) ∷ plain End ∷ []) (Some false) 3
unfolding script_language pattern_rule primary_rule member_rule left_rule unary_rule mul_rule add_rule shift_rule rel_rule equal_rule bit_and_rule bit_xor_rule bit_or_rule and_rule or_rule short_rule cond_rule assign_rule expr_rule arrow_rule prefixed_rule new_rule group_rule index_rule computed_rule array_rule arguments_rule template_rule object_rule function_rule declared_rule parameters_rule no_parameters_rule one_parameter_rule stmt_rule item_rule block_rule for_rule script_rule rules heads reaches kinds unbroken_kinds names reserved kind_of class_of place_in marks words contextual entry nullable firsts among alike kept many_at read_at read
return_after_break = refl

-- return [line break] ;
pub return_nothing : answers 200 (plain (Word (codes "return")) ∷ below (Mark 6) ∷ plain End ∷ []) None 0
unfolding script_language pattern_rule primary_rule member_rule left_rule unary_rule mul_rule add_rule shift_rule rel_rule equal_rule bit_and_rule bit_xor_rule bit_or_rule and_rule or_rule short_rule cond_rule assign_rule expr_rule arrow_rule prefixed_rule new_rule group_rule index_rule computed_rule array_rule arguments_rule template_rule object_rule function_rule declared_rule parameters_rule no_parameters_rule one_parameter_rule stmt_rule item_rule block_rule for_rule script_rule rules heads reaches kinds unbroken_kinds names reserved kind_of class_of place_in marks words contextual entry nullable firsts among alike kept many_at read_at read
return_nothing = refl

-- throw [line break] a;
pub throw_after_break : answers 200 (plain (Word (codes "throw")) ∷ below (Name (codes "a")) ∷ plain (Mark 6) ∷ plain End ∷ []) (Some false) 3
unfolding script_language pattern_rule primary_rule member_rule left_rule unary_rule mul_rule add_rule shift_rule rel_rule equal_rule bit_and_rule bit_xor_rule bit_or_rule and_rule or_rule short_rule cond_rule assign_rule expr_rule arrow_rule prefixed_rule new_rule group_rule index_rule computed_rule array_rule arguments_rule template_rule object_rule function_rule declared_rule parameters_rule no_parameters_rule one_parameter_rule stmt_rule item_rule block_rule for_rule script_rule rules heads reaches kinds unbroken_kinds names reserved kind_of class_of place_in marks words contextual entry nullable firsts among alike kept many_at read_at read
throw_after_break = refl

-- a [line break] => 1;
pub arrow_after_break : answers 200 (plain (Name (codes "a")) ∷ below (Mark 42) ∷ plain (Number (pos 1)) ∷ plain (Mark 6) ∷ plain End ∷ []) (Some false) 4
unfolding script_language pattern_rule primary_rule member_rule left_rule unary_rule mul_rule add_rule shift_rule rel_rule equal_rule bit_and_rule bit_xor_rule bit_or_rule and_rule or_rule short_rule cond_rule assign_rule expr_rule arrow_rule prefixed_rule new_rule group_rule index_rule computed_rule array_rule arguments_rule template_rule object_rule function_rule declared_rule parameters_rule no_parameters_rule one_parameter_rule stmt_rule item_rule block_rule for_rule script_rule rules heads reaches kinds unbroken_kinds names reserved kind_of class_of place_in marks words contextual entry nullable firsts among alike kept many_at read_at read
arrow_after_break = refl

-- (a) [line break] => 1;
pub arrow_of_list_after_break : answers 200 (plain (Mark 2) ∷ plain (Name (codes "a")) ∷ plain (Mark 3) ∷ below (Mark 42) ∷ plain (Number (pos 1)) ∷ plain (Mark 6) ∷ plain End ∷ []) (Some false) 4
unfolding script_language pattern_rule primary_rule member_rule left_rule unary_rule mul_rule add_rule shift_rule rel_rule equal_rule bit_and_rule bit_xor_rule bit_or_rule and_rule or_rule short_rule cond_rule assign_rule expr_rule arrow_rule prefixed_rule new_rule group_rule index_rule computed_rule array_rule arguments_rule template_rule object_rule function_rule declared_rule parameters_rule no_parameters_rule one_parameter_rule stmt_rule item_rule block_rule for_rule script_rule rules heads reaches kinds unbroken_kinds names reserved kind_of class_of place_in marks words contextual entry nullable firsts among alike kept many_at read_at read
arrow_of_list_after_break = refl

-- {} + 1;
pub block_then_unary : answers 200 (plain (Mark 0) ∷ plain (Mark 1) ∷ plain (Mark 16) ∷ plain (Number (pos 1)) ∷ plain (Mark 6) ∷ plain End ∷ []) None 0
unfolding script_language pattern_rule primary_rule member_rule left_rule unary_rule mul_rule add_rule shift_rule rel_rule equal_rule bit_and_rule bit_xor_rule bit_or_rule and_rule or_rule short_rule cond_rule assign_rule expr_rule arrow_rule prefixed_rule new_rule group_rule index_rule computed_rule array_rule arguments_rule template_rule object_rule function_rule declared_rule parameters_rule no_parameters_rule one_parameter_rule stmt_rule item_rule block_rule for_rule script_rule rules heads reaches kinds unbroken_kinds names reserved kind_of class_of place_in marks words contextual entry nullable firsts among alike kept many_at read_at read
block_then_unary = refl

-- x = {};
pub object_on_the_right : answers 200 (plain (Name (codes "x")) ∷ plain (Mark 34) ∷ plain (Mark 0) ∷ plain (Mark 1) ∷ plain (Mark 6) ∷ plain End ∷ []) None 0
unfolding script_language pattern_rule primary_rule member_rule left_rule unary_rule mul_rule add_rule shift_rule rel_rule equal_rule bit_and_rule bit_xor_rule bit_or_rule and_rule or_rule short_rule cond_rule assign_rule expr_rule arrow_rule prefixed_rule new_rule group_rule index_rule computed_rule array_rule arguments_rule template_rule object_rule function_rule declared_rule parameters_rule no_parameters_rule one_parameter_rule stmt_rule item_rule block_rule for_rule script_rule rules heads reaches kinds unbroken_kinds names reserved kind_of class_of place_in marks words contextual entry nullable firsts among alike kept many_at read_at read
object_on_the_right = refl

-- if (a) function f() {}
pub function_in_statement : answers 200 (plain (Word (codes "if")) ∷ plain (Mark 2) ∷ plain (Name (codes "a")) ∷ plain (Mark 3) ∷ plain (Word (codes "function")) ∷ plain (Name (codes "f")) ∷ plain (Mark 2) ∷ plain (Mark 3) ∷ plain (Mark 0) ∷ plain (Mark 1) ∷ plain End ∷ []) (Some false) 7
unfolding script_language pattern_rule primary_rule member_rule left_rule unary_rule mul_rule add_rule shift_rule rel_rule equal_rule bit_and_rule bit_xor_rule bit_or_rule and_rule or_rule short_rule cond_rule assign_rule expr_rule arrow_rule prefixed_rule new_rule group_rule index_rule computed_rule array_rule arguments_rule template_rule object_rule function_rule declared_rule parameters_rule no_parameters_rule one_parameter_rule stmt_rule item_rule block_rule for_rule script_rule rules heads reaches kinds unbroken_kinds names reserved kind_of class_of place_in marks words contextual entry nullable firsts among alike kept many_at read_at read
function_in_statement = refl

-- for (let x = a in b; ;) ;
pub in_in_head : answers 200 (plain (Word (codes "for")) ∷ plain (Mark 2) ∷ plain (Word (codes "let")) ∷ plain (Name (codes "x")) ∷ plain (Mark 34) ∷ plain (Name (codes "a")) ∷ plain (Word (codes "in")) ∷ plain (Name (codes "b")) ∷ plain (Mark 6) ∷ plain (Mark 6) ∷ plain (Mark 3) ∷ plain (Mark 6) ∷ plain End ∷ []) (Some false) 7
unfolding script_language pattern_rule primary_rule member_rule left_rule unary_rule mul_rule add_rule shift_rule rel_rule equal_rule bit_and_rule bit_xor_rule bit_or_rule and_rule or_rule short_rule cond_rule assign_rule expr_rule arrow_rule prefixed_rule new_rule group_rule index_rule computed_rule array_rule arguments_rule template_rule object_rule function_rule declared_rule parameters_rule no_parameters_rule one_parameter_rule stmt_rule item_rule block_rule for_rule script_rule rules heads reaches kinds unbroken_kinds names reserved kind_of class_of place_in marks words contextual entry nullable firsts among alike kept many_at read_at read
in_in_head = refl

-- for (let x = (a in b); ;) ;
pub in_in_brackets : answers 200 (plain (Word (codes "for")) ∷ plain (Mark 2) ∷ plain (Word (codes "let")) ∷ plain (Name (codes "x")) ∷ plain (Mark 34) ∷ plain (Mark 2) ∷ plain (Name (codes "a")) ∷ plain (Word (codes "in")) ∷ plain (Name (codes "b")) ∷ plain (Mark 3) ∷ plain (Mark 6) ∷ plain (Mark 6) ∷ plain (Mark 3) ∷ plain (Mark 6) ∷ plain End ∷ []) None 0
unfolding script_language pattern_rule primary_rule member_rule left_rule unary_rule mul_rule add_rule shift_rule rel_rule equal_rule bit_and_rule bit_xor_rule bit_or_rule and_rule or_rule short_rule cond_rule assign_rule expr_rule arrow_rule prefixed_rule new_rule group_rule index_rule computed_rule array_rule arguments_rule template_rule object_rule function_rule declared_rule parameters_rule no_parameters_rule one_parameter_rule stmt_rule item_rule block_rule for_rule script_rule rules heads reaches kinds unbroken_kinds names reserved kind_of class_of place_in marks words contextual entry nullable firsts among alike kept many_at read_at read
in_in_brackets = refl

-- for (x ? a in b : c; ;) ;
pub in_in_branch : answers 200 (plain (Word (codes "for")) ∷ plain (Mark 2) ∷ plain (Name (codes "x")) ∷ plain (Mark 32) ∷ plain (Name (codes "a")) ∷ plain (Word (codes "in")) ∷ plain (Name (codes "b")) ∷ plain (Mark 33) ∷ plain (Name (codes "c")) ∷ plain (Mark 6) ∷ plain (Mark 6) ∷ plain (Mark 3) ∷ plain (Mark 6) ∷ plain End ∷ []) (Some false) 9
unfolding script_language pattern_rule primary_rule member_rule left_rule unary_rule mul_rule add_rule shift_rule rel_rule equal_rule bit_and_rule bit_xor_rule bit_or_rule and_rule or_rule short_rule cond_rule assign_rule expr_rule arrow_rule prefixed_rule new_rule group_rule index_rule computed_rule array_rule arguments_rule template_rule object_rule function_rule declared_rule parameters_rule no_parameters_rule one_parameter_rule stmt_rule item_rule block_rule for_rule script_rule rules heads reaches kinds unbroken_kinds names reserved kind_of class_of place_in marks words contextual entry nullable firsts among alike kept many_at read_at read
in_in_branch = refl

-- for (let x of a, b) ;
pub list_of_head : answers 200 (plain (Word (codes "for")) ∷ plain (Mark 2) ∷ plain (Word (codes "let")) ∷ plain (Name (codes "x")) ∷ plain (Name (codes "of")) ∷ plain (Name (codes "a")) ∷ plain (Mark 7) ∷ plain (Name (codes "b")) ∷ plain (Mark 3) ∷ plain (Mark 6) ∷ plain End ∷ []) (Some false) 5
unfolding script_language pattern_rule primary_rule member_rule left_rule unary_rule mul_rule add_rule shift_rule rel_rule equal_rule bit_and_rule bit_xor_rule bit_or_rule and_rule or_rule short_rule cond_rule assign_rule expr_rule arrow_rule prefixed_rule new_rule group_rule index_rule computed_rule array_rule arguments_rule template_rule object_rule function_rule declared_rule parameters_rule no_parameters_rule one_parameter_rule stmt_rule item_rule block_rule for_rule script_rule rules heads reaches kinds unbroken_kinds names reserved kind_of class_of place_in marks words contextual entry nullable firsts among alike kept many_at read_at read
list_of_head = refl

-- for (const x of a in b) ;
pub in_behind_of : answers 200 (plain (Word (codes "for")) ∷ plain (Mark 2) ∷ plain (Word (codes "const")) ∷ plain (Name (codes "x")) ∷ plain (Name (codes "of")) ∷ plain (Name (codes "a")) ∷ plain (Word (codes "in")) ∷ plain (Name (codes "b")) ∷ plain (Mark 3) ∷ plain (Mark 6) ∷ plain End ∷ []) None 0
unfolding script_language pattern_rule primary_rule member_rule left_rule unary_rule mul_rule add_rule shift_rule rel_rule equal_rule bit_and_rule bit_xor_rule bit_or_rule and_rule or_rule short_rule cond_rule assign_rule expr_rule arrow_rule prefixed_rule new_rule group_rule index_rule computed_rule array_rule arguments_rule template_rule object_rule function_rule declared_rule parameters_rule no_parameters_rule one_parameter_rule stmt_rule item_rule block_rule for_rule script_rule rules heads reaches kinds unbroken_kinds names reserved kind_of class_of place_in marks words contextual entry nullable firsts among alike kept many_at read_at read
in_behind_of = refl

-- for (let of of of) of();
pub of_as_a_name : answers 200 (plain (Word (codes "for")) ∷ plain (Mark 2) ∷ plain (Word (codes "let")) ∷ plain (Name (codes "of")) ∷ plain (Name (codes "of")) ∷ plain (Name (codes "of")) ∷ plain (Mark 3) ∷ plain (Name (codes "of")) ∷ plain (Mark 2) ∷ plain (Mark 3) ∷ plain (Mark 6) ∷ plain End ∷ []) None 0
unfolding script_language pattern_rule primary_rule member_rule left_rule unary_rule mul_rule add_rule shift_rule rel_rule equal_rule bit_and_rule bit_xor_rule bit_or_rule and_rule or_rule short_rule cond_rule assign_rule expr_rule arrow_rule prefixed_rule new_rule group_rule index_rule computed_rule array_rule arguments_rule template_rule object_rule function_rule declared_rule parameters_rule no_parameters_rule one_parameter_rule stmt_rule item_rule block_rule for_rule script_rule rules heads reaches kinds unbroken_kinds names reserved kind_of class_of place_in marks words contextual entry nullable firsts among alike kept many_at read_at read
of_as_a_name = refl

-- for (a of b) ;
pub head_of_expression : answers 200 (plain (Word (codes "for")) ∷ plain (Mark 2) ∷ plain (Name (codes "a")) ∷ plain (Name (codes "of")) ∷ plain (Name (codes "b")) ∷ plain (Mark 3) ∷ plain (Mark 6) ∷ plain End ∷ []) (Some false) 5
unfolding script_language pattern_rule primary_rule member_rule left_rule unary_rule mul_rule add_rule shift_rule rel_rule equal_rule bit_and_rule bit_xor_rule bit_or_rule and_rule or_rule short_rule cond_rule assign_rule expr_rule arrow_rule prefixed_rule new_rule group_rule index_rule computed_rule array_rule arguments_rule template_rule object_rule function_rule declared_rule parameters_rule no_parameters_rule one_parameter_rule stmt_rule item_rule block_rule for_rule script_rule rules heads reaches kinds unbroken_kinds names reserved kind_of class_of place_in marks words contextual entry nullable firsts among alike kept many_at read_at read
head_of_expression = refl

-- try {}
pub try_alone : answers 200 (plain (Word (codes "try")) ∷ plain (Mark 0) ∷ plain (Mark 1) ∷ plain End ∷ []) (Some false) 1
unfolding script_language pattern_rule primary_rule member_rule left_rule unary_rule mul_rule add_rule shift_rule rel_rule equal_rule bit_and_rule bit_xor_rule bit_or_rule and_rule or_rule short_rule cond_rule assign_rule expr_rule arrow_rule prefixed_rule new_rule group_rule index_rule computed_rule array_rule arguments_rule template_rule object_rule function_rule declared_rule parameters_rule no_parameters_rule one_parameter_rule stmt_rule item_rule block_rule for_rule script_rule rules heads reaches kinds unbroken_kinds names reserved kind_of class_of place_in marks words contextual entry nullable firsts among alike kept many_at read_at read
try_alone = refl

-- try {} catch (e) {} finally {}
pub try_whole : answers 200 (plain (Word (codes "try")) ∷ plain (Mark 0) ∷ plain (Mark 1) ∷ plain (Word (codes "catch")) ∷ plain (Mark 2) ∷ plain (Name (codes "e")) ∷ plain (Mark 3) ∷ plain (Mark 0) ∷ plain (Mark 1) ∷ plain (Word (codes "finally")) ∷ plain (Mark 0) ∷ plain (Mark 1) ∷ plain End ∷ []) None 0
unfolding script_language pattern_rule primary_rule member_rule left_rule unary_rule mul_rule add_rule shift_rule rel_rule equal_rule bit_and_rule bit_xor_rule bit_or_rule and_rule or_rule short_rule cond_rule assign_rule expr_rule arrow_rule prefixed_rule new_rule group_rule index_rule computed_rule array_rule arguments_rule template_rule object_rule function_rule declared_rule parameters_rule no_parameters_rule one_parameter_rule stmt_rule item_rule block_rule for_rule script_rule rules heads reaches kinds unbroken_kinds names reserved kind_of class_of place_in marks words contextual entry nullable firsts among alike kept many_at read_at read
try_whole = refl

-- let {a};
pub pattern_without_value : answers 200 (plain (Word (codes "let")) ∷ plain (Mark 0) ∷ plain (Name (codes "a")) ∷ plain (Mark 1) ∷ plain (Mark 6) ∷ plain End ∷ []) (Some false) 2
unfolding script_language pattern_rule primary_rule member_rule left_rule unary_rule mul_rule add_rule shift_rule rel_rule equal_rule bit_and_rule bit_xor_rule bit_or_rule and_rule or_rule short_rule cond_rule assign_rule expr_rule arrow_rule prefixed_rule new_rule group_rule index_rule computed_rule array_rule arguments_rule template_rule object_rule function_rule declared_rule parameters_rule no_parameters_rule one_parameter_rule stmt_rule item_rule block_rule for_rule script_rule rules heads reaches kinds unbroken_kinds names reserved kind_of class_of place_in marks words contextual entry nullable firsts among alike kept many_at read_at read
pattern_without_value = refl

-- for (let [a]; ;) ;
pub pattern_without_value_in_head : answers 200 (plain (Word (codes "for")) ∷ plain (Mark 2) ∷ plain (Word (codes "let")) ∷ plain (Mark 4) ∷ plain (Name (codes "a")) ∷ plain (Mark 5) ∷ plain (Mark 6) ∷ plain (Mark 6) ∷ plain (Mark 3) ∷ plain (Mark 6) ∷ plain End ∷ []) (Some false) 5
unfolding script_language pattern_rule primary_rule member_rule left_rule unary_rule mul_rule add_rule shift_rule rel_rule equal_rule bit_and_rule bit_xor_rule bit_or_rule and_rule or_rule short_rule cond_rule assign_rule expr_rule arrow_rule prefixed_rule new_rule group_rule index_rule computed_rule array_rule arguments_rule template_rule object_rule function_rule declared_rule parameters_rule no_parameters_rule one_parameter_rule stmt_rule item_rule block_rule for_rule script_rule rules heads reaches kinds unbroken_kinds names reserved kind_of class_of place_in marks words contextual entry nullable firsts among alike kept many_at read_at read
pattern_without_value_in_head = refl

-- const x;
pub const_without_value : answers 200 (plain (Word (codes "const")) ∷ plain (Name (codes "x")) ∷ plain (Mark 6) ∷ plain End ∷ []) (Some false) 2
unfolding script_language pattern_rule primary_rule member_rule left_rule unary_rule mul_rule add_rule shift_rule rel_rule equal_rule bit_and_rule bit_xor_rule bit_or_rule and_rule or_rule short_rule cond_rule assign_rule expr_rule arrow_rule prefixed_rule new_rule group_rule index_rule computed_rule array_rule arguments_rule template_rule object_rule function_rule declared_rule parameters_rule no_parameters_rule one_parameter_rule stmt_rule item_rule block_rule for_rule script_rule rules heads reaches kinds unbroken_kinds names reserved kind_of class_of place_in marks words contextual entry nullable firsts among alike kept many_at read_at read
const_without_value = refl

-- function f(...a, b) {}
pub rest_not_last : answers 200 (plain (Word (codes "function")) ∷ plain (Name (codes "f")) ∷ plain (Mark 2) ∷ plain (Mark 9) ∷ plain (Name (codes "a")) ∷ plain (Mark 7) ∷ plain (Name (codes "b")) ∷ plain (Mark 3) ∷ plain (Mark 0) ∷ plain (Mark 1) ∷ plain End ∷ []) (Some false) 6
unfolding script_language pattern_rule primary_rule member_rule left_rule unary_rule mul_rule add_rule shift_rule rel_rule equal_rule bit_and_rule bit_xor_rule bit_or_rule and_rule or_rule short_rule cond_rule assign_rule expr_rule arrow_rule prefixed_rule new_rule group_rule index_rule computed_rule array_rule arguments_rule template_rule object_rule function_rule declared_rule parameters_rule no_parameters_rule one_parameter_rule stmt_rule item_rule block_rule for_rule script_rule rules heads reaches kinds unbroken_kinds names reserved kind_of class_of place_in marks words contextual entry nullable firsts among alike kept many_at read_at read
rest_not_last = refl

-- (a, ...b,) => 1;
pub comma_behind_rest : answers 200 (plain (Mark 2) ∷ plain (Name (codes "a")) ∷ plain (Mark 7) ∷ plain (Mark 9) ∷ plain (Name (codes "b")) ∷ plain (Mark 7) ∷ plain (Mark 3) ∷ plain (Mark 42) ∷ plain (Number (pos 1)) ∷ plain (Mark 6) ∷ plain End ∷ []) (Some false) 6
unfolding script_language pattern_rule primary_rule member_rule left_rule unary_rule mul_rule add_rule shift_rule rel_rule equal_rule bit_and_rule bit_xor_rule bit_or_rule and_rule or_rule short_rule cond_rule assign_rule expr_rule arrow_rule prefixed_rule new_rule group_rule index_rule computed_rule array_rule arguments_rule template_rule object_rule function_rule declared_rule parameters_rule no_parameters_rule one_parameter_rule stmt_rule item_rule block_rule for_rule script_rule rules heads reaches kinds unbroken_kinds names reserved kind_of class_of place_in marks words contextual entry nullable firsts among alike kept many_at read_at read
comma_behind_rest = refl

-- function f(a, b,) {} f(a, ...b,); [a,]; ({a,}); [a, b,] = c;
pub comma_ends : answers 200 (plain (Word (codes "function")) ∷ plain (Name (codes "f")) ∷ plain (Mark 2) ∷ plain (Name (codes "a")) ∷ plain (Mark 7) ∷ plain (Name (codes "b")) ∷ plain (Mark 7) ∷ plain (Mark 3) ∷ plain (Mark 0) ∷ plain (Mark 1) ∷ plain (Name (codes "f")) ∷ plain (Mark 2) ∷ plain (Name (codes "a")) ∷ plain (Mark 7) ∷ plain (Mark 9) ∷ plain (Name (codes "b")) ∷ plain (Mark 7) ∷ plain (Mark 3) ∷ plain (Mark 6) ∷ plain (Mark 4) ∷ plain (Name (codes "a")) ∷ plain (Mark 7) ∷ plain (Mark 5) ∷ plain (Mark 6) ∷ plain (Mark 2) ∷ plain (Mark 0) ∷ plain (Name (codes "a")) ∷ plain (Mark 7) ∷ plain (Mark 1) ∷ plain (Mark 3) ∷ plain (Mark 6) ∷ plain (Mark 4) ∷ plain (Name (codes "a")) ∷ plain (Mark 7) ∷ plain (Name (codes "b")) ∷ plain (Mark 7) ∷ plain (Mark 5) ∷ plain (Mark 34) ∷ plain (Name (codes "c")) ∷ plain (Mark 6) ∷ plain End ∷ []) None 0
unfolding script_language pattern_rule primary_rule member_rule left_rule unary_rule mul_rule add_rule shift_rule rel_rule equal_rule bit_and_rule bit_xor_rule bit_or_rule and_rule or_rule short_rule cond_rule assign_rule expr_rule arrow_rule prefixed_rule new_rule group_rule index_rule computed_rule array_rule arguments_rule template_rule object_rule function_rule declared_rule parameters_rule no_parameters_rule one_parameter_rule stmt_rule item_rule block_rule for_rule script_rule rules heads reaches kinds unbroken_kinds names reserved kind_of class_of place_in marks words contextual entry nullable firsts among alike kept many_at read_at read
comma_ends = refl

-- f(a, , b);
pub two_commas : answers 200 (plain (Name (codes "f")) ∷ plain (Mark 2) ∷ plain (Name (codes "a")) ∷ plain (Mark 7) ∷ plain (Mark 7) ∷ plain (Name (codes "b")) ∷ plain (Mark 3) ∷ plain (Mark 6) ∷ plain End ∷ []) (Some false) 5
unfolding script_language pattern_rule primary_rule member_rule left_rule unary_rule mul_rule add_rule shift_rule rel_rule equal_rule bit_and_rule bit_xor_rule bit_or_rule and_rule or_rule short_rule cond_rule assign_rule expr_rule arrow_rule prefixed_rule new_rule group_rule index_rule computed_rule array_rule arguments_rule template_rule object_rule function_rule declared_rule parameters_rule no_parameters_rule one_parameter_rule stmt_rule item_rule block_rule for_rule script_rule rules heads reaches kinds unbroken_kinds names reserved kind_of class_of place_in marks words contextual entry nullable firsts among alike kept many_at read_at read
two_commas = refl

-- ();
pub empty_brackets : answers 200 (plain (Mark 2) ∷ plain (Mark 3) ∷ plain (Mark 6) ∷ plain End ∷ []) (Some false) 2
unfolding script_language pattern_rule primary_rule member_rule left_rule unary_rule mul_rule add_rule shift_rule rel_rule equal_rule bit_and_rule bit_xor_rule bit_or_rule and_rule or_rule short_rule cond_rule assign_rule expr_rule arrow_rule prefixed_rule new_rule group_rule index_rule computed_rule array_rule arguments_rule template_rule object_rule function_rule declared_rule parameters_rule no_parameters_rule one_parameter_rule stmt_rule item_rule block_rule for_rule script_rule rules heads reaches kinds unbroken_kinds names reserved kind_of class_of place_in marks words contextual entry nullable firsts among alike kept many_at read_at read
empty_brackets = refl

-- (a, );
pub comma_in_group : answers 200 (plain (Mark 2) ∷ plain (Name (codes "a")) ∷ plain (Mark 7) ∷ plain (Mark 3) ∷ plain (Mark 6) ∷ plain End ∷ []) (Some false) 2
unfolding script_language pattern_rule primary_rule member_rule left_rule unary_rule mul_rule add_rule shift_rule rel_rule equal_rule bit_and_rule bit_xor_rule bit_or_rule and_rule or_rule short_rule cond_rule assign_rule expr_rule arrow_rule prefixed_rule new_rule group_rule index_rule computed_rule array_rule arguments_rule template_rule object_rule function_rule declared_rule parameters_rule no_parameters_rule one_parameter_rule stmt_rule item_rule block_rule for_rule script_rule rules heads reaches kinds unbroken_kinds names reserved kind_of class_of place_in marks words contextual entry nullable firsts among alike kept many_at read_at read
comma_in_group = refl

-- a ?? b || c;
pub coalesced_or : answers 200 (plain (Name (codes "a")) ∷ plain (Mark 31) ∷ plain (Name (codes "b")) ∷ plain (Mark 30) ∷ plain (Name (codes "c")) ∷ plain (Mark 6) ∷ plain End ∷ []) (Some false) 4
unfolding script_language pattern_rule primary_rule member_rule left_rule unary_rule mul_rule add_rule shift_rule rel_rule equal_rule bit_and_rule bit_xor_rule bit_or_rule and_rule or_rule short_rule cond_rule assign_rule expr_rule arrow_rule prefixed_rule new_rule group_rule index_rule computed_rule array_rule arguments_rule template_rule object_rule function_rule declared_rule parameters_rule no_parameters_rule one_parameter_rule stmt_rule item_rule block_rule for_rule script_rule rules heads reaches kinds unbroken_kinds names reserved kind_of class_of place_in marks words contextual entry nullable firsts among alike kept many_at read_at read
coalesced_or = refl

-- a || b ?? c;
pub or_coalesced : answers 200 (plain (Name (codes "a")) ∷ plain (Mark 30) ∷ plain (Name (codes "b")) ∷ plain (Mark 31) ∷ plain (Name (codes "c")) ∷ plain (Mark 6) ∷ plain End ∷ []) (Some false) 4
unfolding script_language pattern_rule primary_rule member_rule left_rule unary_rule mul_rule add_rule shift_rule rel_rule equal_rule bit_and_rule bit_xor_rule bit_or_rule and_rule or_rule short_rule cond_rule assign_rule expr_rule arrow_rule prefixed_rule new_rule group_rule index_rule computed_rule array_rule arguments_rule template_rule object_rule function_rule declared_rule parameters_rule no_parameters_rule one_parameter_rule stmt_rule item_rule block_rule for_rule script_rule rules heads reaches kinds unbroken_kinds names reserved kind_of class_of place_in marks words contextual entry nullable firsts among alike kept many_at read_at read
or_coalesced = refl

-- a | b ?? c ?? (d || e);
pub coalesced : answers 200 (plain (Name (codes "a")) ∷ plain (Mark 25) ∷ plain (Name (codes "b")) ∷ plain (Mark 31) ∷ plain (Name (codes "c")) ∷ plain (Mark 31) ∷ plain (Mark 2) ∷ plain (Name (codes "d")) ∷ plain (Mark 30) ∷ plain (Name (codes "e")) ∷ plain (Mark 3) ∷ plain (Mark 6) ∷ plain End ∷ []) None 0
unfolding script_language pattern_rule primary_rule member_rule left_rule unary_rule mul_rule add_rule shift_rule rel_rule equal_rule bit_and_rule bit_xor_rule bit_or_rule and_rule or_rule short_rule cond_rule assign_rule expr_rule arrow_rule prefixed_rule new_rule group_rule index_rule computed_rule array_rule arguments_rule template_rule object_rule function_rule declared_rule parameters_rule no_parameters_rule one_parameter_rule stmt_rule item_rule block_rule for_rule script_rule rules heads reaches kinds unbroken_kinds names reserved kind_of class_of place_in marks words contextual entry nullable firsts among alike kept many_at read_at read
coalesced = refl

-- a + b = 1;
pub sum_as_target : answers 200 (plain (Name (codes "a")) ∷ plain (Mark 16) ∷ plain (Name (codes "b")) ∷ plain (Mark 34) ∷ plain (Number (pos 1)) ∷ plain (Mark 6) ∷ plain End ∷ []) (Some false) 4
unfolding script_language pattern_rule primary_rule member_rule left_rule unary_rule mul_rule add_rule shift_rule rel_rule equal_rule bit_and_rule bit_xor_rule bit_or_rule and_rule or_rule short_rule cond_rule assign_rule expr_rule arrow_rule prefixed_rule new_rule group_rule index_rule computed_rule array_rule arguments_rule template_rule object_rule function_rule declared_rule parameters_rule no_parameters_rule one_parameter_rule stmt_rule item_rule block_rule for_rule script_rule rules heads reaches kinds unbroken_kinds names reserved kind_of class_of place_in marks words contextual entry nullable firsts among alike kept many_at read_at read
sum_as_target = refl

-- a ? b : c = d;
pub branch_as_target : answers 200 (plain (Name (codes "a")) ∷ plain (Mark 32) ∷ plain (Name (codes "b")) ∷ plain (Mark 33) ∷ plain (Name (codes "c")) ∷ plain (Mark 34) ∷ plain (Name (codes "d")) ∷ plain (Mark 6) ∷ plain End ∷ []) None 0
unfolding script_language pattern_rule primary_rule member_rule left_rule unary_rule mul_rule add_rule shift_rule rel_rule equal_rule bit_and_rule bit_xor_rule bit_or_rule and_rule or_rule short_rule cond_rule assign_rule expr_rule arrow_rule prefixed_rule new_rule group_rule index_rule computed_rule array_rule arguments_rule template_rule object_rule function_rule declared_rule parameters_rule no_parameters_rule one_parameter_rule stmt_rule item_rule block_rule for_rule script_rule rules heads reaches kinds unbroken_kinds names reserved kind_of class_of place_in marks words contextual entry nullable firsts among alike kept many_at read_at read
branch_as_target = refl

-- a = b ? c : d;
pub assigned_branch : answers 200 (plain (Name (codes "a")) ∷ plain (Mark 34) ∷ plain (Name (codes "b")) ∷ plain (Mark 32) ∷ plain (Name (codes "c")) ∷ plain (Mark 33) ∷ plain (Name (codes "d")) ∷ plain (Mark 6) ∷ plain End ∷ []) None 0
unfolding script_language pattern_rule primary_rule member_rule left_rule unary_rule mul_rule add_rule shift_rule rel_rule equal_rule bit_and_rule bit_xor_rule bit_or_rule and_rule or_rule short_rule cond_rule assign_rule expr_rule arrow_rule prefixed_rule new_rule group_rule index_rule computed_rule array_rule arguments_rule template_rule object_rule function_rule declared_rule parameters_rule no_parameters_rule one_parameter_rule stmt_rule item_rule block_rule for_rule script_rule rules heads reaches kinds unbroken_kinds names reserved kind_of class_of place_in marks words contextual entry nullable firsts among alike kept many_at read_at read
assigned_branch = refl

-- (a, b) = 1;
pub group_as_target : answers 200 (plain (Mark 2) ∷ plain (Name (codes "a")) ∷ plain (Mark 7) ∷ plain (Name (codes "b")) ∷ plain (Mark 3) ∷ plain (Mark 34) ∷ plain (Number (pos 1)) ∷ plain (Mark 6) ∷ plain End ∷ []) None 0
unfolding script_language pattern_rule primary_rule member_rule left_rule unary_rule mul_rule add_rule shift_rule rel_rule equal_rule bit_and_rule bit_xor_rule bit_or_rule and_rule or_rule short_rule cond_rule assign_rule expr_rule arrow_rule prefixed_rule new_rule group_rule index_rule computed_rule array_rule arguments_rule template_rule object_rule function_rule declared_rule parameters_rule no_parameters_rule one_parameter_rule stmt_rule item_rule block_rule for_rule script_rule rules heads reaches kinds unbroken_kinds names reserved kind_of class_of place_in marks words contextual entry nullable firsts among alike kept many_at read_at read
group_as_target = refl

-- f(a)[b].c **= 1;
pub operator_missing : answers 200 (plain (Name (codes "f")) ∷ plain (Mark 2) ∷ plain (Name (codes "a")) ∷ plain (Mark 3) ∷ plain (Mark 4) ∷ plain (Name (codes "b")) ∷ plain (Mark 5) ∷ plain (Mark 8) ∷ plain (Name (codes "c")) ∷ plain (Mark 18) ∷ plain (Mark 37) ∷ plain (Number (pos 1)) ∷ plain (Mark 6) ∷ plain End ∷ []) (Some false) 4
unfolding script_language pattern_rule primary_rule member_rule left_rule unary_rule mul_rule add_rule shift_rule rel_rule equal_rule bit_and_rule bit_xor_rule bit_or_rule and_rule or_rule short_rule cond_rule assign_rule expr_rule arrow_rule prefixed_rule new_rule group_rule index_rule computed_rule array_rule arguments_rule template_rule object_rule function_rule declared_rule parameters_rule no_parameters_rule one_parameter_rule stmt_rule item_rule block_rule for_rule script_rule rules heads reaches kinds unbroken_kinds names reserved kind_of class_of place_in marks words contextual entry nullable firsts among alike kept many_at read_at read
operator_missing = refl

-- new a.b(c)(d).e;
pub new_with_members : answers 200 (plain (Word (codes "new")) ∷ plain (Name (codes "a")) ∷ plain (Mark 8) ∷ plain (Name (codes "b")) ∷ plain (Mark 2) ∷ plain (Name (codes "c")) ∷ plain (Mark 3) ∷ plain (Mark 2) ∷ plain (Name (codes "d")) ∷ plain (Mark 3) ∷ plain (Mark 8) ∷ plain (Name (codes "e")) ∷ plain (Mark 6) ∷ plain End ∷ []) None 0
unfolding script_language pattern_rule primary_rule member_rule left_rule unary_rule mul_rule add_rule shift_rule rel_rule equal_rule bit_and_rule bit_xor_rule bit_or_rule and_rule or_rule short_rule cond_rule assign_rule expr_rule arrow_rule prefixed_rule new_rule group_rule index_rule computed_rule array_rule arguments_rule template_rule object_rule function_rule declared_rule parameters_rule no_parameters_rule one_parameter_rule stmt_rule item_rule block_rule for_rule script_rule rules heads reaches kinds unbroken_kinds names reserved kind_of class_of place_in marks words contextual entry nullable firsts among alike kept many_at read_at read
new_with_members = refl

-- new new a(1)(2)(3);
pub new_twice : answers 200 (plain (Word (codes "new")) ∷ plain (Word (codes "new")) ∷ plain (Name (codes "a")) ∷ plain (Mark 2) ∷ plain (Number (pos 1)) ∷ plain (Mark 3) ∷ plain (Mark 2) ∷ plain (Number (pos 2)) ∷ plain (Mark 3) ∷ plain (Mark 2) ∷ plain (Number (pos 3)) ∷ plain (Mark 3) ∷ plain (Mark 6) ∷ plain End ∷ []) None 0
unfolding script_language pattern_rule primary_rule member_rule left_rule unary_rule mul_rule add_rule shift_rule rel_rule equal_rule bit_and_rule bit_xor_rule bit_or_rule and_rule or_rule short_rule cond_rule assign_rule expr_rule arrow_rule prefixed_rule new_rule group_rule index_rule computed_rule array_rule arguments_rule template_rule object_rule function_rule declared_rule parameters_rule no_parameters_rule one_parameter_rule stmt_rule item_rule block_rule for_rule script_rule rules heads reaches kinds unbroken_kinds names reserved kind_of class_of place_in marks words contextual entry nullable firsts among alike kept many_at read_at read
new_twice = refl

-- new a.b;
pub new_alone : answers 200 (plain (Word (codes "new")) ∷ plain (Name (codes "a")) ∷ plain (Mark 8) ∷ plain (Name (codes "b")) ∷ plain (Mark 6) ∷ plain End ∷ []) None 0
unfolding script_language pattern_rule primary_rule member_rule left_rule unary_rule mul_rule add_rule shift_rule rel_rule equal_rule bit_and_rule bit_xor_rule bit_or_rule and_rule or_rule short_rule cond_rule assign_rule expr_rule arrow_rule prefixed_rule new_rule group_rule index_rule computed_rule array_rule arguments_rule template_rule object_rule function_rule declared_rule parameters_rule no_parameters_rule one_parameter_rule stmt_rule item_rule block_rule for_rule script_rule rules heads reaches kinds unbroken_kinds names reserved kind_of class_of place_in marks words contextual entry nullable firsts among alike kept many_at read_at read
new_alone = refl

-- ({get a() {return 1;}, set a(b) {}, get: 1, set, of, [c]: 2, d() {}, 'e': 3, 4: 5, if: 6, get() {}, set});
pub members : answers 200 (plain (Mark 2) ∷ plain (Mark 0) ∷ plain (Name (codes "get")) ∷ plain (Name (codes "a")) ∷ plain (Mark 2) ∷ plain (Mark 3) ∷ plain (Mark 0) ∷ plain (Word (codes "return")) ∷ plain (Number (pos 1)) ∷ plain (Mark 6) ∷ plain (Mark 1) ∷ plain (Mark 7) ∷ plain (Name (codes "set")) ∷ plain (Name (codes "a")) ∷ plain (Mark 2) ∷ plain (Name (codes "b")) ∷ plain (Mark 3) ∷ plain (Mark 0) ∷ plain (Mark 1) ∷ plain (Mark 7) ∷ plain (Name (codes "get")) ∷ plain (Mark 33) ∷ plain (Number (pos 1)) ∷ plain (Mark 7) ∷ plain (Name (codes "set")) ∷ plain (Mark 7) ∷ plain (Name (codes "of")) ∷ plain (Mark 7) ∷ plain (Mark 4) ∷ plain (Name (codes "c")) ∷ plain (Mark 5) ∷ plain (Mark 33) ∷ plain (Number (pos 2)) ∷ plain (Mark 7) ∷ plain (Name (codes "d")) ∷ plain (Mark 2) ∷ plain (Mark 3) ∷ plain (Mark 0) ∷ plain (Mark 1) ∷ plain (Mark 7) ∷ plain (Text (codes "e")) ∷ plain (Mark 33) ∷ plain (Number (pos 3)) ∷ plain (Mark 7) ∷ plain (Number (pos 4)) ∷ plain (Mark 33) ∷ plain (Number (pos 5)) ∷ plain (Mark 7) ∷ plain (Word (codes "if")) ∷ plain (Mark 33) ∷ plain (Number (pos 6)) ∷ plain (Mark 7) ∷ plain (Name (codes "get")) ∷ plain (Mark 2) ∷ plain (Mark 3) ∷ plain (Mark 0) ∷ plain (Mark 1) ∷ plain (Mark 7) ∷ plain (Name (codes "set")) ∷ plain (Mark 1) ∷ plain (Mark 3) ∷ plain (Mark 6) ∷ plain End ∷ []) None 0
unfolding script_language pattern_rule primary_rule member_rule left_rule unary_rule mul_rule add_rule shift_rule rel_rule equal_rule bit_and_rule bit_xor_rule bit_or_rule and_rule or_rule short_rule cond_rule assign_rule expr_rule arrow_rule prefixed_rule new_rule group_rule index_rule computed_rule array_rule arguments_rule template_rule object_rule function_rule declared_rule parameters_rule no_parameters_rule one_parameter_rule stmt_rule item_rule block_rule for_rule script_rule rules heads reaches kinds unbroken_kinds names reserved kind_of class_of place_in marks words contextual entry nullable firsts among alike kept many_at read_at read
members = refl

-- ({1});
pub key_alone : answers 200 (plain (Mark 2) ∷ plain (Mark 0) ∷ plain (Number (pos 1)) ∷ plain (Mark 1) ∷ plain (Mark 3) ∷ plain (Mark 6) ∷ plain End ∷ []) (Some false) 4
unfolding script_language pattern_rule primary_rule member_rule left_rule unary_rule mul_rule add_rule shift_rule rel_rule equal_rule bit_and_rule bit_xor_rule bit_or_rule and_rule or_rule short_rule cond_rule assign_rule expr_rule arrow_rule prefixed_rule new_rule group_rule index_rule computed_rule array_rule arguments_rule template_rule object_rule function_rule declared_rule parameters_rule no_parameters_rule one_parameter_rule stmt_rule item_rule block_rule for_rule script_rule rules heads reaches kinds unbroken_kinds names reserved kind_of class_of place_in marks words contextual entry nullable firsts among alike kept many_at read_at read
key_alone = refl

-- ({if});
pub word_alone : answers 200 (plain (Mark 2) ∷ plain (Mark 0) ∷ plain (Word (codes "if")) ∷ plain (Mark 1) ∷ plain (Mark 3) ∷ plain (Mark 6) ∷ plain End ∷ []) (Some false) 4
unfolding script_language pattern_rule primary_rule member_rule left_rule unary_rule mul_rule add_rule shift_rule rel_rule equal_rule bit_and_rule bit_xor_rule bit_or_rule and_rule or_rule short_rule cond_rule assign_rule expr_rule arrow_rule prefixed_rule new_rule group_rule index_rule computed_rule array_rule arguments_rule template_rule object_rule function_rule declared_rule parameters_rule no_parameters_rule one_parameter_rule stmt_rule item_rule block_rule for_rule script_rule rules heads reaches kinds unbroken_kinds names reserved kind_of class_of place_in marks words contextual entry nullable firsts among alike kept many_at read_at read
word_alone = refl

-- ({get a(b) {}});
pub getter_with_parameter : answers 200 (plain (Mark 2) ∷ plain (Mark 0) ∷ plain (Name (codes "get")) ∷ plain (Name (codes "a")) ∷ plain (Mark 2) ∷ plain (Name (codes "b")) ∷ plain (Mark 3) ∷ plain (Mark 0) ∷ plain (Mark 1) ∷ plain (Mark 1) ∷ plain (Mark 3) ∷ plain (Mark 6) ∷ plain End ∷ []) (Some false) 8
unfolding script_language pattern_rule primary_rule member_rule left_rule unary_rule mul_rule add_rule shift_rule rel_rule equal_rule bit_and_rule bit_xor_rule bit_or_rule and_rule or_rule short_rule cond_rule assign_rule expr_rule arrow_rule prefixed_rule new_rule group_rule index_rule computed_rule array_rule arguments_rule template_rule object_rule function_rule declared_rule parameters_rule no_parameters_rule one_parameter_rule stmt_rule item_rule block_rule for_rule script_rule rules heads reaches kinds unbroken_kinds names reserved kind_of class_of place_in marks words contextual entry nullable firsts among alike kept many_at read_at read
getter_with_parameter = refl

-- (x) => {}.y;
pub behind_arrow_block : answers 200 (plain (Mark 2) ∷ plain (Name (codes "x")) ∷ plain (Mark 3) ∷ plain (Mark 42) ∷ plain (Mark 0) ∷ plain (Mark 1) ∷ plain (Mark 8) ∷ plain (Name (codes "y")) ∷ plain (Mark 6) ∷ plain End ∷ []) (Some false) 4
unfolding script_language pattern_rule primary_rule member_rule left_rule unary_rule mul_rule add_rule shift_rule rel_rule equal_rule bit_and_rule bit_xor_rule bit_or_rule and_rule or_rule short_rule cond_rule assign_rule expr_rule arrow_rule prefixed_rule new_rule group_rule index_rule computed_rule array_rule arguments_rule template_rule object_rule function_rule declared_rule parameters_rule no_parameters_rule one_parameter_rule stmt_rule item_rule block_rule for_rule script_rule rules heads reaches kinds unbroken_kinds names reserved kind_of class_of place_in marks words contextual entry nullable firsts among alike kept many_at read_at read
behind_arrow_block = refl

-- a => ({b});
pub arrow_to_object : answers 200 (plain (Name (codes "a")) ∷ plain (Mark 42) ∷ plain (Mark 2) ∷ plain (Mark 0) ∷ plain (Name (codes "b")) ∷ plain (Mark 1) ∷ plain (Mark 3) ∷ plain (Mark 6) ∷ plain End ∷ []) None 0
unfolding script_language pattern_rule primary_rule member_rule left_rule unary_rule mul_rule add_rule shift_rule rel_rule equal_rule bit_and_rule bit_xor_rule bit_or_rule and_rule or_rule short_rule cond_rule assign_rule expr_rule arrow_rule prefixed_rule new_rule group_rule index_rule computed_rule array_rule arguments_rule template_rule object_rule function_rule declared_rule parameters_rule no_parameters_rule one_parameter_rule stmt_rule item_rule block_rule for_rule script_rule rules heads reaches kinds unbroken_kinds names reserved kind_of class_of place_in marks words contextual entry nullable firsts among alike kept many_at read_at read
arrow_to_object = refl

-- a => (b, {c = d}, [e] = f, ...g) => h;
pub arrow_in_arrow : answers 200 (plain (Name (codes "a")) ∷ plain (Mark 42) ∷ plain (Mark 2) ∷ plain (Name (codes "b")) ∷ plain (Mark 7) ∷ plain (Mark 0) ∷ plain (Name (codes "c")) ∷ plain (Mark 34) ∷ plain (Name (codes "d")) ∷ plain (Mark 1) ∷ plain (Mark 7) ∷ plain (Mark 4) ∷ plain (Name (codes "e")) ∷ plain (Mark 5) ∷ plain (Mark 34) ∷ plain (Name (codes "f")) ∷ plain (Mark 7) ∷ plain (Mark 9) ∷ plain (Name (codes "g")) ∷ plain (Mark 3) ∷ plain (Mark 42) ∷ plain (Name (codes "h")) ∷ plain (Mark 6) ∷ plain End ∷ []) None 0
unfolding script_language pattern_rule primary_rule member_rule left_rule unary_rule mul_rule add_rule shift_rule rel_rule equal_rule bit_and_rule bit_xor_rule bit_or_rule and_rule or_rule short_rule cond_rule assign_rule expr_rule arrow_rule prefixed_rule new_rule group_rule index_rule computed_rule array_rule arguments_rule template_rule object_rule function_rule declared_rule parameters_rule no_parameters_rule one_parameter_rule stmt_rule item_rule block_rule for_rule script_rule rules heads reaches kinds unbroken_kinds names reserved kind_of class_of place_in marks words contextual entry nullable firsts among alike kept many_at read_at read
arrow_in_arrow = refl

-- a.if.new;
pub word_as_member : answers 200 (plain (Name (codes "a")) ∷ plain (Mark 8) ∷ plain (Word (codes "if")) ∷ plain (Mark 8) ∷ plain (Word (codes "new")) ∷ plain (Mark 6) ∷ plain End ∷ []) None 0
unfolding script_language pattern_rule primary_rule member_rule left_rule unary_rule mul_rule add_rule shift_rule rel_rule equal_rule bit_and_rule bit_xor_rule bit_or_rule and_rule or_rule short_rule cond_rule assign_rule expr_rule arrow_rule prefixed_rule new_rule group_rule index_rule computed_rule array_rule arguments_rule template_rule object_rule function_rule declared_rule parameters_rule no_parameters_rule one_parameter_rule stmt_rule item_rule block_rule for_rule script_rule rules heads reaches kinds unbroken_kinds names reserved kind_of class_of place_in marks words contextual entry nullable firsts among alike kept many_at read_at read
word_as_member = refl

-- import(x);
pub reserved_word : answers 200 (plain (Word (codes "import")) ∷ plain (Mark 2) ∷ plain (Name (codes "x")) ∷ plain (Mark 3) ∷ plain (Mark 6) ∷ plain End ∷ []) (Some false) 6
unfolding script_language pattern_rule primary_rule member_rule left_rule unary_rule mul_rule add_rule shift_rule rel_rule equal_rule bit_and_rule bit_xor_rule bit_or_rule and_rule or_rule short_rule cond_rule assign_rule expr_rule arrow_rule prefixed_rule new_rule group_rule index_rule computed_rule array_rule arguments_rule template_rule object_rule function_rule declared_rule parameters_rule no_parameters_rule one_parameter_rule stmt_rule item_rule block_rule for_rule script_rule rules heads reaches kinds unbroken_kinds names reserved kind_of class_of place_in marks words contextual entry nullable firsts among alike kept many_at read_at read
reserved_word = refl

-- let let = 1;
pub let_let : answers 200 (plain (Word (codes "let")) ∷ plain (Word (codes "let")) ∷ plain (Mark 34) ∷ plain (Number (pos 1)) ∷ plain (Mark 6) ∷ plain End ∷ []) (Some false) 5
unfolding script_language pattern_rule primary_rule member_rule left_rule unary_rule mul_rule add_rule shift_rule rel_rule equal_rule bit_and_rule bit_xor_rule bit_or_rule and_rule or_rule short_rule cond_rule assign_rule expr_rule arrow_rule prefixed_rule new_rule group_rule index_rule computed_rule array_rule arguments_rule template_rule object_rule function_rule declared_rule parameters_rule no_parameters_rule one_parameter_rule stmt_rule item_rule block_rule for_rule script_rule rules heads reaches kinds unbroken_kinds names reserved kind_of class_of place_in marks words contextual entry nullable firsts among alike kept many_at read_at read
let_let = refl

-- `a`; `${a}${b, c}d`;
pub templates : answers 200 (plain (Piece [] true true) ∷ plain (Mark 6) ∷ plain (Piece [] true false) ∷ plain (Name (codes "a")) ∷ plain (Piece [] false false) ∷ plain (Name (codes "b")) ∷ plain (Mark 7) ∷ plain (Name (codes "c")) ∷ plain (Piece [] false true) ∷ plain (Mark 6) ∷ plain End ∷ []) None 0
unfolding script_language pattern_rule primary_rule member_rule left_rule unary_rule mul_rule add_rule shift_rule rel_rule equal_rule bit_and_rule bit_xor_rule bit_or_rule and_rule or_rule short_rule cond_rule assign_rule expr_rule arrow_rule prefixed_rule new_rule group_rule index_rule computed_rule array_rule arguments_rule template_rule object_rule function_rule declared_rule parameters_rule no_parameters_rule one_parameter_rule stmt_rule item_rule block_rule for_rule script_rule rules heads reaches kinds unbroken_kinds names reserved kind_of class_of place_in marks words contextual entry nullable firsts among alike kept many_at read_at read
templates = refl

-- `${}`;
pub template_part_missing : answers 200 (plain (Piece [] true false) ∷ plain (Piece [] false true) ∷ plain (Mark 6) ∷ plain End ∷ []) (Some false) 3
unfolding script_language pattern_rule primary_rule member_rule left_rule unary_rule mul_rule add_rule shift_rule rel_rule equal_rule bit_and_rule bit_xor_rule bit_or_rule and_rule or_rule short_rule cond_rule assign_rule expr_rule arrow_rule prefixed_rule new_rule group_rule index_rule computed_rule array_rule arguments_rule template_rule object_rule function_rule declared_rule parameters_rule no_parameters_rule one_parameter_rule stmt_rule item_rule block_rule for_rule script_rule rules heads reaches kinds unbroken_kinds names reserved kind_of class_of place_in marks words contextual entry nullable firsts among alike kept many_at read_at read
template_part_missing = refl

-- delete a.b, typeof void !~+-++a, b++;
pub unary : answers 200 (plain (Word (codes "delete")) ∷ plain (Name (codes "a")) ∷ plain (Mark 8) ∷ plain (Name (codes "b")) ∷ plain (Mark 7) ∷ plain (Word (codes "typeof")) ∷ plain (Word (codes "void")) ∷ plain (Mark 27) ∷ plain (Mark 28) ∷ plain (Mark 16) ∷ plain (Mark 17) ∷ plain (Mark 40) ∷ plain (Name (codes "a")) ∷ plain (Mark 7) ∷ plain (Name (codes "b")) ∷ plain (Mark 40) ∷ plain (Mark 6) ∷ plain End ∷ []) None 0
unfolding script_language pattern_rule primary_rule member_rule left_rule unary_rule mul_rule add_rule shift_rule rel_rule equal_rule bit_and_rule bit_xor_rule bit_or_rule and_rule or_rule short_rule cond_rule assign_rule expr_rule arrow_rule prefixed_rule new_rule group_rule index_rule computed_rule array_rule arguments_rule template_rule object_rule function_rule declared_rule parameters_rule no_parameters_rule one_parameter_rule stmt_rule item_rule block_rule for_rule script_rule rules heads reaches kinds unbroken_kinds names reserved kind_of class_of place_in marks words contextual entry nullable firsts among alike kept many_at read_at read
unary = refl

-- do ; while (a);
pub do_while : answers 200 (plain (Word (codes "do")) ∷ plain (Mark 6) ∷ plain (Word (codes "while")) ∷ plain (Mark 2) ∷ plain (Name (codes "a")) ∷ plain (Mark 3) ∷ plain (Mark 6) ∷ plain End ∷ []) None 0
unfolding script_language pattern_rule primary_rule member_rule left_rule unary_rule mul_rule add_rule shift_rule rel_rule equal_rule bit_and_rule bit_xor_rule bit_or_rule and_rule or_rule short_rule cond_rule assign_rule expr_rule arrow_rule prefixed_rule new_rule group_rule index_rule computed_rule array_rule arguments_rule template_rule object_rule function_rule declared_rule parameters_rule no_parameters_rule one_parameter_rule stmt_rule item_rule block_rule for_rule script_rule rules heads reaches kinds unbroken_kinds names reserved kind_of class_of place_in marks words contextual entry nullable firsts among alike kept many_at read_at read
do_while = refl

-- do ; while (a)
pub do_while_unended : answers 200 (plain (Word (codes "do")) ∷ plain (Mark 6) ∷ plain (Word (codes "while")) ∷ plain (Mark 2) ∷ plain (Name (codes "a")) ∷ plain (Mark 3) ∷ plain End ∷ []) (Some false) 1
unfolding script_language pattern_rule primary_rule member_rule left_rule unary_rule mul_rule add_rule shift_rule rel_rule equal_rule bit_and_rule bit_xor_rule bit_or_rule and_rule or_rule short_rule cond_rule assign_rule expr_rule arrow_rule prefixed_rule new_rule group_rule index_rule computed_rule array_rule arguments_rule template_rule object_rule function_rule declared_rule parameters_rule no_parameters_rule one_parameter_rule stmt_rule item_rule block_rule for_rule script_rule rules heads reaches kinds unbroken_kinds names reserved kind_of class_of place_in marks words contextual entry nullable firsts among alike kept many_at read_at read
do_while_unended = refl

-- (function () {})();
pub call_of_function : answers 200 (plain (Mark 2) ∷ plain (Word (codes "function")) ∷ plain (Mark 2) ∷ plain (Mark 3) ∷ plain (Mark 0) ∷ plain (Mark 1) ∷ plain (Mark 3) ∷ plain (Mark 2) ∷ plain (Mark 3) ∷ plain (Mark 6) ∷ plain End ∷ []) None 0
unfolding script_language pattern_rule primary_rule member_rule left_rule unary_rule mul_rule add_rule shift_rule rel_rule equal_rule bit_and_rule bit_xor_rule bit_or_rule and_rule or_rule short_rule cond_rule assign_rule expr_rule arrow_rule prefixed_rule new_rule group_rule index_rule computed_rule array_rule arguments_rule template_rule object_rule function_rule declared_rule parameters_rule no_parameters_rule one_parameter_rule stmt_rule item_rule block_rule for_rule script_rule rules heads reaches kinds unbroken_kinds names reserved kind_of class_of place_in marks words contextual entry nullable firsts among alike kept many_at read_at read
call_of_function = refl

-- function () {}
pub statement_of_function : answers 200 (plain (Word (codes "function")) ∷ plain (Mark 2) ∷ plain (Mark 3) ∷ plain (Mark 0) ∷ plain (Mark 1) ∷ plain End ∷ []) (Some false) 5
unfolding script_language pattern_rule primary_rule member_rule left_rule unary_rule mul_rule add_rule shift_rule rel_rule equal_rule bit_and_rule bit_xor_rule bit_or_rule and_rule or_rule short_rule cond_rule assign_rule expr_rule arrow_rule prefixed_rule new_rule group_rule index_rule computed_rule array_rule arguments_rule template_rule object_rule function_rule declared_rule parameters_rule no_parameters_rule one_parameter_rule stmt_rule item_rule block_rule for_rule script_rule rules heads reaches kinds unbroken_kinds names reserved kind_of class_of place_in marks words contextual entry nullable firsts among alike kept many_at read_at read
statement_of_function = refl

-- a b;
pub no_semicolon : answers 200 (plain (Name (codes "a")) ∷ plain (Name (codes "b")) ∷ plain (Mark 6) ∷ plain End ∷ []) (Some false) 3
unfolding script_language pattern_rule primary_rule member_rule left_rule unary_rule mul_rule add_rule shift_rule rel_rule equal_rule bit_and_rule bit_xor_rule bit_or_rule and_rule or_rule short_rule cond_rule assign_rule expr_rule arrow_rule prefixed_rule new_rule group_rule index_rule computed_rule array_rule arguments_rule template_rule object_rule function_rule declared_rule parameters_rule no_parameters_rule one_parameter_rule stmt_rule item_rule block_rule for_rule script_rule rules heads reaches kinds unbroken_kinds names reserved kind_of class_of place_in marks words contextual entry nullable firsts among alike kept many_at read_at read
no_semicolon = refl

-- ((a));
pub second_group_too_deep : answers 1 (plain (Mark 2) ∷ plain (Mark 2) ∷ plain (Name (codes "a")) ∷ plain (Mark 3) ∷ plain (Mark 3) ∷ plain (Mark 6) ∷ plain End ∷ []) (Some true) 6
unfolding script_language pattern_rule primary_rule member_rule left_rule unary_rule mul_rule add_rule shift_rule rel_rule equal_rule bit_and_rule bit_xor_rule bit_or_rule and_rule or_rule short_rule cond_rule assign_rule expr_rule arrow_rule prefixed_rule new_rule group_rule index_rule computed_rule array_rule arguments_rule template_rule object_rule function_rule declared_rule parameters_rule no_parameters_rule one_parameter_rule stmt_rule item_rule block_rule for_rule script_rule rules heads reaches kinds unbroken_kinds names reserved kind_of class_of place_in marks words contextual entry nullable firsts among alike kept many_at read_at read
second_group_too_deep = refl

-- ((a));
pub group_within : answers 2 (plain (Mark 2) ∷ plain (Mark 2) ∷ plain (Name (codes "a")) ∷ plain (Mark 3) ∷ plain (Mark 3) ∷ plain (Mark 6) ∷ plain End ∷ []) None 0
unfolding script_language pattern_rule primary_rule member_rule left_rule unary_rule mul_rule add_rule shift_rule rel_rule equal_rule bit_and_rule bit_xor_rule bit_or_rule and_rule or_rule short_rule cond_rule assign_rule expr_rule arrow_rule prefixed_rule new_rule group_rule index_rule computed_rule array_rule arguments_rule template_rule object_rule function_rule declared_rule parameters_rule no_parameters_rule one_parameter_rule stmt_rule item_rule block_rule for_rule script_rule rules heads reaches kinds unbroken_kinds names reserved kind_of class_of place_in marks words contextual entry nullable firsts among alike kept many_at read_at read
group_within = refl

-- (;
pub missing_not_deep : answers 1 (plain (Mark 2) ∷ plain (Mark 6) ∷ plain End ∷ []) (Some false) 2
unfolding script_language pattern_rule primary_rule member_rule left_rule unary_rule mul_rule add_rule shift_rule rel_rule equal_rule bit_and_rule bit_xor_rule bit_or_rule and_rule or_rule short_rule cond_rule assign_rule expr_rule arrow_rule prefixed_rule new_rule group_rule index_rule computed_rule array_rule arguments_rule template_rule object_rule function_rule declared_rule parameters_rule no_parameters_rule one_parameter_rule stmt_rule item_rule block_rule for_rule script_rule rules heads reaches kinds unbroken_kinds names reserved kind_of class_of place_in marks words contextual entry nullable firsts among alike kept many_at read_at read
missing_not_deep = refl

-- a = b = c;
pub right_side_too_deep : answers 1 (plain (Name (codes "a")) ∷ plain (Mark 34) ∷ plain (Name (codes "b")) ∷ plain (Mark 34) ∷ plain (Name (codes "c")) ∷ plain (Mark 6) ∷ plain End ∷ []) (Some true) 3
unfolding script_language pattern_rule primary_rule member_rule left_rule unary_rule mul_rule add_rule shift_rule rel_rule equal_rule bit_and_rule bit_xor_rule bit_or_rule and_rule or_rule short_rule cond_rule assign_rule expr_rule arrow_rule prefixed_rule new_rule group_rule index_rule computed_rule array_rule arguments_rule template_rule object_rule function_rule declared_rule parameters_rule no_parameters_rule one_parameter_rule stmt_rule item_rule block_rule for_rule script_rule rules heads reaches kinds unbroken_kinds names reserved kind_of class_of place_in marks words contextual entry nullable firsts among alike kept many_at read_at read
right_side_too_deep = refl

-- a ? b ? c : d : e;
pub branch_too_deep : answers 1 (plain (Name (codes "a")) ∷ plain (Mark 32) ∷ plain (Name (codes "b")) ∷ plain (Mark 32) ∷ plain (Name (codes "c")) ∷ plain (Mark 33) ∷ plain (Name (codes "d")) ∷ plain (Mark 33) ∷ plain (Name (codes "e")) ∷ plain (Mark 6) ∷ plain End ∷ []) (Some true) 7
unfolding script_language pattern_rule primary_rule member_rule left_rule unary_rule mul_rule add_rule shift_rule rel_rule equal_rule bit_and_rule bit_xor_rule bit_or_rule and_rule or_rule short_rule cond_rule assign_rule expr_rule arrow_rule prefixed_rule new_rule group_rule index_rule computed_rule array_rule arguments_rule template_rule object_rule function_rule declared_rule parameters_rule no_parameters_rule one_parameter_rule stmt_rule item_rule block_rule for_rule script_rule rules heads reaches kinds unbroken_kinds names reserved kind_of class_of place_in marks words contextual entry nullable firsts among alike kept many_at read_at read
branch_too_deep = refl

-- if (a) {}
pub body_counts_twice : answers 1 (plain (Word (codes "if")) ∷ plain (Mark 2) ∷ plain (Name (codes "a")) ∷ plain (Mark 3) ∷ plain (Mark 0) ∷ plain (Mark 1) ∷ plain End ∷ []) (Some true) 3
unfolding script_language pattern_rule primary_rule member_rule left_rule unary_rule mul_rule add_rule shift_rule rel_rule equal_rule bit_and_rule bit_xor_rule bit_or_rule and_rule or_rule short_rule cond_rule assign_rule expr_rule arrow_rule prefixed_rule new_rule group_rule index_rule computed_rule array_rule arguments_rule template_rule object_rule function_rule declared_rule parameters_rule no_parameters_rule one_parameter_rule stmt_rule item_rule block_rule for_rule script_rule rules heads reaches kinds unbroken_kinds names reserved kind_of class_of place_in marks words contextual entry nullable firsts among alike kept many_at read_at read
body_counts_twice = refl

-- if (a) {}
pub body_within : answers 2 (plain (Word (codes "if")) ∷ plain (Mark 2) ∷ plain (Name (codes "a")) ∷ plain (Mark 3) ∷ plain (Mark 0) ∷ plain (Mark 1) ∷ plain End ∷ []) None 0
unfolding script_language pattern_rule primary_rule member_rule left_rule unary_rule mul_rule add_rule shift_rule rel_rule equal_rule bit_and_rule bit_xor_rule bit_or_rule and_rule or_rule short_rule cond_rule assign_rule expr_rule arrow_rule prefixed_rule new_rule group_rule index_rule computed_rule array_rule arguments_rule template_rule object_rule function_rule declared_rule parameters_rule no_parameters_rule one_parameter_rule stmt_rule item_rule block_rule for_rule script_rule rules heads reaches kinds unbroken_kinds names reserved kind_of class_of place_in marks words contextual entry nullable firsts among alike kept many_at read_at read
body_within = refl

-- function f() {}
pub function_too_deep : answers 1 (plain (Word (codes "function")) ∷ plain (Name (codes "f")) ∷ plain (Mark 2) ∷ plain (Mark 3) ∷ plain (Mark 0) ∷ plain (Mark 1) ∷ plain End ∷ []) (Some true) 5
unfolding script_language pattern_rule primary_rule member_rule left_rule unary_rule mul_rule add_rule shift_rule rel_rule equal_rule bit_and_rule bit_xor_rule bit_or_rule and_rule or_rule short_rule cond_rule assign_rule expr_rule arrow_rule prefixed_rule new_rule group_rule index_rule computed_rule array_rule arguments_rule template_rule object_rule function_rule declared_rule parameters_rule no_parameters_rule one_parameter_rule stmt_rule item_rule block_rule for_rule script_rule rules heads reaches kinds unbroken_kinds names reserved kind_of class_of place_in marks words contextual entry nullable firsts among alike kept many_at read_at read
function_too_deep = refl

-- (a => {});
pub arrow_too_deep : answers 2 (plain (Mark 2) ∷ plain (Name (codes "a")) ∷ plain (Mark 42) ∷ plain (Mark 0) ∷ plain (Mark 1) ∷ plain (Mark 3) ∷ plain (Mark 6) ∷ plain End ∷ []) (Some true) 5
unfolding script_language pattern_rule primary_rule member_rule left_rule unary_rule mul_rule add_rule shift_rule rel_rule equal_rule bit_and_rule bit_xor_rule bit_or_rule and_rule or_rule short_rule cond_rule assign_rule expr_rule arrow_rule prefixed_rule new_rule group_rule index_rule computed_rule array_rule arguments_rule template_rule object_rule function_rule declared_rule parameters_rule no_parameters_rule one_parameter_rule stmt_rule item_rule block_rule for_rule script_rule rules heads reaches kinds unbroken_kinds names reserved kind_of class_of place_in marks words contextual entry nullable firsts among alike kept many_at read_at read
arrow_too_deep = refl

-- (a => b);
pub arrow_within : answers 2 (plain (Mark 2) ∷ plain (Name (codes "a")) ∷ plain (Mark 42) ∷ plain (Name (codes "b")) ∷ plain (Mark 3) ∷ plain (Mark 6) ∷ plain End ∷ []) None 0
unfolding script_language pattern_rule primary_rule member_rule left_rule unary_rule mul_rule add_rule shift_rule rel_rule equal_rule bit_and_rule bit_xor_rule bit_or_rule and_rule or_rule short_rule cond_rule assign_rule expr_rule arrow_rule prefixed_rule new_rule group_rule index_rule computed_rule array_rule arguments_rule template_rule object_rule function_rule declared_rule parameters_rule no_parameters_rule one_parameter_rule stmt_rule item_rule block_rule for_rule script_rule rules heads reaches kinds unbroken_kinds names reserved kind_of class_of place_in marks words contextual entry nullable firsts among alike kept many_at read_at read
arrow_within = refl

-- ({a() {}});
pub method_too_deep : answers 2 (plain (Mark 2) ∷ plain (Mark 0) ∷ plain (Name (codes "a")) ∷ plain (Mark 2) ∷ plain (Mark 3) ∷ plain (Mark 0) ∷ plain (Mark 1) ∷ plain (Mark 1) ∷ plain (Mark 3) ∷ plain (Mark 6) ∷ plain End ∷ []) (Some true) 8
unfolding script_language pattern_rule primary_rule member_rule left_rule unary_rule mul_rule add_rule shift_rule rel_rule equal_rule bit_and_rule bit_xor_rule bit_or_rule and_rule or_rule short_rule cond_rule assign_rule expr_rule arrow_rule prefixed_rule new_rule group_rule index_rule computed_rule array_rule arguments_rule template_rule object_rule function_rule declared_rule parameters_rule no_parameters_rule one_parameter_rule stmt_rule item_rule block_rule for_rule script_rule rules heads reaches kinds unbroken_kinds names reserved kind_of class_of place_in marks words contextual entry nullable firsts among alike kept many_at read_at read
method_too_deep = refl

-- !!a;
pub unary_too_deep : answers 1 (plain (Mark 27) ∷ plain (Mark 27) ∷ plain (Name (codes "a")) ∷ plain (Mark 6) ∷ plain End ∷ []) (Some true) 4
unfolding script_language pattern_rule primary_rule member_rule left_rule unary_rule mul_rule add_rule shift_rule rel_rule equal_rule bit_and_rule bit_xor_rule bit_or_rule and_rule or_rule short_rule cond_rule assign_rule expr_rule arrow_rule prefixed_rule new_rule group_rule index_rule computed_rule array_rule arguments_rule template_rule object_rule function_rule declared_rule parameters_rule no_parameters_rule one_parameter_rule stmt_rule item_rule block_rule for_rule script_rule rules heads reaches kinds unbroken_kinds names reserved kind_of class_of place_in marks words contextual entry nullable firsts among alike kept many_at read_at read
unary_too_deep = refl

-- new a(b);
pub new_too_deep : answers 1 (plain (Word (codes "new")) ∷ plain (Name (codes "a")) ∷ plain (Mark 2) ∷ plain (Name (codes "b")) ∷ plain (Mark 3) ∷ plain (Mark 6) ∷ plain End ∷ []) (Some true) 5
unfolding script_language pattern_rule primary_rule member_rule left_rule unary_rule mul_rule add_rule shift_rule rel_rule equal_rule bit_and_rule bit_xor_rule bit_or_rule and_rule or_rule short_rule cond_rule assign_rule expr_rule arrow_rule prefixed_rule new_rule group_rule index_rule computed_rule array_rule arguments_rule template_rule object_rule function_rule declared_rule parameters_rule no_parameters_rule one_parameter_rule stmt_rule item_rule block_rule for_rule script_rule rules heads reaches kinds unbroken_kinds names reserved kind_of class_of place_in marks words contextual entry nullable firsts among alike kept many_at read_at read
new_too_deep = refl

-- ({a = b}) => c;
pub default_too_deep : answers 2 (plain (Mark 2) ∷ plain (Mark 0) ∷ plain (Name (codes "a")) ∷ plain (Mark 34) ∷ plain (Name (codes "b")) ∷ plain (Mark 1) ∷ plain (Mark 3) ∷ plain (Mark 42) ∷ plain (Name (codes "c")) ∷ plain (Mark 6) ∷ plain End ∷ []) (Some true) 7
unfolding script_language pattern_rule primary_rule member_rule left_rule unary_rule mul_rule add_rule shift_rule rel_rule equal_rule bit_and_rule bit_xor_rule bit_or_rule and_rule or_rule short_rule cond_rule assign_rule expr_rule arrow_rule prefixed_rule new_rule group_rule index_rule computed_rule array_rule arguments_rule template_rule object_rule function_rule declared_rule parameters_rule no_parameters_rule one_parameter_rule stmt_rule item_rule block_rule for_rule script_rule rules heads reaches kinds unbroken_kinds names reserved kind_of class_of place_in marks words contextual entry nullable firsts among alike kept many_at read_at read
default_too_deep = refl

-- let x = a;
pub initial_counts_nothing : answers 0 (plain (Word (codes "let")) ∷ plain (Name (codes "x")) ∷ plain (Mark 34) ∷ plain (Name (codes "a")) ∷ plain (Mark 6) ∷ plain End ∷ []) None 0
unfolding script_language pattern_rule primary_rule member_rule left_rule unary_rule mul_rule add_rule shift_rule rel_rule equal_rule bit_and_rule bit_xor_rule bit_or_rule and_rule or_rule short_rule cond_rule assign_rule expr_rule arrow_rule prefixed_rule new_rule group_rule index_rule computed_rule array_rule arguments_rule template_rule object_rule function_rule declared_rule parameters_rule no_parameters_rule one_parameter_rule stmt_rule item_rule block_rule for_rule script_rule rules heads reaches kinds unbroken_kinds names reserved kind_of class_of place_in marks words contextual entry nullable firsts among alike kept many_at read_at read
initial_counts_nothing = refl

-- let {a: {b}} = c;
pub pattern_too_deep : answers 1 (plain (Word (codes "let")) ∷ plain (Mark 0) ∷ plain (Name (codes "a")) ∷ plain (Mark 33) ∷ plain (Mark 0) ∷ plain (Name (codes "b")) ∷ plain (Mark 1) ∷ plain (Mark 1) ∷ plain (Mark 34) ∷ plain (Name (codes "c")) ∷ plain (Mark 6) ∷ plain End ∷ []) (Some true) 8
unfolding script_language pattern_rule primary_rule member_rule left_rule unary_rule mul_rule add_rule shift_rule rel_rule equal_rule bit_and_rule bit_xor_rule bit_or_rule and_rule or_rule short_rule cond_rule assign_rule expr_rule arrow_rule prefixed_rule new_rule group_rule index_rule computed_rule array_rule arguments_rule template_rule object_rule function_rule declared_rule parameters_rule no_parameters_rule one_parameter_rule stmt_rule item_rule block_rule for_rule script_rule rules heads reaches kinds unbroken_kinds names reserved kind_of class_of place_in marks words contextual entry nullable firsts among alike kept many_at read_at read
pattern_too_deep = refl

-- `${(a)}`;
pub template_too_deep : answers 1 (plain (Piece [] true false) ∷ plain (Mark 2) ∷ plain (Name (codes "a")) ∷ plain (Mark 3) ∷ plain (Piece [] false true) ∷ plain (Mark 6) ∷ plain End ∷ []) (Some true) 6
unfolding script_language pattern_rule primary_rule member_rule left_rule unary_rule mul_rule add_rule shift_rule rel_rule equal_rule bit_and_rule bit_xor_rule bit_or_rule and_rule or_rule short_rule cond_rule assign_rule expr_rule arrow_rule prefixed_rule new_rule group_rule index_rule computed_rule array_rule arguments_rule template_rule object_rule function_rule declared_rule parameters_rule no_parameters_rule one_parameter_rule stmt_rule item_rule block_rule for_rule script_rule rules heads reaches kinds unbroken_kinds names reserved kind_of class_of place_in marks words contextual entry nullable firsts among alike kept many_at read_at read
template_too_deep = refl
