-- Scripts and faults of scripts: by the parser, and by the derivation that the grammar's reader finds. A row has the tokens, and how deep they may nest.
use Rattle.std.proofs.Common.{true, false, ◌≡◌, ℕ, suc, List, [], ◌∷◌, Ok, Err, refl, codes}
use Rattle.std.specs.Prelude.{pos, Result}
use Rattle.grammar.specs.Kinds as sets
use Rattle.grammar.specs.Grammar as grammar
use Rattle.grammar.specs.Reading as reading
use Rattle.js_token.specs.declared.token.Token.{Token}
use Rattle.js_token.specs.declared.token.TokenKind.{TokenKind}
use Rattle.js_token.specs.declared.token.TokenKind.TheVariants as kind
use Rattle.js_grammar.specs.Kinds as kinds
use Rattle.js_grammar.specs.Script as rules
use Rattle.js_tree.specs.Nodes.{Nodes}
use Rattle.js_parse.specs.declared.fault.ParseFault.{ParseFault}
use Rattle.js_parse.specs.declared.fault.ParseFault.TheVariants as fault
use Rattle.js_parse.specs.Symbols as symbols
use Rattle.js_parse.specs.Operators as operators
use Rattle.js_parse.specs.Input as input
use Rattle.js_parse.specs.Input.{place_at}
use Rattle.js_parse.specs.Nesting as nesting
use Rattle.js_parse.specs.Parsing.{shown}
use Rattle.js_parse.specs.Grammar as g
use Rattle.js_parse.specs.Statements as st
use Rattle.parse_laws.specs.Trees as mk

abbrev pub plain : ℕ → TokenKind → Token
plain at k = record { place = at; broken = false; kind = k }

-- behind a line break
abbrev pub below_break : ℕ → TokenKind → Token
below_break at k = record { place = at; broken = true; kind = k }

-- the nodes by the derivation, or the fault
abbrev pub derived : ℕ → reading.Answer Token → Result Nodes ParseFault
derived depth (Ok p) = Ok (mk.nodes_of depth p.0)
derived depth (Err (true, left)) = Err (fault.Deep (place_at left))
derived depth (Err (false, left)) = Err (fault.Token (place_at left))

abbrev pub agrees : ℕ → List Token → Type 0
agrees depth tokens = shown (st.script (nesting.part_at depth) (tokens, [])) ≡ derived depth (reading.read rules.script_language 1000 (suc depth) rules.script tokens)

-- all by which they are read
unfoldable pub everything : Unit {0}
unfolding symbols.same symbols.jump_word symbols.control_word symbols.value_word symbols.operator_word symbols.of_word symbols.of_name symbols.of_mark symbols.of_kind operators.infix_at input.symbol input.place input.is_broken input.text input.number input.next input.is_arrow input.is_arrow_next input.is_arrow_ahead input.refusal input.sees input.after input.expect input.arrow input.name input.any_name input.add input.leaf input.fork nesting.begins_assign nesting.opens nesting.too_deep nesting.part_at g.comma_or g.listed_from g.bind_name g.below g.named_leaf g.number_leaf g.text_leaf g.template_leaf g.starts_key st.function_name st.jump g.chain_from g.chain g.node_of g.nodes_of g.parameters_of g.body_of g.head_of g.bind g.default_value g.bind_element g.bind_under g.bind_property g.bind_properties g.bind_elements g.object_pattern g.array_pattern g.pattern g.primary g.suffix g.suffixes_from g.suffixes g.left_side g.new_arguments g.new_call g.postfix g.unary g.prefix g.operations g.operand g.short g.conditional g.behind_operand g.unparenthesized g.arrow_of_name g.arrow_of_list g.arrow_first g.group_first g.parenthesized g.named g.assign g.sequence_from g.sequence g.expression g.arrow_body g.group g.index g.computed_key g.element g.elements g.arguments g.array g.template_from g.template_parts g.template g.property_key g.member_under g.shorthand g.named_member g.getter g.setter g.member g.members g.object g.rest_parameter g.parameters_from g.parameter_list g.parameters g.no_parameters g.setter_parameter st.function_rest st.function_expression st.function_declaration st.initial st.declarator st.declarators_from st.declarators st.declaration st.else_clause st.if_statement st.while_statement st.do_statement st.for_statement st.return_value st.return_statement st.throw_statement st.catch_parameter st.catch_clause st.finally_clause st.try_statement st.expression_statement st.statement st.declaration_statement st.item st.items_from st.items st.block g.catch_bind st.optional st.loop_head st.of_head st.declared_head st.declared st.for_head st.level st.script rules.script_language rules.pattern_rule rules.primary_rule rules.member_rule rules.left_rule rules.unary_rule rules.mul_rule rules.add_rule rules.shift_rule rules.rel_rule rules.equal_rule rules.bit_and_rule rules.bit_xor_rule rules.bit_or_rule rules.and_rule rules.or_rule rules.short_rule rules.cond_rule rules.assign_rule rules.expr_rule rules.arrow_rule rules.prefixed_rule rules.new_rule rules.group_rule rules.index_rule rules.computed_rule rules.array_rule rules.arguments_rule rules.template_rule rules.object_rule rules.function_rule rules.declared_rule rules.parameters_rule rules.no_parameters_rule rules.one_parameter_rule rules.stmt_rule rules.item_rule rules.block_rule rules.for_rule rules.script_rule rules.rules rules.heads rules.reaches kinds.kinds kinds.unbroken_kinds kinds.names kinds.reserved kinds.kind_of kinds.class_of kinds.place_in kinds.marks kinds.words kinds.contextual grammar.entry reading.nullable reading.firsts sets.among sets.alike sets.kept reading.many_at reading.read_at reading.read mk.first_token mk.members_behind mk.listed mk.all_behind mk.chain mk.bind_name mk.bind mk.default_value mk.bind_element mk.bind_under mk.bind_property mk.pattern mk.parameters_behind mk.parameter_list mk.parameters mk.catch_bind mk.setter_parameter mk.primary mk.suffixes mk.sided mk.new_call mk.unary mk.prefix mk.operand_at mk.operand mk.short_at mk.conditional_at mk.assign mk.sequence mk.expression mk.arrow_body mk.group mk.computed_key mk.element mk.arguments mk.array mk.stretches mk.template mk.property_key mk.member_under mk.shorthand mk.named_member mk.member mk.object mk.function_rest mk.function_expression mk.function_declaration mk.initial mk.declarator mk.declarators mk.declaration mk.if_statement mk.while_statement mk.do_statement mk.for_statement mk.return_statement mk.throw_statement mk.try_statement mk.expression_statement mk.statement mk.item mk.block mk.loop_head mk.declared mk.for_head mk.script mk.level mk.no_parts mk.parts_at mk.nodes_of
everything = tt

-- let x = 1, y; const {a: [b]} = c;
pub row_declared : agrees 200 (plain 0 (kind.Word (codes "let")) ∷ plain 1 (kind.Name (codes "x")) ∷ plain 2 (kind.Mark 34) ∷ plain 3 (kind.Number (pos 1)) ∷ plain 4 (kind.Mark 7) ∷ plain 5 (kind.Name (codes "y")) ∷ plain 6 (kind.Mark 6) ∷ plain 7 (kind.Word (codes "const")) ∷ plain 8 (kind.Mark 0) ∷ plain 9 (kind.Name (codes "a")) ∷ plain 10 (kind.Mark 33) ∷ plain 11 (kind.Mark 4) ∷ plain 12 (kind.Name (codes "b")) ∷ plain 13 (kind.Mark 5) ∷ plain 14 (kind.Mark 1) ∷ plain 15 (kind.Mark 34) ∷ plain 16 (kind.Name (codes "c")) ∷ plain 17 (kind.Mark 6) ∷ plain 18 kind.End ∷ [])
unfolding everything
row_declared = refl

-- ({a = 1}) b;
pub row_group_then_name : agrees 200 (plain 0 (kind.Mark 2) ∷ plain 1 (kind.Mark 0) ∷ plain 2 (kind.Name (codes "a")) ∷ plain 3 (kind.Mark 34) ∷ plain 4 (kind.Number (pos 1)) ∷ plain 5 (kind.Mark 1) ∷ plain 6 (kind.Mark 3) ∷ plain 7 (kind.Name (codes "b")) ∷ plain 8 (kind.Mark 6) ∷ plain 9 kind.End ∷ [])
unfolding everything
row_group_then_name = refl

-- (a, {b: c.d}) => 1;
pub row_no_pattern : agrees 200 (plain 0 (kind.Mark 2) ∷ plain 1 (kind.Name (codes "a")) ∷ plain 2 (kind.Mark 7) ∷ plain 3 (kind.Mark 0) ∷ plain 4 (kind.Name (codes "b")) ∷ plain 5 (kind.Mark 33) ∷ plain 6 (kind.Name (codes "c")) ∷ plain 7 (kind.Mark 8) ∷ plain 8 (kind.Name (codes "d")) ∷ plain 9 (kind.Mark 1) ∷ plain 10 (kind.Mark 3) ∷ plain 11 (kind.Mark 42) ∷ plain 12 (kind.Number (pos 1)) ∷ plain 13 (kind.Mark 6) ∷ plain 14 kind.End ∷ [])
unfolding everything
row_no_pattern = refl

-- if (a) if (b) ; else ;
pub row_nearest_if : agrees 200 (plain 0 (kind.Word (codes "if")) ∷ plain 1 (kind.Mark 2) ∷ plain 2 (kind.Name (codes "a")) ∷ plain 3 (kind.Mark 3) ∷ plain 4 (kind.Word (codes "if")) ∷ plain 5 (kind.Mark 2) ∷ plain 6 (kind.Name (codes "b")) ∷ plain 7 (kind.Mark 3) ∷ plain 8 (kind.Mark 6) ∷ plain 9 (kind.Word (codes "else")) ∷ plain 10 (kind.Mark 6) ∷ plain 11 kind.End ∷ [])
unfolding everything
row_nearest_if = refl

-- a [line break] ++;
pub row_postfix_after_break : agrees 200 (plain 0 (kind.Name (codes "a")) ∷ below_break 1 (kind.Mark 40) ∷ plain 2 (kind.Mark 6) ∷ plain 3 kind.End ∷ [])
unfolding everything
row_postfix_after_break = refl

-- return [line break] 1;
pub row_return_after_break : agrees 200 (plain 0 (kind.Word (codes "return")) ∷ below_break 1 (kind.Number (pos 1)) ∷ plain 2 (kind.Mark 6) ∷ plain 3 kind.End ∷ [])
unfolding everything
row_return_after_break = refl

-- return [line break] ;
pub row_return_nothing : agrees 200 (plain 0 (kind.Word (codes "return")) ∷ below_break 1 (kind.Mark 6) ∷ plain 2 kind.End ∷ [])
unfolding everything
row_return_nothing = refl

-- throw [line break] a;
pub row_throw_after_break : agrees 200 (plain 0 (kind.Word (codes "throw")) ∷ below_break 1 (kind.Name (codes "a")) ∷ plain 2 (kind.Mark 6) ∷ plain 3 kind.End ∷ [])
unfolding everything
row_throw_after_break = refl

-- a [line break] => 1;
pub row_arrow_after_break : agrees 200 (plain 0 (kind.Name (codes "a")) ∷ below_break 1 (kind.Mark 42) ∷ plain 2 (kind.Number (pos 1)) ∷ plain 3 (kind.Mark 6) ∷ plain 4 kind.End ∷ [])
unfolding everything
row_arrow_after_break = refl

-- (a) [line break] => 1;
pub row_arrow_of_list_after_break : agrees 200 (plain 0 (kind.Mark 2) ∷ plain 1 (kind.Name (codes "a")) ∷ plain 2 (kind.Mark 3) ∷ below_break 3 (kind.Mark 42) ∷ plain 4 (kind.Number (pos 1)) ∷ plain 5 (kind.Mark 6) ∷ plain 6 kind.End ∷ [])
unfolding everything
row_arrow_of_list_after_break = refl

-- {} + 1;
pub row_block_then_unary : agrees 200 (plain 0 (kind.Mark 0) ∷ plain 1 (kind.Mark 1) ∷ plain 2 (kind.Mark 16) ∷ plain 3 (kind.Number (pos 1)) ∷ plain 4 (kind.Mark 6) ∷ plain 5 kind.End ∷ [])
unfolding everything
row_block_then_unary = refl

-- x = {};
pub row_object_on_the_right : agrees 200 (plain 0 (kind.Name (codes "x")) ∷ plain 1 (kind.Mark 34) ∷ plain 2 (kind.Mark 0) ∷ plain 3 (kind.Mark 1) ∷ plain 4 (kind.Mark 6) ∷ plain 5 kind.End ∷ [])
unfolding everything
row_object_on_the_right = refl

-- if (a) function f() {}
pub row_function_in_statement : agrees 200 (plain 0 (kind.Word (codes "if")) ∷ plain 1 (kind.Mark 2) ∷ plain 2 (kind.Name (codes "a")) ∷ plain 3 (kind.Mark 3) ∷ plain 4 (kind.Word (codes "function")) ∷ plain 5 (kind.Name (codes "f")) ∷ plain 6 (kind.Mark 2) ∷ plain 7 (kind.Mark 3) ∷ plain 8 (kind.Mark 0) ∷ plain 9 (kind.Mark 1) ∷ plain 10 kind.End ∷ [])
unfolding everything
row_function_in_statement = refl

-- for (let x = a in b; ;) ;
pub row_in_in_head : agrees 200 (plain 0 (kind.Word (codes "for")) ∷ plain 1 (kind.Mark 2) ∷ plain 2 (kind.Word (codes "let")) ∷ plain 3 (kind.Name (codes "x")) ∷ plain 4 (kind.Mark 34) ∷ plain 5 (kind.Name (codes "a")) ∷ plain 6 (kind.Word (codes "in")) ∷ plain 7 (kind.Name (codes "b")) ∷ plain 8 (kind.Mark 6) ∷ plain 9 (kind.Mark 6) ∷ plain 10 (kind.Mark 3) ∷ plain 11 (kind.Mark 6) ∷ plain 12 kind.End ∷ [])
unfolding everything
row_in_in_head = refl

-- for (let x = (a in b); ;) ;
pub row_in_in_brackets : agrees 200 (plain 0 (kind.Word (codes "for")) ∷ plain 1 (kind.Mark 2) ∷ plain 2 (kind.Word (codes "let")) ∷ plain 3 (kind.Name (codes "x")) ∷ plain 4 (kind.Mark 34) ∷ plain 5 (kind.Mark 2) ∷ plain 6 (kind.Name (codes "a")) ∷ plain 7 (kind.Word (codes "in")) ∷ plain 8 (kind.Name (codes "b")) ∷ plain 9 (kind.Mark 3) ∷ plain 10 (kind.Mark 6) ∷ plain 11 (kind.Mark 6) ∷ plain 12 (kind.Mark 3) ∷ plain 13 (kind.Mark 6) ∷ plain 14 kind.End ∷ [])
unfolding everything
row_in_in_brackets = refl

-- for (x ? a in b : c; ;) ;
pub row_in_in_branch : agrees 200 (plain 0 (kind.Word (codes "for")) ∷ plain 1 (kind.Mark 2) ∷ plain 2 (kind.Name (codes "x")) ∷ plain 3 (kind.Mark 32) ∷ plain 4 (kind.Name (codes "a")) ∷ plain 5 (kind.Word (codes "in")) ∷ plain 6 (kind.Name (codes "b")) ∷ plain 7 (kind.Mark 33) ∷ plain 8 (kind.Name (codes "c")) ∷ plain 9 (kind.Mark 6) ∷ plain 10 (kind.Mark 6) ∷ plain 11 (kind.Mark 3) ∷ plain 12 (kind.Mark 6) ∷ plain 13 kind.End ∷ [])
unfolding everything
row_in_in_branch = refl

-- for (let x of a, b) ;
pub row_list_of_head : agrees 200 (plain 0 (kind.Word (codes "for")) ∷ plain 1 (kind.Mark 2) ∷ plain 2 (kind.Word (codes "let")) ∷ plain 3 (kind.Name (codes "x")) ∷ plain 4 (kind.Name (codes "of")) ∷ plain 5 (kind.Name (codes "a")) ∷ plain 6 (kind.Mark 7) ∷ plain 7 (kind.Name (codes "b")) ∷ plain 8 (kind.Mark 3) ∷ plain 9 (kind.Mark 6) ∷ plain 10 kind.End ∷ [])
unfolding everything
row_list_of_head = refl

-- for (const x of a in b) ;
pub row_in_behind_of : agrees 200 (plain 0 (kind.Word (codes "for")) ∷ plain 1 (kind.Mark 2) ∷ plain 2 (kind.Word (codes "const")) ∷ plain 3 (kind.Name (codes "x")) ∷ plain 4 (kind.Name (codes "of")) ∷ plain 5 (kind.Name (codes "a")) ∷ plain 6 (kind.Word (codes "in")) ∷ plain 7 (kind.Name (codes "b")) ∷ plain 8 (kind.Mark 3) ∷ plain 9 (kind.Mark 6) ∷ plain 10 kind.End ∷ [])
unfolding everything
row_in_behind_of = refl

-- for (let of of of) of();
pub row_of_as_a_name : agrees 200 (plain 0 (kind.Word (codes "for")) ∷ plain 1 (kind.Mark 2) ∷ plain 2 (kind.Word (codes "let")) ∷ plain 3 (kind.Name (codes "of")) ∷ plain 4 (kind.Name (codes "of")) ∷ plain 5 (kind.Name (codes "of")) ∷ plain 6 (kind.Mark 3) ∷ plain 7 (kind.Name (codes "of")) ∷ plain 8 (kind.Mark 2) ∷ plain 9 (kind.Mark 3) ∷ plain 10 (kind.Mark 6) ∷ plain 11 kind.End ∷ [])
unfolding everything
row_of_as_a_name = refl

-- for (a of b) ;
pub row_head_of_expression : agrees 200 (plain 0 (kind.Word (codes "for")) ∷ plain 1 (kind.Mark 2) ∷ plain 2 (kind.Name (codes "a")) ∷ plain 3 (kind.Name (codes "of")) ∷ plain 4 (kind.Name (codes "b")) ∷ plain 5 (kind.Mark 3) ∷ plain 6 (kind.Mark 6) ∷ plain 7 kind.End ∷ [])
unfolding everything
row_head_of_expression = refl

-- try {}
pub row_try_alone : agrees 200 (plain 0 (kind.Word (codes "try")) ∷ plain 1 (kind.Mark 0) ∷ plain 2 (kind.Mark 1) ∷ plain 3 kind.End ∷ [])
unfolding everything
row_try_alone = refl

-- try {} catch (e) {} finally {}
pub row_try_whole : agrees 200 (plain 0 (kind.Word (codes "try")) ∷ plain 1 (kind.Mark 0) ∷ plain 2 (kind.Mark 1) ∷ plain 3 (kind.Word (codes "catch")) ∷ plain 4 (kind.Mark 2) ∷ plain 5 (kind.Name (codes "e")) ∷ plain 6 (kind.Mark 3) ∷ plain 7 (kind.Mark 0) ∷ plain 8 (kind.Mark 1) ∷ plain 9 (kind.Word (codes "finally")) ∷ plain 10 (kind.Mark 0) ∷ plain 11 (kind.Mark 1) ∷ plain 12 kind.End ∷ [])
unfolding everything
row_try_whole = refl

-- let {a};
pub row_pattern_without_value : agrees 200 (plain 0 (kind.Word (codes "let")) ∷ plain 1 (kind.Mark 0) ∷ plain 2 (kind.Name (codes "a")) ∷ plain 3 (kind.Mark 1) ∷ plain 4 (kind.Mark 6) ∷ plain 5 kind.End ∷ [])
unfolding everything
row_pattern_without_value = refl

-- for (let [a]; ;) ;
pub row_pattern_without_value_in_head : agrees 200 (plain 0 (kind.Word (codes "for")) ∷ plain 1 (kind.Mark 2) ∷ plain 2 (kind.Word (codes "let")) ∷ plain 3 (kind.Mark 4) ∷ plain 4 (kind.Name (codes "a")) ∷ plain 5 (kind.Mark 5) ∷ plain 6 (kind.Mark 6) ∷ plain 7 (kind.Mark 6) ∷ plain 8 (kind.Mark 3) ∷ plain 9 (kind.Mark 6) ∷ plain 10 kind.End ∷ [])
unfolding everything
row_pattern_without_value_in_head = refl

-- const x;
pub row_const_without_value : agrees 200 (plain 0 (kind.Word (codes "const")) ∷ plain 1 (kind.Name (codes "x")) ∷ plain 2 (kind.Mark 6) ∷ plain 3 kind.End ∷ [])
unfolding everything
row_const_without_value = refl

-- function f(...a, b) {}
pub row_rest_not_last : agrees 200 (plain 0 (kind.Word (codes "function")) ∷ plain 1 (kind.Name (codes "f")) ∷ plain 2 (kind.Mark 2) ∷ plain 3 (kind.Mark 9) ∷ plain 4 (kind.Name (codes "a")) ∷ plain 5 (kind.Mark 7) ∷ plain 6 (kind.Name (codes "b")) ∷ plain 7 (kind.Mark 3) ∷ plain 8 (kind.Mark 0) ∷ plain 9 (kind.Mark 1) ∷ plain 10 kind.End ∷ [])
unfolding everything
row_rest_not_last = refl

-- (a, ...b,) => 1;
pub row_comma_behind_rest : agrees 200 (plain 0 (kind.Mark 2) ∷ plain 1 (kind.Name (codes "a")) ∷ plain 2 (kind.Mark 7) ∷ plain 3 (kind.Mark 9) ∷ plain 4 (kind.Name (codes "b")) ∷ plain 5 (kind.Mark 7) ∷ plain 6 (kind.Mark 3) ∷ plain 7 (kind.Mark 42) ∷ plain 8 (kind.Number (pos 1)) ∷ plain 9 (kind.Mark 6) ∷ plain 10 kind.End ∷ [])
unfolding everything
row_comma_behind_rest = refl

-- function f(a, b,) {} f(a, ...b,); [a,]; ({a,}); [a, b,] = c;
pub row_comma_ends : agrees 200 (plain 0 (kind.Word (codes "function")) ∷ plain 1 (kind.Name (codes "f")) ∷ plain 2 (kind.Mark 2) ∷ plain 3 (kind.Name (codes "a")) ∷ plain 4 (kind.Mark 7) ∷ plain 5 (kind.Name (codes "b")) ∷ plain 6 (kind.Mark 7) ∷ plain 7 (kind.Mark 3) ∷ plain 8 (kind.Mark 0) ∷ plain 9 (kind.Mark 1) ∷ plain 10 (kind.Name (codes "f")) ∷ plain 11 (kind.Mark 2) ∷ plain 12 (kind.Name (codes "a")) ∷ plain 13 (kind.Mark 7) ∷ plain 14 (kind.Mark 9) ∷ plain 15 (kind.Name (codes "b")) ∷ plain 16 (kind.Mark 7) ∷ plain 17 (kind.Mark 3) ∷ plain 18 (kind.Mark 6) ∷ plain 19 (kind.Mark 4) ∷ plain 20 (kind.Name (codes "a")) ∷ plain 21 (kind.Mark 7) ∷ plain 22 (kind.Mark 5) ∷ plain 23 (kind.Mark 6) ∷ plain 24 (kind.Mark 2) ∷ plain 25 (kind.Mark 0) ∷ plain 26 (kind.Name (codes "a")) ∷ plain 27 (kind.Mark 7) ∷ plain 28 (kind.Mark 1) ∷ plain 29 (kind.Mark 3) ∷ plain 30 (kind.Mark 6) ∷ plain 31 (kind.Mark 4) ∷ plain 32 (kind.Name (codes "a")) ∷ plain 33 (kind.Mark 7) ∷ plain 34 (kind.Name (codes "b")) ∷ plain 35 (kind.Mark 7) ∷ plain 36 (kind.Mark 5) ∷ plain 37 (kind.Mark 34) ∷ plain 38 (kind.Name (codes "c")) ∷ plain 39 (kind.Mark 6) ∷ plain 40 kind.End ∷ [])
unfolding everything
row_comma_ends = refl

-- f(a, , b);
pub row_two_commas : agrees 200 (plain 0 (kind.Name (codes "f")) ∷ plain 1 (kind.Mark 2) ∷ plain 2 (kind.Name (codes "a")) ∷ plain 3 (kind.Mark 7) ∷ plain 4 (kind.Mark 7) ∷ plain 5 (kind.Name (codes "b")) ∷ plain 6 (kind.Mark 3) ∷ plain 7 (kind.Mark 6) ∷ plain 8 kind.End ∷ [])
unfolding everything
row_two_commas = refl

-- ();
pub row_empty_brackets : agrees 200 (plain 0 (kind.Mark 2) ∷ plain 1 (kind.Mark 3) ∷ plain 2 (kind.Mark 6) ∷ plain 3 kind.End ∷ [])
unfolding everything
row_empty_brackets = refl

-- (a, );
pub row_comma_in_group : agrees 200 (plain 0 (kind.Mark 2) ∷ plain 1 (kind.Name (codes "a")) ∷ plain 2 (kind.Mark 7) ∷ plain 3 (kind.Mark 3) ∷ plain 4 (kind.Mark 6) ∷ plain 5 kind.End ∷ [])
unfolding everything
row_comma_in_group = refl

-- a ?? b || c;
pub row_coalesced_or : agrees 200 (plain 0 (kind.Name (codes "a")) ∷ plain 1 (kind.Mark 31) ∷ plain 2 (kind.Name (codes "b")) ∷ plain 3 (kind.Mark 30) ∷ plain 4 (kind.Name (codes "c")) ∷ plain 5 (kind.Mark 6) ∷ plain 6 kind.End ∷ [])
unfolding everything
row_coalesced_or = refl

-- a || b ?? c;
pub row_or_coalesced : agrees 200 (plain 0 (kind.Name (codes "a")) ∷ plain 1 (kind.Mark 30) ∷ plain 2 (kind.Name (codes "b")) ∷ plain 3 (kind.Mark 31) ∷ plain 4 (kind.Name (codes "c")) ∷ plain 5 (kind.Mark 6) ∷ plain 6 kind.End ∷ [])
unfolding everything
row_or_coalesced = refl

-- a | b ?? c ?? (d || e);
pub row_coalesced : agrees 200 (plain 0 (kind.Name (codes "a")) ∷ plain 1 (kind.Mark 25) ∷ plain 2 (kind.Name (codes "b")) ∷ plain 3 (kind.Mark 31) ∷ plain 4 (kind.Name (codes "c")) ∷ plain 5 (kind.Mark 31) ∷ plain 6 (kind.Mark 2) ∷ plain 7 (kind.Name (codes "d")) ∷ plain 8 (kind.Mark 30) ∷ plain 9 (kind.Name (codes "e")) ∷ plain 10 (kind.Mark 3) ∷ plain 11 (kind.Mark 6) ∷ plain 12 kind.End ∷ [])
unfolding everything
row_coalesced = refl

-- a + b = 1;
pub row_sum_as_target : agrees 200 (plain 0 (kind.Name (codes "a")) ∷ plain 1 (kind.Mark 16) ∷ plain 2 (kind.Name (codes "b")) ∷ plain 3 (kind.Mark 34) ∷ plain 4 (kind.Number (pos 1)) ∷ plain 5 (kind.Mark 6) ∷ plain 6 kind.End ∷ [])
unfolding everything
row_sum_as_target = refl

-- a ? b : c = d;
pub row_branch_as_target : agrees 200 (plain 0 (kind.Name (codes "a")) ∷ plain 1 (kind.Mark 32) ∷ plain 2 (kind.Name (codes "b")) ∷ plain 3 (kind.Mark 33) ∷ plain 4 (kind.Name (codes "c")) ∷ plain 5 (kind.Mark 34) ∷ plain 6 (kind.Name (codes "d")) ∷ plain 7 (kind.Mark 6) ∷ plain 8 kind.End ∷ [])
unfolding everything
row_branch_as_target = refl

-- a = b ? c : d;
pub row_assigned_branch : agrees 200 (plain 0 (kind.Name (codes "a")) ∷ plain 1 (kind.Mark 34) ∷ plain 2 (kind.Name (codes "b")) ∷ plain 3 (kind.Mark 32) ∷ plain 4 (kind.Name (codes "c")) ∷ plain 5 (kind.Mark 33) ∷ plain 6 (kind.Name (codes "d")) ∷ plain 7 (kind.Mark 6) ∷ plain 8 kind.End ∷ [])
unfolding everything
row_assigned_branch = refl

-- (a, b) = 1;
pub row_group_as_target : agrees 200 (plain 0 (kind.Mark 2) ∷ plain 1 (kind.Name (codes "a")) ∷ plain 2 (kind.Mark 7) ∷ plain 3 (kind.Name (codes "b")) ∷ plain 4 (kind.Mark 3) ∷ plain 5 (kind.Mark 34) ∷ plain 6 (kind.Number (pos 1)) ∷ plain 7 (kind.Mark 6) ∷ plain 8 kind.End ∷ [])
unfolding everything
row_group_as_target = refl

-- f(a)[b].c **= 1;
pub row_operator_missing : agrees 200 (plain 0 (kind.Name (codes "f")) ∷ plain 1 (kind.Mark 2) ∷ plain 2 (kind.Name (codes "a")) ∷ plain 3 (kind.Mark 3) ∷ plain 4 (kind.Mark 4) ∷ plain 5 (kind.Name (codes "b")) ∷ plain 6 (kind.Mark 5) ∷ plain 7 (kind.Mark 8) ∷ plain 8 (kind.Name (codes "c")) ∷ plain 9 (kind.Mark 18) ∷ plain 10 (kind.Mark 37) ∷ plain 11 (kind.Number (pos 1)) ∷ plain 12 (kind.Mark 6) ∷ plain 13 kind.End ∷ [])
unfolding everything
row_operator_missing = refl

-- new a.b(c)(d).e;
pub row_new_with_members : agrees 200 (plain 0 (kind.Word (codes "new")) ∷ plain 1 (kind.Name (codes "a")) ∷ plain 2 (kind.Mark 8) ∷ plain 3 (kind.Name (codes "b")) ∷ plain 4 (kind.Mark 2) ∷ plain 5 (kind.Name (codes "c")) ∷ plain 6 (kind.Mark 3) ∷ plain 7 (kind.Mark 2) ∷ plain 8 (kind.Name (codes "d")) ∷ plain 9 (kind.Mark 3) ∷ plain 10 (kind.Mark 8) ∷ plain 11 (kind.Name (codes "e")) ∷ plain 12 (kind.Mark 6) ∷ plain 13 kind.End ∷ [])
unfolding everything
row_new_with_members = refl

-- new new a(1)(2)(3);
pub row_new_twice : agrees 200 (plain 0 (kind.Word (codes "new")) ∷ plain 1 (kind.Word (codes "new")) ∷ plain 2 (kind.Name (codes "a")) ∷ plain 3 (kind.Mark 2) ∷ plain 4 (kind.Number (pos 1)) ∷ plain 5 (kind.Mark 3) ∷ plain 6 (kind.Mark 2) ∷ plain 7 (kind.Number (pos 2)) ∷ plain 8 (kind.Mark 3) ∷ plain 9 (kind.Mark 2) ∷ plain 10 (kind.Number (pos 3)) ∷ plain 11 (kind.Mark 3) ∷ plain 12 (kind.Mark 6) ∷ plain 13 kind.End ∷ [])
unfolding everything
row_new_twice = refl

-- new a.b;
pub row_new_alone : agrees 200 (plain 0 (kind.Word (codes "new")) ∷ plain 1 (kind.Name (codes "a")) ∷ plain 2 (kind.Mark 8) ∷ plain 3 (kind.Name (codes "b")) ∷ plain 4 (kind.Mark 6) ∷ plain 5 kind.End ∷ [])
unfolding everything
row_new_alone = refl

-- ({get a() {return 1;}, set a(b) {}, get: 1, set, of, [c]: 2, d() {}, 'e': 3, 4: 5, if: 6, get() {}, set});
pub row_members : agrees 200 (plain 0 (kind.Mark 2) ∷ plain 1 (kind.Mark 0) ∷ plain 2 (kind.Name (codes "get")) ∷ plain 3 (kind.Name (codes "a")) ∷ plain 4 (kind.Mark 2) ∷ plain 5 (kind.Mark 3) ∷ plain 6 (kind.Mark 0) ∷ plain 7 (kind.Word (codes "return")) ∷ plain 8 (kind.Number (pos 1)) ∷ plain 9 (kind.Mark 6) ∷ plain 10 (kind.Mark 1) ∷ plain 11 (kind.Mark 7) ∷ plain 12 (kind.Name (codes "set")) ∷ plain 13 (kind.Name (codes "a")) ∷ plain 14 (kind.Mark 2) ∷ plain 15 (kind.Name (codes "b")) ∷ plain 16 (kind.Mark 3) ∷ plain 17 (kind.Mark 0) ∷ plain 18 (kind.Mark 1) ∷ plain 19 (kind.Mark 7) ∷ plain 20 (kind.Name (codes "get")) ∷ plain 21 (kind.Mark 33) ∷ plain 22 (kind.Number (pos 1)) ∷ plain 23 (kind.Mark 7) ∷ plain 24 (kind.Name (codes "set")) ∷ plain 25 (kind.Mark 7) ∷ plain 26 (kind.Name (codes "of")) ∷ plain 27 (kind.Mark 7) ∷ plain 28 (kind.Mark 4) ∷ plain 29 (kind.Name (codes "c")) ∷ plain 30 (kind.Mark 5) ∷ plain 31 (kind.Mark 33) ∷ plain 32 (kind.Number (pos 2)) ∷ plain 33 (kind.Mark 7) ∷ plain 34 (kind.Name (codes "d")) ∷ plain 35 (kind.Mark 2) ∷ plain 36 (kind.Mark 3) ∷ plain 37 (kind.Mark 0) ∷ plain 38 (kind.Mark 1) ∷ plain 39 (kind.Mark 7) ∷ plain 40 (kind.Text (codes "e")) ∷ plain 41 (kind.Mark 33) ∷ plain 42 (kind.Number (pos 3)) ∷ plain 43 (kind.Mark 7) ∷ plain 44 (kind.Number (pos 4)) ∷ plain 45 (kind.Mark 33) ∷ plain 46 (kind.Number (pos 5)) ∷ plain 47 (kind.Mark 7) ∷ plain 48 (kind.Word (codes "if")) ∷ plain 49 (kind.Mark 33) ∷ plain 50 (kind.Number (pos 6)) ∷ plain 51 (kind.Mark 7) ∷ plain 52 (kind.Name (codes "get")) ∷ plain 53 (kind.Mark 2) ∷ plain 54 (kind.Mark 3) ∷ plain 55 (kind.Mark 0) ∷ plain 56 (kind.Mark 1) ∷ plain 57 (kind.Mark 7) ∷ plain 58 (kind.Name (codes "set")) ∷ plain 59 (kind.Mark 1) ∷ plain 60 (kind.Mark 3) ∷ plain 61 (kind.Mark 6) ∷ plain 62 kind.End ∷ [])
unfolding everything
row_members = refl

-- ({1});
pub row_key_alone : agrees 200 (plain 0 (kind.Mark 2) ∷ plain 1 (kind.Mark 0) ∷ plain 2 (kind.Number (pos 1)) ∷ plain 3 (kind.Mark 1) ∷ plain 4 (kind.Mark 3) ∷ plain 5 (kind.Mark 6) ∷ plain 6 kind.End ∷ [])
unfolding everything
row_key_alone = refl

-- ({if});
pub row_word_alone : agrees 200 (plain 0 (kind.Mark 2) ∷ plain 1 (kind.Mark 0) ∷ plain 2 (kind.Word (codes "if")) ∷ plain 3 (kind.Mark 1) ∷ plain 4 (kind.Mark 3) ∷ plain 5 (kind.Mark 6) ∷ plain 6 kind.End ∷ [])
unfolding everything
row_word_alone = refl

-- ({get a(b) {}});
pub row_getter_with_parameter : agrees 200 (plain 0 (kind.Mark 2) ∷ plain 1 (kind.Mark 0) ∷ plain 2 (kind.Name (codes "get")) ∷ plain 3 (kind.Name (codes "a")) ∷ plain 4 (kind.Mark 2) ∷ plain 5 (kind.Name (codes "b")) ∷ plain 6 (kind.Mark 3) ∷ plain 7 (kind.Mark 0) ∷ plain 8 (kind.Mark 1) ∷ plain 9 (kind.Mark 1) ∷ plain 10 (kind.Mark 3) ∷ plain 11 (kind.Mark 6) ∷ plain 12 kind.End ∷ [])
unfolding everything
row_getter_with_parameter = refl

-- (x) => {}.y;
pub row_behind_arrow_block : agrees 200 (plain 0 (kind.Mark 2) ∷ plain 1 (kind.Name (codes "x")) ∷ plain 2 (kind.Mark 3) ∷ plain 3 (kind.Mark 42) ∷ plain 4 (kind.Mark 0) ∷ plain 5 (kind.Mark 1) ∷ plain 6 (kind.Mark 8) ∷ plain 7 (kind.Name (codes "y")) ∷ plain 8 (kind.Mark 6) ∷ plain 9 kind.End ∷ [])
unfolding everything
row_behind_arrow_block = refl

-- a => ({b});
pub row_arrow_to_object : agrees 200 (plain 0 (kind.Name (codes "a")) ∷ plain 1 (kind.Mark 42) ∷ plain 2 (kind.Mark 2) ∷ plain 3 (kind.Mark 0) ∷ plain 4 (kind.Name (codes "b")) ∷ plain 5 (kind.Mark 1) ∷ plain 6 (kind.Mark 3) ∷ plain 7 (kind.Mark 6) ∷ plain 8 kind.End ∷ [])
unfolding everything
row_arrow_to_object = refl

-- a => (b, {c = d}, [e] = f, ...g) => h;
pub row_arrow_in_arrow : agrees 200 (plain 0 (kind.Name (codes "a")) ∷ plain 1 (kind.Mark 42) ∷ plain 2 (kind.Mark 2) ∷ plain 3 (kind.Name (codes "b")) ∷ plain 4 (kind.Mark 7) ∷ plain 5 (kind.Mark 0) ∷ plain 6 (kind.Name (codes "c")) ∷ plain 7 (kind.Mark 34) ∷ plain 8 (kind.Name (codes "d")) ∷ plain 9 (kind.Mark 1) ∷ plain 10 (kind.Mark 7) ∷ plain 11 (kind.Mark 4) ∷ plain 12 (kind.Name (codes "e")) ∷ plain 13 (kind.Mark 5) ∷ plain 14 (kind.Mark 34) ∷ plain 15 (kind.Name (codes "f")) ∷ plain 16 (kind.Mark 7) ∷ plain 17 (kind.Mark 9) ∷ plain 18 (kind.Name (codes "g")) ∷ plain 19 (kind.Mark 3) ∷ plain 20 (kind.Mark 42) ∷ plain 21 (kind.Name (codes "h")) ∷ plain 22 (kind.Mark 6) ∷ plain 23 kind.End ∷ [])
unfolding everything
row_arrow_in_arrow = refl

-- a.if.new;
pub row_word_as_member : agrees 200 (plain 0 (kind.Name (codes "a")) ∷ plain 1 (kind.Mark 8) ∷ plain 2 (kind.Word (codes "if")) ∷ plain 3 (kind.Mark 8) ∷ plain 4 (kind.Word (codes "new")) ∷ plain 5 (kind.Mark 6) ∷ plain 6 kind.End ∷ [])
unfolding everything
row_word_as_member = refl

-- import(x);
pub row_reserved_word : agrees 200 (plain 0 (kind.Word (codes "import")) ∷ plain 1 (kind.Mark 2) ∷ plain 2 (kind.Name (codes "x")) ∷ plain 3 (kind.Mark 3) ∷ plain 4 (kind.Mark 6) ∷ plain 5 kind.End ∷ [])
unfolding everything
row_reserved_word = refl

-- let let = 1;
pub row_let_let : agrees 200 (plain 0 (kind.Word (codes "let")) ∷ plain 1 (kind.Word (codes "let")) ∷ plain 2 (kind.Mark 34) ∷ plain 3 (kind.Number (pos 1)) ∷ plain 4 (kind.Mark 6) ∷ plain 5 kind.End ∷ [])
unfolding everything
row_let_let = refl

-- `a`; `${a}${b, c}d`;
pub row_templates : agrees 200 (plain 0 (kind.Piece [] true true) ∷ plain 1 (kind.Mark 6) ∷ plain 2 (kind.Piece [] true false) ∷ plain 3 (kind.Name (codes "a")) ∷ plain 4 (kind.Piece [] false false) ∷ plain 5 (kind.Name (codes "b")) ∷ plain 6 (kind.Mark 7) ∷ plain 7 (kind.Name (codes "c")) ∷ plain 8 (kind.Piece [] false true) ∷ plain 9 (kind.Mark 6) ∷ plain 10 kind.End ∷ [])
unfolding everything
row_templates = refl

-- `${}`;
pub row_template_part_missing : agrees 200 (plain 0 (kind.Piece [] true false) ∷ plain 1 (kind.Piece [] false true) ∷ plain 2 (kind.Mark 6) ∷ plain 3 kind.End ∷ [])
unfolding everything
row_template_part_missing = refl

-- delete a.b, typeof void !~+-++a, b++;
pub row_unary : agrees 200 (plain 0 (kind.Word (codes "delete")) ∷ plain 1 (kind.Name (codes "a")) ∷ plain 2 (kind.Mark 8) ∷ plain 3 (kind.Name (codes "b")) ∷ plain 4 (kind.Mark 7) ∷ plain 5 (kind.Word (codes "typeof")) ∷ plain 6 (kind.Word (codes "void")) ∷ plain 7 (kind.Mark 27) ∷ plain 8 (kind.Mark 28) ∷ plain 9 (kind.Mark 16) ∷ plain 10 (kind.Mark 17) ∷ plain 11 (kind.Mark 40) ∷ plain 12 (kind.Name (codes "a")) ∷ plain 13 (kind.Mark 7) ∷ plain 14 (kind.Name (codes "b")) ∷ plain 15 (kind.Mark 40) ∷ plain 16 (kind.Mark 6) ∷ plain 17 kind.End ∷ [])
unfolding everything
row_unary = refl

-- do ; while (a);
pub row_do_while : agrees 200 (plain 0 (kind.Word (codes "do")) ∷ plain 1 (kind.Mark 6) ∷ plain 2 (kind.Word (codes "while")) ∷ plain 3 (kind.Mark 2) ∷ plain 4 (kind.Name (codes "a")) ∷ plain 5 (kind.Mark 3) ∷ plain 6 (kind.Mark 6) ∷ plain 7 kind.End ∷ [])
unfolding everything
row_do_while = refl

-- do ; while (a)
pub row_do_while_unended : agrees 200 (plain 0 (kind.Word (codes "do")) ∷ plain 1 (kind.Mark 6) ∷ plain 2 (kind.Word (codes "while")) ∷ plain 3 (kind.Mark 2) ∷ plain 4 (kind.Name (codes "a")) ∷ plain 5 (kind.Mark 3) ∷ plain 6 kind.End ∷ [])
unfolding everything
row_do_while_unended = refl

-- (function () {})();
pub row_call_of_function : agrees 200 (plain 0 (kind.Mark 2) ∷ plain 1 (kind.Word (codes "function")) ∷ plain 2 (kind.Mark 2) ∷ plain 3 (kind.Mark 3) ∷ plain 4 (kind.Mark 0) ∷ plain 5 (kind.Mark 1) ∷ plain 6 (kind.Mark 3) ∷ plain 7 (kind.Mark 2) ∷ plain 8 (kind.Mark 3) ∷ plain 9 (kind.Mark 6) ∷ plain 10 kind.End ∷ [])
unfolding everything
row_call_of_function = refl

-- function () {}
pub row_statement_of_function : agrees 200 (plain 0 (kind.Word (codes "function")) ∷ plain 1 (kind.Mark 2) ∷ plain 2 (kind.Mark 3) ∷ plain 3 (kind.Mark 0) ∷ plain 4 (kind.Mark 1) ∷ plain 5 kind.End ∷ [])
unfolding everything
row_statement_of_function = refl

-- a b;
pub row_no_semicolon : agrees 200 (plain 0 (kind.Name (codes "a")) ∷ plain 1 (kind.Name (codes "b")) ∷ plain 2 (kind.Mark 6) ∷ plain 3 kind.End ∷ [])
unfolding everything
row_no_semicolon = refl
