-- Scripts and faults of scripts, as they are read. A row has the tokens, how deep they may nest, and the place of the fault, if any.
use Rattle.std.proofs.Common.{true, false, Bool, ◌≡◌, ℕ, suc, List, [], ◌∷◌, length, Ok, Err, refl, codes}
use Rattle.std.specs.Prelude.{pos, Option, Some, None}
use Rattle.js_token.specs.declared.token.Token.{Token}
use Rattle.js_token.specs.declared.token.TokenKind.{TokenKind}
use Rattle.js_token.specs.declared.token.TokenKind.TheVariants as kind
use Rattle.js_tree.specs.declared.node.NodeId.{NodeId}
use Rattle.js_parse.specs.declared.fault.Fault.TheVariants as fault
use Rattle.js_parse.specs.Symbols.{same, jump_word, control_word, value_word, operator_word, of_word, of_name, of_mark, of_kind}
use Rattle.js_parse.specs.Operators.{infix_at}
use Rattle.js_parse.specs.Input.{symbol, place, is_broken, text, number, next, is_arrow, is_arrow_next, is_arrow_ahead, refusal, sees, after, expect, arrow, name, any_name, add, leaf, fork}
use Rattle.js_parse.specs.Nesting.{begins_assign, opens, too_deep, part_at}
use Rattle.js_parse.specs.Grammar.{comma_or, listed_from, bind_name, below, named_leaf, number_leaf, text_leaf, template_leaf, starts_key, chain_from, chain, node_of, nodes_of, parameters_of, body_of, head_of, bind, default_value, bind_element, bind_under, bind_property, bind_properties, bind_elements, object_pattern, array_pattern, pattern, primary, suffix, suffixes_from, suffixes, left_side, new_arguments, new_call, postfix, unary, prefix, operations, operand, short, conditional, behind_operand, unparenthesized, arrow_of_name, arrow_of_list, arrow_first, group_first, parenthesized, named, assign, sequence_from, sequence, expression, arrow_body, group, index, computed_key, element, elements, arguments, array, template_from, template_parts, template, property_key, member_under, shorthand, named_member, getter, setter, member, members, object, rest_parameter, parameters_from, parameter_list, parameters, no_parameters, setter_parameter, catch_bind}
use Rattle.js_parse.specs.Statements.{function_name, jump, function_rest, function_expression, function_declaration, initial, declarator, declarators_from, declarators, declaration, else_clause, if_statement, while_statement, do_statement, for_statement, return_value, return_statement, throw_statement, catch_parameter, catch_clause, finally_clause, try_statement, expression_statement, statement, declaration_statement, item, items_from, items, block, optional, loop_head, of_head, declared_head, declared, for_head, level, script}
use Rattle.js_parse.specs.Input.{Outcome}

abbrev pub plain : ℕ → TokenKind → Token
plain at k = record { place = at; broken = false; kind = k }

-- behind a line break
abbrev pub below_break : ℕ → TokenKind → Token
below_break at k = record { place = at; broken = true; kind = k }

-- whether a fault is one of nesting, and its place; or how many tokens are left where they are read
abbrev pub told_of : Outcome NodeId → Option Bool × ℕ
told_of (Ok p) = (None, length p.1.0)
told_of (Err (fault.Token at sure)) = (Some false, at)
told_of (Err (fault.Deep at)) = (Some true, at)
told_of (Err fault.Memory) = (None, 9999)

abbrev pub answers : ℕ → List Token → Option Bool → ℕ → Type 0
answers depth tokens f at = told_of (script (part_at depth) (tokens, [])) ≡ (f, at)

-- let x = 1, y; const {a: [b]} = c;
pub row_declared : answers 200 (plain 0 (kind.Word (codes "let")) ∷ plain 1 (kind.Name (codes "x")) ∷ plain 2 (kind.Mark 34) ∷ plain 3 (kind.Number (pos 1)) ∷ plain 4 (kind.Mark 7) ∷ plain 5 (kind.Name (codes "y")) ∷ plain 6 (kind.Mark 6) ∷ plain 7 (kind.Word (codes "const")) ∷ plain 8 (kind.Mark 0) ∷ plain 9 (kind.Name (codes "a")) ∷ plain 10 (kind.Mark 33) ∷ plain 11 (kind.Mark 4) ∷ plain 12 (kind.Name (codes "b")) ∷ plain 13 (kind.Mark 5) ∷ plain 14 (kind.Mark 1) ∷ plain 15 (kind.Mark 34) ∷ plain 16 (kind.Name (codes "c")) ∷ plain 17 (kind.Mark 6) ∷ plain 18 kind.End ∷ []) None 1
unfolding same jump_word control_word value_word operator_word of_word of_name of_mark of_kind infix_at symbol place is_broken text number next is_arrow is_arrow_next is_arrow_ahead refusal sees after expect arrow name any_name add leaf fork begins_assign opens too_deep part_at comma_or listed_from bind_name below named_leaf number_leaf text_leaf template_leaf starts_key function_name jump chain_from chain node_of nodes_of parameters_of body_of head_of bind default_value bind_element bind_under bind_property bind_properties bind_elements object_pattern array_pattern pattern primary suffix suffixes_from suffixes left_side new_arguments new_call postfix unary prefix operations operand short conditional behind_operand unparenthesized arrow_of_name arrow_of_list arrow_first group_first parenthesized named assign sequence_from sequence expression arrow_body group index computed_key element elements arguments array template_from template_parts template property_key member_under shorthand named_member getter setter member members object rest_parameter parameters_from parameter_list parameters no_parameters setter_parameter function_rest function_expression function_declaration initial declarator declarators_from declarators declaration else_clause if_statement while_statement do_statement for_statement return_value return_statement throw_statement catch_parameter catch_clause finally_clause try_statement expression_statement statement declaration_statement item items_from items block catch_bind optional loop_head of_head declared_head declared for_head level script
row_declared = refl

-- ({a = 1}) b;
pub row_group_then_name : answers 200 (plain 0 (kind.Mark 2) ∷ plain 1 (kind.Mark 0) ∷ plain 2 (kind.Name (codes "a")) ∷ plain 3 (kind.Mark 34) ∷ plain 4 (kind.Number (pos 1)) ∷ plain 5 (kind.Mark 1) ∷ plain 6 (kind.Mark 3) ∷ plain 7 (kind.Name (codes "b")) ∷ plain 8 (kind.Mark 6) ∷ plain 9 kind.End ∷ []) (Some false) 7
unfolding same jump_word control_word value_word operator_word of_word of_name of_mark of_kind infix_at symbol place is_broken text number next is_arrow is_arrow_next is_arrow_ahead refusal sees after expect arrow name any_name add leaf fork begins_assign opens too_deep part_at comma_or listed_from bind_name below named_leaf number_leaf text_leaf template_leaf starts_key function_name jump chain_from chain node_of nodes_of parameters_of body_of head_of bind default_value bind_element bind_under bind_property bind_properties bind_elements object_pattern array_pattern pattern primary suffix suffixes_from suffixes left_side new_arguments new_call postfix unary prefix operations operand short conditional behind_operand unparenthesized arrow_of_name arrow_of_list arrow_first group_first parenthesized named assign sequence_from sequence expression arrow_body group index computed_key element elements arguments array template_from template_parts template property_key member_under shorthand named_member getter setter member members object rest_parameter parameters_from parameter_list parameters no_parameters setter_parameter function_rest function_expression function_declaration initial declarator declarators_from declarators declaration else_clause if_statement while_statement do_statement for_statement return_value return_statement throw_statement catch_parameter catch_clause finally_clause try_statement expression_statement statement declaration_statement item items_from items block catch_bind optional loop_head of_head declared_head declared for_head level script
row_group_then_name = refl

-- (a, {b: c.d}) => 1;
pub row_no_pattern : answers 200 (plain 0 (kind.Mark 2) ∷ plain 1 (kind.Name (codes "a")) ∷ plain 2 (kind.Mark 7) ∷ plain 3 (kind.Mark 0) ∷ plain 4 (kind.Name (codes "b")) ∷ plain 5 (kind.Mark 33) ∷ plain 6 (kind.Name (codes "c")) ∷ plain 7 (kind.Mark 8) ∷ plain 8 (kind.Name (codes "d")) ∷ plain 9 (kind.Mark 1) ∷ plain 10 (kind.Mark 3) ∷ plain 11 (kind.Mark 42) ∷ plain 12 (kind.Number (pos 1)) ∷ plain 13 (kind.Mark 6) ∷ plain 14 kind.End ∷ []) (Some false) 11
unfolding same jump_word control_word value_word operator_word of_word of_name of_mark of_kind infix_at symbol place is_broken text number next is_arrow is_arrow_next is_arrow_ahead refusal sees after expect arrow name any_name add leaf fork begins_assign opens too_deep part_at comma_or listed_from bind_name below named_leaf number_leaf text_leaf template_leaf starts_key function_name jump chain_from chain node_of nodes_of parameters_of body_of head_of bind default_value bind_element bind_under bind_property bind_properties bind_elements object_pattern array_pattern pattern primary suffix suffixes_from suffixes left_side new_arguments new_call postfix unary prefix operations operand short conditional behind_operand unparenthesized arrow_of_name arrow_of_list arrow_first group_first parenthesized named assign sequence_from sequence expression arrow_body group index computed_key element elements arguments array template_from template_parts template property_key member_under shorthand named_member getter setter member members object rest_parameter parameters_from parameter_list parameters no_parameters setter_parameter function_rest function_expression function_declaration initial declarator declarators_from declarators declaration else_clause if_statement while_statement do_statement for_statement return_value return_statement throw_statement catch_parameter catch_clause finally_clause try_statement expression_statement statement declaration_statement item items_from items block catch_bind optional loop_head of_head declared_head declared for_head level script
row_no_pattern = refl

-- if (a) if (b) ; else ;
pub row_nearest_if : answers 200 (plain 0 (kind.Word (codes "if")) ∷ plain 1 (kind.Mark 2) ∷ plain 2 (kind.Name (codes "a")) ∷ plain 3 (kind.Mark 3) ∷ plain 4 (kind.Word (codes "if")) ∷ plain 5 (kind.Mark 2) ∷ plain 6 (kind.Name (codes "b")) ∷ plain 7 (kind.Mark 3) ∷ plain 8 (kind.Mark 6) ∷ plain 9 (kind.Word (codes "else")) ∷ plain 10 (kind.Mark 6) ∷ plain 11 kind.End ∷ []) None 1
unfolding same jump_word control_word value_word operator_word of_word of_name of_mark of_kind infix_at symbol place is_broken text number next is_arrow is_arrow_next is_arrow_ahead refusal sees after expect arrow name any_name add leaf fork begins_assign opens too_deep part_at comma_or listed_from bind_name below named_leaf number_leaf text_leaf template_leaf starts_key function_name jump chain_from chain node_of nodes_of parameters_of body_of head_of bind default_value bind_element bind_under bind_property bind_properties bind_elements object_pattern array_pattern pattern primary suffix suffixes_from suffixes left_side new_arguments new_call postfix unary prefix operations operand short conditional behind_operand unparenthesized arrow_of_name arrow_of_list arrow_first group_first parenthesized named assign sequence_from sequence expression arrow_body group index computed_key element elements arguments array template_from template_parts template property_key member_under shorthand named_member getter setter member members object rest_parameter parameters_from parameter_list parameters no_parameters setter_parameter function_rest function_expression function_declaration initial declarator declarators_from declarators declaration else_clause if_statement while_statement do_statement for_statement return_value return_statement throw_statement catch_parameter catch_clause finally_clause try_statement expression_statement statement declaration_statement item items_from items block catch_bind optional loop_head of_head declared_head declared for_head level script
row_nearest_if = refl

-- a [line break] ++;
pub row_postfix_after_break : answers 200 (plain 0 (kind.Name (codes "a")) ∷ below_break 1 (kind.Mark 40) ∷ plain 2 (kind.Mark 6) ∷ plain 3 kind.End ∷ []) (Some false) 1
unfolding same jump_word control_word value_word operator_word of_word of_name of_mark of_kind infix_at symbol place is_broken text number next is_arrow is_arrow_next is_arrow_ahead refusal sees after expect arrow name any_name add leaf fork begins_assign opens too_deep part_at comma_or listed_from bind_name below named_leaf number_leaf text_leaf template_leaf starts_key function_name jump chain_from chain node_of nodes_of parameters_of body_of head_of bind default_value bind_element bind_under bind_property bind_properties bind_elements object_pattern array_pattern pattern primary suffix suffixes_from suffixes left_side new_arguments new_call postfix unary prefix operations operand short conditional behind_operand unparenthesized arrow_of_name arrow_of_list arrow_first group_first parenthesized named assign sequence_from sequence expression arrow_body group index computed_key element elements arguments array template_from template_parts template property_key member_under shorthand named_member getter setter member members object rest_parameter parameters_from parameter_list parameters no_parameters setter_parameter function_rest function_expression function_declaration initial declarator declarators_from declarators declaration else_clause if_statement while_statement do_statement for_statement return_value return_statement throw_statement catch_parameter catch_clause finally_clause try_statement expression_statement statement declaration_statement item items_from items block catch_bind optional loop_head of_head declared_head declared for_head level script
row_postfix_after_break = refl

-- return [line break] 1;
pub row_return_after_break : answers 200 (plain 0 (kind.Word (codes "return")) ∷ below_break 1 (kind.Number (pos 1)) ∷ plain 2 (kind.Mark 6) ∷ plain 3 kind.End ∷ []) (Some false) 1
unfolding same jump_word control_word value_word operator_word of_word of_name of_mark of_kind infix_at symbol place is_broken text number next is_arrow is_arrow_next is_arrow_ahead refusal sees after expect arrow name any_name add leaf fork begins_assign opens too_deep part_at comma_or listed_from bind_name below named_leaf number_leaf text_leaf template_leaf starts_key function_name jump chain_from chain node_of nodes_of parameters_of body_of head_of bind default_value bind_element bind_under bind_property bind_properties bind_elements object_pattern array_pattern pattern primary suffix suffixes_from suffixes left_side new_arguments new_call postfix unary prefix operations operand short conditional behind_operand unparenthesized arrow_of_name arrow_of_list arrow_first group_first parenthesized named assign sequence_from sequence expression arrow_body group index computed_key element elements arguments array template_from template_parts template property_key member_under shorthand named_member getter setter member members object rest_parameter parameters_from parameter_list parameters no_parameters setter_parameter function_rest function_expression function_declaration initial declarator declarators_from declarators declaration else_clause if_statement while_statement do_statement for_statement return_value return_statement throw_statement catch_parameter catch_clause finally_clause try_statement expression_statement statement declaration_statement item items_from items block catch_bind optional loop_head of_head declared_head declared for_head level script
row_return_after_break = refl

-- return [line break] ;
pub row_return_nothing : answers 200 (plain 0 (kind.Word (codes "return")) ∷ below_break 1 (kind.Mark 6) ∷ plain 2 kind.End ∷ []) None 1
unfolding same jump_word control_word value_word operator_word of_word of_name of_mark of_kind infix_at symbol place is_broken text number next is_arrow is_arrow_next is_arrow_ahead refusal sees after expect arrow name any_name add leaf fork begins_assign opens too_deep part_at comma_or listed_from bind_name below named_leaf number_leaf text_leaf template_leaf starts_key function_name jump chain_from chain node_of nodes_of parameters_of body_of head_of bind default_value bind_element bind_under bind_property bind_properties bind_elements object_pattern array_pattern pattern primary suffix suffixes_from suffixes left_side new_arguments new_call postfix unary prefix operations operand short conditional behind_operand unparenthesized arrow_of_name arrow_of_list arrow_first group_first parenthesized named assign sequence_from sequence expression arrow_body group index computed_key element elements arguments array template_from template_parts template property_key member_under shorthand named_member getter setter member members object rest_parameter parameters_from parameter_list parameters no_parameters setter_parameter function_rest function_expression function_declaration initial declarator declarators_from declarators declaration else_clause if_statement while_statement do_statement for_statement return_value return_statement throw_statement catch_parameter catch_clause finally_clause try_statement expression_statement statement declaration_statement item items_from items block catch_bind optional loop_head of_head declared_head declared for_head level script
row_return_nothing = refl

-- throw [line break] a;
pub row_throw_after_break : answers 200 (plain 0 (kind.Word (codes "throw")) ∷ below_break 1 (kind.Name (codes "a")) ∷ plain 2 (kind.Mark 6) ∷ plain 3 kind.End ∷ []) (Some false) 1
unfolding same jump_word control_word value_word operator_word of_word of_name of_mark of_kind infix_at symbol place is_broken text number next is_arrow is_arrow_next is_arrow_ahead refusal sees after expect arrow name any_name add leaf fork begins_assign opens too_deep part_at comma_or listed_from bind_name below named_leaf number_leaf text_leaf template_leaf starts_key function_name jump chain_from chain node_of nodes_of parameters_of body_of head_of bind default_value bind_element bind_under bind_property bind_properties bind_elements object_pattern array_pattern pattern primary suffix suffixes_from suffixes left_side new_arguments new_call postfix unary prefix operations operand short conditional behind_operand unparenthesized arrow_of_name arrow_of_list arrow_first group_first parenthesized named assign sequence_from sequence expression arrow_body group index computed_key element elements arguments array template_from template_parts template property_key member_under shorthand named_member getter setter member members object rest_parameter parameters_from parameter_list parameters no_parameters setter_parameter function_rest function_expression function_declaration initial declarator declarators_from declarators declaration else_clause if_statement while_statement do_statement for_statement return_value return_statement throw_statement catch_parameter catch_clause finally_clause try_statement expression_statement statement declaration_statement item items_from items block catch_bind optional loop_head of_head declared_head declared for_head level script
row_throw_after_break = refl

-- a [line break] => 1;
pub row_arrow_after_break : answers 200 (plain 0 (kind.Name (codes "a")) ∷ below_break 1 (kind.Mark 42) ∷ plain 2 (kind.Number (pos 1)) ∷ plain 3 (kind.Mark 6) ∷ plain 4 kind.End ∷ []) (Some false) 1
unfolding same jump_word control_word value_word operator_word of_word of_name of_mark of_kind infix_at symbol place is_broken text number next is_arrow is_arrow_next is_arrow_ahead refusal sees after expect arrow name any_name add leaf fork begins_assign opens too_deep part_at comma_or listed_from bind_name below named_leaf number_leaf text_leaf template_leaf starts_key function_name jump chain_from chain node_of nodes_of parameters_of body_of head_of bind default_value bind_element bind_under bind_property bind_properties bind_elements object_pattern array_pattern pattern primary suffix suffixes_from suffixes left_side new_arguments new_call postfix unary prefix operations operand short conditional behind_operand unparenthesized arrow_of_name arrow_of_list arrow_first group_first parenthesized named assign sequence_from sequence expression arrow_body group index computed_key element elements arguments array template_from template_parts template property_key member_under shorthand named_member getter setter member members object rest_parameter parameters_from parameter_list parameters no_parameters setter_parameter function_rest function_expression function_declaration initial declarator declarators_from declarators declaration else_clause if_statement while_statement do_statement for_statement return_value return_statement throw_statement catch_parameter catch_clause finally_clause try_statement expression_statement statement declaration_statement item items_from items block catch_bind optional loop_head of_head declared_head declared for_head level script
row_arrow_after_break = refl

-- (a) [line break] => 1;
pub row_arrow_of_list_after_break : answers 200 (plain 0 (kind.Mark 2) ∷ plain 1 (kind.Name (codes "a")) ∷ plain 2 (kind.Mark 3) ∷ below_break 3 (kind.Mark 42) ∷ plain 4 (kind.Number (pos 1)) ∷ plain 5 (kind.Mark 6) ∷ plain 6 kind.End ∷ []) (Some false) 3
unfolding same jump_word control_word value_word operator_word of_word of_name of_mark of_kind infix_at symbol place is_broken text number next is_arrow is_arrow_next is_arrow_ahead refusal sees after expect arrow name any_name add leaf fork begins_assign opens too_deep part_at comma_or listed_from bind_name below named_leaf number_leaf text_leaf template_leaf starts_key function_name jump chain_from chain node_of nodes_of parameters_of body_of head_of bind default_value bind_element bind_under bind_property bind_properties bind_elements object_pattern array_pattern pattern primary suffix suffixes_from suffixes left_side new_arguments new_call postfix unary prefix operations operand short conditional behind_operand unparenthesized arrow_of_name arrow_of_list arrow_first group_first parenthesized named assign sequence_from sequence expression arrow_body group index computed_key element elements arguments array template_from template_parts template property_key member_under shorthand named_member getter setter member members object rest_parameter parameters_from parameter_list parameters no_parameters setter_parameter function_rest function_expression function_declaration initial declarator declarators_from declarators declaration else_clause if_statement while_statement do_statement for_statement return_value return_statement throw_statement catch_parameter catch_clause finally_clause try_statement expression_statement statement declaration_statement item items_from items block catch_bind optional loop_head of_head declared_head declared for_head level script
row_arrow_of_list_after_break = refl

-- {} + 1;
pub row_block_then_unary : answers 200 (plain 0 (kind.Mark 0) ∷ plain 1 (kind.Mark 1) ∷ plain 2 (kind.Mark 16) ∷ plain 3 (kind.Number (pos 1)) ∷ plain 4 (kind.Mark 6) ∷ plain 5 kind.End ∷ []) None 1
unfolding same jump_word control_word value_word operator_word of_word of_name of_mark of_kind infix_at symbol place is_broken text number next is_arrow is_arrow_next is_arrow_ahead refusal sees after expect arrow name any_name add leaf fork begins_assign opens too_deep part_at comma_or listed_from bind_name below named_leaf number_leaf text_leaf template_leaf starts_key function_name jump chain_from chain node_of nodes_of parameters_of body_of head_of bind default_value bind_element bind_under bind_property bind_properties bind_elements object_pattern array_pattern pattern primary suffix suffixes_from suffixes left_side new_arguments new_call postfix unary prefix operations operand short conditional behind_operand unparenthesized arrow_of_name arrow_of_list arrow_first group_first parenthesized named assign sequence_from sequence expression arrow_body group index computed_key element elements arguments array template_from template_parts template property_key member_under shorthand named_member getter setter member members object rest_parameter parameters_from parameter_list parameters no_parameters setter_parameter function_rest function_expression function_declaration initial declarator declarators_from declarators declaration else_clause if_statement while_statement do_statement for_statement return_value return_statement throw_statement catch_parameter catch_clause finally_clause try_statement expression_statement statement declaration_statement item items_from items block catch_bind optional loop_head of_head declared_head declared for_head level script
row_block_then_unary = refl

-- x = {};
pub row_object_on_the_right : answers 200 (plain 0 (kind.Name (codes "x")) ∷ plain 1 (kind.Mark 34) ∷ plain 2 (kind.Mark 0) ∷ plain 3 (kind.Mark 1) ∷ plain 4 (kind.Mark 6) ∷ plain 5 kind.End ∷ []) None 1
unfolding same jump_word control_word value_word operator_word of_word of_name of_mark of_kind infix_at symbol place is_broken text number next is_arrow is_arrow_next is_arrow_ahead refusal sees after expect arrow name any_name add leaf fork begins_assign opens too_deep part_at comma_or listed_from bind_name below named_leaf number_leaf text_leaf template_leaf starts_key function_name jump chain_from chain node_of nodes_of parameters_of body_of head_of bind default_value bind_element bind_under bind_property bind_properties bind_elements object_pattern array_pattern pattern primary suffix suffixes_from suffixes left_side new_arguments new_call postfix unary prefix operations operand short conditional behind_operand unparenthesized arrow_of_name arrow_of_list arrow_first group_first parenthesized named assign sequence_from sequence expression arrow_body group index computed_key element elements arguments array template_from template_parts template property_key member_under shorthand named_member getter setter member members object rest_parameter parameters_from parameter_list parameters no_parameters setter_parameter function_rest function_expression function_declaration initial declarator declarators_from declarators declaration else_clause if_statement while_statement do_statement for_statement return_value return_statement throw_statement catch_parameter catch_clause finally_clause try_statement expression_statement statement declaration_statement item items_from items block catch_bind optional loop_head of_head declared_head declared for_head level script
row_object_on_the_right = refl

-- if (a) function f() {}
pub row_function_in_statement : answers 200 (plain 0 (kind.Word (codes "if")) ∷ plain 1 (kind.Mark 2) ∷ plain 2 (kind.Name (codes "a")) ∷ plain 3 (kind.Mark 3) ∷ plain 4 (kind.Word (codes "function")) ∷ plain 5 (kind.Name (codes "f")) ∷ plain 6 (kind.Mark 2) ∷ plain 7 (kind.Mark 3) ∷ plain 8 (kind.Mark 0) ∷ plain 9 (kind.Mark 1) ∷ plain 10 kind.End ∷ []) (Some false) 4
unfolding same jump_word control_word value_word operator_word of_word of_name of_mark of_kind infix_at symbol place is_broken text number next is_arrow is_arrow_next is_arrow_ahead refusal sees after expect arrow name any_name add leaf fork begins_assign opens too_deep part_at comma_or listed_from bind_name below named_leaf number_leaf text_leaf template_leaf starts_key function_name jump chain_from chain node_of nodes_of parameters_of body_of head_of bind default_value bind_element bind_under bind_property bind_properties bind_elements object_pattern array_pattern pattern primary suffix suffixes_from suffixes left_side new_arguments new_call postfix unary prefix operations operand short conditional behind_operand unparenthesized arrow_of_name arrow_of_list arrow_first group_first parenthesized named assign sequence_from sequence expression arrow_body group index computed_key element elements arguments array template_from template_parts template property_key member_under shorthand named_member getter setter member members object rest_parameter parameters_from parameter_list parameters no_parameters setter_parameter function_rest function_expression function_declaration initial declarator declarators_from declarators declaration else_clause if_statement while_statement do_statement for_statement return_value return_statement throw_statement catch_parameter catch_clause finally_clause try_statement expression_statement statement declaration_statement item items_from items block catch_bind optional loop_head of_head declared_head declared for_head level script
row_function_in_statement = refl

-- for (let x = a in b; ;) ;
pub row_in_in_head : answers 200 (plain 0 (kind.Word (codes "for")) ∷ plain 1 (kind.Mark 2) ∷ plain 2 (kind.Word (codes "let")) ∷ plain 3 (kind.Name (codes "x")) ∷ plain 4 (kind.Mark 34) ∷ plain 5 (kind.Name (codes "a")) ∷ plain 6 (kind.Word (codes "in")) ∷ plain 7 (kind.Name (codes "b")) ∷ plain 8 (kind.Mark 6) ∷ plain 9 (kind.Mark 6) ∷ plain 10 (kind.Mark 3) ∷ plain 11 (kind.Mark 6) ∷ plain 12 kind.End ∷ []) (Some false) 6
unfolding same jump_word control_word value_word operator_word of_word of_name of_mark of_kind infix_at symbol place is_broken text number next is_arrow is_arrow_next is_arrow_ahead refusal sees after expect arrow name any_name add leaf fork begins_assign opens too_deep part_at comma_or listed_from bind_name below named_leaf number_leaf text_leaf template_leaf starts_key function_name jump chain_from chain node_of nodes_of parameters_of body_of head_of bind default_value bind_element bind_under bind_property bind_properties bind_elements object_pattern array_pattern pattern primary suffix suffixes_from suffixes left_side new_arguments new_call postfix unary prefix operations operand short conditional behind_operand unparenthesized arrow_of_name arrow_of_list arrow_first group_first parenthesized named assign sequence_from sequence expression arrow_body group index computed_key element elements arguments array template_from template_parts template property_key member_under shorthand named_member getter setter member members object rest_parameter parameters_from parameter_list parameters no_parameters setter_parameter function_rest function_expression function_declaration initial declarator declarators_from declarators declaration else_clause if_statement while_statement do_statement for_statement return_value return_statement throw_statement catch_parameter catch_clause finally_clause try_statement expression_statement statement declaration_statement item items_from items block catch_bind optional loop_head of_head declared_head declared for_head level script
row_in_in_head = refl

-- for (let x = (a in b); ;) ;
pub row_in_in_brackets : answers 200 (plain 0 (kind.Word (codes "for")) ∷ plain 1 (kind.Mark 2) ∷ plain 2 (kind.Word (codes "let")) ∷ plain 3 (kind.Name (codes "x")) ∷ plain 4 (kind.Mark 34) ∷ plain 5 (kind.Mark 2) ∷ plain 6 (kind.Name (codes "a")) ∷ plain 7 (kind.Word (codes "in")) ∷ plain 8 (kind.Name (codes "b")) ∷ plain 9 (kind.Mark 3) ∷ plain 10 (kind.Mark 6) ∷ plain 11 (kind.Mark 6) ∷ plain 12 (kind.Mark 3) ∷ plain 13 (kind.Mark 6) ∷ plain 14 kind.End ∷ []) None 1
unfolding same jump_word control_word value_word operator_word of_word of_name of_mark of_kind infix_at symbol place is_broken text number next is_arrow is_arrow_next is_arrow_ahead refusal sees after expect arrow name any_name add leaf fork begins_assign opens too_deep part_at comma_or listed_from bind_name below named_leaf number_leaf text_leaf template_leaf starts_key function_name jump chain_from chain node_of nodes_of parameters_of body_of head_of bind default_value bind_element bind_under bind_property bind_properties bind_elements object_pattern array_pattern pattern primary suffix suffixes_from suffixes left_side new_arguments new_call postfix unary prefix operations operand short conditional behind_operand unparenthesized arrow_of_name arrow_of_list arrow_first group_first parenthesized named assign sequence_from sequence expression arrow_body group index computed_key element elements arguments array template_from template_parts template property_key member_under shorthand named_member getter setter member members object rest_parameter parameters_from parameter_list parameters no_parameters setter_parameter function_rest function_expression function_declaration initial declarator declarators_from declarators declaration else_clause if_statement while_statement do_statement for_statement return_value return_statement throw_statement catch_parameter catch_clause finally_clause try_statement expression_statement statement declaration_statement item items_from items block catch_bind optional loop_head of_head declared_head declared for_head level script
row_in_in_brackets = refl

-- for (x ? a in b : c; ;) ;
pub row_in_in_branch : answers 200 (plain 0 (kind.Word (codes "for")) ∷ plain 1 (kind.Mark 2) ∷ plain 2 (kind.Name (codes "x")) ∷ plain 3 (kind.Mark 32) ∷ plain 4 (kind.Name (codes "a")) ∷ plain 5 (kind.Word (codes "in")) ∷ plain 6 (kind.Name (codes "b")) ∷ plain 7 (kind.Mark 33) ∷ plain 8 (kind.Name (codes "c")) ∷ plain 9 (kind.Mark 6) ∷ plain 10 (kind.Mark 6) ∷ plain 11 (kind.Mark 3) ∷ plain 12 (kind.Mark 6) ∷ plain 13 kind.End ∷ []) (Some false) 5
unfolding same jump_word control_word value_word operator_word of_word of_name of_mark of_kind infix_at symbol place is_broken text number next is_arrow is_arrow_next is_arrow_ahead refusal sees after expect arrow name any_name add leaf fork begins_assign opens too_deep part_at comma_or listed_from bind_name below named_leaf number_leaf text_leaf template_leaf starts_key function_name jump chain_from chain node_of nodes_of parameters_of body_of head_of bind default_value bind_element bind_under bind_property bind_properties bind_elements object_pattern array_pattern pattern primary suffix suffixes_from suffixes left_side new_arguments new_call postfix unary prefix operations operand short conditional behind_operand unparenthesized arrow_of_name arrow_of_list arrow_first group_first parenthesized named assign sequence_from sequence expression arrow_body group index computed_key element elements arguments array template_from template_parts template property_key member_under shorthand named_member getter setter member members object rest_parameter parameters_from parameter_list parameters no_parameters setter_parameter function_rest function_expression function_declaration initial declarator declarators_from declarators declaration else_clause if_statement while_statement do_statement for_statement return_value return_statement throw_statement catch_parameter catch_clause finally_clause try_statement expression_statement statement declaration_statement item items_from items block catch_bind optional loop_head of_head declared_head declared for_head level script
row_in_in_branch = refl

-- for (let x of a, b) ;
pub row_list_of_head : answers 200 (plain 0 (kind.Word (codes "for")) ∷ plain 1 (kind.Mark 2) ∷ plain 2 (kind.Word (codes "let")) ∷ plain 3 (kind.Name (codes "x")) ∷ plain 4 (kind.Name (codes "of")) ∷ plain 5 (kind.Name (codes "a")) ∷ plain 6 (kind.Mark 7) ∷ plain 7 (kind.Name (codes "b")) ∷ plain 8 (kind.Mark 3) ∷ plain 9 (kind.Mark 6) ∷ plain 10 kind.End ∷ []) (Some false) 6
unfolding same jump_word control_word value_word operator_word of_word of_name of_mark of_kind infix_at symbol place is_broken text number next is_arrow is_arrow_next is_arrow_ahead refusal sees after expect arrow name any_name add leaf fork begins_assign opens too_deep part_at comma_or listed_from bind_name below named_leaf number_leaf text_leaf template_leaf starts_key function_name jump chain_from chain node_of nodes_of parameters_of body_of head_of bind default_value bind_element bind_under bind_property bind_properties bind_elements object_pattern array_pattern pattern primary suffix suffixes_from suffixes left_side new_arguments new_call postfix unary prefix operations operand short conditional behind_operand unparenthesized arrow_of_name arrow_of_list arrow_first group_first parenthesized named assign sequence_from sequence expression arrow_body group index computed_key element elements arguments array template_from template_parts template property_key member_under shorthand named_member getter setter member members object rest_parameter parameters_from parameter_list parameters no_parameters setter_parameter function_rest function_expression function_declaration initial declarator declarators_from declarators declaration else_clause if_statement while_statement do_statement for_statement return_value return_statement throw_statement catch_parameter catch_clause finally_clause try_statement expression_statement statement declaration_statement item items_from items block catch_bind optional loop_head of_head declared_head declared for_head level script
row_list_of_head = refl

-- for (const x of a in b) ;
pub row_in_behind_of : answers 200 (plain 0 (kind.Word (codes "for")) ∷ plain 1 (kind.Mark 2) ∷ plain 2 (kind.Word (codes "const")) ∷ plain 3 (kind.Name (codes "x")) ∷ plain 4 (kind.Name (codes "of")) ∷ plain 5 (kind.Name (codes "a")) ∷ plain 6 (kind.Word (codes "in")) ∷ plain 7 (kind.Name (codes "b")) ∷ plain 8 (kind.Mark 3) ∷ plain 9 (kind.Mark 6) ∷ plain 10 kind.End ∷ []) None 1
unfolding same jump_word control_word value_word operator_word of_word of_name of_mark of_kind infix_at symbol place is_broken text number next is_arrow is_arrow_next is_arrow_ahead refusal sees after expect arrow name any_name add leaf fork begins_assign opens too_deep part_at comma_or listed_from bind_name below named_leaf number_leaf text_leaf template_leaf starts_key function_name jump chain_from chain node_of nodes_of parameters_of body_of head_of bind default_value bind_element bind_under bind_property bind_properties bind_elements object_pattern array_pattern pattern primary suffix suffixes_from suffixes left_side new_arguments new_call postfix unary prefix operations operand short conditional behind_operand unparenthesized arrow_of_name arrow_of_list arrow_first group_first parenthesized named assign sequence_from sequence expression arrow_body group index computed_key element elements arguments array template_from template_parts template property_key member_under shorthand named_member getter setter member members object rest_parameter parameters_from parameter_list parameters no_parameters setter_parameter function_rest function_expression function_declaration initial declarator declarators_from declarators declaration else_clause if_statement while_statement do_statement for_statement return_value return_statement throw_statement catch_parameter catch_clause finally_clause try_statement expression_statement statement declaration_statement item items_from items block catch_bind optional loop_head of_head declared_head declared for_head level script
row_in_behind_of = refl

-- for (let of of of) of();
pub row_of_as_a_name : answers 200 (plain 0 (kind.Word (codes "for")) ∷ plain 1 (kind.Mark 2) ∷ plain 2 (kind.Word (codes "let")) ∷ plain 3 (kind.Name (codes "of")) ∷ plain 4 (kind.Name (codes "of")) ∷ plain 5 (kind.Name (codes "of")) ∷ plain 6 (kind.Mark 3) ∷ plain 7 (kind.Name (codes "of")) ∷ plain 8 (kind.Mark 2) ∷ plain 9 (kind.Mark 3) ∷ plain 10 (kind.Mark 6) ∷ plain 11 kind.End ∷ []) None 1
unfolding same jump_word control_word value_word operator_word of_word of_name of_mark of_kind infix_at symbol place is_broken text number next is_arrow is_arrow_next is_arrow_ahead refusal sees after expect arrow name any_name add leaf fork begins_assign opens too_deep part_at comma_or listed_from bind_name below named_leaf number_leaf text_leaf template_leaf starts_key function_name jump chain_from chain node_of nodes_of parameters_of body_of head_of bind default_value bind_element bind_under bind_property bind_properties bind_elements object_pattern array_pattern pattern primary suffix suffixes_from suffixes left_side new_arguments new_call postfix unary prefix operations operand short conditional behind_operand unparenthesized arrow_of_name arrow_of_list arrow_first group_first parenthesized named assign sequence_from sequence expression arrow_body group index computed_key element elements arguments array template_from template_parts template property_key member_under shorthand named_member getter setter member members object rest_parameter parameters_from parameter_list parameters no_parameters setter_parameter function_rest function_expression function_declaration initial declarator declarators_from declarators declaration else_clause if_statement while_statement do_statement for_statement return_value return_statement throw_statement catch_parameter catch_clause finally_clause try_statement expression_statement statement declaration_statement item items_from items block catch_bind optional loop_head of_head declared_head declared for_head level script
row_of_as_a_name = refl

-- for (a of b) ;
pub row_head_of_expression : answers 200 (plain 0 (kind.Word (codes "for")) ∷ plain 1 (kind.Mark 2) ∷ plain 2 (kind.Name (codes "a")) ∷ plain 3 (kind.Name (codes "of")) ∷ plain 4 (kind.Name (codes "b")) ∷ plain 5 (kind.Mark 3) ∷ plain 6 (kind.Mark 6) ∷ plain 7 kind.End ∷ []) (Some false) 3
unfolding same jump_word control_word value_word operator_word of_word of_name of_mark of_kind infix_at symbol place is_broken text number next is_arrow is_arrow_next is_arrow_ahead refusal sees after expect arrow name any_name add leaf fork begins_assign opens too_deep part_at comma_or listed_from bind_name below named_leaf number_leaf text_leaf template_leaf starts_key function_name jump chain_from chain node_of nodes_of parameters_of body_of head_of bind default_value bind_element bind_under bind_property bind_properties bind_elements object_pattern array_pattern pattern primary suffix suffixes_from suffixes left_side new_arguments new_call postfix unary prefix operations operand short conditional behind_operand unparenthesized arrow_of_name arrow_of_list arrow_first group_first parenthesized named assign sequence_from sequence expression arrow_body group index computed_key element elements arguments array template_from template_parts template property_key member_under shorthand named_member getter setter member members object rest_parameter parameters_from parameter_list parameters no_parameters setter_parameter function_rest function_expression function_declaration initial declarator declarators_from declarators declaration else_clause if_statement while_statement do_statement for_statement return_value return_statement throw_statement catch_parameter catch_clause finally_clause try_statement expression_statement statement declaration_statement item items_from items block catch_bind optional loop_head of_head declared_head declared for_head level script
row_head_of_expression = refl

-- try {}
pub row_try_alone : answers 200 (plain 0 (kind.Word (codes "try")) ∷ plain 1 (kind.Mark 0) ∷ plain 2 (kind.Mark 1) ∷ plain 3 kind.End ∷ []) (Some false) 3
unfolding same jump_word control_word value_word operator_word of_word of_name of_mark of_kind infix_at symbol place is_broken text number next is_arrow is_arrow_next is_arrow_ahead refusal sees after expect arrow name any_name add leaf fork begins_assign opens too_deep part_at comma_or listed_from bind_name below named_leaf number_leaf text_leaf template_leaf starts_key function_name jump chain_from chain node_of nodes_of parameters_of body_of head_of bind default_value bind_element bind_under bind_property bind_properties bind_elements object_pattern array_pattern pattern primary suffix suffixes_from suffixes left_side new_arguments new_call postfix unary prefix operations operand short conditional behind_operand unparenthesized arrow_of_name arrow_of_list arrow_first group_first parenthesized named assign sequence_from sequence expression arrow_body group index computed_key element elements arguments array template_from template_parts template property_key member_under shorthand named_member getter setter member members object rest_parameter parameters_from parameter_list parameters no_parameters setter_parameter function_rest function_expression function_declaration initial declarator declarators_from declarators declaration else_clause if_statement while_statement do_statement for_statement return_value return_statement throw_statement catch_parameter catch_clause finally_clause try_statement expression_statement statement declaration_statement item items_from items block catch_bind optional loop_head of_head declared_head declared for_head level script
row_try_alone = refl

-- try {} catch (e) {} finally {}
pub row_try_whole : answers 200 (plain 0 (kind.Word (codes "try")) ∷ plain 1 (kind.Mark 0) ∷ plain 2 (kind.Mark 1) ∷ plain 3 (kind.Word (codes "catch")) ∷ plain 4 (kind.Mark 2) ∷ plain 5 (kind.Name (codes "e")) ∷ plain 6 (kind.Mark 3) ∷ plain 7 (kind.Mark 0) ∷ plain 8 (kind.Mark 1) ∷ plain 9 (kind.Word (codes "finally")) ∷ plain 10 (kind.Mark 0) ∷ plain 11 (kind.Mark 1) ∷ plain 12 kind.End ∷ []) None 1
unfolding same jump_word control_word value_word operator_word of_word of_name of_mark of_kind infix_at symbol place is_broken text number next is_arrow is_arrow_next is_arrow_ahead refusal sees after expect arrow name any_name add leaf fork begins_assign opens too_deep part_at comma_or listed_from bind_name below named_leaf number_leaf text_leaf template_leaf starts_key function_name jump chain_from chain node_of nodes_of parameters_of body_of head_of bind default_value bind_element bind_under bind_property bind_properties bind_elements object_pattern array_pattern pattern primary suffix suffixes_from suffixes left_side new_arguments new_call postfix unary prefix operations operand short conditional behind_operand unparenthesized arrow_of_name arrow_of_list arrow_first group_first parenthesized named assign sequence_from sequence expression arrow_body group index computed_key element elements arguments array template_from template_parts template property_key member_under shorthand named_member getter setter member members object rest_parameter parameters_from parameter_list parameters no_parameters setter_parameter function_rest function_expression function_declaration initial declarator declarators_from declarators declaration else_clause if_statement while_statement do_statement for_statement return_value return_statement throw_statement catch_parameter catch_clause finally_clause try_statement expression_statement statement declaration_statement item items_from items block catch_bind optional loop_head of_head declared_head declared for_head level script
row_try_whole = refl

-- let {a};
pub row_pattern_without_value : answers 200 (plain 0 (kind.Word (codes "let")) ∷ plain 1 (kind.Mark 0) ∷ plain 2 (kind.Name (codes "a")) ∷ plain 3 (kind.Mark 1) ∷ plain 4 (kind.Mark 6) ∷ plain 5 kind.End ∷ []) (Some false) 4
unfolding same jump_word control_word value_word operator_word of_word of_name of_mark of_kind infix_at symbol place is_broken text number next is_arrow is_arrow_next is_arrow_ahead refusal sees after expect arrow name any_name add leaf fork begins_assign opens too_deep part_at comma_or listed_from bind_name below named_leaf number_leaf text_leaf template_leaf starts_key function_name jump chain_from chain node_of nodes_of parameters_of body_of head_of bind default_value bind_element bind_under bind_property bind_properties bind_elements object_pattern array_pattern pattern primary suffix suffixes_from suffixes left_side new_arguments new_call postfix unary prefix operations operand short conditional behind_operand unparenthesized arrow_of_name arrow_of_list arrow_first group_first parenthesized named assign sequence_from sequence expression arrow_body group index computed_key element elements arguments array template_from template_parts template property_key member_under shorthand named_member getter setter member members object rest_parameter parameters_from parameter_list parameters no_parameters setter_parameter function_rest function_expression function_declaration initial declarator declarators_from declarators declaration else_clause if_statement while_statement do_statement for_statement return_value return_statement throw_statement catch_parameter catch_clause finally_clause try_statement expression_statement statement declaration_statement item items_from items block catch_bind optional loop_head of_head declared_head declared for_head level script
row_pattern_without_value = refl

-- for (let [a]; ;) ;
pub row_pattern_without_value_in_head : answers 200 (plain 0 (kind.Word (codes "for")) ∷ plain 1 (kind.Mark 2) ∷ plain 2 (kind.Word (codes "let")) ∷ plain 3 (kind.Mark 4) ∷ plain 4 (kind.Name (codes "a")) ∷ plain 5 (kind.Mark 5) ∷ plain 6 (kind.Mark 6) ∷ plain 7 (kind.Mark 6) ∷ plain 8 (kind.Mark 3) ∷ plain 9 (kind.Mark 6) ∷ plain 10 kind.End ∷ []) (Some false) 6
unfolding same jump_word control_word value_word operator_word of_word of_name of_mark of_kind infix_at symbol place is_broken text number next is_arrow is_arrow_next is_arrow_ahead refusal sees after expect arrow name any_name add leaf fork begins_assign opens too_deep part_at comma_or listed_from bind_name below named_leaf number_leaf text_leaf template_leaf starts_key function_name jump chain_from chain node_of nodes_of parameters_of body_of head_of bind default_value bind_element bind_under bind_property bind_properties bind_elements object_pattern array_pattern pattern primary suffix suffixes_from suffixes left_side new_arguments new_call postfix unary prefix operations operand short conditional behind_operand unparenthesized arrow_of_name arrow_of_list arrow_first group_first parenthesized named assign sequence_from sequence expression arrow_body group index computed_key element elements arguments array template_from template_parts template property_key member_under shorthand named_member getter setter member members object rest_parameter parameters_from parameter_list parameters no_parameters setter_parameter function_rest function_expression function_declaration initial declarator declarators_from declarators declaration else_clause if_statement while_statement do_statement for_statement return_value return_statement throw_statement catch_parameter catch_clause finally_clause try_statement expression_statement statement declaration_statement item items_from items block catch_bind optional loop_head of_head declared_head declared for_head level script
row_pattern_without_value_in_head = refl

-- const x;
pub row_const_without_value : answers 200 (plain 0 (kind.Word (codes "const")) ∷ plain 1 (kind.Name (codes "x")) ∷ plain 2 (kind.Mark 6) ∷ plain 3 kind.End ∷ []) (Some false) 2
unfolding same jump_word control_word value_word operator_word of_word of_name of_mark of_kind infix_at symbol place is_broken text number next is_arrow is_arrow_next is_arrow_ahead refusal sees after expect arrow name any_name add leaf fork begins_assign opens too_deep part_at comma_or listed_from bind_name below named_leaf number_leaf text_leaf template_leaf starts_key function_name jump chain_from chain node_of nodes_of parameters_of body_of head_of bind default_value bind_element bind_under bind_property bind_properties bind_elements object_pattern array_pattern pattern primary suffix suffixes_from suffixes left_side new_arguments new_call postfix unary prefix operations operand short conditional behind_operand unparenthesized arrow_of_name arrow_of_list arrow_first group_first parenthesized named assign sequence_from sequence expression arrow_body group index computed_key element elements arguments array template_from template_parts template property_key member_under shorthand named_member getter setter member members object rest_parameter parameters_from parameter_list parameters no_parameters setter_parameter function_rest function_expression function_declaration initial declarator declarators_from declarators declaration else_clause if_statement while_statement do_statement for_statement return_value return_statement throw_statement catch_parameter catch_clause finally_clause try_statement expression_statement statement declaration_statement item items_from items block catch_bind optional loop_head of_head declared_head declared for_head level script
row_const_without_value = refl

-- function f(...a, b) {}
pub row_rest_not_last : answers 200 (plain 0 (kind.Word (codes "function")) ∷ plain 1 (kind.Name (codes "f")) ∷ plain 2 (kind.Mark 2) ∷ plain 3 (kind.Mark 9) ∷ plain 4 (kind.Name (codes "a")) ∷ plain 5 (kind.Mark 7) ∷ plain 6 (kind.Name (codes "b")) ∷ plain 7 (kind.Mark 3) ∷ plain 8 (kind.Mark 0) ∷ plain 9 (kind.Mark 1) ∷ plain 10 kind.End ∷ []) (Some false) 5
unfolding same jump_word control_word value_word operator_word of_word of_name of_mark of_kind infix_at symbol place is_broken text number next is_arrow is_arrow_next is_arrow_ahead refusal sees after expect arrow name any_name add leaf fork begins_assign opens too_deep part_at comma_or listed_from bind_name below named_leaf number_leaf text_leaf template_leaf starts_key function_name jump chain_from chain node_of nodes_of parameters_of body_of head_of bind default_value bind_element bind_under bind_property bind_properties bind_elements object_pattern array_pattern pattern primary suffix suffixes_from suffixes left_side new_arguments new_call postfix unary prefix operations operand short conditional behind_operand unparenthesized arrow_of_name arrow_of_list arrow_first group_first parenthesized named assign sequence_from sequence expression arrow_body group index computed_key element elements arguments array template_from template_parts template property_key member_under shorthand named_member getter setter member members object rest_parameter parameters_from parameter_list parameters no_parameters setter_parameter function_rest function_expression function_declaration initial declarator declarators_from declarators declaration else_clause if_statement while_statement do_statement for_statement return_value return_statement throw_statement catch_parameter catch_clause finally_clause try_statement expression_statement statement declaration_statement item items_from items block catch_bind optional loop_head of_head declared_head declared for_head level script
row_rest_not_last = refl

-- (a, ...b,) => 1;
pub row_comma_behind_rest : answers 200 (plain 0 (kind.Mark 2) ∷ plain 1 (kind.Name (codes "a")) ∷ plain 2 (kind.Mark 7) ∷ plain 3 (kind.Mark 9) ∷ plain 4 (kind.Name (codes "b")) ∷ plain 5 (kind.Mark 7) ∷ plain 6 (kind.Mark 3) ∷ plain 7 (kind.Mark 42) ∷ plain 8 (kind.Number (pos 1)) ∷ plain 9 (kind.Mark 6) ∷ plain 10 kind.End ∷ []) (Some false) 5
unfolding same jump_word control_word value_word operator_word of_word of_name of_mark of_kind infix_at symbol place is_broken text number next is_arrow is_arrow_next is_arrow_ahead refusal sees after expect arrow name any_name add leaf fork begins_assign opens too_deep part_at comma_or listed_from bind_name below named_leaf number_leaf text_leaf template_leaf starts_key function_name jump chain_from chain node_of nodes_of parameters_of body_of head_of bind default_value bind_element bind_under bind_property bind_properties bind_elements object_pattern array_pattern pattern primary suffix suffixes_from suffixes left_side new_arguments new_call postfix unary prefix operations operand short conditional behind_operand unparenthesized arrow_of_name arrow_of_list arrow_first group_first parenthesized named assign sequence_from sequence expression arrow_body group index computed_key element elements arguments array template_from template_parts template property_key member_under shorthand named_member getter setter member members object rest_parameter parameters_from parameter_list parameters no_parameters setter_parameter function_rest function_expression function_declaration initial declarator declarators_from declarators declaration else_clause if_statement while_statement do_statement for_statement return_value return_statement throw_statement catch_parameter catch_clause finally_clause try_statement expression_statement statement declaration_statement item items_from items block catch_bind optional loop_head of_head declared_head declared for_head level script
row_comma_behind_rest = refl

-- function f(a, b,) {} f(a, ...b,); [a,]; ({a,}); [a, b,] = c;
pub row_comma_ends : answers 200 (plain 0 (kind.Word (codes "function")) ∷ plain 1 (kind.Name (codes "f")) ∷ plain 2 (kind.Mark 2) ∷ plain 3 (kind.Name (codes "a")) ∷ plain 4 (kind.Mark 7) ∷ plain 5 (kind.Name (codes "b")) ∷ plain 6 (kind.Mark 7) ∷ plain 7 (kind.Mark 3) ∷ plain 8 (kind.Mark 0) ∷ plain 9 (kind.Mark 1) ∷ plain 10 (kind.Name (codes "f")) ∷ plain 11 (kind.Mark 2) ∷ plain 12 (kind.Name (codes "a")) ∷ plain 13 (kind.Mark 7) ∷ plain 14 (kind.Mark 9) ∷ plain 15 (kind.Name (codes "b")) ∷ plain 16 (kind.Mark 7) ∷ plain 17 (kind.Mark 3) ∷ plain 18 (kind.Mark 6) ∷ plain 19 (kind.Mark 4) ∷ plain 20 (kind.Name (codes "a")) ∷ plain 21 (kind.Mark 7) ∷ plain 22 (kind.Mark 5) ∷ plain 23 (kind.Mark 6) ∷ plain 24 (kind.Mark 2) ∷ plain 25 (kind.Mark 0) ∷ plain 26 (kind.Name (codes "a")) ∷ plain 27 (kind.Mark 7) ∷ plain 28 (kind.Mark 1) ∷ plain 29 (kind.Mark 3) ∷ plain 30 (kind.Mark 6) ∷ plain 31 (kind.Mark 4) ∷ plain 32 (kind.Name (codes "a")) ∷ plain 33 (kind.Mark 7) ∷ plain 34 (kind.Name (codes "b")) ∷ plain 35 (kind.Mark 7) ∷ plain 36 (kind.Mark 5) ∷ plain 37 (kind.Mark 34) ∷ plain 38 (kind.Name (codes "c")) ∷ plain 39 (kind.Mark 6) ∷ plain 40 kind.End ∷ []) None 1
unfolding same jump_word control_word value_word operator_word of_word of_name of_mark of_kind infix_at symbol place is_broken text number next is_arrow is_arrow_next is_arrow_ahead refusal sees after expect arrow name any_name add leaf fork begins_assign opens too_deep part_at comma_or listed_from bind_name below named_leaf number_leaf text_leaf template_leaf starts_key function_name jump chain_from chain node_of nodes_of parameters_of body_of head_of bind default_value bind_element bind_under bind_property bind_properties bind_elements object_pattern array_pattern pattern primary suffix suffixes_from suffixes left_side new_arguments new_call postfix unary prefix operations operand short conditional behind_operand unparenthesized arrow_of_name arrow_of_list arrow_first group_first parenthesized named assign sequence_from sequence expression arrow_body group index computed_key element elements arguments array template_from template_parts template property_key member_under shorthand named_member getter setter member members object rest_parameter parameters_from parameter_list parameters no_parameters setter_parameter function_rest function_expression function_declaration initial declarator declarators_from declarators declaration else_clause if_statement while_statement do_statement for_statement return_value return_statement throw_statement catch_parameter catch_clause finally_clause try_statement expression_statement statement declaration_statement item items_from items block catch_bind optional loop_head of_head declared_head declared for_head level script
row_comma_ends = refl

-- f(a, , b);
pub row_two_commas : answers 200 (plain 0 (kind.Name (codes "f")) ∷ plain 1 (kind.Mark 2) ∷ plain 2 (kind.Name (codes "a")) ∷ plain 3 (kind.Mark 7) ∷ plain 4 (kind.Mark 7) ∷ plain 5 (kind.Name (codes "b")) ∷ plain 6 (kind.Mark 3) ∷ plain 7 (kind.Mark 6) ∷ plain 8 kind.End ∷ []) (Some false) 4
unfolding same jump_word control_word value_word operator_word of_word of_name of_mark of_kind infix_at symbol place is_broken text number next is_arrow is_arrow_next is_arrow_ahead refusal sees after expect arrow name any_name add leaf fork begins_assign opens too_deep part_at comma_or listed_from bind_name below named_leaf number_leaf text_leaf template_leaf starts_key function_name jump chain_from chain node_of nodes_of parameters_of body_of head_of bind default_value bind_element bind_under bind_property bind_properties bind_elements object_pattern array_pattern pattern primary suffix suffixes_from suffixes left_side new_arguments new_call postfix unary prefix operations operand short conditional behind_operand unparenthesized arrow_of_name arrow_of_list arrow_first group_first parenthesized named assign sequence_from sequence expression arrow_body group index computed_key element elements arguments array template_from template_parts template property_key member_under shorthand named_member getter setter member members object rest_parameter parameters_from parameter_list parameters no_parameters setter_parameter function_rest function_expression function_declaration initial declarator declarators_from declarators declaration else_clause if_statement while_statement do_statement for_statement return_value return_statement throw_statement catch_parameter catch_clause finally_clause try_statement expression_statement statement declaration_statement item items_from items block catch_bind optional loop_head of_head declared_head declared for_head level script
row_two_commas = refl

-- ();
pub row_empty_brackets : answers 200 (plain 0 (kind.Mark 2) ∷ plain 1 (kind.Mark 3) ∷ plain 2 (kind.Mark 6) ∷ plain 3 kind.End ∷ []) (Some false) 2
unfolding same jump_word control_word value_word operator_word of_word of_name of_mark of_kind infix_at symbol place is_broken text number next is_arrow is_arrow_next is_arrow_ahead refusal sees after expect arrow name any_name add leaf fork begins_assign opens too_deep part_at comma_or listed_from bind_name below named_leaf number_leaf text_leaf template_leaf starts_key function_name jump chain_from chain node_of nodes_of parameters_of body_of head_of bind default_value bind_element bind_under bind_property bind_properties bind_elements object_pattern array_pattern pattern primary suffix suffixes_from suffixes left_side new_arguments new_call postfix unary prefix operations operand short conditional behind_operand unparenthesized arrow_of_name arrow_of_list arrow_first group_first parenthesized named assign sequence_from sequence expression arrow_body group index computed_key element elements arguments array template_from template_parts template property_key member_under shorthand named_member getter setter member members object rest_parameter parameters_from parameter_list parameters no_parameters setter_parameter function_rest function_expression function_declaration initial declarator declarators_from declarators declaration else_clause if_statement while_statement do_statement for_statement return_value return_statement throw_statement catch_parameter catch_clause finally_clause try_statement expression_statement statement declaration_statement item items_from items block catch_bind optional loop_head of_head declared_head declared for_head level script
row_empty_brackets = refl

-- (a, );
pub row_comma_in_group : answers 200 (plain 0 (kind.Mark 2) ∷ plain 1 (kind.Name (codes "a")) ∷ plain 2 (kind.Mark 7) ∷ plain 3 (kind.Mark 3) ∷ plain 4 (kind.Mark 6) ∷ plain 5 kind.End ∷ []) (Some false) 4
unfolding same jump_word control_word value_word operator_word of_word of_name of_mark of_kind infix_at symbol place is_broken text number next is_arrow is_arrow_next is_arrow_ahead refusal sees after expect arrow name any_name add leaf fork begins_assign opens too_deep part_at comma_or listed_from bind_name below named_leaf number_leaf text_leaf template_leaf starts_key function_name jump chain_from chain node_of nodes_of parameters_of body_of head_of bind default_value bind_element bind_under bind_property bind_properties bind_elements object_pattern array_pattern pattern primary suffix suffixes_from suffixes left_side new_arguments new_call postfix unary prefix operations operand short conditional behind_operand unparenthesized arrow_of_name arrow_of_list arrow_first group_first parenthesized named assign sequence_from sequence expression arrow_body group index computed_key element elements arguments array template_from template_parts template property_key member_under shorthand named_member getter setter member members object rest_parameter parameters_from parameter_list parameters no_parameters setter_parameter function_rest function_expression function_declaration initial declarator declarators_from declarators declaration else_clause if_statement while_statement do_statement for_statement return_value return_statement throw_statement catch_parameter catch_clause finally_clause try_statement expression_statement statement declaration_statement item items_from items block catch_bind optional loop_head of_head declared_head declared for_head level script
row_comma_in_group = refl

-- a ?? b || c;
pub row_coalesced_or : answers 200 (plain 0 (kind.Name (codes "a")) ∷ plain 1 (kind.Mark 31) ∷ plain 2 (kind.Name (codes "b")) ∷ plain 3 (kind.Mark 30) ∷ plain 4 (kind.Name (codes "c")) ∷ plain 5 (kind.Mark 6) ∷ plain 6 kind.End ∷ []) (Some false) 3
unfolding same jump_word control_word value_word operator_word of_word of_name of_mark of_kind infix_at symbol place is_broken text number next is_arrow is_arrow_next is_arrow_ahead refusal sees after expect arrow name any_name add leaf fork begins_assign opens too_deep part_at comma_or listed_from bind_name below named_leaf number_leaf text_leaf template_leaf starts_key function_name jump chain_from chain node_of nodes_of parameters_of body_of head_of bind default_value bind_element bind_under bind_property bind_properties bind_elements object_pattern array_pattern pattern primary suffix suffixes_from suffixes left_side new_arguments new_call postfix unary prefix operations operand short conditional behind_operand unparenthesized arrow_of_name arrow_of_list arrow_first group_first parenthesized named assign sequence_from sequence expression arrow_body group index computed_key element elements arguments array template_from template_parts template property_key member_under shorthand named_member getter setter member members object rest_parameter parameters_from parameter_list parameters no_parameters setter_parameter function_rest function_expression function_declaration initial declarator declarators_from declarators declaration else_clause if_statement while_statement do_statement for_statement return_value return_statement throw_statement catch_parameter catch_clause finally_clause try_statement expression_statement statement declaration_statement item items_from items block catch_bind optional loop_head of_head declared_head declared for_head level script
row_coalesced_or = refl

-- a || b ?? c;
pub row_or_coalesced : answers 200 (plain 0 (kind.Name (codes "a")) ∷ plain 1 (kind.Mark 30) ∷ plain 2 (kind.Name (codes "b")) ∷ plain 3 (kind.Mark 31) ∷ plain 4 (kind.Name (codes "c")) ∷ plain 5 (kind.Mark 6) ∷ plain 6 kind.End ∷ []) (Some false) 3
unfolding same jump_word control_word value_word operator_word of_word of_name of_mark of_kind infix_at symbol place is_broken text number next is_arrow is_arrow_next is_arrow_ahead refusal sees after expect arrow name any_name add leaf fork begins_assign opens too_deep part_at comma_or listed_from bind_name below named_leaf number_leaf text_leaf template_leaf starts_key function_name jump chain_from chain node_of nodes_of parameters_of body_of head_of bind default_value bind_element bind_under bind_property bind_properties bind_elements object_pattern array_pattern pattern primary suffix suffixes_from suffixes left_side new_arguments new_call postfix unary prefix operations operand short conditional behind_operand unparenthesized arrow_of_name arrow_of_list arrow_first group_first parenthesized named assign sequence_from sequence expression arrow_body group index computed_key element elements arguments array template_from template_parts template property_key member_under shorthand named_member getter setter member members object rest_parameter parameters_from parameter_list parameters no_parameters setter_parameter function_rest function_expression function_declaration initial declarator declarators_from declarators declaration else_clause if_statement while_statement do_statement for_statement return_value return_statement throw_statement catch_parameter catch_clause finally_clause try_statement expression_statement statement declaration_statement item items_from items block catch_bind optional loop_head of_head declared_head declared for_head level script
row_or_coalesced = refl

-- a | b ?? c ?? (d || e);
pub row_coalesced : answers 200 (plain 0 (kind.Name (codes "a")) ∷ plain 1 (kind.Mark 25) ∷ plain 2 (kind.Name (codes "b")) ∷ plain 3 (kind.Mark 31) ∷ plain 4 (kind.Name (codes "c")) ∷ plain 5 (kind.Mark 31) ∷ plain 6 (kind.Mark 2) ∷ plain 7 (kind.Name (codes "d")) ∷ plain 8 (kind.Mark 30) ∷ plain 9 (kind.Name (codes "e")) ∷ plain 10 (kind.Mark 3) ∷ plain 11 (kind.Mark 6) ∷ plain 12 kind.End ∷ []) None 1
unfolding same jump_word control_word value_word operator_word of_word of_name of_mark of_kind infix_at symbol place is_broken text number next is_arrow is_arrow_next is_arrow_ahead refusal sees after expect arrow name any_name add leaf fork begins_assign opens too_deep part_at comma_or listed_from bind_name below named_leaf number_leaf text_leaf template_leaf starts_key function_name jump chain_from chain node_of nodes_of parameters_of body_of head_of bind default_value bind_element bind_under bind_property bind_properties bind_elements object_pattern array_pattern pattern primary suffix suffixes_from suffixes left_side new_arguments new_call postfix unary prefix operations operand short conditional behind_operand unparenthesized arrow_of_name arrow_of_list arrow_first group_first parenthesized named assign sequence_from sequence expression arrow_body group index computed_key element elements arguments array template_from template_parts template property_key member_under shorthand named_member getter setter member members object rest_parameter parameters_from parameter_list parameters no_parameters setter_parameter function_rest function_expression function_declaration initial declarator declarators_from declarators declaration else_clause if_statement while_statement do_statement for_statement return_value return_statement throw_statement catch_parameter catch_clause finally_clause try_statement expression_statement statement declaration_statement item items_from items block catch_bind optional loop_head of_head declared_head declared for_head level script
row_coalesced = refl

-- a + b = 1;
pub row_sum_as_target : answers 200 (plain 0 (kind.Name (codes "a")) ∷ plain 1 (kind.Mark 16) ∷ plain 2 (kind.Name (codes "b")) ∷ plain 3 (kind.Mark 34) ∷ plain 4 (kind.Number (pos 1)) ∷ plain 5 (kind.Mark 6) ∷ plain 6 kind.End ∷ []) (Some false) 3
unfolding same jump_word control_word value_word operator_word of_word of_name of_mark of_kind infix_at symbol place is_broken text number next is_arrow is_arrow_next is_arrow_ahead refusal sees after expect arrow name any_name add leaf fork begins_assign opens too_deep part_at comma_or listed_from bind_name below named_leaf number_leaf text_leaf template_leaf starts_key function_name jump chain_from chain node_of nodes_of parameters_of body_of head_of bind default_value bind_element bind_under bind_property bind_properties bind_elements object_pattern array_pattern pattern primary suffix suffixes_from suffixes left_side new_arguments new_call postfix unary prefix operations operand short conditional behind_operand unparenthesized arrow_of_name arrow_of_list arrow_first group_first parenthesized named assign sequence_from sequence expression arrow_body group index computed_key element elements arguments array template_from template_parts template property_key member_under shorthand named_member getter setter member members object rest_parameter parameters_from parameter_list parameters no_parameters setter_parameter function_rest function_expression function_declaration initial declarator declarators_from declarators declaration else_clause if_statement while_statement do_statement for_statement return_value return_statement throw_statement catch_parameter catch_clause finally_clause try_statement expression_statement statement declaration_statement item items_from items block catch_bind optional loop_head of_head declared_head declared for_head level script
row_sum_as_target = refl

-- a ? b : c = d;
pub row_branch_as_target : answers 200 (plain 0 (kind.Name (codes "a")) ∷ plain 1 (kind.Mark 32) ∷ plain 2 (kind.Name (codes "b")) ∷ plain 3 (kind.Mark 33) ∷ plain 4 (kind.Name (codes "c")) ∷ plain 5 (kind.Mark 34) ∷ plain 6 (kind.Name (codes "d")) ∷ plain 7 (kind.Mark 6) ∷ plain 8 kind.End ∷ []) None 1
unfolding same jump_word control_word value_word operator_word of_word of_name of_mark of_kind infix_at symbol place is_broken text number next is_arrow is_arrow_next is_arrow_ahead refusal sees after expect arrow name any_name add leaf fork begins_assign opens too_deep part_at comma_or listed_from bind_name below named_leaf number_leaf text_leaf template_leaf starts_key function_name jump chain_from chain node_of nodes_of parameters_of body_of head_of bind default_value bind_element bind_under bind_property bind_properties bind_elements object_pattern array_pattern pattern primary suffix suffixes_from suffixes left_side new_arguments new_call postfix unary prefix operations operand short conditional behind_operand unparenthesized arrow_of_name arrow_of_list arrow_first group_first parenthesized named assign sequence_from sequence expression arrow_body group index computed_key element elements arguments array template_from template_parts template property_key member_under shorthand named_member getter setter member members object rest_parameter parameters_from parameter_list parameters no_parameters setter_parameter function_rest function_expression function_declaration initial declarator declarators_from declarators declaration else_clause if_statement while_statement do_statement for_statement return_value return_statement throw_statement catch_parameter catch_clause finally_clause try_statement expression_statement statement declaration_statement item items_from items block catch_bind optional loop_head of_head declared_head declared for_head level script
row_branch_as_target = refl

-- a = b ? c : d;
pub row_assigned_branch : answers 200 (plain 0 (kind.Name (codes "a")) ∷ plain 1 (kind.Mark 34) ∷ plain 2 (kind.Name (codes "b")) ∷ plain 3 (kind.Mark 32) ∷ plain 4 (kind.Name (codes "c")) ∷ plain 5 (kind.Mark 33) ∷ plain 6 (kind.Name (codes "d")) ∷ plain 7 (kind.Mark 6) ∷ plain 8 kind.End ∷ []) None 1
unfolding same jump_word control_word value_word operator_word of_word of_name of_mark of_kind infix_at symbol place is_broken text number next is_arrow is_arrow_next is_arrow_ahead refusal sees after expect arrow name any_name add leaf fork begins_assign opens too_deep part_at comma_or listed_from bind_name below named_leaf number_leaf text_leaf template_leaf starts_key function_name jump chain_from chain node_of nodes_of parameters_of body_of head_of bind default_value bind_element bind_under bind_property bind_properties bind_elements object_pattern array_pattern pattern primary suffix suffixes_from suffixes left_side new_arguments new_call postfix unary prefix operations operand short conditional behind_operand unparenthesized arrow_of_name arrow_of_list arrow_first group_first parenthesized named assign sequence_from sequence expression arrow_body group index computed_key element elements arguments array template_from template_parts template property_key member_under shorthand named_member getter setter member members object rest_parameter parameters_from parameter_list parameters no_parameters setter_parameter function_rest function_expression function_declaration initial declarator declarators_from declarators declaration else_clause if_statement while_statement do_statement for_statement return_value return_statement throw_statement catch_parameter catch_clause finally_clause try_statement expression_statement statement declaration_statement item items_from items block catch_bind optional loop_head of_head declared_head declared for_head level script
row_assigned_branch = refl

-- (a, b) = 1;
pub row_group_as_target : answers 200 (plain 0 (kind.Mark 2) ∷ plain 1 (kind.Name (codes "a")) ∷ plain 2 (kind.Mark 7) ∷ plain 3 (kind.Name (codes "b")) ∷ plain 4 (kind.Mark 3) ∷ plain 5 (kind.Mark 34) ∷ plain 6 (kind.Number (pos 1)) ∷ plain 7 (kind.Mark 6) ∷ plain 8 kind.End ∷ []) None 1
unfolding same jump_word control_word value_word operator_word of_word of_name of_mark of_kind infix_at symbol place is_broken text number next is_arrow is_arrow_next is_arrow_ahead refusal sees after expect arrow name any_name add leaf fork begins_assign opens too_deep part_at comma_or listed_from bind_name below named_leaf number_leaf text_leaf template_leaf starts_key function_name jump chain_from chain node_of nodes_of parameters_of body_of head_of bind default_value bind_element bind_under bind_property bind_properties bind_elements object_pattern array_pattern pattern primary suffix suffixes_from suffixes left_side new_arguments new_call postfix unary prefix operations operand short conditional behind_operand unparenthesized arrow_of_name arrow_of_list arrow_first group_first parenthesized named assign sequence_from sequence expression arrow_body group index computed_key element elements arguments array template_from template_parts template property_key member_under shorthand named_member getter setter member members object rest_parameter parameters_from parameter_list parameters no_parameters setter_parameter function_rest function_expression function_declaration initial declarator declarators_from declarators declaration else_clause if_statement while_statement do_statement for_statement return_value return_statement throw_statement catch_parameter catch_clause finally_clause try_statement expression_statement statement declaration_statement item items_from items block catch_bind optional loop_head of_head declared_head declared for_head level script
row_group_as_target = refl

-- f(a)[b].c **= 1;
pub row_operator_missing : answers 200 (plain 0 (kind.Name (codes "f")) ∷ plain 1 (kind.Mark 2) ∷ plain 2 (kind.Name (codes "a")) ∷ plain 3 (kind.Mark 3) ∷ plain 4 (kind.Mark 4) ∷ plain 5 (kind.Name (codes "b")) ∷ plain 6 (kind.Mark 5) ∷ plain 7 (kind.Mark 8) ∷ plain 8 (kind.Name (codes "c")) ∷ plain 9 (kind.Mark 18) ∷ plain 10 (kind.Mark 37) ∷ plain 11 (kind.Number (pos 1)) ∷ plain 12 (kind.Mark 6) ∷ plain 13 kind.End ∷ []) (Some false) 10
unfolding same jump_word control_word value_word operator_word of_word of_name of_mark of_kind infix_at symbol place is_broken text number next is_arrow is_arrow_next is_arrow_ahead refusal sees after expect arrow name any_name add leaf fork begins_assign opens too_deep part_at comma_or listed_from bind_name below named_leaf number_leaf text_leaf template_leaf starts_key function_name jump chain_from chain node_of nodes_of parameters_of body_of head_of bind default_value bind_element bind_under bind_property bind_properties bind_elements object_pattern array_pattern pattern primary suffix suffixes_from suffixes left_side new_arguments new_call postfix unary prefix operations operand short conditional behind_operand unparenthesized arrow_of_name arrow_of_list arrow_first group_first parenthesized named assign sequence_from sequence expression arrow_body group index computed_key element elements arguments array template_from template_parts template property_key member_under shorthand named_member getter setter member members object rest_parameter parameters_from parameter_list parameters no_parameters setter_parameter function_rest function_expression function_declaration initial declarator declarators_from declarators declaration else_clause if_statement while_statement do_statement for_statement return_value return_statement throw_statement catch_parameter catch_clause finally_clause try_statement expression_statement statement declaration_statement item items_from items block catch_bind optional loop_head of_head declared_head declared for_head level script
row_operator_missing = refl

-- new a.b(c)(d).e;
pub row_new_with_members : answers 200 (plain 0 (kind.Word (codes "new")) ∷ plain 1 (kind.Name (codes "a")) ∷ plain 2 (kind.Mark 8) ∷ plain 3 (kind.Name (codes "b")) ∷ plain 4 (kind.Mark 2) ∷ plain 5 (kind.Name (codes "c")) ∷ plain 6 (kind.Mark 3) ∷ plain 7 (kind.Mark 2) ∷ plain 8 (kind.Name (codes "d")) ∷ plain 9 (kind.Mark 3) ∷ plain 10 (kind.Mark 8) ∷ plain 11 (kind.Name (codes "e")) ∷ plain 12 (kind.Mark 6) ∷ plain 13 kind.End ∷ []) None 1
unfolding same jump_word control_word value_word operator_word of_word of_name of_mark of_kind infix_at symbol place is_broken text number next is_arrow is_arrow_next is_arrow_ahead refusal sees after expect arrow name any_name add leaf fork begins_assign opens too_deep part_at comma_or listed_from bind_name below named_leaf number_leaf text_leaf template_leaf starts_key function_name jump chain_from chain node_of nodes_of parameters_of body_of head_of bind default_value bind_element bind_under bind_property bind_properties bind_elements object_pattern array_pattern pattern primary suffix suffixes_from suffixes left_side new_arguments new_call postfix unary prefix operations operand short conditional behind_operand unparenthesized arrow_of_name arrow_of_list arrow_first group_first parenthesized named assign sequence_from sequence expression arrow_body group index computed_key element elements arguments array template_from template_parts template property_key member_under shorthand named_member getter setter member members object rest_parameter parameters_from parameter_list parameters no_parameters setter_parameter function_rest function_expression function_declaration initial declarator declarators_from declarators declaration else_clause if_statement while_statement do_statement for_statement return_value return_statement throw_statement catch_parameter catch_clause finally_clause try_statement expression_statement statement declaration_statement item items_from items block catch_bind optional loop_head of_head declared_head declared for_head level script
row_new_with_members = refl

-- new new a(1)(2)(3);
pub row_new_twice : answers 200 (plain 0 (kind.Word (codes "new")) ∷ plain 1 (kind.Word (codes "new")) ∷ plain 2 (kind.Name (codes "a")) ∷ plain 3 (kind.Mark 2) ∷ plain 4 (kind.Number (pos 1)) ∷ plain 5 (kind.Mark 3) ∷ plain 6 (kind.Mark 2) ∷ plain 7 (kind.Number (pos 2)) ∷ plain 8 (kind.Mark 3) ∷ plain 9 (kind.Mark 2) ∷ plain 10 (kind.Number (pos 3)) ∷ plain 11 (kind.Mark 3) ∷ plain 12 (kind.Mark 6) ∷ plain 13 kind.End ∷ []) None 1
unfolding same jump_word control_word value_word operator_word of_word of_name of_mark of_kind infix_at symbol place is_broken text number next is_arrow is_arrow_next is_arrow_ahead refusal sees after expect arrow name any_name add leaf fork begins_assign opens too_deep part_at comma_or listed_from bind_name below named_leaf number_leaf text_leaf template_leaf starts_key function_name jump chain_from chain node_of nodes_of parameters_of body_of head_of bind default_value bind_element bind_under bind_property bind_properties bind_elements object_pattern array_pattern pattern primary suffix suffixes_from suffixes left_side new_arguments new_call postfix unary prefix operations operand short conditional behind_operand unparenthesized arrow_of_name arrow_of_list arrow_first group_first parenthesized named assign sequence_from sequence expression arrow_body group index computed_key element elements arguments array template_from template_parts template property_key member_under shorthand named_member getter setter member members object rest_parameter parameters_from parameter_list parameters no_parameters setter_parameter function_rest function_expression function_declaration initial declarator declarators_from declarators declaration else_clause if_statement while_statement do_statement for_statement return_value return_statement throw_statement catch_parameter catch_clause finally_clause try_statement expression_statement statement declaration_statement item items_from items block catch_bind optional loop_head of_head declared_head declared for_head level script
row_new_twice = refl

-- new a.b;
pub row_new_alone : answers 200 (plain 0 (kind.Word (codes "new")) ∷ plain 1 (kind.Name (codes "a")) ∷ plain 2 (kind.Mark 8) ∷ plain 3 (kind.Name (codes "b")) ∷ plain 4 (kind.Mark 6) ∷ plain 5 kind.End ∷ []) None 1
unfolding same jump_word control_word value_word operator_word of_word of_name of_mark of_kind infix_at symbol place is_broken text number next is_arrow is_arrow_next is_arrow_ahead refusal sees after expect arrow name any_name add leaf fork begins_assign opens too_deep part_at comma_or listed_from bind_name below named_leaf number_leaf text_leaf template_leaf starts_key function_name jump chain_from chain node_of nodes_of parameters_of body_of head_of bind default_value bind_element bind_under bind_property bind_properties bind_elements object_pattern array_pattern pattern primary suffix suffixes_from suffixes left_side new_arguments new_call postfix unary prefix operations operand short conditional behind_operand unparenthesized arrow_of_name arrow_of_list arrow_first group_first parenthesized named assign sequence_from sequence expression arrow_body group index computed_key element elements arguments array template_from template_parts template property_key member_under shorthand named_member getter setter member members object rest_parameter parameters_from parameter_list parameters no_parameters setter_parameter function_rest function_expression function_declaration initial declarator declarators_from declarators declaration else_clause if_statement while_statement do_statement for_statement return_value return_statement throw_statement catch_parameter catch_clause finally_clause try_statement expression_statement statement declaration_statement item items_from items block catch_bind optional loop_head of_head declared_head declared for_head level script
row_new_alone = refl

-- ({get a() {return 1;}, set a(b) {}, get: 1, set, of, [c]: 2, d() {}, 'e': 3, 4: 5, if: 6, get() {}, set});
pub row_members : answers 200 (plain 0 (kind.Mark 2) ∷ plain 1 (kind.Mark 0) ∷ plain 2 (kind.Name (codes "get")) ∷ plain 3 (kind.Name (codes "a")) ∷ plain 4 (kind.Mark 2) ∷ plain 5 (kind.Mark 3) ∷ plain 6 (kind.Mark 0) ∷ plain 7 (kind.Word (codes "return")) ∷ plain 8 (kind.Number (pos 1)) ∷ plain 9 (kind.Mark 6) ∷ plain 10 (kind.Mark 1) ∷ plain 11 (kind.Mark 7) ∷ plain 12 (kind.Name (codes "set")) ∷ plain 13 (kind.Name (codes "a")) ∷ plain 14 (kind.Mark 2) ∷ plain 15 (kind.Name (codes "b")) ∷ plain 16 (kind.Mark 3) ∷ plain 17 (kind.Mark 0) ∷ plain 18 (kind.Mark 1) ∷ plain 19 (kind.Mark 7) ∷ plain 20 (kind.Name (codes "get")) ∷ plain 21 (kind.Mark 33) ∷ plain 22 (kind.Number (pos 1)) ∷ plain 23 (kind.Mark 7) ∷ plain 24 (kind.Name (codes "set")) ∷ plain 25 (kind.Mark 7) ∷ plain 26 (kind.Name (codes "of")) ∷ plain 27 (kind.Mark 7) ∷ plain 28 (kind.Mark 4) ∷ plain 29 (kind.Name (codes "c")) ∷ plain 30 (kind.Mark 5) ∷ plain 31 (kind.Mark 33) ∷ plain 32 (kind.Number (pos 2)) ∷ plain 33 (kind.Mark 7) ∷ plain 34 (kind.Name (codes "d")) ∷ plain 35 (kind.Mark 2) ∷ plain 36 (kind.Mark 3) ∷ plain 37 (kind.Mark 0) ∷ plain 38 (kind.Mark 1) ∷ plain 39 (kind.Mark 7) ∷ plain 40 (kind.Text (codes "e")) ∷ plain 41 (kind.Mark 33) ∷ plain 42 (kind.Number (pos 3)) ∷ plain 43 (kind.Mark 7) ∷ plain 44 (kind.Number (pos 4)) ∷ plain 45 (kind.Mark 33) ∷ plain 46 (kind.Number (pos 5)) ∷ plain 47 (kind.Mark 7) ∷ plain 48 (kind.Word (codes "if")) ∷ plain 49 (kind.Mark 33) ∷ plain 50 (kind.Number (pos 6)) ∷ plain 51 (kind.Mark 7) ∷ plain 52 (kind.Name (codes "get")) ∷ plain 53 (kind.Mark 2) ∷ plain 54 (kind.Mark 3) ∷ plain 55 (kind.Mark 0) ∷ plain 56 (kind.Mark 1) ∷ plain 57 (kind.Mark 7) ∷ plain 58 (kind.Name (codes "set")) ∷ plain 59 (kind.Mark 1) ∷ plain 60 (kind.Mark 3) ∷ plain 61 (kind.Mark 6) ∷ plain 62 kind.End ∷ []) None 1
unfolding same jump_word control_word value_word operator_word of_word of_name of_mark of_kind infix_at symbol place is_broken text number next is_arrow is_arrow_next is_arrow_ahead refusal sees after expect arrow name any_name add leaf fork begins_assign opens too_deep part_at comma_or listed_from bind_name below named_leaf number_leaf text_leaf template_leaf starts_key function_name jump chain_from chain node_of nodes_of parameters_of body_of head_of bind default_value bind_element bind_under bind_property bind_properties bind_elements object_pattern array_pattern pattern primary suffix suffixes_from suffixes left_side new_arguments new_call postfix unary prefix operations operand short conditional behind_operand unparenthesized arrow_of_name arrow_of_list arrow_first group_first parenthesized named assign sequence_from sequence expression arrow_body group index computed_key element elements arguments array template_from template_parts template property_key member_under shorthand named_member getter setter member members object rest_parameter parameters_from parameter_list parameters no_parameters setter_parameter function_rest function_expression function_declaration initial declarator declarators_from declarators declaration else_clause if_statement while_statement do_statement for_statement return_value return_statement throw_statement catch_parameter catch_clause finally_clause try_statement expression_statement statement declaration_statement item items_from items block catch_bind optional loop_head of_head declared_head declared for_head level script
row_members = refl

-- ({1});
pub row_key_alone : answers 200 (plain 0 (kind.Mark 2) ∷ plain 1 (kind.Mark 0) ∷ plain 2 (kind.Number (pos 1)) ∷ plain 3 (kind.Mark 1) ∷ plain 4 (kind.Mark 3) ∷ plain 5 (kind.Mark 6) ∷ plain 6 kind.End ∷ []) (Some false) 3
unfolding same jump_word control_word value_word operator_word of_word of_name of_mark of_kind infix_at symbol place is_broken text number next is_arrow is_arrow_next is_arrow_ahead refusal sees after expect arrow name any_name add leaf fork begins_assign opens too_deep part_at comma_or listed_from bind_name below named_leaf number_leaf text_leaf template_leaf starts_key function_name jump chain_from chain node_of nodes_of parameters_of body_of head_of bind default_value bind_element bind_under bind_property bind_properties bind_elements object_pattern array_pattern pattern primary suffix suffixes_from suffixes left_side new_arguments new_call postfix unary prefix operations operand short conditional behind_operand unparenthesized arrow_of_name arrow_of_list arrow_first group_first parenthesized named assign sequence_from sequence expression arrow_body group index computed_key element elements arguments array template_from template_parts template property_key member_under shorthand named_member getter setter member members object rest_parameter parameters_from parameter_list parameters no_parameters setter_parameter function_rest function_expression function_declaration initial declarator declarators_from declarators declaration else_clause if_statement while_statement do_statement for_statement return_value return_statement throw_statement catch_parameter catch_clause finally_clause try_statement expression_statement statement declaration_statement item items_from items block catch_bind optional loop_head of_head declared_head declared for_head level script
row_key_alone = refl

-- ({if});
pub row_word_alone : answers 200 (plain 0 (kind.Mark 2) ∷ plain 1 (kind.Mark 0) ∷ plain 2 (kind.Word (codes "if")) ∷ plain 3 (kind.Mark 1) ∷ plain 4 (kind.Mark 3) ∷ plain 5 (kind.Mark 6) ∷ plain 6 kind.End ∷ []) (Some false) 3
unfolding same jump_word control_word value_word operator_word of_word of_name of_mark of_kind infix_at symbol place is_broken text number next is_arrow is_arrow_next is_arrow_ahead refusal sees after expect arrow name any_name add leaf fork begins_assign opens too_deep part_at comma_or listed_from bind_name below named_leaf number_leaf text_leaf template_leaf starts_key function_name jump chain_from chain node_of nodes_of parameters_of body_of head_of bind default_value bind_element bind_under bind_property bind_properties bind_elements object_pattern array_pattern pattern primary suffix suffixes_from suffixes left_side new_arguments new_call postfix unary prefix operations operand short conditional behind_operand unparenthesized arrow_of_name arrow_of_list arrow_first group_first parenthesized named assign sequence_from sequence expression arrow_body group index computed_key element elements arguments array template_from template_parts template property_key member_under shorthand named_member getter setter member members object rest_parameter parameters_from parameter_list parameters no_parameters setter_parameter function_rest function_expression function_declaration initial declarator declarators_from declarators declaration else_clause if_statement while_statement do_statement for_statement return_value return_statement throw_statement catch_parameter catch_clause finally_clause try_statement expression_statement statement declaration_statement item items_from items block catch_bind optional loop_head of_head declared_head declared for_head level script
row_word_alone = refl

-- ({get a(b) {}});
pub row_getter_with_parameter : answers 200 (plain 0 (kind.Mark 2) ∷ plain 1 (kind.Mark 0) ∷ plain 2 (kind.Name (codes "get")) ∷ plain 3 (kind.Name (codes "a")) ∷ plain 4 (kind.Mark 2) ∷ plain 5 (kind.Name (codes "b")) ∷ plain 6 (kind.Mark 3) ∷ plain 7 (kind.Mark 0) ∷ plain 8 (kind.Mark 1) ∷ plain 9 (kind.Mark 1) ∷ plain 10 (kind.Mark 3) ∷ plain 11 (kind.Mark 6) ∷ plain 12 kind.End ∷ []) (Some false) 5
unfolding same jump_word control_word value_word operator_word of_word of_name of_mark of_kind infix_at symbol place is_broken text number next is_arrow is_arrow_next is_arrow_ahead refusal sees after expect arrow name any_name add leaf fork begins_assign opens too_deep part_at comma_or listed_from bind_name below named_leaf number_leaf text_leaf template_leaf starts_key function_name jump chain_from chain node_of nodes_of parameters_of body_of head_of bind default_value bind_element bind_under bind_property bind_properties bind_elements object_pattern array_pattern pattern primary suffix suffixes_from suffixes left_side new_arguments new_call postfix unary prefix operations operand short conditional behind_operand unparenthesized arrow_of_name arrow_of_list arrow_first group_first parenthesized named assign sequence_from sequence expression arrow_body group index computed_key element elements arguments array template_from template_parts template property_key member_under shorthand named_member getter setter member members object rest_parameter parameters_from parameter_list parameters no_parameters setter_parameter function_rest function_expression function_declaration initial declarator declarators_from declarators declaration else_clause if_statement while_statement do_statement for_statement return_value return_statement throw_statement catch_parameter catch_clause finally_clause try_statement expression_statement statement declaration_statement item items_from items block catch_bind optional loop_head of_head declared_head declared for_head level script
row_getter_with_parameter = refl

-- (x) => {}.y;
pub row_behind_arrow_block : answers 200 (plain 0 (kind.Mark 2) ∷ plain 1 (kind.Name (codes "x")) ∷ plain 2 (kind.Mark 3) ∷ plain 3 (kind.Mark 42) ∷ plain 4 (kind.Mark 0) ∷ plain 5 (kind.Mark 1) ∷ plain 6 (kind.Mark 8) ∷ plain 7 (kind.Name (codes "y")) ∷ plain 8 (kind.Mark 6) ∷ plain 9 kind.End ∷ []) (Some false) 6
unfolding same jump_word control_word value_word operator_word of_word of_name of_mark of_kind infix_at symbol place is_broken text number next is_arrow is_arrow_next is_arrow_ahead refusal sees after expect arrow name any_name add leaf fork begins_assign opens too_deep part_at comma_or listed_from bind_name below named_leaf number_leaf text_leaf template_leaf starts_key function_name jump chain_from chain node_of nodes_of parameters_of body_of head_of bind default_value bind_element bind_under bind_property bind_properties bind_elements object_pattern array_pattern pattern primary suffix suffixes_from suffixes left_side new_arguments new_call postfix unary prefix operations operand short conditional behind_operand unparenthesized arrow_of_name arrow_of_list arrow_first group_first parenthesized named assign sequence_from sequence expression arrow_body group index computed_key element elements arguments array template_from template_parts template property_key member_under shorthand named_member getter setter member members object rest_parameter parameters_from parameter_list parameters no_parameters setter_parameter function_rest function_expression function_declaration initial declarator declarators_from declarators declaration else_clause if_statement while_statement do_statement for_statement return_value return_statement throw_statement catch_parameter catch_clause finally_clause try_statement expression_statement statement declaration_statement item items_from items block catch_bind optional loop_head of_head declared_head declared for_head level script
row_behind_arrow_block = refl

-- a => ({b});
pub row_arrow_to_object : answers 200 (plain 0 (kind.Name (codes "a")) ∷ plain 1 (kind.Mark 42) ∷ plain 2 (kind.Mark 2) ∷ plain 3 (kind.Mark 0) ∷ plain 4 (kind.Name (codes "b")) ∷ plain 5 (kind.Mark 1) ∷ plain 6 (kind.Mark 3) ∷ plain 7 (kind.Mark 6) ∷ plain 8 kind.End ∷ []) None 1
unfolding same jump_word control_word value_word operator_word of_word of_name of_mark of_kind infix_at symbol place is_broken text number next is_arrow is_arrow_next is_arrow_ahead refusal sees after expect arrow name any_name add leaf fork begins_assign opens too_deep part_at comma_or listed_from bind_name below named_leaf number_leaf text_leaf template_leaf starts_key function_name jump chain_from chain node_of nodes_of parameters_of body_of head_of bind default_value bind_element bind_under bind_property bind_properties bind_elements object_pattern array_pattern pattern primary suffix suffixes_from suffixes left_side new_arguments new_call postfix unary prefix operations operand short conditional behind_operand unparenthesized arrow_of_name arrow_of_list arrow_first group_first parenthesized named assign sequence_from sequence expression arrow_body group index computed_key element elements arguments array template_from template_parts template property_key member_under shorthand named_member getter setter member members object rest_parameter parameters_from parameter_list parameters no_parameters setter_parameter function_rest function_expression function_declaration initial declarator declarators_from declarators declaration else_clause if_statement while_statement do_statement for_statement return_value return_statement throw_statement catch_parameter catch_clause finally_clause try_statement expression_statement statement declaration_statement item items_from items block catch_bind optional loop_head of_head declared_head declared for_head level script
row_arrow_to_object = refl

-- a => (b, {c = d}, [e] = f, ...g) => h;
pub row_arrow_in_arrow : answers 200 (plain 0 (kind.Name (codes "a")) ∷ plain 1 (kind.Mark 42) ∷ plain 2 (kind.Mark 2) ∷ plain 3 (kind.Name (codes "b")) ∷ plain 4 (kind.Mark 7) ∷ plain 5 (kind.Mark 0) ∷ plain 6 (kind.Name (codes "c")) ∷ plain 7 (kind.Mark 34) ∷ plain 8 (kind.Name (codes "d")) ∷ plain 9 (kind.Mark 1) ∷ plain 10 (kind.Mark 7) ∷ plain 11 (kind.Mark 4) ∷ plain 12 (kind.Name (codes "e")) ∷ plain 13 (kind.Mark 5) ∷ plain 14 (kind.Mark 34) ∷ plain 15 (kind.Name (codes "f")) ∷ plain 16 (kind.Mark 7) ∷ plain 17 (kind.Mark 9) ∷ plain 18 (kind.Name (codes "g")) ∷ plain 19 (kind.Mark 3) ∷ plain 20 (kind.Mark 42) ∷ plain 21 (kind.Name (codes "h")) ∷ plain 22 (kind.Mark 6) ∷ plain 23 kind.End ∷ []) None 1
unfolding same jump_word control_word value_word operator_word of_word of_name of_mark of_kind infix_at symbol place is_broken text number next is_arrow is_arrow_next is_arrow_ahead refusal sees after expect arrow name any_name add leaf fork begins_assign opens too_deep part_at comma_or listed_from bind_name below named_leaf number_leaf text_leaf template_leaf starts_key function_name jump chain_from chain node_of nodes_of parameters_of body_of head_of bind default_value bind_element bind_under bind_property bind_properties bind_elements object_pattern array_pattern pattern primary suffix suffixes_from suffixes left_side new_arguments new_call postfix unary prefix operations operand short conditional behind_operand unparenthesized arrow_of_name arrow_of_list arrow_first group_first parenthesized named assign sequence_from sequence expression arrow_body group index computed_key element elements arguments array template_from template_parts template property_key member_under shorthand named_member getter setter member members object rest_parameter parameters_from parameter_list parameters no_parameters setter_parameter function_rest function_expression function_declaration initial declarator declarators_from declarators declaration else_clause if_statement while_statement do_statement for_statement return_value return_statement throw_statement catch_parameter catch_clause finally_clause try_statement expression_statement statement declaration_statement item items_from items block catch_bind optional loop_head of_head declared_head declared for_head level script
row_arrow_in_arrow = refl

-- a.if.new;
pub row_word_as_member : answers 200 (plain 0 (kind.Name (codes "a")) ∷ plain 1 (kind.Mark 8) ∷ plain 2 (kind.Word (codes "if")) ∷ plain 3 (kind.Mark 8) ∷ plain 4 (kind.Word (codes "new")) ∷ plain 5 (kind.Mark 6) ∷ plain 6 kind.End ∷ []) None 1
unfolding same jump_word control_word value_word operator_word of_word of_name of_mark of_kind infix_at symbol place is_broken text number next is_arrow is_arrow_next is_arrow_ahead refusal sees after expect arrow name any_name add leaf fork begins_assign opens too_deep part_at comma_or listed_from bind_name below named_leaf number_leaf text_leaf template_leaf starts_key function_name jump chain_from chain node_of nodes_of parameters_of body_of head_of bind default_value bind_element bind_under bind_property bind_properties bind_elements object_pattern array_pattern pattern primary suffix suffixes_from suffixes left_side new_arguments new_call postfix unary prefix operations operand short conditional behind_operand unparenthesized arrow_of_name arrow_of_list arrow_first group_first parenthesized named assign sequence_from sequence expression arrow_body group index computed_key element elements arguments array template_from template_parts template property_key member_under shorthand named_member getter setter member members object rest_parameter parameters_from parameter_list parameters no_parameters setter_parameter function_rest function_expression function_declaration initial declarator declarators_from declarators declaration else_clause if_statement while_statement do_statement for_statement return_value return_statement throw_statement catch_parameter catch_clause finally_clause try_statement expression_statement statement declaration_statement item items_from items block catch_bind optional loop_head of_head declared_head declared for_head level script
row_word_as_member = refl

-- import(x);
pub row_reserved_word : answers 200 (plain 0 (kind.Word (codes "import")) ∷ plain 1 (kind.Mark 2) ∷ plain 2 (kind.Name (codes "x")) ∷ plain 3 (kind.Mark 3) ∷ plain 4 (kind.Mark 6) ∷ plain 5 kind.End ∷ []) (Some false) 0
unfolding same jump_word control_word value_word operator_word of_word of_name of_mark of_kind infix_at symbol place is_broken text number next is_arrow is_arrow_next is_arrow_ahead refusal sees after expect arrow name any_name add leaf fork begins_assign opens too_deep part_at comma_or listed_from bind_name below named_leaf number_leaf text_leaf template_leaf starts_key function_name jump chain_from chain node_of nodes_of parameters_of body_of head_of bind default_value bind_element bind_under bind_property bind_properties bind_elements object_pattern array_pattern pattern primary suffix suffixes_from suffixes left_side new_arguments new_call postfix unary prefix operations operand short conditional behind_operand unparenthesized arrow_of_name arrow_of_list arrow_first group_first parenthesized named assign sequence_from sequence expression arrow_body group index computed_key element elements arguments array template_from template_parts template property_key member_under shorthand named_member getter setter member members object rest_parameter parameters_from parameter_list parameters no_parameters setter_parameter function_rest function_expression function_declaration initial declarator declarators_from declarators declaration else_clause if_statement while_statement do_statement for_statement return_value return_statement throw_statement catch_parameter catch_clause finally_clause try_statement expression_statement statement declaration_statement item items_from items block catch_bind optional loop_head of_head declared_head declared for_head level script
row_reserved_word = refl

-- let let = 1;
pub row_let_let : answers 200 (plain 0 (kind.Word (codes "let")) ∷ plain 1 (kind.Word (codes "let")) ∷ plain 2 (kind.Mark 34) ∷ plain 3 (kind.Number (pos 1)) ∷ plain 4 (kind.Mark 6) ∷ plain 5 kind.End ∷ []) (Some false) 1
unfolding same jump_word control_word value_word operator_word of_word of_name of_mark of_kind infix_at symbol place is_broken text number next is_arrow is_arrow_next is_arrow_ahead refusal sees after expect arrow name any_name add leaf fork begins_assign opens too_deep part_at comma_or listed_from bind_name below named_leaf number_leaf text_leaf template_leaf starts_key function_name jump chain_from chain node_of nodes_of parameters_of body_of head_of bind default_value bind_element bind_under bind_property bind_properties bind_elements object_pattern array_pattern pattern primary suffix suffixes_from suffixes left_side new_arguments new_call postfix unary prefix operations operand short conditional behind_operand unparenthesized arrow_of_name arrow_of_list arrow_first group_first parenthesized named assign sequence_from sequence expression arrow_body group index computed_key element elements arguments array template_from template_parts template property_key member_under shorthand named_member getter setter member members object rest_parameter parameters_from parameter_list parameters no_parameters setter_parameter function_rest function_expression function_declaration initial declarator declarators_from declarators declaration else_clause if_statement while_statement do_statement for_statement return_value return_statement throw_statement catch_parameter catch_clause finally_clause try_statement expression_statement statement declaration_statement item items_from items block catch_bind optional loop_head of_head declared_head declared for_head level script
row_let_let = refl

-- `a`; `${a}${b, c}d`;
pub row_templates : answers 200 (plain 0 (kind.Piece [] true true) ∷ plain 1 (kind.Mark 6) ∷ plain 2 (kind.Piece [] true false) ∷ plain 3 (kind.Name (codes "a")) ∷ plain 4 (kind.Piece [] false false) ∷ plain 5 (kind.Name (codes "b")) ∷ plain 6 (kind.Mark 7) ∷ plain 7 (kind.Name (codes "c")) ∷ plain 8 (kind.Piece [] false true) ∷ plain 9 (kind.Mark 6) ∷ plain 10 kind.End ∷ []) None 1
unfolding same jump_word control_word value_word operator_word of_word of_name of_mark of_kind infix_at symbol place is_broken text number next is_arrow is_arrow_next is_arrow_ahead refusal sees after expect arrow name any_name add leaf fork begins_assign opens too_deep part_at comma_or listed_from bind_name below named_leaf number_leaf text_leaf template_leaf starts_key function_name jump chain_from chain node_of nodes_of parameters_of body_of head_of bind default_value bind_element bind_under bind_property bind_properties bind_elements object_pattern array_pattern pattern primary suffix suffixes_from suffixes left_side new_arguments new_call postfix unary prefix operations operand short conditional behind_operand unparenthesized arrow_of_name arrow_of_list arrow_first group_first parenthesized named assign sequence_from sequence expression arrow_body group index computed_key element elements arguments array template_from template_parts template property_key member_under shorthand named_member getter setter member members object rest_parameter parameters_from parameter_list parameters no_parameters setter_parameter function_rest function_expression function_declaration initial declarator declarators_from declarators declaration else_clause if_statement while_statement do_statement for_statement return_value return_statement throw_statement catch_parameter catch_clause finally_clause try_statement expression_statement statement declaration_statement item items_from items block catch_bind optional loop_head of_head declared_head declared for_head level script
row_templates = refl

-- `${}`;
pub row_template_part_missing : answers 200 (plain 0 (kind.Piece [] true false) ∷ plain 1 (kind.Piece [] false true) ∷ plain 2 (kind.Mark 6) ∷ plain 3 kind.End ∷ []) (Some false) 1
unfolding same jump_word control_word value_word operator_word of_word of_name of_mark of_kind infix_at symbol place is_broken text number next is_arrow is_arrow_next is_arrow_ahead refusal sees after expect arrow name any_name add leaf fork begins_assign opens too_deep part_at comma_or listed_from bind_name below named_leaf number_leaf text_leaf template_leaf starts_key function_name jump chain_from chain node_of nodes_of parameters_of body_of head_of bind default_value bind_element bind_under bind_property bind_properties bind_elements object_pattern array_pattern pattern primary suffix suffixes_from suffixes left_side new_arguments new_call postfix unary prefix operations operand short conditional behind_operand unparenthesized arrow_of_name arrow_of_list arrow_first group_first parenthesized named assign sequence_from sequence expression arrow_body group index computed_key element elements arguments array template_from template_parts template property_key member_under shorthand named_member getter setter member members object rest_parameter parameters_from parameter_list parameters no_parameters setter_parameter function_rest function_expression function_declaration initial declarator declarators_from declarators declaration else_clause if_statement while_statement do_statement for_statement return_value return_statement throw_statement catch_parameter catch_clause finally_clause try_statement expression_statement statement declaration_statement item items_from items block catch_bind optional loop_head of_head declared_head declared for_head level script
row_template_part_missing = refl

-- delete a.b, typeof void !~+-++a, b++;
pub row_unary : answers 200 (plain 0 (kind.Word (codes "delete")) ∷ plain 1 (kind.Name (codes "a")) ∷ plain 2 (kind.Mark 8) ∷ plain 3 (kind.Name (codes "b")) ∷ plain 4 (kind.Mark 7) ∷ plain 5 (kind.Word (codes "typeof")) ∷ plain 6 (kind.Word (codes "void")) ∷ plain 7 (kind.Mark 27) ∷ plain 8 (kind.Mark 28) ∷ plain 9 (kind.Mark 16) ∷ plain 10 (kind.Mark 17) ∷ plain 11 (kind.Mark 40) ∷ plain 12 (kind.Name (codes "a")) ∷ plain 13 (kind.Mark 7) ∷ plain 14 (kind.Name (codes "b")) ∷ plain 15 (kind.Mark 40) ∷ plain 16 (kind.Mark 6) ∷ plain 17 kind.End ∷ []) None 1
unfolding same jump_word control_word value_word operator_word of_word of_name of_mark of_kind infix_at symbol place is_broken text number next is_arrow is_arrow_next is_arrow_ahead refusal sees after expect arrow name any_name add leaf fork begins_assign opens too_deep part_at comma_or listed_from bind_name below named_leaf number_leaf text_leaf template_leaf starts_key function_name jump chain_from chain node_of nodes_of parameters_of body_of head_of bind default_value bind_element bind_under bind_property bind_properties bind_elements object_pattern array_pattern pattern primary suffix suffixes_from suffixes left_side new_arguments new_call postfix unary prefix operations operand short conditional behind_operand unparenthesized arrow_of_name arrow_of_list arrow_first group_first parenthesized named assign sequence_from sequence expression arrow_body group index computed_key element elements arguments array template_from template_parts template property_key member_under shorthand named_member getter setter member members object rest_parameter parameters_from parameter_list parameters no_parameters setter_parameter function_rest function_expression function_declaration initial declarator declarators_from declarators declaration else_clause if_statement while_statement do_statement for_statement return_value return_statement throw_statement catch_parameter catch_clause finally_clause try_statement expression_statement statement declaration_statement item items_from items block catch_bind optional loop_head of_head declared_head declared for_head level script
row_unary = refl

-- do ; while (a);
pub row_do_while : answers 200 (plain 0 (kind.Word (codes "do")) ∷ plain 1 (kind.Mark 6) ∷ plain 2 (kind.Word (codes "while")) ∷ plain 3 (kind.Mark 2) ∷ plain 4 (kind.Name (codes "a")) ∷ plain 5 (kind.Mark 3) ∷ plain 6 (kind.Mark 6) ∷ plain 7 kind.End ∷ []) None 1
unfolding same jump_word control_word value_word operator_word of_word of_name of_mark of_kind infix_at symbol place is_broken text number next is_arrow is_arrow_next is_arrow_ahead refusal sees after expect arrow name any_name add leaf fork begins_assign opens too_deep part_at comma_or listed_from bind_name below named_leaf number_leaf text_leaf template_leaf starts_key function_name jump chain_from chain node_of nodes_of parameters_of body_of head_of bind default_value bind_element bind_under bind_property bind_properties bind_elements object_pattern array_pattern pattern primary suffix suffixes_from suffixes left_side new_arguments new_call postfix unary prefix operations operand short conditional behind_operand unparenthesized arrow_of_name arrow_of_list arrow_first group_first parenthesized named assign sequence_from sequence expression arrow_body group index computed_key element elements arguments array template_from template_parts template property_key member_under shorthand named_member getter setter member members object rest_parameter parameters_from parameter_list parameters no_parameters setter_parameter function_rest function_expression function_declaration initial declarator declarators_from declarators declaration else_clause if_statement while_statement do_statement for_statement return_value return_statement throw_statement catch_parameter catch_clause finally_clause try_statement expression_statement statement declaration_statement item items_from items block catch_bind optional loop_head of_head declared_head declared for_head level script
row_do_while = refl

-- do ; while (a)
pub row_do_while_unended : answers 200 (plain 0 (kind.Word (codes "do")) ∷ plain 1 (kind.Mark 6) ∷ plain 2 (kind.Word (codes "while")) ∷ plain 3 (kind.Mark 2) ∷ plain 4 (kind.Name (codes "a")) ∷ plain 5 (kind.Mark 3) ∷ plain 6 kind.End ∷ []) (Some false) 6
unfolding same jump_word control_word value_word operator_word of_word of_name of_mark of_kind infix_at symbol place is_broken text number next is_arrow is_arrow_next is_arrow_ahead refusal sees after expect arrow name any_name add leaf fork begins_assign opens too_deep part_at comma_or listed_from bind_name below named_leaf number_leaf text_leaf template_leaf starts_key function_name jump chain_from chain node_of nodes_of parameters_of body_of head_of bind default_value bind_element bind_under bind_property bind_properties bind_elements object_pattern array_pattern pattern primary suffix suffixes_from suffixes left_side new_arguments new_call postfix unary prefix operations operand short conditional behind_operand unparenthesized arrow_of_name arrow_of_list arrow_first group_first parenthesized named assign sequence_from sequence expression arrow_body group index computed_key element elements arguments array template_from template_parts template property_key member_under shorthand named_member getter setter member members object rest_parameter parameters_from parameter_list parameters no_parameters setter_parameter function_rest function_expression function_declaration initial declarator declarators_from declarators declaration else_clause if_statement while_statement do_statement for_statement return_value return_statement throw_statement catch_parameter catch_clause finally_clause try_statement expression_statement statement declaration_statement item items_from items block catch_bind optional loop_head of_head declared_head declared for_head level script
row_do_while_unended = refl

-- (function () {})();
pub row_call_of_function : answers 200 (plain 0 (kind.Mark 2) ∷ plain 1 (kind.Word (codes "function")) ∷ plain 2 (kind.Mark 2) ∷ plain 3 (kind.Mark 3) ∷ plain 4 (kind.Mark 0) ∷ plain 5 (kind.Mark 1) ∷ plain 6 (kind.Mark 3) ∷ plain 7 (kind.Mark 2) ∷ plain 8 (kind.Mark 3) ∷ plain 9 (kind.Mark 6) ∷ plain 10 kind.End ∷ []) None 1
unfolding same jump_word control_word value_word operator_word of_word of_name of_mark of_kind infix_at symbol place is_broken text number next is_arrow is_arrow_next is_arrow_ahead refusal sees after expect arrow name any_name add leaf fork begins_assign opens too_deep part_at comma_or listed_from bind_name below named_leaf number_leaf text_leaf template_leaf starts_key function_name jump chain_from chain node_of nodes_of parameters_of body_of head_of bind default_value bind_element bind_under bind_property bind_properties bind_elements object_pattern array_pattern pattern primary suffix suffixes_from suffixes left_side new_arguments new_call postfix unary prefix operations operand short conditional behind_operand unparenthesized arrow_of_name arrow_of_list arrow_first group_first parenthesized named assign sequence_from sequence expression arrow_body group index computed_key element elements arguments array template_from template_parts template property_key member_under shorthand named_member getter setter member members object rest_parameter parameters_from parameter_list parameters no_parameters setter_parameter function_rest function_expression function_declaration initial declarator declarators_from declarators declaration else_clause if_statement while_statement do_statement for_statement return_value return_statement throw_statement catch_parameter catch_clause finally_clause try_statement expression_statement statement declaration_statement item items_from items block catch_bind optional loop_head of_head declared_head declared for_head level script
row_call_of_function = refl

-- function () {}
pub row_statement_of_function : answers 200 (plain 0 (kind.Word (codes "function")) ∷ plain 1 (kind.Mark 2) ∷ plain 2 (kind.Mark 3) ∷ plain 3 (kind.Mark 0) ∷ plain 4 (kind.Mark 1) ∷ plain 5 kind.End ∷ []) (Some false) 1
unfolding same jump_word control_word value_word operator_word of_word of_name of_mark of_kind infix_at symbol place is_broken text number next is_arrow is_arrow_next is_arrow_ahead refusal sees after expect arrow name any_name add leaf fork begins_assign opens too_deep part_at comma_or listed_from bind_name below named_leaf number_leaf text_leaf template_leaf starts_key function_name jump chain_from chain node_of nodes_of parameters_of body_of head_of bind default_value bind_element bind_under bind_property bind_properties bind_elements object_pattern array_pattern pattern primary suffix suffixes_from suffixes left_side new_arguments new_call postfix unary prefix operations operand short conditional behind_operand unparenthesized arrow_of_name arrow_of_list arrow_first group_first parenthesized named assign sequence_from sequence expression arrow_body group index computed_key element elements arguments array template_from template_parts template property_key member_under shorthand named_member getter setter member members object rest_parameter parameters_from parameter_list parameters no_parameters setter_parameter function_rest function_expression function_declaration initial declarator declarators_from declarators declaration else_clause if_statement while_statement do_statement for_statement return_value return_statement throw_statement catch_parameter catch_clause finally_clause try_statement expression_statement statement declaration_statement item items_from items block catch_bind optional loop_head of_head declared_head declared for_head level script
row_statement_of_function = refl

-- a b;
pub row_no_semicolon : answers 200 (plain 0 (kind.Name (codes "a")) ∷ plain 1 (kind.Name (codes "b")) ∷ plain 2 (kind.Mark 6) ∷ plain 3 kind.End ∷ []) (Some false) 1
unfolding same jump_word control_word value_word operator_word of_word of_name of_mark of_kind infix_at symbol place is_broken text number next is_arrow is_arrow_next is_arrow_ahead refusal sees after expect arrow name any_name add leaf fork begins_assign opens too_deep part_at comma_or listed_from bind_name below named_leaf number_leaf text_leaf template_leaf starts_key function_name jump chain_from chain node_of nodes_of parameters_of body_of head_of bind default_value bind_element bind_under bind_property bind_properties bind_elements object_pattern array_pattern pattern primary suffix suffixes_from suffixes left_side new_arguments new_call postfix unary prefix operations operand short conditional behind_operand unparenthesized arrow_of_name arrow_of_list arrow_first group_first parenthesized named assign sequence_from sequence expression arrow_body group index computed_key element elements arguments array template_from template_parts template property_key member_under shorthand named_member getter setter member members object rest_parameter parameters_from parameter_list parameters no_parameters setter_parameter function_rest function_expression function_declaration initial declarator declarators_from declarators declaration else_clause if_statement while_statement do_statement for_statement return_value return_statement throw_statement catch_parameter catch_clause finally_clause try_statement expression_statement statement declaration_statement item items_from items block catch_bind optional loop_head of_head declared_head declared for_head level script
row_no_semicolon = refl

-- ((a));
pub row_second_group_too_deep : answers 1 (plain 0 (kind.Mark 2) ∷ plain 1 (kind.Mark 2) ∷ plain 2 (kind.Name (codes "a")) ∷ plain 3 (kind.Mark 3) ∷ plain 4 (kind.Mark 3) ∷ plain 5 (kind.Mark 6) ∷ plain 6 kind.End ∷ []) (Some true) 1
unfolding same jump_word control_word value_word operator_word of_word of_name of_mark of_kind infix_at symbol place is_broken text number next is_arrow is_arrow_next is_arrow_ahead refusal sees after expect arrow name any_name add leaf fork begins_assign opens too_deep part_at comma_or listed_from bind_name below named_leaf number_leaf text_leaf template_leaf starts_key function_name jump chain_from chain node_of nodes_of parameters_of body_of head_of bind default_value bind_element bind_under bind_property bind_properties bind_elements object_pattern array_pattern pattern primary suffix suffixes_from suffixes left_side new_arguments new_call postfix unary prefix operations operand short conditional behind_operand unparenthesized arrow_of_name arrow_of_list arrow_first group_first parenthesized named assign sequence_from sequence expression arrow_body group index computed_key element elements arguments array template_from template_parts template property_key member_under shorthand named_member getter setter member members object rest_parameter parameters_from parameter_list parameters no_parameters setter_parameter function_rest function_expression function_declaration initial declarator declarators_from declarators declaration else_clause if_statement while_statement do_statement for_statement return_value return_statement throw_statement catch_parameter catch_clause finally_clause try_statement expression_statement statement declaration_statement item items_from items block catch_bind optional loop_head of_head declared_head declared for_head level script
row_second_group_too_deep = refl

-- ((a));
pub row_group_within : answers 2 (plain 0 (kind.Mark 2) ∷ plain 1 (kind.Mark 2) ∷ plain 2 (kind.Name (codes "a")) ∷ plain 3 (kind.Mark 3) ∷ plain 4 (kind.Mark 3) ∷ plain 5 (kind.Mark 6) ∷ plain 6 kind.End ∷ []) None 1
unfolding same jump_word control_word value_word operator_word of_word of_name of_mark of_kind infix_at symbol place is_broken text number next is_arrow is_arrow_next is_arrow_ahead refusal sees after expect arrow name any_name add leaf fork begins_assign opens too_deep part_at comma_or listed_from bind_name below named_leaf number_leaf text_leaf template_leaf starts_key function_name jump chain_from chain node_of nodes_of parameters_of body_of head_of bind default_value bind_element bind_under bind_property bind_properties bind_elements object_pattern array_pattern pattern primary suffix suffixes_from suffixes left_side new_arguments new_call postfix unary prefix operations operand short conditional behind_operand unparenthesized arrow_of_name arrow_of_list arrow_first group_first parenthesized named assign sequence_from sequence expression arrow_body group index computed_key element elements arguments array template_from template_parts template property_key member_under shorthand named_member getter setter member members object rest_parameter parameters_from parameter_list parameters no_parameters setter_parameter function_rest function_expression function_declaration initial declarator declarators_from declarators declaration else_clause if_statement while_statement do_statement for_statement return_value return_statement throw_statement catch_parameter catch_clause finally_clause try_statement expression_statement statement declaration_statement item items_from items block catch_bind optional loop_head of_head declared_head declared for_head level script
row_group_within = refl

-- (;
pub row_missing_not_deep : answers 1 (plain 0 (kind.Mark 2) ∷ plain 1 (kind.Mark 6) ∷ plain 2 kind.End ∷ []) (Some false) 1
unfolding same jump_word control_word value_word operator_word of_word of_name of_mark of_kind infix_at symbol place is_broken text number next is_arrow is_arrow_next is_arrow_ahead refusal sees after expect arrow name any_name add leaf fork begins_assign opens too_deep part_at comma_or listed_from bind_name below named_leaf number_leaf text_leaf template_leaf starts_key function_name jump chain_from chain node_of nodes_of parameters_of body_of head_of bind default_value bind_element bind_under bind_property bind_properties bind_elements object_pattern array_pattern pattern primary suffix suffixes_from suffixes left_side new_arguments new_call postfix unary prefix operations operand short conditional behind_operand unparenthesized arrow_of_name arrow_of_list arrow_first group_first parenthesized named assign sequence_from sequence expression arrow_body group index computed_key element elements arguments array template_from template_parts template property_key member_under shorthand named_member getter setter member members object rest_parameter parameters_from parameter_list parameters no_parameters setter_parameter function_rest function_expression function_declaration initial declarator declarators_from declarators declaration else_clause if_statement while_statement do_statement for_statement return_value return_statement throw_statement catch_parameter catch_clause finally_clause try_statement expression_statement statement declaration_statement item items_from items block catch_bind optional loop_head of_head declared_head declared for_head level script
row_missing_not_deep = refl

-- a = b = c;
pub row_right_side_too_deep : answers 1 (plain 0 (kind.Name (codes "a")) ∷ plain 1 (kind.Mark 34) ∷ plain 2 (kind.Name (codes "b")) ∷ plain 3 (kind.Mark 34) ∷ plain 4 (kind.Name (codes "c")) ∷ plain 5 (kind.Mark 6) ∷ plain 6 kind.End ∷ []) (Some true) 4
unfolding same jump_word control_word value_word operator_word of_word of_name of_mark of_kind infix_at symbol place is_broken text number next is_arrow is_arrow_next is_arrow_ahead refusal sees after expect arrow name any_name add leaf fork begins_assign opens too_deep part_at comma_or listed_from bind_name below named_leaf number_leaf text_leaf template_leaf starts_key function_name jump chain_from chain node_of nodes_of parameters_of body_of head_of bind default_value bind_element bind_under bind_property bind_properties bind_elements object_pattern array_pattern pattern primary suffix suffixes_from suffixes left_side new_arguments new_call postfix unary prefix operations operand short conditional behind_operand unparenthesized arrow_of_name arrow_of_list arrow_first group_first parenthesized named assign sequence_from sequence expression arrow_body group index computed_key element elements arguments array template_from template_parts template property_key member_under shorthand named_member getter setter member members object rest_parameter parameters_from parameter_list parameters no_parameters setter_parameter function_rest function_expression function_declaration initial declarator declarators_from declarators declaration else_clause if_statement while_statement do_statement for_statement return_value return_statement throw_statement catch_parameter catch_clause finally_clause try_statement expression_statement statement declaration_statement item items_from items block catch_bind optional loop_head of_head declared_head declared for_head level script
row_right_side_too_deep = refl

-- a ? b ? c : d : e;
pub row_branch_too_deep : answers 1 (plain 0 (kind.Name (codes "a")) ∷ plain 1 (kind.Mark 32) ∷ plain 2 (kind.Name (codes "b")) ∷ plain 3 (kind.Mark 32) ∷ plain 4 (kind.Name (codes "c")) ∷ plain 5 (kind.Mark 33) ∷ plain 6 (kind.Name (codes "d")) ∷ plain 7 (kind.Mark 33) ∷ plain 8 (kind.Name (codes "e")) ∷ plain 9 (kind.Mark 6) ∷ plain 10 kind.End ∷ []) (Some true) 4
unfolding same jump_word control_word value_word operator_word of_word of_name of_mark of_kind infix_at symbol place is_broken text number next is_arrow is_arrow_next is_arrow_ahead refusal sees after expect arrow name any_name add leaf fork begins_assign opens too_deep part_at comma_or listed_from bind_name below named_leaf number_leaf text_leaf template_leaf starts_key function_name jump chain_from chain node_of nodes_of parameters_of body_of head_of bind default_value bind_element bind_under bind_property bind_properties bind_elements object_pattern array_pattern pattern primary suffix suffixes_from suffixes left_side new_arguments new_call postfix unary prefix operations operand short conditional behind_operand unparenthesized arrow_of_name arrow_of_list arrow_first group_first parenthesized named assign sequence_from sequence expression arrow_body group index computed_key element elements arguments array template_from template_parts template property_key member_under shorthand named_member getter setter member members object rest_parameter parameters_from parameter_list parameters no_parameters setter_parameter function_rest function_expression function_declaration initial declarator declarators_from declarators declaration else_clause if_statement while_statement do_statement for_statement return_value return_statement throw_statement catch_parameter catch_clause finally_clause try_statement expression_statement statement declaration_statement item items_from items block catch_bind optional loop_head of_head declared_head declared for_head level script
row_branch_too_deep = refl

-- if (a) {}
pub row_body_counts_twice : answers 1 (plain 0 (kind.Word (codes "if")) ∷ plain 1 (kind.Mark 2) ∷ plain 2 (kind.Name (codes "a")) ∷ plain 3 (kind.Mark 3) ∷ plain 4 (kind.Mark 0) ∷ plain 5 (kind.Mark 1) ∷ plain 6 kind.End ∷ []) (Some true) 4
unfolding same jump_word control_word value_word operator_word of_word of_name of_mark of_kind infix_at symbol place is_broken text number next is_arrow is_arrow_next is_arrow_ahead refusal sees after expect arrow name any_name add leaf fork begins_assign opens too_deep part_at comma_or listed_from bind_name below named_leaf number_leaf text_leaf template_leaf starts_key function_name jump chain_from chain node_of nodes_of parameters_of body_of head_of bind default_value bind_element bind_under bind_property bind_properties bind_elements object_pattern array_pattern pattern primary suffix suffixes_from suffixes left_side new_arguments new_call postfix unary prefix operations operand short conditional behind_operand unparenthesized arrow_of_name arrow_of_list arrow_first group_first parenthesized named assign sequence_from sequence expression arrow_body group index computed_key element elements arguments array template_from template_parts template property_key member_under shorthand named_member getter setter member members object rest_parameter parameters_from parameter_list parameters no_parameters setter_parameter function_rest function_expression function_declaration initial declarator declarators_from declarators declaration else_clause if_statement while_statement do_statement for_statement return_value return_statement throw_statement catch_parameter catch_clause finally_clause try_statement expression_statement statement declaration_statement item items_from items block catch_bind optional loop_head of_head declared_head declared for_head level script
row_body_counts_twice = refl

-- if (a) {}
pub row_body_within : answers 2 (plain 0 (kind.Word (codes "if")) ∷ plain 1 (kind.Mark 2) ∷ plain 2 (kind.Name (codes "a")) ∷ plain 3 (kind.Mark 3) ∷ plain 4 (kind.Mark 0) ∷ plain 5 (kind.Mark 1) ∷ plain 6 kind.End ∷ []) None 1
unfolding same jump_word control_word value_word operator_word of_word of_name of_mark of_kind infix_at symbol place is_broken text number next is_arrow is_arrow_next is_arrow_ahead refusal sees after expect arrow name any_name add leaf fork begins_assign opens too_deep part_at comma_or listed_from bind_name below named_leaf number_leaf text_leaf template_leaf starts_key function_name jump chain_from chain node_of nodes_of parameters_of body_of head_of bind default_value bind_element bind_under bind_property bind_properties bind_elements object_pattern array_pattern pattern primary suffix suffixes_from suffixes left_side new_arguments new_call postfix unary prefix operations operand short conditional behind_operand unparenthesized arrow_of_name arrow_of_list arrow_first group_first parenthesized named assign sequence_from sequence expression arrow_body group index computed_key element elements arguments array template_from template_parts template property_key member_under shorthand named_member getter setter member members object rest_parameter parameters_from parameter_list parameters no_parameters setter_parameter function_rest function_expression function_declaration initial declarator declarators_from declarators declaration else_clause if_statement while_statement do_statement for_statement return_value return_statement throw_statement catch_parameter catch_clause finally_clause try_statement expression_statement statement declaration_statement item items_from items block catch_bind optional loop_head of_head declared_head declared for_head level script
row_body_within = refl

-- function f() {}
pub row_function_too_deep : answers 1 (plain 0 (kind.Word (codes "function")) ∷ plain 1 (kind.Name (codes "f")) ∷ plain 2 (kind.Mark 2) ∷ plain 3 (kind.Mark 3) ∷ plain 4 (kind.Mark 0) ∷ plain 5 (kind.Mark 1) ∷ plain 6 kind.End ∷ []) (Some true) 2
unfolding same jump_word control_word value_word operator_word of_word of_name of_mark of_kind infix_at symbol place is_broken text number next is_arrow is_arrow_next is_arrow_ahead refusal sees after expect arrow name any_name add leaf fork begins_assign opens too_deep part_at comma_or listed_from bind_name below named_leaf number_leaf text_leaf template_leaf starts_key function_name jump chain_from chain node_of nodes_of parameters_of body_of head_of bind default_value bind_element bind_under bind_property bind_properties bind_elements object_pattern array_pattern pattern primary suffix suffixes_from suffixes left_side new_arguments new_call postfix unary prefix operations operand short conditional behind_operand unparenthesized arrow_of_name arrow_of_list arrow_first group_first parenthesized named assign sequence_from sequence expression arrow_body group index computed_key element elements arguments array template_from template_parts template property_key member_under shorthand named_member getter setter member members object rest_parameter parameters_from parameter_list parameters no_parameters setter_parameter function_rest function_expression function_declaration initial declarator declarators_from declarators declaration else_clause if_statement while_statement do_statement for_statement return_value return_statement throw_statement catch_parameter catch_clause finally_clause try_statement expression_statement statement declaration_statement item items_from items block catch_bind optional loop_head of_head declared_head declared for_head level script
row_function_too_deep = refl

-- (a => {});
pub row_arrow_too_deep : answers 2 (plain 0 (kind.Mark 2) ∷ plain 1 (kind.Name (codes "a")) ∷ plain 2 (kind.Mark 42) ∷ plain 3 (kind.Mark 0) ∷ plain 4 (kind.Mark 1) ∷ plain 5 (kind.Mark 3) ∷ plain 6 (kind.Mark 6) ∷ plain 7 kind.End ∷ []) (Some true) 3
unfolding same jump_word control_word value_word operator_word of_word of_name of_mark of_kind infix_at symbol place is_broken text number next is_arrow is_arrow_next is_arrow_ahead refusal sees after expect arrow name any_name add leaf fork begins_assign opens too_deep part_at comma_or listed_from bind_name below named_leaf number_leaf text_leaf template_leaf starts_key function_name jump chain_from chain node_of nodes_of parameters_of body_of head_of bind default_value bind_element bind_under bind_property bind_properties bind_elements object_pattern array_pattern pattern primary suffix suffixes_from suffixes left_side new_arguments new_call postfix unary prefix operations operand short conditional behind_operand unparenthesized arrow_of_name arrow_of_list arrow_first group_first parenthesized named assign sequence_from sequence expression arrow_body group index computed_key element elements arguments array template_from template_parts template property_key member_under shorthand named_member getter setter member members object rest_parameter parameters_from parameter_list parameters no_parameters setter_parameter function_rest function_expression function_declaration initial declarator declarators_from declarators declaration else_clause if_statement while_statement do_statement for_statement return_value return_statement throw_statement catch_parameter catch_clause finally_clause try_statement expression_statement statement declaration_statement item items_from items block catch_bind optional loop_head of_head declared_head declared for_head level script
row_arrow_too_deep = refl

-- (a => b);
pub row_arrow_within : answers 2 (plain 0 (kind.Mark 2) ∷ plain 1 (kind.Name (codes "a")) ∷ plain 2 (kind.Mark 42) ∷ plain 3 (kind.Name (codes "b")) ∷ plain 4 (kind.Mark 3) ∷ plain 5 (kind.Mark 6) ∷ plain 6 kind.End ∷ []) None 1
unfolding same jump_word control_word value_word operator_word of_word of_name of_mark of_kind infix_at symbol place is_broken text number next is_arrow is_arrow_next is_arrow_ahead refusal sees after expect arrow name any_name add leaf fork begins_assign opens too_deep part_at comma_or listed_from bind_name below named_leaf number_leaf text_leaf template_leaf starts_key function_name jump chain_from chain node_of nodes_of parameters_of body_of head_of bind default_value bind_element bind_under bind_property bind_properties bind_elements object_pattern array_pattern pattern primary suffix suffixes_from suffixes left_side new_arguments new_call postfix unary prefix operations operand short conditional behind_operand unparenthesized arrow_of_name arrow_of_list arrow_first group_first parenthesized named assign sequence_from sequence expression arrow_body group index computed_key element elements arguments array template_from template_parts template property_key member_under shorthand named_member getter setter member members object rest_parameter parameters_from parameter_list parameters no_parameters setter_parameter function_rest function_expression function_declaration initial declarator declarators_from declarators declaration else_clause if_statement while_statement do_statement for_statement return_value return_statement throw_statement catch_parameter catch_clause finally_clause try_statement expression_statement statement declaration_statement item items_from items block catch_bind optional loop_head of_head declared_head declared for_head level script
row_arrow_within = refl

-- ({a() {}});
pub row_method_too_deep : answers 2 (plain 0 (kind.Mark 2) ∷ plain 1 (kind.Mark 0) ∷ plain 2 (kind.Name (codes "a")) ∷ plain 3 (kind.Mark 2) ∷ plain 4 (kind.Mark 3) ∷ plain 5 (kind.Mark 0) ∷ plain 6 (kind.Mark 1) ∷ plain 7 (kind.Mark 1) ∷ plain 8 (kind.Mark 3) ∷ plain 9 (kind.Mark 6) ∷ plain 10 kind.End ∷ []) (Some true) 3
unfolding same jump_word control_word value_word operator_word of_word of_name of_mark of_kind infix_at symbol place is_broken text number next is_arrow is_arrow_next is_arrow_ahead refusal sees after expect arrow name any_name add leaf fork begins_assign opens too_deep part_at comma_or listed_from bind_name below named_leaf number_leaf text_leaf template_leaf starts_key function_name jump chain_from chain node_of nodes_of parameters_of body_of head_of bind default_value bind_element bind_under bind_property bind_properties bind_elements object_pattern array_pattern pattern primary suffix suffixes_from suffixes left_side new_arguments new_call postfix unary prefix operations operand short conditional behind_operand unparenthesized arrow_of_name arrow_of_list arrow_first group_first parenthesized named assign sequence_from sequence expression arrow_body group index computed_key element elements arguments array template_from template_parts template property_key member_under shorthand named_member getter setter member members object rest_parameter parameters_from parameter_list parameters no_parameters setter_parameter function_rest function_expression function_declaration initial declarator declarators_from declarators declaration else_clause if_statement while_statement do_statement for_statement return_value return_statement throw_statement catch_parameter catch_clause finally_clause try_statement expression_statement statement declaration_statement item items_from items block catch_bind optional loop_head of_head declared_head declared for_head level script
row_method_too_deep = refl

-- !!a;
pub row_unary_too_deep : answers 1 (plain 0 (kind.Mark 27) ∷ plain 1 (kind.Mark 27) ∷ plain 2 (kind.Name (codes "a")) ∷ plain 3 (kind.Mark 6) ∷ plain 4 kind.End ∷ []) (Some true) 1
unfolding same jump_word control_word value_word operator_word of_word of_name of_mark of_kind infix_at symbol place is_broken text number next is_arrow is_arrow_next is_arrow_ahead refusal sees after expect arrow name any_name add leaf fork begins_assign opens too_deep part_at comma_or listed_from bind_name below named_leaf number_leaf text_leaf template_leaf starts_key function_name jump chain_from chain node_of nodes_of parameters_of body_of head_of bind default_value bind_element bind_under bind_property bind_properties bind_elements object_pattern array_pattern pattern primary suffix suffixes_from suffixes left_side new_arguments new_call postfix unary prefix operations operand short conditional behind_operand unparenthesized arrow_of_name arrow_of_list arrow_first group_first parenthesized named assign sequence_from sequence expression arrow_body group index computed_key element elements arguments array template_from template_parts template property_key member_under shorthand named_member getter setter member members object rest_parameter parameters_from parameter_list parameters no_parameters setter_parameter function_rest function_expression function_declaration initial declarator declarators_from declarators declaration else_clause if_statement while_statement do_statement for_statement return_value return_statement throw_statement catch_parameter catch_clause finally_clause try_statement expression_statement statement declaration_statement item items_from items block catch_bind optional loop_head of_head declared_head declared for_head level script
row_unary_too_deep = refl

-- new a(b);
pub row_new_too_deep : answers 1 (plain 0 (kind.Word (codes "new")) ∷ plain 1 (kind.Name (codes "a")) ∷ plain 2 (kind.Mark 2) ∷ plain 3 (kind.Name (codes "b")) ∷ plain 4 (kind.Mark 3) ∷ plain 5 (kind.Mark 6) ∷ plain 6 kind.End ∷ []) (Some true) 2
unfolding same jump_word control_word value_word operator_word of_word of_name of_mark of_kind infix_at symbol place is_broken text number next is_arrow is_arrow_next is_arrow_ahead refusal sees after expect arrow name any_name add leaf fork begins_assign opens too_deep part_at comma_or listed_from bind_name below named_leaf number_leaf text_leaf template_leaf starts_key function_name jump chain_from chain node_of nodes_of parameters_of body_of head_of bind default_value bind_element bind_under bind_property bind_properties bind_elements object_pattern array_pattern pattern primary suffix suffixes_from suffixes left_side new_arguments new_call postfix unary prefix operations operand short conditional behind_operand unparenthesized arrow_of_name arrow_of_list arrow_first group_first parenthesized named assign sequence_from sequence expression arrow_body group index computed_key element elements arguments array template_from template_parts template property_key member_under shorthand named_member getter setter member members object rest_parameter parameters_from parameter_list parameters no_parameters setter_parameter function_rest function_expression function_declaration initial declarator declarators_from declarators declaration else_clause if_statement while_statement do_statement for_statement return_value return_statement throw_statement catch_parameter catch_clause finally_clause try_statement expression_statement statement declaration_statement item items_from items block catch_bind optional loop_head of_head declared_head declared for_head level script
row_new_too_deep = refl

-- ({a = b}) => c;
pub row_default_too_deep : answers 2 (plain 0 (kind.Mark 2) ∷ plain 1 (kind.Mark 0) ∷ plain 2 (kind.Name (codes "a")) ∷ plain 3 (kind.Mark 34) ∷ plain 4 (kind.Name (codes "b")) ∷ plain 5 (kind.Mark 1) ∷ plain 6 (kind.Mark 3) ∷ plain 7 (kind.Mark 42) ∷ plain 8 (kind.Name (codes "c")) ∷ plain 9 (kind.Mark 6) ∷ plain 10 kind.End ∷ []) (Some true) 4
unfolding same jump_word control_word value_word operator_word of_word of_name of_mark of_kind infix_at symbol place is_broken text number next is_arrow is_arrow_next is_arrow_ahead refusal sees after expect arrow name any_name add leaf fork begins_assign opens too_deep part_at comma_or listed_from bind_name below named_leaf number_leaf text_leaf template_leaf starts_key function_name jump chain_from chain node_of nodes_of parameters_of body_of head_of bind default_value bind_element bind_under bind_property bind_properties bind_elements object_pattern array_pattern pattern primary suffix suffixes_from suffixes left_side new_arguments new_call postfix unary prefix operations operand short conditional behind_operand unparenthesized arrow_of_name arrow_of_list arrow_first group_first parenthesized named assign sequence_from sequence expression arrow_body group index computed_key element elements arguments array template_from template_parts template property_key member_under shorthand named_member getter setter member members object rest_parameter parameters_from parameter_list parameters no_parameters setter_parameter function_rest function_expression function_declaration initial declarator declarators_from declarators declaration else_clause if_statement while_statement do_statement for_statement return_value return_statement throw_statement catch_parameter catch_clause finally_clause try_statement expression_statement statement declaration_statement item items_from items block catch_bind optional loop_head of_head declared_head declared for_head level script
row_default_too_deep = refl

-- let x = a;
pub row_initial_counts_nothing : answers 0 (plain 0 (kind.Word (codes "let")) ∷ plain 1 (kind.Name (codes "x")) ∷ plain 2 (kind.Mark 34) ∷ plain 3 (kind.Name (codes "a")) ∷ plain 4 (kind.Mark 6) ∷ plain 5 kind.End ∷ []) None 1
unfolding same jump_word control_word value_word operator_word of_word of_name of_mark of_kind infix_at symbol place is_broken text number next is_arrow is_arrow_next is_arrow_ahead refusal sees after expect arrow name any_name add leaf fork begins_assign opens too_deep part_at comma_or listed_from bind_name below named_leaf number_leaf text_leaf template_leaf starts_key function_name jump chain_from chain node_of nodes_of parameters_of body_of head_of bind default_value bind_element bind_under bind_property bind_properties bind_elements object_pattern array_pattern pattern primary suffix suffixes_from suffixes left_side new_arguments new_call postfix unary prefix operations operand short conditional behind_operand unparenthesized arrow_of_name arrow_of_list arrow_first group_first parenthesized named assign sequence_from sequence expression arrow_body group index computed_key element elements arguments array template_from template_parts template property_key member_under shorthand named_member getter setter member members object rest_parameter parameters_from parameter_list parameters no_parameters setter_parameter function_rest function_expression function_declaration initial declarator declarators_from declarators declaration else_clause if_statement while_statement do_statement for_statement return_value return_statement throw_statement catch_parameter catch_clause finally_clause try_statement expression_statement statement declaration_statement item items_from items block catch_bind optional loop_head of_head declared_head declared for_head level script
row_initial_counts_nothing = refl

-- let {a: {b}} = c;
pub row_pattern_too_deep : answers 1 (plain 0 (kind.Word (codes "let")) ∷ plain 1 (kind.Mark 0) ∷ plain 2 (kind.Name (codes "a")) ∷ plain 3 (kind.Mark 33) ∷ plain 4 (kind.Mark 0) ∷ plain 5 (kind.Name (codes "b")) ∷ plain 6 (kind.Mark 1) ∷ plain 7 (kind.Mark 1) ∷ plain 8 (kind.Mark 34) ∷ plain 9 (kind.Name (codes "c")) ∷ plain 10 (kind.Mark 6) ∷ plain 11 kind.End ∷ []) (Some true) 4
unfolding same jump_word control_word value_word operator_word of_word of_name of_mark of_kind infix_at symbol place is_broken text number next is_arrow is_arrow_next is_arrow_ahead refusal sees after expect arrow name any_name add leaf fork begins_assign opens too_deep part_at comma_or listed_from bind_name below named_leaf number_leaf text_leaf template_leaf starts_key function_name jump chain_from chain node_of nodes_of parameters_of body_of head_of bind default_value bind_element bind_under bind_property bind_properties bind_elements object_pattern array_pattern pattern primary suffix suffixes_from suffixes left_side new_arguments new_call postfix unary prefix operations operand short conditional behind_operand unparenthesized arrow_of_name arrow_of_list arrow_first group_first parenthesized named assign sequence_from sequence expression arrow_body group index computed_key element elements arguments array template_from template_parts template property_key member_under shorthand named_member getter setter member members object rest_parameter parameters_from parameter_list parameters no_parameters setter_parameter function_rest function_expression function_declaration initial declarator declarators_from declarators declaration else_clause if_statement while_statement do_statement for_statement return_value return_statement throw_statement catch_parameter catch_clause finally_clause try_statement expression_statement statement declaration_statement item items_from items block catch_bind optional loop_head of_head declared_head declared for_head level script
row_pattern_too_deep = refl

-- `${(a)}`;
pub row_template_too_deep : answers 1 (plain 0 (kind.Piece [] true false) ∷ plain 1 (kind.Mark 2) ∷ plain 2 (kind.Name (codes "a")) ∷ plain 3 (kind.Mark 3) ∷ plain 4 (kind.Piece [] false true) ∷ plain 5 (kind.Mark 6) ∷ plain 6 kind.End ∷ []) (Some true) 1
unfolding same jump_word control_word value_word operator_word of_word of_name of_mark of_kind infix_at symbol place is_broken text number next is_arrow is_arrow_next is_arrow_ahead refusal sees after expect arrow name any_name add leaf fork begins_assign opens too_deep part_at comma_or listed_from bind_name below named_leaf number_leaf text_leaf template_leaf starts_key function_name jump chain_from chain node_of nodes_of parameters_of body_of head_of bind default_value bind_element bind_under bind_property bind_properties bind_elements object_pattern array_pattern pattern primary suffix suffixes_from suffixes left_side new_arguments new_call postfix unary prefix operations operand short conditional behind_operand unparenthesized arrow_of_name arrow_of_list arrow_first group_first parenthesized named assign sequence_from sequence expression arrow_body group index computed_key element elements arguments array template_from template_parts template property_key member_under shorthand named_member getter setter member members object rest_parameter parameters_from parameter_list parameters no_parameters setter_parameter function_rest function_expression function_declaration initial declarator declarators_from declarators declaration else_clause if_statement while_statement do_statement for_statement return_value return_statement throw_statement catch_parameter catch_clause finally_clause try_statement expression_statement statement declaration_statement item items_from items block catch_bind optional loop_head of_head declared_head declared for_head level script
row_template_too_deep = refl

-- ((a)) => 1;
pub row_tie_of_faults : answers 1 (plain 0 (kind.Mark 2) ∷ plain 1 (kind.Mark 2) ∷ plain 2 (kind.Name (codes "a")) ∷ plain 3 (kind.Mark 3) ∷ plain 4 (kind.Mark 3) ∷ plain 5 (kind.Mark 42) ∷ plain 6 (kind.Number (pos 1)) ∷ plain 7 (kind.Mark 6) ∷ plain 8 kind.End ∷ []) (Some true) 1
unfolding same jump_word control_word value_word operator_word of_word of_name of_mark of_kind infix_at symbol place is_broken text number next is_arrow is_arrow_next is_arrow_ahead refusal sees after expect arrow name any_name add leaf fork begins_assign opens too_deep part_at comma_or listed_from bind_name below named_leaf number_leaf text_leaf template_leaf starts_key function_name jump chain_from chain node_of nodes_of parameters_of body_of head_of bind default_value bind_element bind_under bind_property bind_properties bind_elements object_pattern array_pattern pattern primary suffix suffixes_from suffixes left_side new_arguments new_call postfix unary prefix operations operand short conditional behind_operand unparenthesized arrow_of_name arrow_of_list arrow_first group_first parenthesized named assign sequence_from sequence expression arrow_body group index computed_key element elements arguments array template_from template_parts template property_key member_under shorthand named_member getter setter member members object rest_parameter parameters_from parameter_list parameters no_parameters setter_parameter function_rest function_expression function_declaration initial declarator declarators_from declarators declaration else_clause if_statement while_statement do_statement for_statement return_value return_statement throw_statement catch_parameter catch_clause finally_clause try_statement expression_statement statement declaration_statement item items_from items block catch_bind optional loop_head of_head declared_head declared for_head level script
row_tie_of_faults = refl
