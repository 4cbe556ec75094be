-- The script without text.
use Rattle.std.proofs.Common.{◌≡◌, ℕ, false, List, [], ◌∷◌, Ok, Err, refl, ap, ◌∙◌}
use Rattle.std.proofs.lemmas.Str.{IsUtf8-nil, is_utf8-from_IsUtf8, chars-nil}
use Rattle.js_token.specs.declared.token.Token.{Token}
use Rattle.js_token.specs.declared.token.TokenKind.TheVariants.{End}
use Rattle.js_token.specs.Tokens.{tokens_of, tokens_in, tokens_at, checked_text}
use Rattle.js_tree.specs.declared.node.Node.TheVariants.{Script}
use Rattle.js_tree.specs.Nodes.{Nodes, node_at, place_at}
use Rattle.js_tree.specs.Children.{children}
use Rattle.js_parse.specs.Parsing.{parsed}
use Rattle.js_parse.specs.Symbols.{same, jump_word, control_word, value_word, operator_word, of_word, of_name, of_mark, of_kind}
use Rattle.js_parse.specs.Operators.{infix_at}
use Rattle.js_parse.specs.Input.{symbol, place, is_broken, text, number, next, is_arrow, is_arrow_next, is_arrow_ahead, refusal, sees, after, expect, arrow, name, any_name, add, leaf, fork}
use Rattle.js_parse.specs.Nesting.{begins_assign, opens, too_deep, part_at}
use Rattle.js_parse.specs.Grammar.{comma_or, listed_from, bind_name, below, named_leaf, number_leaf, text_leaf, template_leaf, starts_key, chain_from, chain, node_of, nodes_of, parameters_of, body_of, head_of, bind, default_value, bind_element, bind_under, bind_property, bind_properties, bind_elements, object_pattern, array_pattern, pattern, primary, suffix, suffixes_from, suffixes, left_side, new_arguments, new_call, postfix, unary, prefix, operations, operand, short, conditional, behind_operand, unparenthesized, arrow_of_name, arrow_of_list, arrow_first, group_first, parenthesized, named, assign, sequence_from, sequence, expression, arrow_body, group, index, computed_key, element, elements, arguments, array, template_from, template_parts, template, property_key, member_under, shorthand, named_member, getter, setter, member, members, object, rest_parameter, parameters_from, parameter_list, parameters, no_parameters, setter_parameter, catch_bind}
use Rattle.js_parse.specs.Statements.{function_name, jump, function_rest, function_expression, function_declaration, initial, declarator, declarators_from, declarators, declaration, else_clause, if_statement, while_statement, do_statement, for_statement, return_value, return_statement, throw_statement, catch_parameter, catch_clause, finally_clause, try_statement, expression_statement, statement, declaration_statement, item, items_from, items, block, optional, loop_head, of_head, declared_head, declared, for_head, level, script}
use Rattle.js_scope.specs.Faults.{faults, places}
use Rattle.js_scope.specs.Names.{repeated, names, scope_parts, repeated_in, items_at, declared_at, binding_parts_at}
use Rattle.js_scope.specs.Rules.{parts_at, breaks, broken_by, fault_at}
use Rattle.js_scope.specs.Walk.{walk}
use Rattle.js_source.specs.declared.fault.SourceFault.{SourceFault}
use Rattle.js_source.specs.declared.fault.SourceFault.TheVariants.{At, Memory}
use Rattle.js_source.specs.declared.fault.SourceKind.{SourceKind}
use Rattle.js_source.specs.Source.{Answers, source_of, checked, parsed_if_read, checked_if_read, unless_broken}

abbrev pub empty : Nodes
empty = (Script [], 0) ∷ []

tokens_are : tokens_of [] ≡ Ok (record { place = 0; broken = false; kind = End } ∷ [])
unfolding tokens_of tokens_in tokens_at checked_text
tokens_are = rw (is_utf8-from_IsUtf8 [] IsUtf8-nil, chars-nil) refl

nodes_are : parsed (record { place = 0; broken = false; kind = End } ∷ []) ≡ Ok empty
unfolding parsed same jump_word control_word value_word operator_word of_word of_name of_mark of_kind infix_at symbol place is_broken text number next is_arrow is_arrow_next is_arrow_ahead refusal sees after expect arrow name any_name add leaf fork begins_assign opens too_deep part_at comma_or listed_from bind_name below named_leaf number_leaf text_leaf template_leaf starts_key function_name jump chain_from chain node_of nodes_of parameters_of body_of head_of bind default_value bind_element bind_under bind_property bind_properties bind_elements object_pattern array_pattern pattern primary suffix suffixes_from suffixes left_side new_arguments new_call postfix unary prefix operations operand short conditional behind_operand unparenthesized arrow_of_name arrow_of_list arrow_first group_first parenthesized named assign sequence_from sequence expression arrow_body group index computed_key element elements arguments array template_from template_parts template property_key member_under shorthand named_member getter setter member members object rest_parameter parameters_from parameter_list parameters no_parameters setter_parameter function_rest function_expression function_declaration initial declarator declarators_from declarators declaration else_clause if_statement while_statement do_statement for_statement return_value return_statement throw_statement catch_parameter catch_clause finally_clause try_statement expression_statement statement declaration_statement item items_from items block catch_bind optional loop_head of_head declared_head declared for_head level script
nodes_are = refl

none_broken : checked empty ≡ Ok empty
unfolding checked faults places repeated names scope_parts repeated_in items_at declared_at binding_parts_at parts_at breaks broken_by fault_at walk node_at place_at children
none_broken = refl

-- It is the script without items.
pub empty_source : source_of [] ≡ Ok empty
unfolding source_of
empty_source = ap parsed_if_read tokens_are ∙ (ap checked_if_read nodes_are ∙ none_broken)

-- It has no fault.
pub never : (fault : SourceFault) (place : ℕ) (kind : SourceKind) → fault ≡ At place kind → Answers (Err fault) (source_of []) → ⊥
never (At p k) place kind e h = cc (empty_source, h)
never Memory place kind e h = absurd (cc)
