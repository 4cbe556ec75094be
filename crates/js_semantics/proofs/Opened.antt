-- One name for all definitions that a script's transcript is computed by.
use Rattle.std.specs.Prelude.{ℕ}
use Rattle.js_semantics.specs.Prog.{count_units, alloc, throw, make_text}
use Rattle.js_semantics.specs.Properties.{reach, property_at, set_step, define_step, delete_step, in_key_order}
use Rattle.js_semantics.specs.Environments.{names_of, declared_in, parameters_of, binding_of, fill_name}
use Rattle.js_semantics.specs.Operators.{is_truthy, primitive_text, key_of, strictly_equal, of_numbers, of_texts, of_operands, unary_of}
use Rattle.js_semantics.specs.Access.{function_of, make_array, or_default, invoke, call, get, set, define, delete, read_name, write_name}
use Rattle.js_semantics.specs.Expressions.{compute, row_name, row_this, row_template, row_dot, row_index, row_update, row_unary, row_typeof, row_delete, apply, row_binary, row_and, row_or, row_nullish, row_cond, row_seq, row_assign, row_assign_with}
use Rattle.js_semantics.specs.Iteration.{push_item, walk_value, arguments_of}
use Rattle.js_semantics.specs.Display.{display, line_of}
use Rattle.js_semantics.specs.Natives.{row_console, row_error, row_require}
use Rattle.js_semantics.specs.Objects.{make_closure, make_object, make_function, row_array, row_object, member_of, row_fun, row_arrow, row_call, construct, row_new}
use Rattle.js_semantics.specs.Statements.{pattern_of, row_declare, row_block, script_of, row_expression, row_if, row_while, row_do_while, row_for, row_for_of, row_return, row_throw, row_try}
use Rattle.js_semantics.specs.Realm.{realm_cells, realm}
use Rattle.js_semantics.specs.Rows.{row_of, row}
use Rattle.js_semantics.specs.Run.{run}
use Rattle.js_semantics.specs.Alone.{trace_of, alone_by, alone}
use Rattle.js_token.specs.Words.{is_name, is_word, starts_name, continues_name}
use Rattle.std.specs.Fmt.{digits}
use Rattle.std.specs.Char.Utf16.{utf16_chars}
use Rattle.ucd_table.specs.Rows.{in_ranges}
use Rattle.ucd_derived.specs.Binary.{is_xid_start, is_xid_continue}
use Rattle.ucd_derived.specs.XidStartRanges.{xid_start_ranges}
use Rattle.ucd_derived.specs.XidContinueRanges.{xid_continue_ranges}
use Rattle.world_heap.specs.Keys.{ordered_names}
use Rattle.wl_text.specs.Text.{quoted}
use Rattle.wl_text.specs.Number.{index_of, natural_of}

unfoldable pub opened : ℕ
unfolding count_units alloc throw make_text reach property_at set_step define_step delete_step in_key_order names_of declared_in parameters_of binding_of fill_name is_truthy primitive_text key_of strictly_equal of_numbers of_texts of_operands unary_of function_of make_array or_default invoke call get set define delete read_name write_name compute row_name row_this row_template row_dot row_index row_update row_unary row_typeof row_delete apply row_binary row_and row_or row_nullish row_cond row_seq row_assign row_assign_with push_item walk_value arguments_of display line_of row_console row_error row_require make_closure make_object make_function row_array row_object member_of row_fun row_arrow row_call construct row_new pattern_of row_declare row_block script_of row_expression row_if row_while row_do_while row_for row_for_of row_return row_throw row_try realm_cells realm row_of row run trace_of alone_by alone is_name is_word quoted index_of natural_of digits ordered_names starts_name continues_name utf16_chars in_ranges is_xid_start is_xid_continue xid_start_ranges xid_continue_ranges
opened = 0
