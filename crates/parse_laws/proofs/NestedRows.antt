-- Scripts that nest deep, and their faults: by the parser, and by the derivation that the grammar's reader finds.
use Rattle.std.proofs.Common.{true, false, [], ◌∷◌, refl, codes}
use Rattle.std.specs.Prelude.{pos}
use Rattle.js_token.specs.declared.token.TokenKind.TheVariants as kind
use Rattle.parse_laws.proofs.Rows.{plain, agrees, everything}

-- ((a));
pub row_second_group_too_deep : agrees 1 (plain 0 (kind.Mark 2) ∷ plain 1 (kind.Mark 2) ∷ plain 2 (kind.Name (codes "a")) ∷ plain 3 (kind.Mark 3) ∷ plain 4 (kind.Mark 3) ∷ plain 5 (kind.Mark 6) ∷ plain 6 kind.End ∷ [])
unfolding everything
row_second_group_too_deep = refl

-- ((a));
pub row_group_within : agrees 2 (plain 0 (kind.Mark 2) ∷ plain 1 (kind.Mark 2) ∷ plain 2 (kind.Name (codes "a")) ∷ plain 3 (kind.Mark 3) ∷ plain 4 (kind.Mark 3) ∷ plain 5 (kind.Mark 6) ∷ plain 6 kind.End ∷ [])
unfolding everything
row_group_within = refl

-- (;
pub row_missing_not_deep : agrees 1 (plain 0 (kind.Mark 2) ∷ plain 1 (kind.Mark 6) ∷ plain 2 kind.End ∷ [])
unfolding everything
row_missing_not_deep = refl

-- a = b = c;
pub row_right_side_too_deep : agrees 1 (plain 0 (kind.Name (codes "a")) ∷ plain 1 (kind.Mark 34) ∷ plain 2 (kind.Name (codes "b")) ∷ plain 3 (kind.Mark 34) ∷ plain 4 (kind.Name (codes "c")) ∷ plain 5 (kind.Mark 6) ∷ plain 6 kind.End ∷ [])
unfolding everything
row_right_side_too_deep = refl

-- a ? b ? c : d : e;
pub row_branch_too_deep : agrees 1 (plain 0 (kind.Name (codes "a")) ∷ plain 1 (kind.Mark 32) ∷ plain 2 (kind.Name (codes "b")) ∷ plain 3 (kind.Mark 32) ∷ plain 4 (kind.Name (codes "c")) ∷ plain 5 (kind.Mark 33) ∷ plain 6 (kind.Name (codes "d")) ∷ plain 7 (kind.Mark 33) ∷ plain 8 (kind.Name (codes "e")) ∷ plain 9 (kind.Mark 6) ∷ plain 10 kind.End ∷ [])
unfolding everything
row_branch_too_deep = refl

-- if (a) {}
pub row_body_counts_twice : agrees 1 (plain 0 (kind.Word (codes "if")) ∷ plain 1 (kind.Mark 2) ∷ plain 2 (kind.Name (codes "a")) ∷ plain 3 (kind.Mark 3) ∷ plain 4 (kind.Mark 0) ∷ plain 5 (kind.Mark 1) ∷ plain 6 kind.End ∷ [])
unfolding everything
row_body_counts_twice = refl

-- if (a) {}
pub row_body_within : agrees 2 (plain 0 (kind.Word (codes "if")) ∷ plain 1 (kind.Mark 2) ∷ plain 2 (kind.Name (codes "a")) ∷ plain 3 (kind.Mark 3) ∷ plain 4 (kind.Mark 0) ∷ plain 5 (kind.Mark 1) ∷ plain 6 kind.End ∷ [])
unfolding everything
row_body_within = refl

-- function f() {}
pub row_function_too_deep : agrees 1 (plain 0 (kind.Word (codes "function")) ∷ plain 1 (kind.Name (codes "f")) ∷ plain 2 (kind.Mark 2) ∷ plain 3 (kind.Mark 3) ∷ plain 4 (kind.Mark 0) ∷ plain 5 (kind.Mark 1) ∷ plain 6 kind.End ∷ [])
unfolding everything
row_function_too_deep = refl

-- (a => {});
pub row_arrow_too_deep : agrees 2 (plain 0 (kind.Mark 2) ∷ plain 1 (kind.Name (codes "a")) ∷ plain 2 (kind.Mark 42) ∷ plain 3 (kind.Mark 0) ∷ plain 4 (kind.Mark 1) ∷ plain 5 (kind.Mark 3) ∷ plain 6 (kind.Mark 6) ∷ plain 7 kind.End ∷ [])
unfolding everything
row_arrow_too_deep = refl

-- (a => b);
pub row_arrow_within : agrees 2 (plain 0 (kind.Mark 2) ∷ plain 1 (kind.Name (codes "a")) ∷ plain 2 (kind.Mark 42) ∷ plain 3 (kind.Name (codes "b")) ∷ plain 4 (kind.Mark 3) ∷ plain 5 (kind.Mark 6) ∷ plain 6 kind.End ∷ [])
unfolding everything
row_arrow_within = refl

-- ({a() {}});
pub row_method_too_deep : agrees 2 (plain 0 (kind.Mark 2) ∷ plain 1 (kind.Mark 0) ∷ plain 2 (kind.Name (codes "a")) ∷ plain 3 (kind.Mark 2) ∷ plain 4 (kind.Mark 3) ∷ plain 5 (kind.Mark 0) ∷ plain 6 (kind.Mark 1) ∷ plain 7 (kind.Mark 1) ∷ plain 8 (kind.Mark 3) ∷ plain 9 (kind.Mark 6) ∷ plain 10 kind.End ∷ [])
unfolding everything
row_method_too_deep = refl

-- !!a;
pub row_unary_too_deep : agrees 1 (plain 0 (kind.Mark 27) ∷ plain 1 (kind.Mark 27) ∷ plain 2 (kind.Name (codes "a")) ∷ plain 3 (kind.Mark 6) ∷ plain 4 kind.End ∷ [])
unfolding everything
row_unary_too_deep = refl

-- new a(b);
pub row_new_too_deep : agrees 1 (plain 0 (kind.Word (codes "new")) ∷ plain 1 (kind.Name (codes "a")) ∷ plain 2 (kind.Mark 2) ∷ plain 3 (kind.Name (codes "b")) ∷ plain 4 (kind.Mark 3) ∷ plain 5 (kind.Mark 6) ∷ plain 6 kind.End ∷ [])
unfolding everything
row_new_too_deep = refl

-- ({a = b}) => c;
pub row_default_too_deep : agrees 2 (plain 0 (kind.Mark 2) ∷ plain 1 (kind.Mark 0) ∷ plain 2 (kind.Name (codes "a")) ∷ plain 3 (kind.Mark 34) ∷ plain 4 (kind.Name (codes "b")) ∷ plain 5 (kind.Mark 1) ∷ plain 6 (kind.Mark 3) ∷ plain 7 (kind.Mark 42) ∷ plain 8 (kind.Name (codes "c")) ∷ plain 9 (kind.Mark 6) ∷ plain 10 kind.End ∷ [])
unfolding everything
row_default_too_deep = refl

-- let x = a;
pub row_initial_counts_nothing : agrees 0 (plain 0 (kind.Word (codes "let")) ∷ plain 1 (kind.Name (codes "x")) ∷ plain 2 (kind.Mark 34) ∷ plain 3 (kind.Name (codes "a")) ∷ plain 4 (kind.Mark 6) ∷ plain 5 kind.End ∷ [])
unfolding everything
row_initial_counts_nothing = refl

-- let {a: {b}} = c;
pub row_pattern_too_deep : agrees 1 (plain 0 (kind.Word (codes "let")) ∷ plain 1 (kind.Mark 0) ∷ plain 2 (kind.Name (codes "a")) ∷ plain 3 (kind.Mark 33) ∷ plain 4 (kind.Mark 0) ∷ plain 5 (kind.Name (codes "b")) ∷ plain 6 (kind.Mark 1) ∷ plain 7 (kind.Mark 1) ∷ plain 8 (kind.Mark 34) ∷ plain 9 (kind.Name (codes "c")) ∷ plain 10 (kind.Mark 6) ∷ plain 11 kind.End ∷ [])
unfolding everything
row_pattern_too_deep = refl

-- `${(a)}`;
pub row_template_too_deep : agrees 1 (plain 0 (kind.Piece [] true false) ∷ plain 1 (kind.Mark 2) ∷ plain 2 (kind.Name (codes "a")) ∷ plain 3 (kind.Mark 3) ∷ plain 4 (kind.Piece [] false true) ∷ plain 5 (kind.Mark 6) ∷ plain 6 kind.End ∷ [])
unfolding everything
row_template_too_deep = refl

-- ((a)) => 1;
pub row_tie_of_faults : agrees 1 (plain 0 (kind.Mark 2) ∷ plain 1 (kind.Mark 2) ∷ plain 2 (kind.Name (codes "a")) ∷ plain 3 (kind.Mark 3) ∷ plain 4 (kind.Mark 3) ∷ plain 5 (kind.Mark 42) ∷ plain 6 (kind.Number (pos 1)) ∷ plain 7 (kind.Mark 6) ∷ plain 8 kind.End ∷ [])
unfolding everything
row_tie_of_faults = refl
