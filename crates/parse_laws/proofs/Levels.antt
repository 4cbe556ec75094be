-- The operators of each level.
use Rattle.std.proofs.Common.{true, false, Bool, [], ◌∷◌, refl, codes}
use Rattle.grammar.specs.Kinds.{among}
use Rattle.js_grammar.specs.Kinds.{kinds, mark}
use Rattle.js_grammar.specs.Script.{relational}
use Rattle.js_parse.specs.declared.symbol.Symbol.{Symbol}
use Rattle.js_parse.specs.declared.symbol.Symbol.TheVariants as s
use Rattle.js_parse.specs.Symbols.{same}
use Rattle.js_parse.specs.Operators.{infix_at, infix_of}
use Rattle.parse_laws.specs.Kinds.{numbered}
use Rattle.parse_laws.proofs.Begun.{tables}
use Rattle.parse_laws.proofs.Loops.{Joins, Level}

pub joins-1 : (allow_in : Bool) (symbol : Symbol) (broken : Bool) → Joins (infix_at 1 allow_in symbol) (infix_of symbol) (among (kinds (mark (codes "*") ∷ mark (codes "/") ∷ mark (codes "%") ∷ [])) (numbered symbol broken))
unfolding infix_at same tables
joins-1 true s.Star true = (refl, refl)
joins-1 true s.Star false = (refl, refl)
joins-1 true s.Slash true = (refl, refl)
joins-1 true s.Slash false = (refl, refl)
joins-1 true s.Percent true = (refl, refl)
joins-1 true s.Percent false = (refl, refl)
joins-1 true _ true = refl
joins-1 true _ false = refl
joins-1 false s.Star true = (refl, refl)
joins-1 false s.Star false = (refl, refl)
joins-1 false s.Slash true = (refl, refl)
joins-1 false s.Slash false = (refl, refl)
joins-1 false s.Percent true = (refl, refl)
joins-1 false s.Percent false = (refl, refl)
joins-1 false _ true = refl
joins-1 false _ false = refl

pub level-1 : (allow_in : Bool) → Level 1 allow_in (kinds (mark (codes "*") ∷ mark (codes "/") ∷ mark (codes "%") ∷ []))
unfolding infix_at same
level-1 true = record { joins = joins-1 true; no_end = refl }
level-1 false = record { joins = joins-1 false; no_end = refl }

pub joins-2 : (allow_in : Bool) (symbol : Symbol) (broken : Bool) → Joins (infix_at 2 allow_in symbol) (infix_of symbol) (among (kinds (mark (codes "+") ∷ mark (codes "-") ∷ [])) (numbered symbol broken))
unfolding infix_at same tables
joins-2 true s.Plus true = (refl, refl)
joins-2 true s.Plus false = (refl, refl)
joins-2 true s.Minus true = (refl, refl)
joins-2 true s.Minus false = (refl, refl)
joins-2 true _ true = refl
joins-2 true _ false = refl
joins-2 false s.Plus true = (refl, refl)
joins-2 false s.Plus false = (refl, refl)
joins-2 false s.Minus true = (refl, refl)
joins-2 false s.Minus false = (refl, refl)
joins-2 false _ true = refl
joins-2 false _ false = refl

pub level-2 : (allow_in : Bool) → Level 2 allow_in (kinds (mark (codes "+") ∷ mark (codes "-") ∷ []))
unfolding infix_at same
level-2 true = record { joins = joins-2 true; no_end = refl }
level-2 false = record { joins = joins-2 false; no_end = refl }

pub joins-3 : (allow_in : Bool) (symbol : Symbol) (broken : Bool) → Joins (infix_at 3 allow_in symbol) (infix_of symbol) (among (kinds (mark (codes "<<") ∷ mark (codes ">>") ∷ mark (codes ">>>") ∷ [])) (numbered symbol broken))
unfolding infix_at same tables
joins-3 true s.ShiftLeft true = (refl, refl)
joins-3 true s.ShiftLeft false = (refl, refl)
joins-3 true s.ShiftRight true = (refl, refl)
joins-3 true s.ShiftRight false = (refl, refl)
joins-3 true s.ShiftRightUnsigned true = (refl, refl)
joins-3 true s.ShiftRightUnsigned false = (refl, refl)
joins-3 true _ true = refl
joins-3 true _ false = refl
joins-3 false s.ShiftLeft true = (refl, refl)
joins-3 false s.ShiftLeft false = (refl, refl)
joins-3 false s.ShiftRight true = (refl, refl)
joins-3 false s.ShiftRight false = (refl, refl)
joins-3 false s.ShiftRightUnsigned true = (refl, refl)
joins-3 false s.ShiftRightUnsigned false = (refl, refl)
joins-3 false _ true = refl
joins-3 false _ false = refl

pub level-3 : (allow_in : Bool) → Level 3 allow_in (kinds (mark (codes "<<") ∷ mark (codes ">>") ∷ mark (codes ">>>") ∷ []))
unfolding infix_at same
level-3 true = record { joins = joins-3 true; no_end = refl }
level-3 false = record { joins = joins-3 false; no_end = refl }

pub joins-4 : (allow_in : Bool) (symbol : Symbol) (broken : Bool) → Joins (infix_at 4 allow_in symbol) (infix_of symbol) (among (kinds (relational allow_in)) (numbered symbol broken))
unfolding infix_at same tables
joins-4 true s.Less true = (refl, refl)
joins-4 true s.Less false = (refl, refl)
joins-4 true s.Greater true = (refl, refl)
joins-4 true s.Greater false = (refl, refl)
joins-4 true s.LessEqual true = (refl, refl)
joins-4 true s.LessEqual false = (refl, refl)
joins-4 true s.GreaterEqual true = (refl, refl)
joins-4 true s.GreaterEqual false = (refl, refl)
joins-4 true s.InstanceOf true = (refl, refl)
joins-4 true s.InstanceOf false = (refl, refl)
joins-4 true s.In true = (refl, refl)
joins-4 true s.In false = (refl, refl)
joins-4 true _ true = refl
joins-4 true _ false = refl
joins-4 false s.Less true = (refl, refl)
joins-4 false s.Less false = (refl, refl)
joins-4 false s.Greater true = (refl, refl)
joins-4 false s.Greater false = (refl, refl)
joins-4 false s.LessEqual true = (refl, refl)
joins-4 false s.LessEqual false = (refl, refl)
joins-4 false s.GreaterEqual true = (refl, refl)
joins-4 false s.GreaterEqual false = (refl, refl)
joins-4 false s.InstanceOf true = (refl, refl)
joins-4 false s.InstanceOf false = (refl, refl)
joins-4 false _ true = refl
joins-4 false _ false = refl

pub level-4 : (allow_in : Bool) → Level 4 allow_in (kinds (relational allow_in))
unfolding infix_at same
level-4 true = record { joins = joins-4 true; no_end = refl }
level-4 false = record { joins = joins-4 false; no_end = refl }

pub joins-5 : (allow_in : Bool) (symbol : Symbol) (broken : Bool) → Joins (infix_at 5 allow_in symbol) (infix_of symbol) (among (kinds (mark (codes "===") ∷ mark (codes "!==") ∷ [])) (numbered symbol broken))
unfolding infix_at same tables
joins-5 true s.StrictEqual true = (refl, refl)
joins-5 true s.StrictEqual false = (refl, refl)
joins-5 true s.StrictNotEqual true = (refl, refl)
joins-5 true s.StrictNotEqual false = (refl, refl)
joins-5 true _ true = refl
joins-5 true _ false = refl
joins-5 false s.StrictEqual true = (refl, refl)
joins-5 false s.StrictEqual false = (refl, refl)
joins-5 false s.StrictNotEqual true = (refl, refl)
joins-5 false s.StrictNotEqual false = (refl, refl)
joins-5 false _ true = refl
joins-5 false _ false = refl

pub level-5 : (allow_in : Bool) → Level 5 allow_in (kinds (mark (codes "===") ∷ mark (codes "!==") ∷ []))
unfolding infix_at same
level-5 true = record { joins = joins-5 true; no_end = refl }
level-5 false = record { joins = joins-5 false; no_end = refl }

pub joins-6 : (allow_in : Bool) (symbol : Symbol) (broken : Bool) → Joins (infix_at 6 allow_in symbol) (infix_of symbol) (among (kinds (mark (codes "&") ∷ [])) (numbered symbol broken))
unfolding infix_at same tables
joins-6 true s.BitAnd true = (refl, refl)
joins-6 true s.BitAnd false = (refl, refl)
joins-6 true _ true = refl
joins-6 true _ false = refl
joins-6 false s.BitAnd true = (refl, refl)
joins-6 false s.BitAnd false = (refl, refl)
joins-6 false _ true = refl
joins-6 false _ false = refl

pub level-6 : (allow_in : Bool) → Level 6 allow_in (kinds (mark (codes "&") ∷ []))
unfolding infix_at same
level-6 true = record { joins = joins-6 true; no_end = refl }
level-6 false = record { joins = joins-6 false; no_end = refl }

pub joins-7 : (allow_in : Bool) (symbol : Symbol) (broken : Bool) → Joins (infix_at 7 allow_in symbol) (infix_of symbol) (among (kinds (mark (codes "^") ∷ [])) (numbered symbol broken))
unfolding infix_at same tables
joins-7 true s.BitXor true = (refl, refl)
joins-7 true s.BitXor false = (refl, refl)
joins-7 true _ true = refl
joins-7 true _ false = refl
joins-7 false s.BitXor true = (refl, refl)
joins-7 false s.BitXor false = (refl, refl)
joins-7 false _ true = refl
joins-7 false _ false = refl

pub level-7 : (allow_in : Bool) → Level 7 allow_in (kinds (mark (codes "^") ∷ []))
unfolding infix_at same
level-7 true = record { joins = joins-7 true; no_end = refl }
level-7 false = record { joins = joins-7 false; no_end = refl }

pub joins-8 : (allow_in : Bool) (symbol : Symbol) (broken : Bool) → Joins (infix_at 8 allow_in symbol) (infix_of symbol) (among (kinds (mark (codes "|") ∷ [])) (numbered symbol broken))
unfolding infix_at same tables
joins-8 true s.BitOr true = (refl, refl)
joins-8 true s.BitOr false = (refl, refl)
joins-8 true _ true = refl
joins-8 true _ false = refl
joins-8 false s.BitOr true = (refl, refl)
joins-8 false s.BitOr false = (refl, refl)
joins-8 false _ true = refl
joins-8 false _ false = refl

pub level-8 : (allow_in : Bool) → Level 8 allow_in (kinds (mark (codes "|") ∷ []))
unfolding infix_at same
level-8 true = record { joins = joins-8 true; no_end = refl }
level-8 false = record { joins = joins-8 false; no_end = refl }

pub joins-9 : (allow_in : Bool) (symbol : Symbol) (broken : Bool) → Joins (infix_at 9 allow_in symbol) (infix_of symbol) (among (kinds (mark (codes "&&") ∷ [])) (numbered symbol broken))
unfolding infix_at same tables
joins-9 true s.And true = (refl, refl)
joins-9 true s.And false = (refl, refl)
joins-9 true _ true = refl
joins-9 true _ false = refl
joins-9 false s.And true = (refl, refl)
joins-9 false s.And false = (refl, refl)
joins-9 false _ true = refl
joins-9 false _ false = refl

pub level-9 : (allow_in : Bool) → Level 9 allow_in (kinds (mark (codes "&&") ∷ []))
unfolding infix_at same
level-9 true = record { joins = joins-9 true; no_end = refl }
level-9 false = record { joins = joins-9 false; no_end = refl }

pub joins-10 : (allow_in : Bool) (symbol : Symbol) (broken : Bool) → Joins (infix_at 10 allow_in symbol) (infix_of symbol) (among (kinds (mark (codes "||") ∷ [])) (numbered symbol broken))
unfolding infix_at same tables
joins-10 true s.Or true = (refl, refl)
joins-10 true s.Or false = (refl, refl)
joins-10 true _ true = refl
joins-10 true _ false = refl
joins-10 false s.Or true = (refl, refl)
joins-10 false s.Or false = (refl, refl)
joins-10 false _ true = refl
joins-10 false _ false = refl

pub level-10 : (allow_in : Bool) → Level 10 allow_in (kinds (mark (codes "||") ∷ []))
unfolding infix_at same
level-10 true = record { joins = joins-10 true; no_end = refl }
level-10 false = record { joins = joins-10 false; no_end = refl }

pub joins-11 : (allow_in : Bool) (symbol : Symbol) (broken : Bool) → Joins (infix_at 11 allow_in symbol) (infix_of symbol) (among (kinds (mark (codes "??") ∷ [])) (numbered symbol broken))
unfolding infix_at same tables
joins-11 true s.Coalesce true = (refl, refl)
joins-11 true s.Coalesce false = (refl, refl)
joins-11 true _ true = refl
joins-11 true _ false = refl
joins-11 false s.Coalesce true = (refl, refl)
joins-11 false s.Coalesce false = (refl, refl)
joins-11 false _ true = refl
joins-11 false _ false = refl

pub level-11 : (allow_in : Bool) → Level 11 allow_in (kinds (mark (codes "??") ∷ []))
unfolding infix_at same
level-11 true = record { joins = joins-11 true; no_end = refl }
level-11 false = record { joins = joins-11 false; no_end = refl }
