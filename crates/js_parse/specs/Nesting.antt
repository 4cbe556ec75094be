-- The limit of nesting.
use Rattle.std.specs.Prelude.{◌≡◌, ℕ, zero, suc, Bool, true, false, if◌then◌else◌, List, [], Option, Some, None, Result, Ok, Err}
use Rattle.std.specs.declared.alloc.Global.{Global}
use denote.Ref.{MutBor}
use Rattle.js_tree.specs.Nodes.{Nodes}
use Rattle.js_token.specs.declared.token.Token.{Token}
use Rattle.js_parse.specs.declared.fault.Fault.{Fault}
use Rattle.js_parse.specs.declared.fault.Fault.TheVariants as fault
use Rattle.js_parse.specs.declared.symbol.Symbol.{Symbol}
use Rattle.js_parse.specs.declared.symbol.Symbol.TheVariants as s
use Rattle.js_parse.specs.declared.part.Part.{Part}
use Rattle.js_parse.specs.declared.part.Part.TheVariants as part
use Rattle.js_parse.specs.declared.part.Found.{Found}
use Rattle.js_parse.specs.Symbols.{same, is_name}
use Rattle.js_parse.specs.Operators.{is_prefix}
use Rattle.js_parse.specs.Input.{Input, Parser, Outcome, Reads, refusal, place, symbol, is_arrow}
use Rattle.js_parse.specs.Statements.{level}

-- what an Assign may begin with
abbrev pub begins_primary : Symbol → Bool
begins_primary s.This = true
begins_primary s.Null = true
begins_primary s.True = true
begins_primary s.False = true
begins_primary s.Number = true
begins_primary s.Text = true
begins_primary s.Template = true
begins_primary s.TemplateHead = true
begins_primary s.OpenBracket = true
begins_primary s.OpenBrace = true
begins_primary s.OpenParen = true
begins_primary s.Function = true
begins_primary s.New = true
begins_primary symbol = is_name symbol

unfoldable pub begins_assign : Symbol → Bool
begins_assign symbol = if is_prefix symbol then true else begins_primary symbol

-- what a Stmt may begin with
abbrev pub begins_statement : Symbol → Bool
begins_statement s.OpenBrace = true
begins_statement s.Semicolon = true
begins_statement s.If = true
begins_statement s.While = true
begins_statement s.Do = true
begins_statement s.For = true
begins_statement s.Return = true
begins_statement s.Break = true
begins_statement s.Continue = true
begins_statement s.Throw = true
begins_statement s.Try = true
begins_statement s.Function = false
begins_statement symbol = begins_assign symbol

abbrev pub begins_pattern : Symbol → Bool
begins_pattern s.OpenBrace = true
begins_pattern s.OpenBracket = true
begins_pattern _ = false

abbrev pub is_open_paren : Symbol → Bool
is_open_paren symbol = same symbol s.OpenParen

-- whether the next token may begin the part
unfoldable pub opens : Part → Input → Bool
opens (part.Right allow_in) i = begins_assign (symbol i)
opens part.Group i = is_open_paren (symbol i)
opens part.Arguments i = is_open_paren (symbol i)
opens part.Index i = same (symbol i) s.OpenBracket
opens part.ComputedKey i = same (symbol i) s.OpenBracket
opens part.Array i = same (symbol i) s.OpenBracket
opens part.Object i = same (symbol i) s.OpenBrace
opens part.Template i = same (symbol i) s.TemplateHead
opens part.FunctionExpression i = same (symbol i) s.Function
opens part.FunctionDeclaration i = same (symbol i) s.Function
opens part.Method i = is_open_paren (symbol i)
opens part.Getter i = is_open_paren (symbol i)
opens part.Setter i = is_open_paren (symbol i)
opens (part.ArrowBody allow_in) i = is_arrow i
opens part.Parameters i = is_open_paren (symbol i)
opens part.NoParameters i = is_open_paren (symbol i)
opens part.OneParameter i = is_open_paren (symbol i)
opens part.Block i = same (symbol i) s.OpenBrace
opens part.Body i = begins_statement (symbol i)
opens part.Unary i = is_prefix (symbol i)
opens part.New i = same (symbol i) s.New
opens part.Pattern i = begins_pattern (symbol i)
opens part.ForHead i = is_open_paren (symbol i)
opens part.CatchBind i = is_open_paren (symbol i)

unfoldable pub too_deep : Part → Input → Fault
too_deep p i = if opens p i then fault.Deep (place i) else refusal i

-- a part, in which parts nest less deep than so
unfoldable pub part_at : ℕ → Part → Parser Found
part_at zero p = λ i. Err (too_deep p i)
part_at (suc depth) p = level (part_at depth) p

-- a function value that reads parts to a depth
pub record Nests (depth : ℕ) (pre : Global → MutBor Input → ℕ → Part → Type 0)
    (post : Global → MutBor Input → ℕ → Part → Result Found Fault → MutBor Input → Type 0) : Type 0 where
  pub callable : (alloc : Global) (old : MutBor Input) (p : Part) → pre alloc old depth p
  pub reads : (alloc : Global) (old new : MutBor Input) (p : Part) (r : Result Found Fault) → post alloc old depth p r new
      → Reads (part_at depth p old.now) r new.now
