-- What a reader keeps ready.
use Rattle.std.specs.Prelude.{List, [], ◌∷◌}
use Rattle.js_token.specs.declared.token.Token.{Token}
use Rattle.js_parse.specs.declared.symbol.Symbol.{Symbol}
use Rattle.js_parse.specs.declared.symbol.Symbol.TheVariants as s
use Rattle.js_parse.specs.Symbols.{of_kind}

abbrev pub symbol_of : List Token → Symbol
symbol_of [] = s.End
symbol_of (t ∷ ts) = of_kind t.kind
