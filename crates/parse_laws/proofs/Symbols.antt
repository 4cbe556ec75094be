-- The kinds of single symbols.
use Rattle.std.proofs.Common.{true, false, Bool, ◌≡◌, [], ◌∷◌, refl, codes}
use Rattle.grammar.specs.Kinds.{among, alike}
use Rattle.js_grammar.specs.Kinds.{kinds, mark, word, name, place_in, marks, words, contextual, end, template_head, template_middle, template_tail}
use Rattle.js_parse.specs.declared.symbol.Symbol.{Symbol}
use Rattle.js_parse.specs.declared.symbol.Symbol.TheVariants as s
use Rattle.js_parse.specs.Symbols.{same}
use Rattle.parse_laws.specs.Kinds.{numbered}
use Rattle.parse_laws.proofs.Walk.{Only}

pub open_paren-agrees : (symbol : Symbol) (broken : Bool) → same symbol s.OpenParen ≡ among (kinds (mark (codes "(") ∷ [])) (numbered symbol broken)
unfolding same among kinds place_in marks words contextual alike
open_paren-agrees s.OpenParen false = refl
open_paren-agrees s.OpenParen true = refl
open_paren-agrees _ false = refl
open_paren-agrees _ true = refl

pub only-open_paren : Only s.OpenParen (kinds (mark (codes "(") ∷ []))
unfolding same
only-open_paren = record { agrees = open_paren-agrees; no_end = refl }

pub close_paren-agrees : (symbol : Symbol) (broken : Bool) → same symbol s.CloseParen ≡ among (kinds (mark (codes ")") ∷ [])) (numbered symbol broken)
unfolding same among kinds place_in marks words contextual alike
close_paren-agrees s.CloseParen false = refl
close_paren-agrees s.CloseParen true = refl
close_paren-agrees _ false = refl
close_paren-agrees _ true = refl

pub only-close_paren : Only s.CloseParen (kinds (mark (codes ")") ∷ []))
unfolding same
only-close_paren = record { agrees = close_paren-agrees; no_end = refl }

pub open_bracket-agrees : (symbol : Symbol) (broken : Bool) → same symbol s.OpenBracket ≡ among (kinds (mark (codes "[") ∷ [])) (numbered symbol broken)
unfolding same among kinds place_in marks words contextual alike
open_bracket-agrees s.OpenBracket false = refl
open_bracket-agrees s.OpenBracket true = refl
open_bracket-agrees _ false = refl
open_bracket-agrees _ true = refl

pub only-open_bracket : Only s.OpenBracket (kinds (mark (codes "[") ∷ []))
unfolding same
only-open_bracket = record { agrees = open_bracket-agrees; no_end = refl }

pub close_bracket-agrees : (symbol : Symbol) (broken : Bool) → same symbol s.CloseBracket ≡ among (kinds (mark (codes "]") ∷ [])) (numbered symbol broken)
unfolding same among kinds place_in marks words contextual alike
close_bracket-agrees s.CloseBracket false = refl
close_bracket-agrees s.CloseBracket true = refl
close_bracket-agrees _ false = refl
close_bracket-agrees _ true = refl

pub only-close_bracket : Only s.CloseBracket (kinds (mark (codes "]") ∷ []))
unfolding same
only-close_bracket = record { agrees = close_bracket-agrees; no_end = refl }

pub open_brace-agrees : (symbol : Symbol) (broken : Bool) → same symbol s.OpenBrace ≡ among (kinds (mark (codes "{") ∷ [])) (numbered symbol broken)
unfolding same among kinds place_in marks words contextual alike
open_brace-agrees s.OpenBrace false = refl
open_brace-agrees s.OpenBrace true = refl
open_brace-agrees _ false = refl
open_brace-agrees _ true = refl

pub only-open_brace : Only s.OpenBrace (kinds (mark (codes "{") ∷ []))
unfolding same
only-open_brace = record { agrees = open_brace-agrees; no_end = refl }

pub close_brace-agrees : (symbol : Symbol) (broken : Bool) → same symbol s.CloseBrace ≡ among (kinds (mark (codes "}") ∷ [])) (numbered symbol broken)
unfolding same among kinds place_in marks words contextual alike
close_brace-agrees s.CloseBrace false = refl
close_brace-agrees s.CloseBrace true = refl
close_brace-agrees _ false = refl
close_brace-agrees _ true = refl

pub only-close_brace : Only s.CloseBrace (kinds (mark (codes "}") ∷ []))
unfolding same
only-close_brace = record { agrees = close_brace-agrees; no_end = refl }

pub semicolon-agrees : (symbol : Symbol) (broken : Bool) → same symbol s.Semicolon ≡ among (kinds (mark (codes ";") ∷ [])) (numbered symbol broken)
unfolding same among kinds place_in marks words contextual alike
semicolon-agrees s.Semicolon false = refl
semicolon-agrees s.Semicolon true = refl
semicolon-agrees _ false = refl
semicolon-agrees _ true = refl

pub only-semicolon : Only s.Semicolon (kinds (mark (codes ";") ∷ []))
unfolding same
only-semicolon = record { agrees = semicolon-agrees; no_end = refl }

pub comma-agrees : (symbol : Symbol) (broken : Bool) → same symbol s.Comma ≡ among (kinds (mark (codes ",") ∷ [])) (numbered symbol broken)
unfolding same among kinds place_in marks words contextual alike
comma-agrees s.Comma false = refl
comma-agrees s.Comma true = refl
comma-agrees _ false = refl
comma-agrees _ true = refl

pub only-comma : Only s.Comma (kinds (mark (codes ",") ∷ []))
unfolding same
only-comma = record { agrees = comma-agrees; no_end = refl }

pub colon-agrees : (symbol : Symbol) (broken : Bool) → same symbol s.Colon ≡ among (kinds (mark (codes ":") ∷ [])) (numbered symbol broken)
unfolding same among kinds place_in marks words contextual alike
colon-agrees s.Colon false = refl
colon-agrees s.Colon true = refl
colon-agrees _ false = refl
colon-agrees _ true = refl

pub only-colon : Only s.Colon (kinds (mark (codes ":") ∷ []))
unfolding same
only-colon = record { agrees = colon-agrees; no_end = refl }

pub question-agrees : (symbol : Symbol) (broken : Bool) → same symbol s.Question ≡ among (kinds (mark (codes "?") ∷ [])) (numbered symbol broken)
unfolding same among kinds place_in marks words contextual alike
question-agrees s.Question false = refl
question-agrees s.Question true = refl
question-agrees _ false = refl
question-agrees _ true = refl

pub only-question : Only s.Question (kinds (mark (codes "?") ∷ []))
unfolding same
only-question = record { agrees = question-agrees; no_end = refl }

pub assign-agrees : (symbol : Symbol) (broken : Bool) → same symbol s.Assign ≡ among (kinds (mark (codes "=") ∷ [])) (numbered symbol broken)
unfolding same among kinds place_in marks words contextual alike
assign-agrees s.Assign false = refl
assign-agrees s.Assign true = refl
assign-agrees _ false = refl
assign-agrees _ true = refl

pub only-assign : Only s.Assign (kinds (mark (codes "=") ∷ []))
unfolding same
only-assign = record { agrees = assign-agrees; no_end = refl }

pub ellipsis-agrees : (symbol : Symbol) (broken : Bool) → same symbol s.Ellipsis ≡ among (kinds (mark (codes "...") ∷ [])) (numbered symbol broken)
unfolding same among kinds place_in marks words contextual alike
ellipsis-agrees s.Ellipsis false = refl
ellipsis-agrees s.Ellipsis true = refl
ellipsis-agrees _ false = refl
ellipsis-agrees _ true = refl

pub only-ellipsis : Only s.Ellipsis (kinds (mark (codes "...") ∷ []))
unfolding same
only-ellipsis = record { agrees = ellipsis-agrees; no_end = refl }

pub coalesce-agrees : (symbol : Symbol) (broken : Bool) → same symbol s.Coalesce ≡ among (kinds (mark (codes "??") ∷ [])) (numbered symbol broken)
unfolding same among kinds place_in marks words contextual alike
coalesce-agrees s.Coalesce false = refl
coalesce-agrees s.Coalesce true = refl
coalesce-agrees _ false = refl
coalesce-agrees _ true = refl

pub only-coalesce : Only s.Coalesce (kinds (mark (codes "??") ∷ []))
unfolding same
only-coalesce = record { agrees = coalesce-agrees; no_end = refl }

pub else-agrees : (symbol : Symbol) (broken : Bool) → same symbol s.Else ≡ among (kinds (word (codes "else") ∷ [])) (numbered symbol broken)
unfolding same among kinds place_in marks words contextual alike
else-agrees s.Else false = refl
else-agrees s.Else true = refl
else-agrees _ false = refl
else-agrees _ true = refl

pub only-else : Only s.Else (kinds (word (codes "else") ∷ []))
unfolding same
only-else = record { agrees = else-agrees; no_end = refl }

pub while-agrees : (symbol : Symbol) (broken : Bool) → same symbol s.While ≡ among (kinds (word (codes "while") ∷ [])) (numbered symbol broken)
unfolding same among kinds place_in marks words contextual alike
while-agrees s.While false = refl
while-agrees s.While true = refl
while-agrees _ false = refl
while-agrees _ true = refl

pub only-while : Only s.While (kinds (word (codes "while") ∷ []))
unfolding same
only-while = record { agrees = while-agrees; no_end = refl }

pub catch-agrees : (symbol : Symbol) (broken : Bool) → same symbol s.Catch ≡ among (kinds (word (codes "catch") ∷ [])) (numbered symbol broken)
unfolding same among kinds place_in marks words contextual alike
catch-agrees s.Catch false = refl
catch-agrees s.Catch true = refl
catch-agrees _ false = refl
catch-agrees _ true = refl

pub only-catch : Only s.Catch (kinds (word (codes "catch") ∷ []))
unfolding same
only-catch = record { agrees = catch-agrees; no_end = refl }

pub finally-agrees : (symbol : Symbol) (broken : Bool) → same symbol s.Finally ≡ among (kinds (word (codes "finally") ∷ [])) (numbered symbol broken)
unfolding same among kinds place_in marks words contextual alike
finally-agrees s.Finally false = refl
finally-agrees s.Finally true = refl
finally-agrees _ false = refl
finally-agrees _ true = refl

pub only-finally : Only s.Finally (kinds (word (codes "finally") ∷ []))
unfolding same
only-finally = record { agrees = finally-agrees; no_end = refl }

pub function-agrees : (symbol : Symbol) (broken : Bool) → same symbol s.Function ≡ among (kinds (word (codes "function") ∷ [])) (numbered symbol broken)
unfolding same among kinds place_in marks words contextual alike
function-agrees s.Function false = refl
function-agrees s.Function true = refl
function-agrees _ false = refl
function-agrees _ true = refl

pub only-function : Only s.Function (kinds (word (codes "function") ∷ []))
unfolding same
only-function = record { agrees = function-agrees; no_end = refl }

pub new-agrees : (symbol : Symbol) (broken : Bool) → same symbol s.New ≡ among (kinds (word (codes "new") ∷ [])) (numbered symbol broken)
unfolding same among kinds place_in marks words contextual alike
new-agrees s.New false = refl
new-agrees s.New true = refl
new-agrees _ false = refl
new-agrees _ true = refl

pub only-new : Only s.New (kinds (word (codes "new") ∷ []))
unfolding same
only-new = record { agrees = new-agrees; no_end = refl }

pub of-agrees : (symbol : Symbol) (broken : Bool) → same symbol s.Of ≡ among (kinds (name (codes "of") ∷ [])) (numbered symbol broken)
unfolding same among kinds place_in marks words contextual alike
of-agrees s.Of false = refl
of-agrees s.Of true = refl
of-agrees _ false = refl
of-agrees _ true = refl

pub only-of : Only s.Of (kinds (name (codes "of") ∷ []))
unfolding same
only-of = record { agrees = of-agrees; no_end = refl }

pub end-agrees : (symbol : Symbol) (broken : Bool) → same symbol s.End ≡ among (kinds (end ∷ [])) (numbered symbol broken)
unfolding same among kinds place_in marks words contextual alike
end-agrees s.End false = refl
end-agrees s.End true = refl
end-agrees _ false = refl
end-agrees _ true = refl

pub template_middle-agrees : (symbol : Symbol) (broken : Bool) → same symbol s.TemplateMiddle ≡ among (kinds (template_middle ∷ [])) (numbered symbol broken)
unfolding same among kinds place_in marks words contextual alike
template_middle-agrees s.TemplateMiddle false = refl
template_middle-agrees s.TemplateMiddle true = refl
template_middle-agrees _ false = refl
template_middle-agrees _ true = refl

pub only-template_middle : Only s.TemplateMiddle (kinds (template_middle ∷ []))
unfolding same
only-template_middle = record { agrees = template_middle-agrees; no_end = refl }

pub template_tail-agrees : (symbol : Symbol) (broken : Bool) → same symbol s.TemplateTail ≡ among (kinds (template_tail ∷ [])) (numbered symbol broken)
unfolding same among kinds place_in marks words contextual alike
template_tail-agrees s.TemplateTail false = refl
template_tail-agrees s.TemplateTail true = refl
template_tail-agrees _ false = refl
template_tail-agrees _ true = refl

pub only-template_tail : Only s.TemplateTail (kinds (template_tail ∷ []))
unfolding same
only-template_tail = record { agrees = template_tail-agrees; no_end = refl }

pub template_head-agrees : (symbol : Symbol) (broken : Bool) → same symbol s.TemplateHead ≡ among (kinds (template_head ∷ [])) (numbered symbol broken)
unfolding same among kinds place_in marks words contextual alike
template_head-agrees s.TemplateHead false = refl
template_head-agrees s.TemplateHead true = refl
template_head-agrees _ false = refl
template_head-agrees _ true = refl

pub only-template_head : Only s.TemplateHead (kinds (template_head ∷ []))
unfolding same
only-template_head = record { agrees = template_head-agrees; no_end = refl }

pub is-question : (symbol : Symbol) → same symbol s.Question ≡ true → symbol ≡ s.Question
unfolding same
is-question s.Question e = refl
is-question _ e = absurd (cc (e))

pub is-colon : (symbol : Symbol) → same symbol s.Colon ≡ true → symbol ≡ s.Colon
unfolding same
is-colon s.Colon e = refl
is-colon _ e = absurd (cc (e))

pub is-of : (symbol : Symbol) → same symbol s.Of ≡ true → symbol ≡ s.Of
unfolding same
is-of s.Of e = refl
is-of _ e = absurd (cc (e))

pub is-open_brace : (symbol : Symbol) → same symbol s.OpenBrace ≡ true → symbol ≡ s.OpenBrace
unfolding same
is-open_brace s.OpenBrace e = refl
is-open_brace _ e = absurd (cc (e))

pub is-ellipsis : (symbol : Symbol) → same symbol s.Ellipsis ≡ true → symbol ≡ s.Ellipsis
unfolding same
is-ellipsis s.Ellipsis e = refl
is-ellipsis _ e = absurd (cc (e))

pub is-catch : (symbol : Symbol) → same symbol s.Catch ≡ true → symbol ≡ s.Catch
unfolding same
is-catch s.Catch e = refl
is-catch _ e = absurd (cc (e))

pub is-open_paren : (symbol : Symbol) → same symbol s.OpenParen ≡ true → symbol ≡ s.OpenParen
unfolding same
is-open_paren s.OpenParen e = refl
is-open_paren _ e = absurd (cc (e))

pub is-open_bracket : (symbol : Symbol) → same symbol s.OpenBracket ≡ true → symbol ≡ s.OpenBracket
unfolding same
is-open_bracket s.OpenBracket e = refl
is-open_bracket _ e = absurd (cc (e))

pub is-new : (symbol : Symbol) → same symbol s.New ≡ true → symbol ≡ s.New
unfolding same
is-new s.New e = refl
is-new _ e = absurd (cc (e))

pub is-finally : (symbol : Symbol) → same symbol s.Finally ≡ true → symbol ≡ s.Finally
unfolding same
is-finally s.Finally e = refl
is-finally _ e = absurd (cc (e))
