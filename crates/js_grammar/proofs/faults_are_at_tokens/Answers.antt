use Rattle.std.proofs.Common.{Bool, ◌≡◌, List, [], ◌∷◌, Err, refl, ap, sym, ◌∙◌}
use Rattle.js_token.specs.declared.token.Token.{Token}
use Rattle.js_grammar.specs.Scripts.{read_script, Ended}
use Rattle.js_grammar.proofs.Ends.{never-behind}
use Rattle.js_grammar.proofs.faults_are_at_tokens.Goals as goal

pub some-left : (tokens left : List Token) (deep : Bool) → Ended tokens → read_script tokens ≡ Err (deep, left) → (t : Token) × (rest : List Token) × (left ≡ t ∷ rest)
some-left tokens [] deep n e = absurd (never-behind deep n.0 n.1 n.4 (ap (λ m. read_script m) (sym n.2) ∙ e))
some-left tokens (t ∷ rest) deep n e = (t, rest, refl)

pub returns : goal.returns
returns c = λ tokens left deep n e. some-left tokens left deep n e
