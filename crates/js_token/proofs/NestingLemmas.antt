-- Lemmas on what is open.
use Rattle.std.proofs.Common.{◌≡◌, ℕ, List, [], ◌∷◌, ◌++◌, refl, ap, ◌∙◌}
use Rattle.std.specs.Prelude.{reverse, Some}
use Rattle.std.proofs.lemmas.List.{reverse-append}
use Rattle.js_token.specs.declared.nesting.Part.{Part}
use Rattle.js_token.specs.Nesting.{outermost, open_template}

-- the outermost part is the last
pub outermost-last : (start : ℕ) (inner : List Part) (last : Part) → outermost start (inner ++ (last ∷ [])) ≡ last.start
outermost-last start [] last = refl
outermost-last start (part ∷ inner) last = outermost-last part.start inner last

pub outermost-reversed : (start : ℕ) (first : Part) (rest : List Part) → outermost start (reverse (first ∷ rest)) ≡ first.start
outermost-reversed start first rest = ap (outermost start) (reverse-append (first ∷ []) rest) ∙ outermost-last start (reverse rest) first

pub open_template-reversed : (first : Part) (rest : List Part) → open_template (reverse (first ∷ rest)) ≡ Some first.start
open_template-reversed first rest = ap open_template (reverse-append (first ∷ []) rest) ∙ last_open (reverse rest)
  where
    last_open : (inner : List Part) → open_template (inner ++ (first ∷ [])) ≡ Some first.start
    last_open [] = refl
    last_open (part ∷ inner) = ap Some (outermost-last part.start inner first)
