use Rattle.std.proofs.Common.{ℕ, ◌≡◌, ◌≤◌, ◌+◌, length}
use Rattle.js_token.specs.Nesting.{nest}
use Rattle.js_token.specs.Tokens.{tokens_in, tokens_at}
use Rattle.js_token.proofs.TokenLists.{with_tokens}
use Rattle.js_token.proofs.scan.tokens_in.Given as goal

-- The tokens so far, and those of what is left, are those of the whole.
abbrev pub invariant-tokens : goal.invariant-tokens
invariant-tokens l = (l.nesting.braces + length l.left ≤ length l.chars)
    × (n : ℕ) × (length l.left ≤ n)
    × (tokens_in l.end l.chars ≡ with_tokens l.list.items (tokens_at n l.end (nest l.nesting) l.broken l.left))

abbrev pub decreases-tokens : goal.decreases-tokens
decreases-tokens l = length l.left
