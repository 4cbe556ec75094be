use Rattle.std.proofs.Common.{◌≡◌, ◌+◌, ◌≤◌, ◌++◌, length}
use Rattle.std.specs.Str.{IsUtf8, chars}
use Rattle.std.specs.Str.Iter.{chars_rest}
use Rattle.js_token.specs.Characters.{with_places}
use Rattle.js_token.proofs.characters.with_places.Given as goal

-- The characters so far, and those that are left, are those of the text.
abbrev pub invariant-text : goal.invariant-text
invariant-text l = record {
  size : length l.list.items ≤ l.place;
  place : l.place + length (chars_rest l.symbol-iterator) ≡ length l.text;
  utf8 : IsUtf8 (chars_rest l.symbol-iterator);
  all : with_places 0 (chars l.text) ≡ l.list.items ++ with_places l.place (chars (chars_rest l.symbol-iterator));
}
